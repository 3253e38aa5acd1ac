-- Runs of calls that make a state: each law has the call's equation for every state on the way.
use Rattle.std.specs.Prelude.{ℕ, zero, suc, ◌+◌, ◌*◌, ◌≤◌, ◌<◌, ◌≡◌, List, length, set, get_or, replicate}
use Rattle.std.proofs.Common.{ap, ◌∙◌, arith, length-set, get_or-set_same, get_or-set_other}
use Rattle.std.proofs.lemmas.List.{length-replicate}
use Rattle.sets.specs.Laws.{by_eq}
use Rattle.sets.proofs.Laws.{eqb_yes, eqb_no}
use Rattle.le.specs.Le.{set_u32, set_u64}
use Rattle.station_state.specs.Layout.{set_row, value_width, number_width, copy_from, read_value_from, written_value_from, seen_from, copy_of, version_of, whole_from, station_from, kind_from, open_from, state_length, read_set_from, written_set_from, locks_from}
use Rattle.station_state.specs.Valid.{fresh_state}
use Rattle.station_state.specs.Changes.{add_to, clear_to, record_read_b, first_use_b, write_local_b, values_to, idle_b, unwhole_b, closed_b}

-- two stores over zeros
pub fresh_stores : (st k : ℕ) (s : List ℕ) {z t u : List ℕ} → length s ≡ state_length → z ≡ replicate (length s) 0 → t ≡ set z station_from st → u ≡ set t kind_from k → u ≡ fresh_state st k
unfolding fresh_state
fresh_stores st k s h ez et eu =
    eu ∙ ap (λ (l : List ℕ). set l kind_from k) (et ∙ ap (λ (l : List ℕ). set l station_from st) (ez ∙ ap (λ (n : ℕ). replicate n 0) h))

pub closed_stores : (s : List ℕ) {s₁ s₂ s₃ s₄ s₅ s₆ : List ℕ} → s₁ ≡ unwhole_b s → s₂ ≡ clear_to s₁ locks_from set_row → s₃ ≡ clear_to s₂ written_set_from set_row → s₄ ≡ clear_to s₃ read_set_from set_row → s₅ ≡ idle_b s₄ → s₆ ≡ set s₅ open_from 0 → s₆ ≡ closed_b s
unfolding closed_b
closed_stores s e₁ e₂ e₃ e₄ e₅ e₆ = rw (e₆, e₅, e₄, e₃, e₂, e₁)

pub read_stores : (a : ℕ) (s : List ℕ) {v n : ℕ} {s₁ s₂ s₃ : List ℕ} → v ≡ copy_of s a → n ≡ version_of s a → s₁ ≡ add_to s read_set_from a → s₂ ≡ set_u64 s₁ (read_value_from + a * value_width) v
    → s₃ ≡ set_u32 s₂ (seen_from + a * number_width) n → s₃ ≡ record_read_b a s
unfolding record_read_b
read_stores a s ev en e₁ e₂ e₃ = rw (e₃, e₂, e₁, ev, en)

pub write_stores : (a v : ℕ) (s : List ℕ) {s₁ s₂ s₃ s₄ : List ℕ} → s₁ ≡ first_use_b a s → s₂ ≡ add_to s₁ written_set_from a → s₃ ≡ set_u64 s₂ (written_value_from + a * value_width) v
    → s₄ ≡ set_u64 s₃ (copy_from + a * value_width) v → s₄ ≡ write_local_b a v s
unfolding write_local_b
write_stores a v s e₁ e₂ e₃ e₄ = rw (e₄, e₃, e₂, e₁)

-- eight values by object: each that was put is there
length_values : (v : ℕ → ℕ) (n : ℕ) → length (values_to v n) ≡ 8
unfolding values_to
length_values v zero = length-replicate {A = ℕ} 8 0
length_values v (suc n) = length-set (values_to v n) n (v n) ∙ length_values v n

pub values_at : (v : ℕ → ℕ) (n o : ℕ) → n ≤ 8 → o < n → get_or (values_to v n) o 0 ≡ v o
unfolding values_to
values_at v zero o h l = absurd (omega arith)
values_at v (suc n) o h l =
    by_eq o n
    (λ e. rw (eqb_yes o n e) (get_or-set_same (values_to v n) n (v n) 0 (omega (arith, length_values v n))))
    (λ e. get_or-set_other (values_to v n) n o (v n) 0 (eqb_no o n e) ∙ values_at v n o (omega arith) (omega (arith, eqb_no o n e)))
