-- The calls of an action, one after the other, leave what its definition gives; and there is room for each.
use Rattle.std.specs.Prelude.{ℕ, ◌+◌, ◌*◌, ◌/◌, ◌≤◌, ◌≡◌, true, false, length, take, drop}
use Rattle.std.proofs.Math.Path.{refl}
use Rattle.std.proofs.Common.{sym, ap, ◌∙◌, arith}
use mathlib.Core.List.{List, [], ◌∷◌, append-nil}
use Rattle.std.proofs.lemmas.List.Edits.{sets}
use Rattle.set_record.specs.Record.{record_from, Filled, filled, record_filled}
use Rattle.message.specs.Layout.{message_length, sets_from}
use Rattle.layout.specs.Record.{bytes_of}
use Rattle.server_state.specs.Layout.{set_row, latest_of, last_of, work_number, kind_of, read_set_from, read_values_from, written_set_from, written_values_from}
use Rattle.station_state.specs.Layout.{has_bit}
use Rattle.server_tests.specs.Tests.{written_pages_b}
use Rattle.server_sets.specs.Sets.{informed_set}
use Rattle.server_changes.specs.Changes.{keeps_age_b, finish_b, leave_b, list_b, write_b}
use Rattle.server_actions.specs.Actions.{serving, page_b, aborted_b, committed_b, invalidate_b, record_b, send_page_b, abort_b, inform_to, install_b, plain, written_sets}
use Rattle.server_actions.specs.declared.Counts.{Counts}
use Rattle.station_callbacks.specs.Callbacks.{flat}
use Rattle.server_actions.specs.Posting.{from, counts, Posted, posted, post, post_none, post_one, post_both, posted_then, Room, room_first, room_next, acts_turns}
use Rattle.server_actions.specs.Parts.{turns_informs, installed_b, acts_installed, install_is}
use Rattle.server_actions.specs.Stores.{invalidate_put}
use Rattle.server_actions.specs.Informs.{inform_one_b, inform_set_to, informs_are}

-- a record
pub archive_chain : (q : List ℕ) (c : Counts) (i : ℕ) (s : List ℕ) {n t kind k : ℕ} {q₁ : List ℕ} → n ≡ last_of s → t ≡ work_number s i → kind ≡ kind_of s i
    → filled q₁ k ≡ record_filled q c.records (record_from s (read_set_from i) (read_values_from i) (written_set_from i) (written_values_from i) n t i kind)
    → (q₁ ≡ sets q c.records (record_b i s)) × (counts c.messages (c.records + k) ≡ counts c.messages (c.records + length (record_b i s)))
archive_chain q c i s en et ek e =
    (ap (λ (p : Filled). p.out) e ∙ rw (en, et, ek), ap (λ (p : Filled). counts c.messages (c.records + p.count)) e ∙ rw (en, et, ek))

-- .. has room where its bytes do
pub archive_room : (base i : ℕ) (s : List ℕ) (l : ℕ) {n t kind : ℕ} → n ≡ last_of s → t ≡ work_number s i → kind ≡ kind_of s i → base + length (record_b i s) ≤ l
    → base + length (bytes_of (record_from s (read_set_from i) (read_values_from i) (written_set_from i) (written_values_from i) n t i kind)) ≤ l
archive_room base i s l en et ek fits = rw (en, et, ek) fits

module _ (o q : List ℕ) (c : Counts) where
  pub one_fits : (t m : List ℕ) (ms rs : List (List ℕ)) → Room o q c (serving t (m ∷ ms) rs) → c.messages * message_length + message_length ≤ length o
  one_fits t m ms rs r = omega (arith, r.messages)

  pub sent_chain : (t m : List ℕ) {s₁ o₁ : List ℕ} {r : Counts} → o₁ ≡ sets o (c.messages * message_length) m → s₁ ≡ t → r ≡ counts (c.messages + 1) c.records
      → posted s₁ o₁ q r ≡ post o q c (serving t (m ∷ []) [])
  sent_chain t m eo es er = rw (eo, es, er) (post_one o q c t m)

  -- A PAGE

  pub page_fits : (kind i a u : ℕ) (s : List ℕ) → Room o q c (send_page_b kind i a u (from s)) → c.messages * message_length + message_length ≤ length o
  unfolding send_page_b
  page_fits kind i a u s = one_fits (list_b i (a / 8) s) (page_b kind i a u s) [] []

  pub page_chain : (kind i a u : ℕ) (s : List ℕ) {s₁ o₁ : List ℕ} {r : Counts} → o₁ ≡ sets o (c.messages * message_length) (page_b kind i a u s) → s₁ ≡ list_b i (a / 8) s
      → r ≡ counts (c.messages + 1) c.records → posted s₁ o₁ q r ≡ post o q c (send_page_b kind i a u (from s))
  unfolding send_page_b
  page_chain kind i a u s = sent_chain (list_b i (a / 8) s) (page_b kind i a u s)

  -- 22

  pub abort_fits : (i cause : ℕ) (s : List ℕ) → Room o q c (abort_b i cause (from s)) → c.messages * message_length + message_length ≤ length o
  unfolding abort_b
  abort_fits i cause s = let t = finish_b i (keeps_age_b cause) (leave_b i s) in one_fits t (aborted_b i (latest_of t i) cause) [] []

  pub abort_chain : (i cause : ℕ) (s : List ℕ) {k t : ℕ} {s₁ s₂ o₁ : List ℕ} {r : Counts} → s₁ ≡ leave_b i s → k ≡ keeps_age_b cause → s₂ ≡ finish_b i k s₁ → t ≡ latest_of s₂ i
      → o₁ ≡ sets o (c.messages * message_length) (aborted_b i t cause) → r ≡ counts (c.messages + 1) c.records
      → posted s₂ o₁ q r ≡ post o q c (abort_b i cause (from s))
  unfolding abort_b
  abort_chain i cause s e₁ ek e₂ et eo er =
      let t = finish_b i (keeps_age_b cause) (leave_b i s) in
      sent_chain t (aborted_b i (latest_of t i) cause) (eo ∙ rw (et, e₂, ek, e₁)) (rw (e₂, ek, e₁)) er

  -- 23

  pub inform_fits : (w j : ℕ) (y s : List ℕ) → has_bit w j ≡ true → Room o q c (inform_one_b w y (from s) j) → c.messages * message_length + message_length ≤ length o
  unfolding inform_one_b
  inform_fits w j y s e r = one_fits s (invalidate_b j y) [] [] (rw e at r)

  pub inform_chain : (w j : ℕ) (y s : List ℕ) → length y ≡ set_row → {o₁ o₂ : List ℕ} {r : Counts} → has_bit w j ≡ true → o₁ ≡ sets o (c.messages * message_length) (plain 23 j 0 0 0 0 0)
      → o₂ ≡ sets o₁ (c.messages * message_length + sets_from) (take set_row (drop 0 y)) → r ≡ counts (c.messages + 1) c.records → posted s o₂ q r ≡ post o q c (inform_one_b w y (from s) j)
  unfolding inform_one_b
  inform_chain w j y s l e e₁ e₂ er = rw e (sent_chain s (invalidate_b j y) (invalidate_put o y (c.messages * message_length) j l e₁ e₂) refl er)

  pub inform_none : (w j : ℕ) (y s : List ℕ) → has_bit w j ≡ false → posted s o q c ≡ post o q c (inform_one_b w y (from s) j)
  unfolding inform_one_b
  inform_none w j y s e = rw e (post_none o q c s)

  module _ (i d : ℕ) (y s : List ℕ) {w : ℕ} (ew : w ≡ informed_set s i d) where
    pub informs_room : Room o q c (inform_to i d y (from s) 8) → Room o q c (inform_set_to w y (from s) 8)
    informs_room r = rw (ew, informs_are i d y (from s) 8 (omega arith)) r

    pub informs_post : {p : Posted} → p ≡ post o q c (inform_set_to w y (from s) 8) → p ≡ post o q c (inform_to i d y (from s) 8)
    informs_post e = e ∙ ap (post o q c) (rw ew (informs_are i d y (from s) 8 (omega arith)))

  -- A RECORD AND 21

  module _ (i : ℕ) (s : List ℕ) where
    pub installed_fits : Room o q c (installed_b i (from s)) → (c.messages * message_length + message_length ≤ length o) × (c.records + length (record_b i (write_b i s)) ≤ length q)
    unfolding installed_b flat
    installed_fits r = (omega (arith, r.messages), omega (arith, rw append-nil at r.records))

    pub installed_chain : {t n : ℕ} {s₁ s₂ s₃ o₁ q₁ : List ℕ} {e r : Counts} → t ≡ work_number s i → s₁ ≡ write_b i s
        → (q₁ ≡ sets q c.records (record_b i s₁)) × (e ≡ counts c.messages (c.records + length (record_b i s₁)))
        → s₂ ≡ leave_b i s₁ → s₃ ≡ finish_b i 0 s₂ → n ≡ last_of s₃ → o₁ ≡ sets o (e.messages * message_length) (committed_b i t n) → r ≡ counts (e.messages + 1) e.records
        → posted s₃ o₁ q₁ r ≡ post o q c (installed_b i (from s))
    unfolding installed_b
    installed_chain et e₁ (eq, ee) e₂ e₃ en eo er =
        let z = finish_b i 0 (leave_b i (write_b i s)) in
        rw (er, eo, en, eq, ee, et, e₃, e₂, e₁) (post_both o q c z (committed_b i (work_number s i) (last_of z)) (record_b i (write_b i s)))

    pub install_first : Room o q c (install_b i (from s)) → Room o q c (installed_b i (from s))
    install_first r =
        room_first o q c (acts_turns (turns_informs i (written_pages_b s i) (written_sets i s)) 8) (installed_b i (from s)) (rw (← install_is i (from s)) r)

    module _ {d : ℕ} {y s₁ o₁ q₁ : List ℕ} {b : Counts} (ed : d ≡ written_pages_b s i) (ey : y ≡ written_sets i s) (e : posted s₁ o₁ q₁ b ≡ post o q c (installed_b i (from s))) where
      pub install_next : Room o q c (install_b i (from s)) → Room o₁ q₁ b (inform_to i d y (from s₁) 8)
      install_next r =
          rw (ed, ey)
          (room_next o q c (acts_turns (turns_informs i (written_pages_b s i) (written_sets i s)) 8) (installed_b i (from s)) e (rw (← install_is i (from s)) r))

      pub install_chain : {p : Posted} → p ≡ post o₁ q₁ b (inform_to i d y (from s₁) 8) → p ≡ post o q c (install_b i (from s))
      install_chain f =
          posted_then (acts_turns (turns_informs i (written_pages_b s i) (written_sets i s)) 8) o q c (installed_b i (from s)) e
          (f ∙ ap (λ (k : ℕ). post o₁ q₁ b (inform_to i k y (from s₁) 8)) ed ∙ ap (λ (z : List ℕ). post o₁ q₁ b (inform_to i (written_pages_b s i) z (from s₁) 8)) ey)
          ∙ ap (post o q c) (sym (install_is i (from s)))
