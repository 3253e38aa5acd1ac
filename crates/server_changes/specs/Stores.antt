-- Runs of calls that make a state: each law has the call's equation for every state on the way.
use Rattle.std.specs.Prelude.{ℕ, ◌+◌, ◌*◌, ◌≡◌, List, get_or, set}
use Rattle.le.specs.Le.{u64_at, set_u32, set_u64}
use Rattle.message.specs.Layout.{transaction_of}
use Rattle.message.specs.Commit.{record_at, sent_reads, sent_writes, entry_version}
use Rattle.layout.specs.Record.{header_length, value_length}
use Rattle.station_state.specs.Changes.{add_to, clear_to}
use Rattle.station_state.specs.Layout.{number_width, value_width}
use Rattle.server_state.specs.declared.Aged.{Aged}
use Rattle.server_state.specs.Ages.{aged_of}
use Rattle.server_state.specs.Layout.{age_width, set_row, age_from, arrival_from, next_age_from, next_arrival_from, work_from, want_from, request_from, called_from, pend_from, busy_from, ages_of, read_values_from, written_values_from, read_versions_from, written_versions_from, arrivals_of, read_set_from, written_set_from}
use Rattle.server_changes.specs.Changes.{new_age_b, leave_b, join_b, unpack_one, unpack_to, unpack_b}

pub leave_stores : (i : ℕ) (s : List ℕ) {s₁ s₂ s₃ s₄ s₅ s₆ s₇ s₈ : List ℕ} → s₁ ≡ set s (want_from + i) 0 → s₂ ≡ set_u64 s₁ (arrival_from + i * age_width) 0 → s₃ ≡ set s₂ (request_from + i) 0
    → s₄ ≡ clear_to s₃ (read_set_from i) set_row → s₅ ≡ clear_to s₄ (written_set_from i) set_row
    → s₆ ≡ set s₅ (called_from + i) 0 → s₇ ≡ set s₆ (pend_from + i) 0 → s₈ ≡ set s₇ (busy_from + i) 0 → s₈ ≡ leave_b i s
unfolding leave_b
leave_stores i s e₁ e₂ e₃ e₄ e₅ e₆ e₇ e₈ = rw (e₈, e₇, e₆, e₅, e₄, e₃, e₂, e₁)

pub join_stores : (i k a : ℕ) (s : List ℕ) {n : ℕ} {s₁ s₂ s₃ s₄ s₅ : List ℕ} → n ≡ arrivals_of s → s₁ ≡ leave_b i s → s₂ ≡ set_u64 s₁ (arrival_from + i * age_width) n
    → s₃ ≡ set s₂ (want_from + i) k → s₄ ≡ set s₃ (request_from + i) a → s₅ ≡ set_u64 s₄ next_arrival_from (n + 1) → s₅ ≡ join_b i k a s
unfolding join_b
join_stores i k a s en e₁ e₂ e₃ e₄ e₅ = rw (e₅, e₄, e₃, e₂, e₁, en)

pub unpack_stores : (i : ℕ) (m s : List ℕ) {n w t : ℕ} {s₁ s₂ s₃ : List ℕ} → n ≡ sent_reads m → w ≡ sent_writes m → t ≡ transaction_of m
    → s₁ ≡ set_u32 s (work_from + i * number_width) t → s₂ ≡ unpack_to m s₁ (read_set_from i) (read_values_from i) (read_versions_from i) 0 n
    → s₃ ≡ unpack_to m s₂ (written_set_from i) (written_values_from i) (written_versions_from i) n w → s₃ ≡ unpack_b i m s
unfolding unpack_b
unpack_stores i m s en ew et e₁ e₂ e₃ = rw (e₃, e₂, e₁, en, ew, et)

-- an entry: r is the record's place, n and w are its sizes
pub entry_stores : (m s : List ℕ) (at from seen e : ℕ) {r n w a v x : ℕ} {s₁ s₂ s₃ : List ℕ} → r ≡ record_at m → n ≡ sent_reads m → w ≡ sent_writes m
    → a ≡ get_or m (r + header_length + e) 0 → v ≡ u64_at m (r + header_length + (n + w) + e * value_length) → x ≡ entry_version m e
    → s₁ ≡ add_to s at a → s₂ ≡ set_u64 s₁ (from + a * value_width) v → s₃ ≡ set_u32 s₂ (seen + a * number_width) x → s₃ ≡ unpack_one m s at from seen e
unfolding unpack_one
entry_stores m s at from seen e er en ew ea ev ex e₁ e₂ e₃ = rw (e₃, e₂, e₁, ex, ev, ea, er, en, ew)

-- the age that the counter gives, and the counter one higher
pub age_stores : (s : List ℕ) (i : ℕ) {n : ℕ} {a : Aged} {s₁ s₂ : List ℕ} → n ≡ ages_of s → a ≡ aged_of (record { next = n }) → s₁ ≡ set_u64 s (age_from + i * age_width) a.age
    → s₂ ≡ set_u64 s₁ next_age_from a.ages.next → s₂ ≡ new_age_b i s
unfolding aged_of new_age_b
age_stores s i en ea e₁ e₂ = rw (e₂, e₁, ea, en)
