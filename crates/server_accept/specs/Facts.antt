-- What the acceptance of a message asks for, and what of it stays when the message's transaction is noticed.
use Rattle.std.specs.Prelude.{ℕ, ◌+◌, ◌*◌, ◌≤◌, ◌<◌, ◌≡◌, ◌≢◌, ◌⊎◌, List, length, get_or, set}
use Rattle.std.proofs.Common.{sym, ◌∙◌, inl, inr, arith, get_or-set_other}
use Rattle.sets.specs.Laws.{by_eq}
use Rattle.le.specs.Le.{set_u32, set_u64}
use Rattle.le.specs.Laws.{u64_at_is, set_u32_is}
use Rattle.cells.proofs.Num.{put_other, num_frame}
use Rattle.cells.proofs.Le.{set_u64_is}
use Rattle.message.specs.Layout.{version_width, message_length, kind_of, station_of, page_of, requester_of, transaction_of}
use Rattle.message.specs.Commit.{versions_at, shortest_commit, addresses_at, entries_of}
use Rattle.layout.specs.Record.{entry_length}
use Rattle.station_state.specs.Layout.{number_width}
use Rattle.server_state.specs.Layout.{age_width, counter_limit, age_from, next_age_from, next_arrival_from, version_from, latest_from, unfinished_from, ages_of, arrivals_of, latest_of, age_kept_of, last_of}
use Rattle.server_tests.specs.Kinds.{ForServer}
use Rattle.server_changes.specs.Changes.{new_age_b, age_b, notice_b, leave_b, unpack_b}
use Rattle.server_actions.specs.Actions.{address_of}

-- the record of a commit is whole
pub record Packed (m : List ℕ) : Type 0 where
  pub front : shortest_commit ≤ length m
  pub versions : versions_at + entries_of m * version_width ≤ length m
  pub entries : addresses_at m + entry_length * entries_of m ≤ length m

-- unpacking a commit leaves the last commit number
abbrev pub LastKept : ℕ → List ℕ → List ℕ → Type 0
LastKept i m s = last_of (unpack_b i m (leave_b i s)) ≡ last_of s

-- what is asked of a state and a message that comes to it
pub record Acceptable (s m : List ℕ) : Type 0 where
  pub length_is : message_length ≤ length m
  pub station : station_of m < 8
  pub kind : ForServer m
  pub address : kind_of m ≡ 1 → address_of m < 256
  pub asked : kind_of m ≡ 2 → page_of m < 32
  pub commit : kind_of m ≡ 3 → Packed m
  pub last : kind_of m ≡ 3 → LastKept (station_of m) m (notice_b (station_of m) (transaction_of m) s)
  pub page : kind_of m ≡ 5 → page_of m < 32
  pub requester : 6 ≤ kind_of m → kind_of m ≤ 7 → requester_of m < 8
  pub loosened : kind_of m ≡ 8 → page_of m < 32
  pub ages : ages_of s < counter_limit
  pub arrivals : arrivals_of s < counter_limit

u64_other : (s : List ℕ) (at v j : ℕ) → (j < at) ⊎ (at + 8 ≤ j) → get_or (set_u64 s at v) j 0 ≡ get_or s j 0
u64_other s at v j h = rw (set_u64_is s at v) (put_other 8 s at v j h)

u32_other : (s : List ℕ) (at v j : ℕ) → (j < at) ⊎ (at + 4 ≤ j) → get_or (set_u32 s at v) j 0 ≡ get_or s j 0
u32_other s at v j h = rw (set_u32_is s at v) (put_other 4 s at v j h)

-- the next arrival stands behind ages and before transactions
age_other : (i : ℕ) (s : List ℕ) → i < 8 → (j : ℕ) → next_arrival_from ≤ j → get_or (age_b i s) j 0 ≡ get_or s j 0
unfolding age_b new_age_b
age_other i s l j a =
    let s₁ = set_u64 s (age_from + i * age_width) (ages_of s) in
    by_eq (age_kept_of s i) 0
    (λ e.
    rw e
    (u64_other s₁ next_age_from (ages_of s + 1) j (inr (omega arith))
    ∙ u64_other s (age_from + i * age_width) (ages_of s) j (inr (omega arith))))
    (λ e. rw e)

notice_other : (i t : ℕ) (s : List ℕ) → i < 8 → (j : ℕ) → next_arrival_from ≤ j → j < version_from → get_or (notice_b i t s) j 0 ≡ get_or s j 0
unfolding notice_b
notice_other i t s l j a b =
    by_eq t (latest_of s i) (λ e. rw e)
    (λ e.
    rw e
    (u32_other (set (age_b i s) (unfinished_from + i) 1) (latest_from + i * number_width) t j (inl (omega arith))
    ∙ get_or-set_other (age_b i s) (unfinished_from + i) j 1 0 (λ d. omega arith)
    ∙ age_other i s l j a))

pub notice_arrivals : (i t : ℕ) (s : List ℕ) → i < 8 → arrivals_of (notice_b i t s) ≡ arrivals_of s
notice_arrivals i t s l =
    u64_at_is (notice_b i t s) next_arrival_from ∙ num_frame 8 (notice_b i t s) s next_arrival_from (λ j a b. notice_other i t s l j a (omega arith)) ∙ sym (u64_at_is s next_arrival_from)

pub arrivals_fit : (i t : ℕ) (s : List ℕ) → i < 8 → arrivals_of s < counter_limit → {s₁ : List ℕ} → s₁ ≡ notice_b i t s
    → arrivals_of s₁ < counter_limit
arrivals_fit i t s l h e = rw (e, notice_arrivals i t s l) h

pub last_noticed : (m s : List ℕ) {i : ℕ} {s₁ : List ℕ} → i ≡ station_of m → s₁ ≡ notice_b (station_of m) (transaction_of m) s
    → LastKept (station_of m) m (notice_b (station_of m) (transaction_of m) s) → LastKept i m s₁
last_noticed m s ei e h = rw (ei, e) h

-- a last number n that is not the last of all has a next one
pub last_fits : (i : ℕ) (m s : List ℕ) {n : ℕ} {s₁ s₂ : List ℕ} → LastKept i m s → n ≡ last_of s → n < 4294967296 → n ≢ 4294967295
    → s₁ ≡ leave_b i s → s₂ ≡ unpack_b i m s₁ → last_of s₂ < 4294967295
last_fits i m s h en l d e₁ e₂ =
    let k : last_of (unpack_b i m (leave_b i s)) < 4294967295 = omega (arith, h, en, l, d) in
    rw (e₂, e₁) k
