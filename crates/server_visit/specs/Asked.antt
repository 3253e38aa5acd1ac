-- 19s change the set of pages asked for, and nothing else: who blocks a waiter, what shuts it out and what is wrong with its commit stays.
use Rattle.std.specs.Prelude.{ℕ, zero, suc, ◌+◌, ◌*◌, ◌≤◌, ◌<◌, ◌≡◌, refl, ◌⊎◌, Bool, false, List, get_or}
use Rattle.std.proofs.Common.{sym, ◌∙◌, inl, inr, arith}
use Rattle.std.proofs.Math.Path.{ap₂}
use Rattle.std.specs.Int.Bits.{bit_or}
use Rattle.sets.specs.Laws.{by_b}
use Rattle.sets.proofs.Laws.{any_no}
use Rattle.le.specs.Le.{u32_at, u64_at}
use Rattle.le.specs.Laws.{u32_at_is, u64_at_is, set_u32_is}
use Rattle.cells.proofs.Num.{num_frame, put_other}
use Rattle.cells.specs.Loops.{any_to}
use Rattle.cells.proofs.Loops.{any_to_lem, mask_same}
use Rattle.station_state.specs.Layout.{page_set_width, number_width}
use Rattle.station_state.specs.Changes.{page_on}
use Rattle.server_state.specs.Layout.{version_row, version_from, last_from, asked_from, lock_from, whole_from, arrival_of, lock_of, whole_of, read_set, written_set, read_versions_from, written_versions_from, want_of, wanted_on}
use Rattle.server_tests.specs.Tests.{other_version, stale_at_b, stale_on_b, stale_b, locked_at_b, locked_on_b, locked_b, fault_b, earlier_b, shut_b, shut_out_b, due_b}
use Rattle.server_tests.specs.Blockers.{join_to, meet_on, meet_set, ahead_b, ahead_set, holder_at, holders_on, holder_set, blockers_b}
use Rattle.server_changes.specs.Changes.{asked_b}
use Rattle.server_actions.specs.Actions.{Serving}
use Rattle.server_actions.specs.Pass.{ask_b, ask_to}
use Rattle.server_actions.specs.Posting.{from}

-- every page locked whole is so by a station of the line
abbrev pub Held : List ℕ → Type 0
Held s = (p : ℕ) → p < 32 → whole_of s p ≤ 8

-- t is s but for the pages asked for
abbrev pub Asks : List ℕ → List ℕ → Type 0
Asks s t = (j : ℕ) → (j < asked_from) ⊎ (asked_from + page_set_width ≤ j) → get_or t j 0 ≡ get_or s j 0

asked : (s : List ℕ) (p : ℕ) → Asks s (asked_b p s)
unfolding asked_b page_on
asked s p j h = rw (set_u32_is) (put_other 4 s asked_from _ j h)

pub asks_one : (k : Bool) (i p : ℕ) (x : Serving) → Asks x.state (ask_b k i x p).state
unfolding ask_b
asks_one k i p x j h = by_b (due_b k x.state i p) (λ e. rw e (asked x.state p j h)) (λ e. rw e)

-- the 19s of n pages
pub asks_all : (k : Bool) (i n : ℕ) (x : Serving) → Asks x.state (ask_to k i x n).state
unfolding ask_to
asks_all k i zero x j h = refl
asks_all k i (suc n) x j h = asks_one k i n (ask_to k i x n) j h ∙ asks_all k i n x j h

-- where no page is another's whole there are none
pub asks_none : (k : Bool) (i n : ℕ) (s : List ℕ) → n ≤ 32 → shut_out_b s i ≡ false → ask_to k i (from s) n ≡ from s
unfolding ask_to ask_b shut_out_b due_b
asks_none k i zero s l e = refl
asks_none k i (suc n) s l e =
    let no : shut_b s i n ≡ false = any_no 32 (shut_b s i) (sym (any_to_lem (shut_b s i) (shut_b s i) 32 (λ p q. refl)) ∙ e) n (omega arith) in
    rw (asks_none k i n s (omega arith) e, no)

-- tests of all numbers below n

any_like : (f g : ℕ → Bool) (n : ℕ) → ((k : ℕ) → k < n → f k ≡ g k) → any_to f n ≡ any_to g n
any_like f g n h = any_to_lem f g n h ∙ sym (any_to_lem g g n (λ k l. refl))

join_like : (f g : ℕ → ℕ) (n : ℕ) → ((k : ℕ) → f k ≡ g k) → join_to f n ≡ join_to g n
unfolding join_to
join_like f g zero h = refl
join_like f g (suc n) h = ap₂ bit_or (join_like f g n h) (h n)

module _ (s t : List ℕ) (h : Asks s t) where
  pub held_asks : Held s → Held t
  held_asks d p l = rw (h (whole_from + p) (inr (omega arith))) (d p l)

  -- FIELDS

  word : (at : ℕ) → at + 4 ≤ asked_from → u32_at t at ≡ u32_at s at
  word at l = u32_at_is t at ∙ num_frame 4 t s at (λ j a b. h j (inl (omega arith))) ∙ sym (u32_at_is s at)

  arrival : (j : ℕ) → j < 8 → arrival_of t j ≡ arrival_of s j
  arrival j l = u64_at_is t _ ∙ num_frame 8 t s _ (λ k a b. h k (inl (omega arith))) ∙ sym (u64_at_is s _)

  locks : (p : ℕ) → u64_at t (lock_from + p * 8) ≡ u64_at s (lock_from + p * 8)
  locks p = u64_at_is t _ ∙ num_frame 8 t s _ (λ k a b. h k (inr (omega arith))) ∙ sym (u64_at_is s _)

  lock : (a : ℕ) → lock_of t a ≡ lock_of s a
  lock a = h _ (inr (omega arith))

  want : (i : ℕ) → want_of t i ≡ want_of s i
  want i = h _ (inr (omega arith))

  read : (i p : ℕ) → read_set t i p ≡ read_set s i p
  read i p = h _ (inr (omega arith))

  written : (i p : ℕ) → written_set t i p ≡ written_set s i p
  written i p = h _ (inr (omega arith))

  wanted : (i p : ℕ) → wanted_on t i p ≡ wanted_on s i p
  wanted i p = ap₂ bit_or (read i p) (written i p)

  -- WHO BLOCKS

  holder : (i p o : ℕ) → holder_at t i p o ≡ holder_at s i p o
  unfolding holder_at
  holder i p o = rw (wanted i p, lock (p * 8 + o))

  holders : (i p : ℕ) → holders_on t i p ≡ holders_on s i p
  unfolding holders_on
  holders i p = rw (locks p, wanted i p, join_like (holder_at t i p) (holder_at s i p) 8 (holder i p))

  meets : (i j p : ℕ) → meet_on t i j p ≡ meet_on s i j p
  unfolding meet_on
  meets i j p = rw (wanted i p, wanted j p, written i p, written j p)

  ahead : (i j : ℕ) → i < 8 → j < 8 → ahead_b t i j ≡ ahead_b s i j
  unfolding ahead_b meet_set earlier_b
  ahead i j l m = rw (want j, arrival i l, arrival j m, join_like (meet_on t i j) (meet_on s i j) 32 (meets i j))

  pub blockers_asks : (i : ℕ) → i < 8 → blockers_b t i ≡ blockers_b s i
  unfolding blockers_b holder_set ahead_set
  blockers_asks i l =
      ap₂ bit_or (join_like (holders_on t i) (holders_on s i) 32 (holders i)) (mask_same (ahead_b t i) (ahead_b s i) 8 (λ j m. ahead i j l m))

  -- WHAT IS SHUT

  whole : (p : ℕ) → whole_of t p ≡ whole_of s p
  whole p = h _ (inr (omega arith))

  shut : (i p : ℕ) → shut_b t i p ≡ shut_b s i p
  unfolding shut_b
  shut i p = rw (wanted i p, whole p)

  pub shut_asks : (i : ℕ) → shut_out_b t i ≡ shut_out_b s i
  unfolding shut_out_b
  shut_asks i = any_like (shut_b t i) (shut_b s i) 32 (λ p l. shut i p)

  -- WHAT IS WRONG

  version : (b a : ℕ) → b + version_row ≤ last_from → a < 256 → other_version t b a ≡ other_version s b a
  unfolding other_version
  version b a l m = rw (word (b + a * number_width) (omega arith), word (version_from + a * number_width) (omega arith))

  stale_at_lem : (i p o : ℕ) → i < 8 → p < 32 → o < 8 → stale_at_b t i p o ≡ stale_at_b s i p o
  unfolding stale_at_b
  stale_at_lem i p o l m q =
      rw (read i p, written i p, version (read_versions_from i) (p * 8 + o) (omega arith) (omega arith), version (written_versions_from i) (p * 8 + o) (omega arith) (omega arith))

  stale_on : (i p : ℕ) → i < 8 → p < 32 → stale_on_b t i p ≡ stale_on_b s i p
  unfolding stale_on_b
  stale_on i p l m = rw (wanted i p, any_like (stale_at_b t i p) (stale_at_b s i p) 8 (λ o q. stale_at_lem i p o l m q))

  stale : (i : ℕ) → i < 8 → stale_b t i ≡ stale_b s i
  unfolding stale_b
  stale i l = any_like (stale_on_b t i) (stale_on_b s i) 32 (λ p m. stale_on i p l m)

  locked_at_lem : (i p o : ℕ) → locked_at_b t i p o ≡ locked_at_b s i p o
  unfolding locked_at_b
  locked_at_lem i p o = rw (written i p, lock (p * 8 + o))

  locked_on : (i p : ℕ) → locked_on_b t i p ≡ locked_on_b s i p
  unfolding locked_on_b
  locked_on i p = rw (written i p, any_like (locked_at_b t i p) (locked_at_b s i p) 8 (λ o q. locked_at_lem i p o))

  locked : (i : ℕ) → locked_b t i ≡ locked_b s i
  unfolding locked_b
  locked i = any_like (locked_on_b t i) (locked_on_b s i) 32 (λ p m. locked_on i p)

  pub fault_asks : (i : ℕ) → i < 8 → fault_b t i ≡ fault_b s i
  unfolding fault_b
  fault_asks i l = rw (word last_from (omega arith), stale i l, locked i)
