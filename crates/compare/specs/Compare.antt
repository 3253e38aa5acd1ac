-- Document 02, wish 14, over bytes: "same, first is an early part of second, second of first, or they part, with the first commit number
-- where they do. A refused archive gives its own number, the first archive checked first."
use Rattle.std.specs.Prelude.{ℕ, zero, suc, ◌≤◌, ◌≡◌, List, Bool, false, cond, length, drop, get_or, replicate, eqb, ltb}
use Rattle.lists.specs.Tests.{all_to}
use Rattle.record.specs.Check.{commit_number, claimed_length}
use Rattle.archive.specs.declared.Answer.TheVariants.{End}
use Rattle.replay.specs.Replay.{Replayed, replayed, replay_of}
use Rattle.replay.specs.Played.{archive_played}
use Rattle.compare.specs.declared.Order.{Order}
use Rattle.compare.specs.declared.Order.TheVariants.{Same, FirstEarly, SecondEarly, Parts, Refused}

abbrev pub same_byte : List ℕ → List ℕ → ℕ → Bool
same_byte x y i = eqb (get_or x i 0) (get_or y i 0)

-- the first n bytes of both are there and are the same
unfoldable pub same_to : List ℕ → List ℕ → ℕ → Bool
same_to x y n = cond (ltb (length x) n) false (cond (ltb (length y) n) false (all_to (same_byte x y) n))

-- the record at the start of x, every byte of it, stands at the start of y too
abbrev pub same_record : List ℕ → List ℕ → Bool
same_record x y = same_to x y (claimed_length x)

-- the commit number of the record at the start of x
unfoldable pub commit_at : List ℕ → ℕ
commit_at x = cond (ltb (length x) 16) 0 (commit_number x)

-- what the bytes behind the common records tell: no more commits in both, in one, or two that differ
unfoldable pub ending_of : List ℕ → List ℕ → Order
ending_of x y =
    cond (eqb (length x) 0) (cond (eqb (length y) 0) Same FirstEarly) (cond (eqb (length y) 0) SecondEarly (Parts (commit_at x)))

-- record by record, as long as they are the same. A record has bytes, so one turn more than there are bytes suffices (`walk-enough` in Steps).
unfoldable pub walk_from : ℕ → List ℕ → List ℕ → Order
walk_from zero x y = ending_of x y
walk_from (suc turns) x y = cond (same_record x y) (walk_from turns (drop (claimed_length x) x) (drop (claimed_length x) y)) (ending_of x y)

unfoldable pub walk_of : List ℕ → List ℕ → Order
walk_of x y = walk_from (suc (length x)) x y

-- the numbers of both plays, the first archive's first; else the order
abbrev pub decided : ℕ → ℕ → Order → Order
decided n m o = cond (eqb n 0) (cond (eqb m 0) o (Refused m)) (Refused n)

-- behind a commit number, on these values
unfoldable pub compare_from : List ℕ → List ℕ → ℕ → List ℕ → Order
compare_from x y last v = decided (archive_played x last v).number (archive_played y last v).number (walk_of x y)

-- two archives: from their first commit on, where every value is 0
unfoldable pub compare_of : List ℕ → List ℕ → Order
compare_of a b = compare_from a b 0 (replicate 256 0)

-- THE CODE'S OWN STEPS

-- the first record of x, played if it is common
unfoldable pub shared_of : List ℕ → List ℕ → ℕ → List ℕ → Replayed
shared_of x y last v = cond (same_record x y) (replay_of x 0 last v) (replayed v End)

-- the rests behind the common records
unfoldable pub decided_of : List ℕ → List ℕ → ℕ → List ℕ → Order
decided_of x y last v = decided (archive_played x last v).number (archive_played y last v).number (ending_of x y)

-- the common records are played: w are the values that they leave, and k refuses the next one, or is 0
pub record Together (a b v w : List ℕ) (at last k : ℕ) : Type 0 where
  pub first_in : at ≤ length a
  pub second_in : at ≤ length b
  pub goes_on : k ≡ 0 → compare_from a b 0 v ≡ decided_of (drop at a) (drop at b) last w
  pub refused : (k ≡ 0 → ⊥) → compare_from a b 0 v ≡ Refused k
