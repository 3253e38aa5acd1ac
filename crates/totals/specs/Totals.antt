-- "how many records wrote it" (docs/PLAYBACK.md): a count for each address, changed by each record.
use Rattle.std.specs.Prelude.{ℕ, zero, suc, ◌+◌, ◌≤◌, ◌<◌, ◌≡◌, refl, List, Bool, true, false, cond, length, get_or, set, ltb}
use Rattle.std.proofs.Common.{arith, ltb-true, ltb-false}
use Rattle.layout.specs.Record.{header_length}
use Rattle.record.specs.Check.{read_count, write_count, length_of, claimed_length}
use Rattle.replay.specs.Replay.{address_at}

-- the largest count that 64 bits hold
abbrev pub most : ℕ
most = 18446744073709551615

unfoldable pub one_more : ℕ → ℕ
one_more n = cond (ltb n most) (n + 1) n

-- the counts after the c entries from the n-th of the record at the start of t
unfoldable pub counted_to : List ℕ → List ℕ → ℕ → ℕ → List ℕ
counted_to t counts n zero = counts
counted_to t counts n (suc c) =
    set (counted_to t counts n c) (address_at t (n + c)) (one_more (get_or (counted_to t counts n c) (address_at t (n + c)) 0))

-- the counts after the record's writes; none where the bytes end inside it
unfoldable pub counted : List ℕ → List ℕ → List ℕ
counted t counts = cond (ltb (length t) (claimed_length t)) counts (counted_to t counts (read_count t) (write_count t))

-- what the test for the bytes tells
pub record Whole (t : List ℕ) : Type 0 where
  pub header_there : header_length ≤ length t
  pub all_there : length_of t ≤ length t

pub whole : (t : List ℕ) {k : ℕ} → k ≡ claimed_length t → k ≤ length t → Whole t
unfolding claimed_length
whole t {k} e h = by_test (ltb (length t) header_length) refl e
  where
    by_test : (b : Bool) → ltb (length t) header_length ≡ b → k ≡ cond b header_length (length_of t) → Whole t
    by_test true eb e = let short : length t < header_length = ltb-true _ _ eb in absurd (omega arith)
    by_test false eb e = record { header_there = ltb-false _ _ eb; all_there = omega arith }
