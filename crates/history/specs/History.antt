-- The changes of one counter (docs/PLAYBACK.md, "--counter A"), as bytes, each line ended by byte 10.
use Rattle.std.specs.Prelude.{ℕ, zero, suc, ◌+◌, ◌^◌, ◌≤◌, ◌<◌, ◌≡◌, refl, List, ◌++◌, Bool, true, false, ◌&&◌, not, cond, length, eqb, ltb}
use Rattle.std.proofs.Common.{arith, length-append}
use Rattle.text.specs.Text.{ascii, field64}
use Rattle.record.specs.Check.{read_count, write_count, claimed_length}
use Rattle.replay.specs.Replay.{address_at}
use Rattle.report.specs.Text.{longest}
use Rattle.totals.specs.Table.{field_within}
use Rattle.totals.specs.Writers.{any_to, writes}

-- none of the c entries from the n-th is address a
unfoldable pub none_to : List ℕ → ℕ → ℕ → ℕ → Bool
none_to t n a zero = true
none_to t n a (suc c) = none_to t n a c && not (eqb (address_at t (n + c)) a)

-- that is, not one of them (`anyTo` of crate totals)
pub none_any : (t : List ℕ) (n a c : ℕ) → not (none_to t n a c) ≡ any_to t n a c
unfolding none_to any_to
none_any t n a zero = refl
none_any t n a (suc c) = by_tests (none_to t n a c) (eqb (address_at t (n + c)) a) (none_any t n a c)
  where
    by_tests : (b e : Bool) → not b ≡ any_to t n a c → not (b && not e) ≡ cond e true (any_to t n a c)
    by_tests true true rest = refl
    by_tests true false rest = rest
    by_tests false true rest = refl
    by_tests false false rest = rest

-- behind all writes of the record at the start of t
pub writes_done : (t : List ℕ) (a : ℕ) {n m c : ℕ} {none : Bool} → n ≡ read_count t → m ≡ write_count t → c ≤ m → m ≤ c → none ≡ none_to t n a c
    → not none ≡ writes t a
writes_done t a {n} {m} {c} en em l h e = let ec : c ≡ write_count t = omega arith in rw (e, ec, en) (none_any t (read_count t) a (write_count t))

-- the record at the start of t writes address a; bytes that end inside it write nothing
unfoldable pub writes_at : List ℕ → ℕ → Bool
writes_at t a = cond (ltb (length t) (claimed_length t)) false (writes t a)

unfoldable pub heading : List ℕ
heading = ascii "commit station before after\n"

-- "commit, station, value before and after"
unfoldable pub change_line : ℕ → ℕ → ℕ → ℕ → ℕ → List ℕ
change_line sep commit station before after = field64 commit sep ++ (field64 station sep ++ (field64 before sep ++ field64 after 10))

-- no line is longer than the longest
pub change_fits : (sep commit station before after : ℕ) → commit < 2 ^ 32 → station < 2 ^ 32 → before < 2 ^ 64 → after < 2 ^ 64
    → length (change_line sep commit station before after) ≤ longest
unfolding change_line
change_fits sep commit station before after hc hs hb ha =
    simp length-append
    (omega
    (arith, field_within 10 commit sep (omega arith) (omega arith) (omega arith), field_within 10 station sep (omega arith) (omega arith) (omega arith), field_within 20 before sep (omega arith) (omega arith) (omega arith), field_within 20 after 10 (omega arith) (omega arith) (omega arith)))
