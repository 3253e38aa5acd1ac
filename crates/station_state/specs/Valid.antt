-- Number 1 of a station's state, and a fresh state. The range of a field that does not count is 0 (docs/STATE.md), so that what is taken
-- stays so: `valid-stays` of crate call_meaning.
use Rattle.std.specs.Prelude.{ℕ, ◌+◌, ◌*◌, ◌/◌, ◌%◌, List, Bool, true, not, ◌&&◌, ◌||◌, cond, length, set, replicate, eqb, ltb, leb}
use Rattle.limits.specs.Limit.{limit}
use Rattle.kinds.specs.Kinds.{most_kind}
use Rattle.station_state.specs.Layout.{kept_from, read_set_from, written_set_from, locks_from, station_from, kind_from, state_length, kept_of, number, station, kind, opened, wait, address, waiting_set, locking_b, passing_whole, member, count_in, written_with, none_in}

-- "a field out of range": transactions are numbered from 1
unfoldable pub fields_ok : List ℕ → Bool
fields_ok s = leb (kind s) most_kind && leb (opened s) 1 && leb (wait s) 3 && (eqb (opened s) 0 || not (eqb (number s) 0))

-- "a kept callback from the station itself"
unfoldable pub own_kept : List ℕ → Bool
own_kept s = not (eqb (kept_of s (station s)) 0)

-- no transaction is open: nothing is out, read or written
unfoldable pub closed_ok : List ℕ → Bool
closed_ok s = eqb (wait s) 0 && none_in s read_set_from && none_in s written_set_from

-- a read that is out is the transaction's first of its object, which it has not written
unfoldable pub first_ok : List ℕ → Bool
first_ok s = not (member s read_set_from (address s)) && not (member s written_set_from (address s))

-- a write that is out has a page, and objects there
unfoldable pub set_ok : List ℕ → Bool
set_ok s = eqb (address s % 8) 0 && not (eqb (waiting_set s) 0)

unfoldable pub out_ok : List ℕ → Bool
out_ok s = cond (eqb (wait s) 1) (first_ok s) (cond (eqb (wait s) 2) (set_ok s) true)

-- document 02, wish 1: the sets from `at` are within the limit; if the object waited for is out and not among them, there is room for it
unfoldable pub few_in : List ℕ → ℕ → Bool → Bool
few_in s at out = cond (out && not (member s at (address s))) (ltb (count_in s at) limit) (leb (count_in s at) limit)

-- .. so too what is written, with all that a write that is out will write
unfoldable pub few_written : List ℕ → Bool
few_written s = cond (eqb (wait s) 2) (leb (written_with s (address s / 8) (waiting_set s)) limit) (leb (count_in s written_set_from) limit)

-- "48 distinct reads and 48 distinct writes", a waiting read or write counted as recorded
unfoldable pub limited_ok : List ℕ → Bool
limited_ok s = few_in s read_set_from (eqb (wait s) 1) && few_written s

unfoldable pub works_ok : List ℕ → Bool
works_ok s = cond (eqb (opened s) 0) (closed_ok s) (out_ok s && limited_ok s)

-- no lock but those that outlive their transaction, and no callback kept (eight transactions of four bytes)
unfoldable pub lockless_ok : List ℕ → Bool
lockless_ok s = eqb (passing_whole s) 0 && none_in s locks_from && none_in s kept_from

-- but for the open transaction of a locking station
unfoldable pub holds_ok : List ℕ → Bool
holds_ok s = cond (locking_b s && not (eqb (opened s) 0)) true (lockless_ok s)

-- "a lent state has a wrong length, a field out of range, a kept callback from the station itself"
unfoldable pub valid : List ℕ → Bool
valid s = eqb (length s) state_length && leb (station s) 7 && (fields_ok s && not (own_kept s) && works_ok s && holds_ok s)

-- .. and no transaction is open
unfoldable pub rests_ok : List ℕ → Bool
rests_ok s = eqb (opened s) 0 && valid s

-- the number and the state afterwards
pub record Freshened : Type 0 where
  pub state : List ℕ
  pub number : ℕ

abbrev pub freshened : List ℕ → ℕ → Freshened
freshened s n = record { state = s; number = n }

-- "nothing open, cached, .."
unfoldable pub fresh_state : ℕ → ℕ → List ℕ
fresh_state st k = set (set (replicate state_length 0) station_from st) kind_from k

-- 1: the length; 4: station or kind
unfoldable pub fresh_of : ℕ → ℕ → List ℕ → Freshened
fresh_of st k s =
    cond (eqb (length s) state_length)
    (cond (leb st 7 && leb k most_kind) (freshened (fresh_state st k) 0) (freshened s 4))
    (freshened s 1)
