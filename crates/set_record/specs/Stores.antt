-- The stores that list a set's addresses, in the order of the code, and the values that belong to a list of addresses.
use Rattle.std.specs.Prelude.{ℕ, zero, suc, ◌+◌, ◌*◌, List, [], ◌∷◌, ◌++◌, cond, take, drop, set}
use Rattle.le.specs.Le.{u64_at}
use Rattle.le.specs.Width.{bytes}
use Rattle.cells.specs.Loops.{rank}
use Rattle.station_state.specs.Layout.{member}
use Rattle.layout.specs.Record.{value_length}

-- entry i: address a, if it is in the set from `at`
unfoldable pub entry_one : List ℕ → List ℕ → ℕ → ℕ → ℕ → List ℕ
entry_one o s at i a = cond (member s at a) (set o i a) o

-- the members below n, from entry i on: the one at a comes behind as many as are below it
unfoldable pub entries_to : List ℕ → List ℕ → ℕ → ℕ → ℕ → List ℕ
entries_to o s at i zero = o
entries_to o s at i (suc a) = entry_one (entries_to o s at i a) s at (i + rank (member s at) a) a

-- the values of these addresses among those from `from`, one behind the other
unfoldable pub values_for : List ℕ → ℕ → List ℕ → List ℕ
values_for s from [] = []
values_for s from (a ∷ l) = bytes value_length (u64_at s (from + a * value_length)) ++ values_for s from l

-- of which the first n are read, with values from rv, and the others written, with values from wv
abbrev pub both_for : List ℕ → ℕ → ℕ → ℕ → List ℕ → List ℕ
both_for s rv wv n l = values_for s rv (take n l) ++ values_for s wv (drop n l)
