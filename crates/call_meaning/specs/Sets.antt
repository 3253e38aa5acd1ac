-- A set as its owner gives it: a number and eight values to the call, a value by address in the model. The same call either way.
use Prim.Native.Nat.{ℕ}
use Rattle.std.specs.Prelude.{cond, List, ltb, get_or}
use Rattle.sets.specs.Base.{Val, has, val_or, none_at}
use Rattle.cells.specs.Loops.{mask_to}
use Rattle.line.specs.Messages.{address}
use Rattle.station_state.specs.Changes.{values_to}
use Rattle.station_meaning.specs.Meant.{given}

-- the objects that have a value on page p, and the eight values; 0 where there is none
abbrev pub objects_of : ℕ → (ℕ → Val) → ℕ
objects_of p f = mask_to (λ o. has (f (address p o))) 8

abbrev pub values_of : ℕ → (ℕ → Val) → List ℕ
values_of p f = values_to (λ o. val_or (f (address p o)) 0) 8

-- "the empty set .. is number 4", a number that is no object set too
abbrev pub own_set : ℕ → List ℕ → ℕ → Val
own_set x f = cond (ltb 255 x) none_at (given x (λ o. get_or f o 0))
