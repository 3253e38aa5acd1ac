-- A change for each member of a set of bits, the lowest first: as a loop takes the members one by one.
use Prim.Native.Nat.{ℕ, zero, suc}
use Rattle.std.specs.Prelude.{cond, List}
use Rattle.cells.specs.Bits.{tb}

-- f at each member of x below n
unfoldable pub each_to : (List ℕ → ℕ → List ℕ) → ℕ → List ℕ → ℕ → List ℕ
each_to f x s zero = s
each_to f x s (suc n) = cond (tb x n) (f (each_to f x s n) n) (each_to f x s n)
