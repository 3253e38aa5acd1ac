-- How many members a set has below n.
use Rattle.std.specs.Prelude.{Bool, cond, ℕ, zero, suc, ◌+◌}

unfoldable pub size : ℕ → (ℕ → Bool) → ℕ
size zero f = 0
size (suc n) f = cond (f n) 1 0 + size n f
