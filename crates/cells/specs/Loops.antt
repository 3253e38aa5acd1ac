-- What loops build: whether one passes, a mask, a count.
use Rattle.std.specs.Prelude.{Bool, false, cond, ◌||◌, ℕ, zero, suc, ◌+◌, ◌^◌}
use Rattle.std.specs.Int.Bits.{bit_or}

-- r |= f(i)
unfoldable pub any_to : (ℕ → Bool) → ℕ → Bool
any_to f zero = false
any_to f (suc n) = any_to f n || f n

-- m |= 1 << i where f(i)
unfoldable pub mask_to : (ℕ → Bool) → ℕ → ℕ
mask_to f zero = 0
mask_to f (suc n) = bit_or (mask_to f n) (cond (f n) (2 ^ n) 0)

-- n += 1 where f(i)
unfoldable pub rank : (ℕ → Bool) → ℕ → ℕ
rank f zero = 0
rank f (suc n) = rank f n + cond (f n) 1 0
