-- A tariff's table (docs/LICENCE.md): steps one behind the other, and what frames cost by them.
use Rattle.std.specs.Prelude.{ℕ, zero, suc, ◌+◌, ◌*◌, ◌-◌, ◌/◌, ◌%◌, List, Bool, false, ◌&&◌, cond, length, eqb, ltb, ℤ, nat_abs, Option, Some, None}
use Rattle.lists.specs.Tests.{all_to}
use Rattle.le.specs.Le.{u32_at, u64_at}
use Rattle.signed.specs.Change.{most, with_sign}
use Rattle.tariff.specs.declared.Fee.{Fee}
use Rattle.tariff.specs.declared.Fee.TheVariants as fee

-- a step is an upper frame count, of 8 bytes, and a price, of 4
abbrev pub price_from : ℕ
price_from = 8

abbrev pub step_length : ℕ
step_length = price_from + 4

-- "up to 16 steps"
abbrev pub longest_table : ℕ
longest_table = 16 * step_length

abbrev pub steps_in : List ℕ → ℕ
steps_in t = length t / step_length

-- the upper frame count and the price of step i
unfoldable pub upper_at : List ℕ → ℕ → ℕ
upper_at t i = u64_at t (step_length * i)

unfoldable pub price_at : List ℕ → ℕ → ℕ
price_at t i = u32_at t (step_length * i + price_from)

-- "upper counts rise strictly"
unfoldable pub rise_at : List ℕ → ℕ → Bool
rise_at t i = ltb (upper_at t i) (upper_at t (i + 1))

unfoldable pub rises : List ℕ → ℕ → Bool
rises t k = all_to (rise_at t) (k - 1)

-- "up to 16 steps", "and the last is 2^63 − 1"
unfoldable pub lawful : List ℕ → Bool
lawful t =
    cond (eqb (length t) 0) false
    (cond (ltb longest_table (length t)) false (cond (eqb (length t % step_length) 0) (rises t (steps_in t) && eqb (upper_at t (steps_in t - 1)) most) false))

-- how many of n frames are at or below an upper count
unfoldable pub covered_of : ℕ → ℕ → ℕ
covered_of n upper = cond (ltb n upper) n upper

-- how many are charged by the first i steps
abbrev pub done_to : List ℕ → ℕ → ℕ → ℕ
done_to t n zero = 0
done_to t n (suc i) = covered_of n (upper_at t i)

-- what n frames cost by the first i steps, in hundred-thousandths of a cent
unfoldable pub charge_to : List ℕ → ℕ → ℕ → ℕ
charge_to t n zero = 0
charge_to t n (suc i) = charge_to t n i + (covered_of n (upper_at t i) - done_to t n i) * price_at t i

-- x / 100,000, "rounded once to cents", a half up
abbrev pub nearest : ℕ → ℕ
nearest x = (2 * x + 100000) / 200000

-- .. where that is at most 2^63 − 1
unfoldable pub cents_of : ℕ → Option ℕ
cents_of x = cond (ltb most (nearest x)) None (Some (nearest x))

abbrev pub signed_fee : ℤ → Option ℕ → Fee
signed_fee s (Some c) = fee.Owed (with_sign s c)
signed_fee s None = fee.Beyond

-- "A negative sum is charged as the negative of its opposite"
unfoldable pub fee_of : List ℕ → ℤ → Fee
fee_of t s = signed_fee s (cents_of (charge_to t (nat_abs s) (steps_in t)))
