-- Document 02, wish 7: a tariff, and what frames cost by it.
use Rattle.std.specs.Prelude.{ℕ, zero, suc, ◌+◌, ◌*◌, ◌/◌, ◌≤◌, ◌<◌, ◌≡◌, List, [], ◌∷◌, cond, length, leb, ℤ, nat_abs}
use Rattle.signed.specs.Change.{most, with_sign}

-- "each an upper frame count and a price of 32 bits"
pub record Step : Type 0 where
  pub upper : ℕ
  pub price : ℕ

-- "upper counts rise strictly"
abbrev pub Rise : List Step → Type 0
Rise [] = Unit {0}
Rise (s ∷ []) = Unit {0}
Rise (s ∷ t ∷ ss) = (s.upper < t.upper) × Rise (t ∷ ss)

-- "and the last is 2^63 − 1": there is a last one
abbrev pub Ends : List Step → Type 0
Ends [] = ⊥
Ends (s ∷ []) = s.upper ≡ most
Ends (s ∷ t ∷ ss) = Ends (t ∷ ss)

-- "A tariff has up to 16 steps"
pub record Tariff (ss : List Step) : Type 0 where
  pub few : length ss ≤ 16
  pub rise : Rise ss
  pub ends : Ends ss

-- "The first step starts at frame 1, each later one behind the upper count before it, and every frame is charged at the price of its
-- step": the price at frame f, counted from 1
abbrev pub price_of : List Step → ℕ → ℕ
price_of [] f = 0
price_of (s ∷ ss) f = cond (leb f s.upper) s.price (price_of ss f)

-- what frames 1 to n cost. A price is "per 1,000 frames in hundredths of a cent", so this counts hundred-thousandths of a cent.
unfoldable pub cost_of : List Step → ℕ → ℕ
cost_of ss zero = 0
cost_of ss (suc n) = cost_of ss n + price_of ss (suc n)

-- "rounded once to cents, halves away from zero": of a number that has no sign, a half up
abbrev pub cents : ℕ → ℕ
cents x = (2 * x + 100000) / 200000

-- "A negative sum is charged as the negative of its opposite"
unfoldable pub fee_for : List Step → ℤ → ℤ
fee_for ss s = with_sign s (cents (cost_of ss (nat_abs s)))
