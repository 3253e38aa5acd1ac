-- The change of a counter, sums of changes, and numbers with a sign.
use Rattle.std.specs.Prelude.{ℕ, ◌<◌, ◌^◌, ◌≡◌, cond, ltb, ℤ, pos, negsuc, neg_ℤ, ◌+ℤ◌, ◌-ℤ◌}
use Rattle.std.proofs.Common.{sym, ap, ◌∙◌}
use Rattle.std.proofs.Math.IntN.{+ℤ_comm, +ℤ_assoc, +ℤ_invr, -ℤ-+ℤ_cancel}
use Rattle.signed.specs.declared.Change.{Change}
use Rattle.signed.specs.declared.Change.TheVariants.{By, Beyond}

-- 2^63 − 1
abbrev pub most : ℕ
most = 9223372036854775807

-- new minus old
unfoldable pub diff : ℕ → ℕ → ℤ
diff new old = pos new -ℤ pos old

-- the change between two values, where neither is above 2^63 − 1
unfoldable pub change_of : ℕ → ℕ → Change
change_of new old = cond (ltb most new) Beyond (cond (ltb most old) Beyond (By (diff new old)))

-- one change more
abbrev pub plus : Change → Change → Change
plus (By s) (By d) = By (s +ℤ d)
plus (By s) Beyond = Beyond
plus Beyond d = Beyond

-- c with the sign of s
unfoldable pub with_sign : ℤ → ℕ → ℤ
with_sign (pos n) c = pos c
with_sign (negsuc n) c = neg_ℤ (pos c)

-- changes that follow each other add up to the change from the first value to the last
pub diff_diff : (a b c : ℕ) → diff b a +ℤ diff c b ≡ diff c a
unfolding diff
diff_diff a b c =
    +ℤ_comm (pos b -ℤ pos a) (pos c -ℤ pos b) ∙ sym (+ℤ_assoc (pos c -ℤ pos b) (pos b) (neg_ℤ (pos a)))
    ∙ ap (λ (z : ℤ). z +ℤ neg_ℤ (pos a)) (-ℤ-+ℤ_cancel (pos c) (pos b))

pub diff_self : (a : ℕ) → diff a a ≡ pos 0
unfolding diff
diff_self a = +ℤ_invr (pos a)

-- a sum of changes that led to this value: it is the change from some value, which is small if this one is
pub record Led (s : ℤ) (here : ℕ) : Type 0 where
  pub from : ℕ
  pub is : s ≡ diff here from
  pub small : here < 2 ^ 63 → from < 2 ^ 63

abbrev pub Sums : Change → ℕ → Type 0
Sums (By s) here = Led s here
Sums Beyond here = Unit {0}
