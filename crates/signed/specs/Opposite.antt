-- Opposites at both ends of the range.
use Rattle.std.specs.Prelude.{ℕ, zero, suc, ◌^◌, ◌≤◌, ◌<◌, ◌≡◌, refl, Bool, true, false, not, T, ℤ, pos, negsuc, neg_ℤ, nat_abs, ◌-ℤ◌, ◌≤ℤ◌}
use Rattle.std.proofs.Common.{sym, ap, subst, ◌∙◌, arith, leb→le, le→leb, ltb-true, leb-false, SFits, to_z}
use Rattle.std.proofs.Math.IntN.{+ℤ_idl}
use Rattle.std.specs.Int.Signed.{mag, lt_z, le_z, le_z_yes, lt_z_no}
use Rattle.std.specs.Int.{w64}
use Rattle.std.proofs.lemmas.Int.{to_z_pos}
use Rattle.signed.specs.Change.{with_sign}

never : {X : Type 0} → false ≡ true → X
never e = absurd (subst T (sym e) tt)

-- −(2^63 − 1)
abbrev pub lowest : ℤ
lowest = negsuc 9223372036854775806

pub from_lowest : (x : ℤ) → lt_z x lowest ≡ false → lowest ≤ℤ x
from_lowest x e = lt_z_no (subst (λ (t : Bool). T (not t)) (sym e) tt)

minus_mag : (x : ℤ) → mag x < 2 ^ 63 → T (le_z lowest x) → mag (neg_ℤ x) < 2 ^ 63
minus_mag (pos zero) f h = omega arith
minus_mag (pos (suc n)) f h = omega arith
minus_mag (negsuc n) f h = let l : n ≤ 9223372036854775806 = leb→le n 9223372036854775806 h in omega arith

pub minus_fits : (x : ℤ) → SFits w64 x → lowest ≤ℤ x → SFits w64 (neg_ℤ x)
minus_fits x f h = record { sfits = minus_mag x f.sfits h.le }

pub nat_abs_minus : (x : ℤ) → nat_abs (neg_ℤ x) ≡ nat_abs x
nat_abs_minus (pos zero) = refl
nat_abs_minus (pos (suc n)) = refl
nat_abs_minus (negsuc n) = refl

-- a negative number's opposite is none
pub minus_natural : (x : ℤ) → le_z (pos 0) x ≡ false → pos 0 ≤ℤ neg_ℤ x
minus_natural (pos n) e = let l : n < 0 = leb-false 0 n e in absurd (omega arith)
minus_natural (negsuc n) e = le_z_yes (le→leb 0 (suc n) (omega arith))

pub natural_fits : (x : ℤ) → mag x < 2 ^ 63 → pos 0 ≤ℤ x → nat_abs x < 2 ^ 64
natural_fits (pos n) f h = omega arith
natural_fits (negsuc n) f h = omega arith

-- the one number below is −2^63
pub lowest_magnitude : (x : ℤ) → mag x < 2 ^ 63 → lt_z x lowest ≡ true → 9223372036854775808 ≡ nat_abs x
lowest_magnitude (pos n) f e = never e
lowest_magnitude (negsuc n) f e = let l : 9223372036854775806 < n = ltb-true 9223372036854775806 n e in omega arith

-- a number with the sign of another
pub sign_natural : (s : ℤ) (c : ℕ) → le_z (pos 0) s ≡ true → pos c ≡ with_sign s c
unfolding with_sign
sign_natural (pos n) c e = refl
sign_natural (negsuc n) c e = never e

pub sign_negative : (s : ℤ) (c : ℕ) → le_z (pos 0) s ≡ false → neg_ℤ (pos c) ≡ with_sign s c
unfolding with_sign
sign_negative (pos n) c e = let l : n < 0 = leb-false 0 n e in absurd (omega arith)
sign_negative (negsuc n) c e = refl

-- the machine's negation of a number that it reads back from its bits
pub minus_read : (c : ℕ) → c < 2 ^ 63 → pos 0 -ℤ to_z w64 c ≡ neg_ℤ (pos c)
minus_read c h = ap (λ (z : ℤ). pos 0 -ℤ z) (to_z_pos w64 c h) ∙ +ℤ_idl (neg_ℤ (pos c))
