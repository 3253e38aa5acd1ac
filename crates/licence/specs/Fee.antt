-- The answer of a call, "checked first" to "checked last": 17; the archive's own number, or 13; 18; else sum and fee.
use Rattle.std.specs.Prelude.{ℕ, ◌≡◌, List, Bool, true, false, cond, ℤ}
use Rattle.std.proofs.Common.{sym, ap, ◌∙◌}
use Rattle.tariff.specs.declared.Fee.{Fee}
use Rattle.tariff.specs.declared.Fee.TheVariants as fee
use Rattle.tariff.specs.Table.{lawful, fee_of}
use Rattle.licence.specs.declared.Frames.{Frames}
use Rattle.licence.specs.declared.Frames.TheVariants as frames
use Rattle.licence.specs.Frames.{frames_of}

-- the two lent numbers afterwards, and the number
pub record Billed : Type 0 where
  pub sum : ℤ
  pub owed : ℤ
  pub number : ℕ

abbrev pub billed : ℤ → ℤ → ℕ → Billed
billed x y k = record { sum = x; owed = y; number = k }

-- x and y are what was lent
abbrev pub on_fee : ℤ → ℤ → ℤ → Fee → Billed
on_fee n x y (fee.Owed c) = billed n c 0
on_fee n x y fee.Beyond = billed x y 18

abbrev pub on_frames : List ℕ → ℤ → ℤ → Frames → Billed
on_frames t x y (frames.Sum n) = on_fee n x y (fee_of t n)
on_frames t x y (frames.Refused k) = billed x y k

unfoldable pub licence_of : List ℕ → List ℕ → ℕ → ℕ → ℕ → ℤ → ℤ → Billed
licence_of s t first last a x y = cond (lawful t) (on_frames t x y (frames_of s first last a)) (billed x y 17)

-- the answer, by what each call tells
module _ (s t : List ℕ) (first last a : ℕ) (x y : ℤ) (b : Bool) (eb : b ≡ lawful t) where
  pub breaks_rules : b ≡ false → billed x y 17 ≡ licence_of s t first last a x y
  unfolding licence_of
  breaks_rules h = rw (← eb, h)

  module _ (h : b ≡ true) (r : Frames) (er : r ≡ frames_of s first last a) where
    keeps : on_frames t x y r ≡ licence_of s t first last a x y
    unfolding licence_of
    keeps = rw (← eb, h, er)

    pub no_sum : (k : ℕ) → r ≡ frames.Refused k → billed x y k ≡ licence_of s t first last a x y
    no_sum k e = ap (on_frames t x y) (sym e) ∙ keeps

    pub no_fee : (n : ℤ) (o : Fee) → r ≡ frames.Sum n → o ≡ fee_of t n → o ≡ fee.Beyond → billed x y 18 ≡ licence_of s t first last a x y
    no_fee n o e eo z = ap (on_fee n x y) (sym z ∙ eo) ∙ ap (on_frames t x y) (sym e) ∙ keeps

    pub sum_and_fee : (n c : ℤ) (o : Fee) → r ≡ frames.Sum n → o ≡ fee_of t n → o ≡ fee.Owed c → billed n c 0 ≡ licence_of s t first last a x y
    sum_and_fee n c o e eo z = ap (on_fee n x y) (sym z ∙ eo) ∙ ap (on_frames t x y) (sym e) ∙ keeps
