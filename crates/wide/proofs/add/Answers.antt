-- `wide::add` meets its contract.
use Rattle.std.proofs.Common.{ℕ, ◌≡◌, ◌≤◌, ◌<◌, ◌^◌, Bool, true, false, arith}
use Rattle.std.specs.Bool.{FalseIff}
use Rattle.wide.specs.Wide.{words}
use Rattle.wide.proofs.add.Goals as goal

carried : (t : Bool) (x : ℕ) → t ≡ true → FalseIff t (x < 2 ^ 64) → 2 ^ 64 ≤ x
carried true x e h = omega (arith, h)
carried false x e h = let z : ◌≡◌ {A = ℕ} 0 1 = cc in absurd (omega arith)

fits : (t : Bool) (x : ℕ) → t ≡ false → FalseIff t (x < 2 ^ 64) → x < 2 ^ 64
fits false x e h = h
fits true x e h = let z : ◌≡◌ {A = ℕ} 0 1 = cc in absurd (omega arith)

pub returns-then-carry : goal.returns-then-carry
unfolding words
returns-then-carry c =
    let h = carried _ _ c.if-carry.true c.overflowing_add-lo.ensures.overflow in
    (omega (arith, h, c.overflowing_add-lo.ensures.value), omega arith)

pub returns : goal.returns
unfolding words
returns c =
    let h = fits _ _ c.if-carry.false c.overflowing_add-lo.ensures.overflow in
    (omega (arith, h, c.overflowing_add-lo.ensures.value), omega arith)
