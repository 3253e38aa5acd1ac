-- What the tests on indices mean.
use Rattle.std.specs.Prelude.{◌≡◌, refl, Bool, true, false, ◌||◌, ℕ, eqb}

pub by_b : {G : Type 0} (b : Bool) → (b ≡ true → G) → (b ≡ false → G) → G
by_b true t f = t refl
by_b false t f = f refl

pub by_eq : {G : Type 0} (i j : ℕ) → (eqb i j ≡ true → G) → (eqb i j ≡ false → G) → G
by_eq i j t f = by_b (eqb i j) t f

pub or_yes : {G : Type 0} (a b : Bool) → (a || b) ≡ true → (a ≡ true → G) → (b ≡ true → G) → G
or_yes true b e l r = l refl
or_yes false b e l r = r e
