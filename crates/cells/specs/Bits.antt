-- The bits of a number as a set.
use Rattle.std.specs.Prelude.{◌≡◌, refl, Bool, not, ℕ, zero, suc, ◌-◌, ◌<◌, ◌/◌, ◌%◌, ◌^◌, eqb}
use Rattle.std.proofs.Common.{arith, pow_pos}

-- k is in the set x
unfoldable pub tb : ℕ → ℕ → Bool
tb x zero = eqb (x % 2) 1
tb x (suc k) = tb (x / 2) k

-- the numbers that are not in x, below n
pub tb_not : (n k x : ℕ) → k < n → x < 2 ^ n → tb (2 ^ n - 1 - x) k ≡ not (tb x k)
unfolding tb
tb_not zero k x l h = absurd (omega arith)
tb_not (suc n) zero x l h =
    let e : (2 ^ suc n - 1 - x) % 2 ≡ 1 - x % 2 = omega (arith, pow_pos n) in
    rw e (go (x % 2) (omega arith))
  where
    go : (a : ℕ) → a < 2 → eqb (1 - a) 1 ≡ not (eqb a 1)
    go zero p = refl
    go (suc zero) p = refl
    go (suc (suc a)) p = absurd (omega arith)
tb_not (suc n) (suc k) x l h =
    let e : (2 ^ suc n - 1 - x) / 2 ≡ 2 ^ n - 1 - x / 2 = omega (arith, pow_pos n) in
    rw e (tb_not n k (x / 2) (omega arith) (omega arith))
