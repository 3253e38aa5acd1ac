-- Sets of addresses kept as a byte for each page of eight objects: address a is object a % 8 of page a / 8.
use Rattle.std.specs.Prelude.{◌≡◌, Bool, cond, ℕ, ◌/◌, ◌%◌, eqb}
use Rattle.std.proofs.Math.Path.{fun_ext}
use Rattle.sets.specs.Laws.{by_eq}
use Rattle.cells.specs.Bits.{tb}

-- a whole byte changed
pub bits_byte : (D : ℕ → ℕ) (p y : ℕ)
    → ◌≡◌ {A = ℕ → Bool} (λ a. tb (cond (eqb (a / 8) p) y (D (a / 8))) (a % 8)) (λ a. cond (eqb (a / 8) p) (tb y (a % 8)) (tb (D (a / 8)) (a % 8)))
bits_byte D p y = fun_ext (λ a. by_eq (a / 8) p (λ e. rw e) (λ e. rw e))
