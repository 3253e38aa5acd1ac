-- A message's own effect over bytes means document 01's, kind by kind; and so does the test whether it is expected.
use Prim.Native.Nat.{ℕ, suc, ◌/◌, ◌%◌, ◌≤◌}
use Rattle.std.specs.Prelude.{◌≡◌, Bool, true, ◌&&◌, eqb}
use Rattle.std.proofs.Math.Path.{refl}
use Rattle.std.proofs.Math.Bool.{false, cond, and-false}
use native.Mathlib.Omega.{arith}
use Rattle.sets.specs.Laws.{by_eq}
use Rattle.sets.proofs.Laws.{eqb_yes, eqb_no}
use Rattle.cells.specs.Bits.{tb}
use Rattle.cells.proofs.Bits.{tb_zero}

-- the number, or a larger one
or_more : {G : Type 0} (n k : ℕ) → n ≤ k → (k ≡ n → G) → (suc n ≤ k → G) → G
or_more n k l f g = by_eq k n (λ e. f (eqb_yes k n e)) (λ e. g (omega (arith, eqb_no k n e)))

-- the kinds that the server takes
pub by_kind : {G : Type 0} (k : ℕ) → 1 ≤ k → k ≤ 8 → (k ≡ 1 → G) → (k ≡ 2 → G) → (k ≡ 3 → G) → (k ≡ 4 → G) → (k ≡ 5 → G) → (k ≡ 6 → G) → (k ≡ 7 → G) → (k ≡ 8 → G) → G
by_kind k from to f1 f2 f3 f4 f5 f6 f7 f8 =
    or_more 1 k from f1
    (λ l. or_more 2 k l f2
    (λ l. or_more 3 k l f3
    (λ l. or_more 4 k l f4 (λ l. or_more 5 k l f5 (λ l. or_more 6 k l f6 (λ l. or_more 7 k l f7 (λ l. f8 (omega arith))))))))

-- "its set is locked only if that transaction is unfinished": f and t tell whether it is so
pub heeded_set : (f t : Bool) (p set a : ℕ) → (eqb (a / 8) p && tb (cond (f && t) set 0) (a % 8)) ≡ (f && t && (eqb (a / 8) p && tb set (a % 8)))
heeded_set true true p set a = refl
heeded_set true false p set a = rw (tb_zero (a % 8)) (and-false (eqb (a / 8) p))
heeded_set false t p set a = rw (tb_zero (a % 8)) (and-false (eqb (a / 8) p))
