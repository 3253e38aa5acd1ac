-- The station's step: a message that is delivered means the model's, kind by kind, and any other is refused with its number.
use Prim.Native.Nat.{ℕ, suc, ◌≤◌}
use Rattle.std.specs.Prelude.{◌≡◌}
use Rattle.std.proofs.Common.{arith}
use Rattle.sets.specs.Laws.{by_eq}
use Rattle.sets.proofs.Laws.{eqb_yes, eqb_no}
use Rattle.line.specs.Messages.{Lock, NoLock, ObjectLock, WholeLock}

-- the number, or a larger one
pub or_more : {G : Type 0} (n k : ℕ) → n ≤ k → (k ≡ n → G) → (suc n ≤ k → G) → G
or_more n k l f g = by_eq k n (λ e. f (eqb_yes k n e)) (λ e. g (omega (arith, eqb_no k n e)))

-- the kinds that a station takes
pub by_kind : {G : Type 0} (k : ℕ) → 16 ≤ k → k ≤ 23 → (k ≡ 16 → G) → (k ≡ 17 → G) → (k ≡ 18 → G) → (k ≡ 19 → G) → (k ≡ 20 → G) → (k ≡ 21 → G) → (k ≡ 22 → G) → (k ≡ 23 → G) → G
by_kind k from to f16 f17 f18 f19 f20 f21 f22 f23 =
    or_more 16 k from f16
    (λ l. or_more 17 k l f17
    (λ l. or_more 18 k l f18
    (λ l. or_more 19 k l f19 (λ l. or_more 20 k l f20 (λ l. or_more 21 k l f21 (λ l. or_more 22 k l f22 (λ l. f23 (omega arith))))))))

-- the kind that brings a page with this lock
abbrev pub kind_for : Lock → ℕ
kind_for NoLock = 16
kind_for ObjectLock = 17
kind_for WholeLock = 18
