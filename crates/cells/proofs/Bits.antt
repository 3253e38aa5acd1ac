-- The bits of a number as a set.
use Rattle.std.specs.Prelude.{◌≡◌, refl, Bool, true, false, not, cond, ◌&&◌, ◌||◌, ℕ, zero, suc, ◌+◌, ◌-◌, ◌*◌, ◌≤◌, ◌<◌, ◌/◌, ◌%◌, ◌^◌, min, max, eqb}
use Rattle.std.proofs.Common.{◌∙◌, suc-mul, lt_of_le_of_lt, arith}
use Rattle.std.proofs.Math.Path.{fun_ext}
use Rattle.std.proofs.Math.Bool.{and_comm}
use Rattle.std.proofs.Math.Decide.{dec_lt}
use Rattle.std.proofs.Math.Numerals.{add-two}
use Rattle.std.proofs.Math.Dec.{eqb-zero-suc, eqb-suc-zero, eqb-suc-suc}
use Rattle.std.specs.Int.Bits.{bit_and, bit_or, and_step, or_step, and_zero_r}
use Rattle.std.proofs.lemmas.Nat.{and_le_l}
use Rattle.std.proofs.Math.Pow.{pow-lt}
use Rattle.sets.specs.Base.{upd2}
use Rattle.sets.specs.Laws.{by_eq}
use Rattle.sets.proofs.Laws.{eqb_yes}
use Rattle.cells.specs.Bits.{tb, tb_not}

pub tb_zero : (k : ℕ) → tb 0 k ≡ false
unfolding tb
tb_zero zero = refl
tb_zero (suc k) = tb_zero k

max_bit : (a b : ℕ) → a < 2 → b < 2 → eqb (max a b) 1 ≡ (eqb a 1 || eqb b 1)
max_bit zero zero p q = refl
max_bit zero (suc zero) p q = refl
max_bit zero (suc (suc b)) p q = absurd (omega arith)
max_bit (suc zero) zero p q = refl
max_bit (suc zero) (suc zero) p q = refl
max_bit (suc zero) (suc (suc b)) p q = absurd (omega arith)
max_bit (suc (suc a)) b p q = absurd (omega arith)

min_bit : (a b : ℕ) → a < 2 → b < 2 → eqb (min a b) 1 ≡ (eqb a 1 && eqb b 1)
min_bit zero zero p q = refl
min_bit zero (suc zero) p q = refl
min_bit zero (suc (suc b)) p q = absurd (omega arith)
min_bit (suc zero) zero p q = refl
min_bit (suc zero) (suc zero) p q = refl
min_bit (suc zero) (suc (suc b)) p q = absurd (omega arith)
min_bit (suc (suc a)) b p q = absurd (omega arith)

pub tb_or : (k x y : ℕ) → tb (bit_or x y) k ≡ (tb x k || tb y k)
unfolding tb
tb_or zero x y =
    let e : bit_or x y % 2 ≡ max (x % 2) (y % 2) = rw (or_step x y) (omega arith) in
    rw e (max_bit (x % 2) (y % 2) (omega arith) (omega arith))
tb_or (suc k) x y =
    let e : bit_or x y / 2 ≡ bit_or (x / 2) (y / 2) = rw (or_step x y) (omega arith) in
    rw e (tb_or k (x / 2) (y / 2))

pub tb_and : (k x y : ℕ) → tb (bit_and x y) k ≡ (tb x k && tb y k)
unfolding tb
tb_and zero x y =
    let e : bit_and x y % 2 ≡ min (x % 2) (y % 2) = rw (and_step x y) (omega arith) in
    rw e (min_bit (x % 2) (y % 2) (omega arith) (omega arith))
tb_and (suc k) x y =
    let e : bit_and x y / 2 ≡ bit_and (x / 2) (y / 2) = rw (and_step x y) (omega arith) in
    rw e (tb_and k (x / 2) (y / 2))

pub tb_pow : (i k : ℕ) → tb (2 ^ i) k ≡ eqb k i
unfolding tb
tb_pow zero zero = refl
tb_pow zero (suc k) = rw (eqb-suc-zero k) (tb_zero k)
tb_pow (suc i) zero = let e : 2 ^ suc i % 2 ≡ 0 = omega arith in rw (e, eqb-zero-suc i)
tb_pow (suc i) (suc k) = let e : 2 ^ suc i / 2 ≡ 2 ^ i = omega arith in rw (e, eqb-suc-suc k i) (tb_pow i k)

-- a set is told by its members
pub tb_tells : (n x y : ℕ) → x < 2 ^ n → y < 2 ^ n → ((k : ℕ) → k < n → tb x k ≡ tb y k) → x ≡ y
unfolding tb
tb_tells zero x y p q h = omega arith
tb_tells (suc n) x y p q h =
    let high : x / 2 ≡ y / 2 = tb_tells n (x / 2) (y / 2) (omega arith) (omega arith) (λ k l. h (suc k) (omega arith)) in
    let low : x % 2 ≡ y % 2 = odd (x % 2) (y % 2) (omega arith) (omega arith) (h zero (omega arith)) in
    omega arith
  where
    odd : (a b : ℕ) → a < 2 → b < 2 → eqb a 1 ≡ eqb b 1 → a ≡ b
    odd zero zero p q e = refl
    odd zero (suc zero) p q e = cc
    odd zero (suc (suc b)) p q e = absurd (omega arith)
    odd (suc zero) zero p q e = cc
    odd (suc zero) (suc zero) p q e = refl
    odd (suc zero) (suc (suc b)) p q e = absurd (omega arith)
    odd (suc (suc a)) b p q e = absurd (omega arith)

-- what the code tests
pub tb_test : (k x : ℕ) → not (eqb (bit_and x (2 ^ k)) 0) ≡ tb x k
unfolding tb
tb_test zero x =
    let e : bit_and x (2 ^ 0) ≡ bit_and (x / 2) 0 * 2 + min (x % 2) 1 = and_step x 1 in
    let z : bit_and (x / 2) 0 ≡ 0 = and_zero_r (x / 2) in
    let w : bit_and x (2 ^ 0) ≡ x % 2 = omega arith in
    rw w (go (x % 2) (omega arith))
  where
    go : (a : ℕ) → a < 2 → not (eqb a 0) ≡ eqb a 1
    go zero p = refl
    go (suc zero) p = refl
    go (suc (suc a)) p = absurd (omega arith)
tb_test (suc k) x =
    let p : 2 ^ suc k / 2 ≡ 2 ^ k = omega arith in
    let q : 2 ^ suc k % 2 ≡ 0 = omega arith in
    let e : bit_and x (2 ^ suc k) ≡ bit_and (x / 2) (2 ^ k) * 2 = and_step x (2 ^ suc k) ∙ rw (p, q) (omega arith) in
    rw e (dbl (bit_and (x / 2) (2 ^ k)) ∙ tb_test k (x / 2))
  where
    dbl : (a : ℕ) → not (eqb (a * 2) 0) ≡ not (eqb a 0)
    dbl zero = refl
    dbl (suc a) = rw (suc-mul a 2, add-two (a * 2), eqb-suc-zero (suc (a * 2)), eqb-suc-zero a)

-- no number that x has no bit for is in it
pub tb_high : (n k x : ℕ) → n ≤ k → x < 2 ^ n → tb x k ≡ false
unfolding tb
tb_high zero k x l h = let e : x ≡ 0 = omega arith in rw e (tb_zero k)
tb_high (suc n) zero x l h = absurd (omega arith)
tb_high (suc n) (suc k) x l h = tb_high n k (x / 2) (omega arith) (omega arith)

-- without the members of d
pub tb_mask : (n x d k : ℕ) → x < 2 ^ n → d < 2 ^ n → tb (bit_and x (2 ^ n - 1 - d)) k ≡ (not (tb d k) && tb x k)
tb_mask n x d k hx hd = go (dec_lt k n)
  where
    go : Dec (k < n) → tb (bit_and x (2 ^ n - 1 - d)) k ≡ (not (tb d k) && tb x k)
    go (yes q) = rw (tb_and k x (2 ^ n - 1 - d), tb_not n k d q hd) (and_comm (tb x k) (not (tb d k)))
    go (no q) =
        let l : n ≤ k = omega arith in
        let m : bit_and x (2 ^ n - 1 - d) < 2 ^ n = lt_of_le_of_lt (and_le_l x (2 ^ n - 1 - d)) hx in
        rw (tb_high n k (bit_and x (2 ^ n - 1 - d)) l m, tb_high n k x l hx, tb_high n k d l hd)

-- one bit set and cleared, in the form of an update
pub tb_set : (x i k : ℕ) → tb (bit_or x (2 ^ i)) k ≡ cond (eqb k i) true (tb x k)
tb_set x i k = rw (tb_or k x (2 ^ i), tb_pow i k) (go (tb x k) (eqb k i))
  where
    go : (a b : Bool) → (a || b) ≡ cond b true a
    go true true = refl
    go true false = refl
    go false true = refl
    go false false = refl

pub tb_clear_all : (n x i k : ℕ) → i < n → x < 2 ^ n → tb (bit_and x (2 ^ n - 1 - 2 ^ i)) k ≡ cond (eqb k i) false (tb x k)
tb_clear_all n x i k p h = tb_mask n x (2 ^ i) k h (pow-lt p) ∙ rw (tb_pow i k) (go (eqb k i))
  where
    go : (b : Bool) → (not b && tb x k) ≡ cond b false (tb x k)
    go true = refl
    go false = refl

-- a set of small numbers for each i: one bit of the number at st becomes b
pub upd2_bit : (D : ℕ → ℕ) (st o y : ℕ) (b : Bool) → ((k : ℕ) → tb y k ≡ cond (eqb k o) b (tb (D st) k))
    → (i q : ℕ) → tb (cond (eqb i st) y (D i)) q ≡ upd2 (λ i q. tb (D i) q) st o b i q
upd2_bit D st o y b h i q = by_eq i st (λ e. rw (e, eqb_yes i st e) (h q)) (λ e. rw e)

pub bit_on : (D : ℕ → ℕ) (st o : ℕ) → ◌≡◌ {A = ℕ → ℕ → Bool} (λ i q. tb (cond (eqb i st) (bit_or (D st) (2 ^ o)) (D i)) q) (upd2 (λ i q. tb (D i) q) st o true)
bit_on D st o = fun_ext (λ i. fun_ext (λ q. upd2_bit D st o (bit_or (D st) (2 ^ o)) true (tb_set (D st) o) i q))

pub bit_off : (n : ℕ) (D : ℕ → ℕ) (st o : ℕ) → o < n → D st < 2 ^ n
    → ◌≡◌ {A = ℕ → ℕ → Bool} (λ i q. tb (cond (eqb i st) (bit_and (D st) (2 ^ n - 1 - 2 ^ o)) (D i)) q) (upd2 (λ i q. tb (D i) q) st o false)
bit_off n D st o l h =
    fun_ext (λ i. fun_ext (λ q. upd2_bit D st o (bit_and (D st) (2 ^ n - 1 - 2 ^ o)) false (λ k. tb_clear_all n (D st) o k l h) i q))
