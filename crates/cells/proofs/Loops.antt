-- What loops build: whether one passes, a mask, a count.
use Rattle.std.specs.Prelude.{◌≡◌, refl, Bool, true, false, cond, ◌&&◌, ◌||◌, ℕ, zero, suc, ◌/◌, ◌%◌, ◌≤◌, ◌<◌, ◌^◌, eqb, ltb}
use Rattle.std.proofs.Common.{sym, ◌∙◌, add_comm, arith, pow_pos, lt-ltb, le-ltb}
use Rattle.std.proofs.Math.Bool.{and-true, and-false, or-true, or-false}
use Rattle.std.proofs.lemmas.Nat.{or_lt}
use Rattle.std.specs.Int.Count.{ones, ones_step}
use Rattle.sets.specs.Base.{any}
use Rattle.sets.specs.Laws.{by_b, by_eq}
use Rattle.sets.proofs.Laws.{eqb_yes, eqb_no}
use Rattle.sets.specs.Size.{size}
use Rattle.sets.proofs.Size.{size_most, size_first}
use Rattle.cells.proofs.Upd.{ltb_suc}
use Rattle.cells.specs.Bits.{tb}
use Rattle.cells.proofs.Bits.{tb_zero, tb_or, tb_pow}
use Rattle.cells.specs.Loops.{any_to, mask_to, rank}

pub any_suc : (n : ℕ) (f : ℕ → Bool) → any (suc n) f ≡ (any n f || f n)
any_suc n f = by_b (f n) (λ t. rw (t, any, or-true)) (λ t. rw (t, any, or-false))

pub any_to_lem : (f g : ℕ → Bool) (n : ℕ) → ((i : ℕ) → i < n → f i ≡ g i) → any_to f n ≡ any n g
unfolding any_to
any_to_lem f g zero h = refl
any_to_lem f g (suc n) h = rw (any_to_lem f g n (λ i l. h i (omega arith)), h n (omega arith)) (sym (any_suc n g))

-- tests that agree below n
pub any_same : (f g : ℕ → Bool) (n : ℕ) → ((i : ℕ) → i < n → f i ≡ g i) → any n f ≡ any n g
any_same f g n h = sym (any_to_lem f f n (λ i l. refl)) ∙ any_to_lem f g n h

pub mask_is : (f : ℕ → Bool) (n p : ℕ) → tb (mask_to f n) p ≡ (ltb p n && f p)
unfolding mask_to
mask_is f zero p = rw (tb_zero p, le-ltb p 0 (omega arith))
mask_is f (suc n) p =
    rw (tb_or p (mask_to f n) (cond (f n) (2 ^ n) 0), mask_is f n p, one (f n))
    (by_eq p n
    (λ e. rw (e, eqb_yes p n e, le-ltb n n (omega arith), lt-ltb n (suc n) (omega arith), and-true))
    (λ e. rw (e, ltb_suc p n (eqb_no p n e), and-false, or-false)))
  where
    one : (b : Bool) → tb (cond b (2 ^ n) 0) p ≡ (b && eqb p n)
    one true = tb_pow n p
    one false = tb_zero p

pub mask_lt : (f : ℕ → Bool) (n : ℕ) → mask_to f n < 2 ^ n
unfolding mask_to
mask_lt f zero = omega arith
mask_lt f (suc n) = or_lt (suc n) (mask_to f n) (cond (f n) (2 ^ n) 0) (omega (arith, mask_lt f n)) (one (f n))
  where
    one : (b : Bool) → cond b (2 ^ n) 0 < 2 ^ suc n
    one true = omega (arith, pow_pos n)
    one false = omega (arith, pow_pos n)

pub mask_same : (f g : ℕ → Bool) (n : ℕ) → ((i : ℕ) → i < n → f i ≡ g i) → mask_to f n ≡ mask_to g n
unfolding mask_to
mask_same f g zero h = refl
mask_same f g (suc n) h = rw (mask_same f g n (λ i l. h i (omega arith)), h n (omega arith))

pub rank_size : (f : ℕ → Bool) (n : ℕ) → rank f n ≡ size n f
unfolding rank size
rank_size f zero = refl
rank_size f (suc n) = rw (rank_size f n) (add_comm (size n f) (cond (f n) 1 0))

pub rank_most : (f : ℕ → Bool) (n : ℕ) → rank f n ≤ n
rank_most f n = rw (rank_size f n) (size_most n f)

pub rank_same : (f g : ℕ → Bool) (n : ℕ) → ((i : ℕ) → i < n → f i ≡ g i) → rank f n ≡ rank g n
unfolding rank
rank_same f g zero h = refl
rank_same f g (suc n) h = rw (rank_same f g n (λ i l. h i (omega arith)), h n (omega arith))

none_set : ones 0 ≡ 0
unfolding ones
none_set = refl

bit_counts : (r : ℕ) → r < 2 → cond (eqb r 1) 1 0 ≡ r
bit_counts zero l = refl
bit_counts (suc zero) l = refl
bit_counts (suc (suc r)) l = absurd (omega arith)

pub ones_size : (n x : ℕ) → x < 2 ^ n → ones x ≡ size n (tb x)
unfolding size tb
ones_size zero x l = let e : x ≡ 0 = omega arith in rw (e, none_set)
ones_size (suc n) x l =
    let rest : ones (x / 2) ≡ size n (tb (x / 2)) = ones_size n (x / 2) (omega arith) in
    ones_step x ∙ rw rest (omega (arith, bit_counts (x % 2) (omega arith), size_first n (tb x)))
