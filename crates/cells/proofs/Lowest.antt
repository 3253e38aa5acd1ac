-- The lowest member of a set of bits, and the set without it: as members are taken one by one.
use Rattle.std.specs.Prelude.{ℕ, zero, suc, ◌-◌, ◌*◌, ◌/◌, ◌%◌, ◌^◌, ◌≤◌, ◌<◌, ◌≡◌, refl, ◌≢◌, true, false, not, ◌&&◌, eqb}
use Rattle.std.proofs.Common.{sym, ◌∙◌, arith}
use Rattle.std.proofs.lemmas.Bool.{false≢true}
use Rattle.std.proofs.Math.Decide.{dec_lt}
use Rattle.std.proofs.Math.Dec.{eqb-zero-suc, eqb-suc-zero, eqb-suc-suc}
use Rattle.std.specs.Int.Bits.{bit_and, and_step, and_self}
use Rattle.std.proofs.lemmas.Nat.{and_le_r}
use Rattle.std.specs.Int.Count.{under, count_trailing_zeros, trailing_of_zero}
use Rattle.sets.specs.Laws.{by_eq}
use Rattle.sets.proofs.Laws.{eqb_yes, eqb_no}
use Rattle.cells.specs.Bits.{tb}
use Rattle.cells.proofs.Bits.{tb_high}

low_by : (n x d : ℕ) → x % 2 ≡ d → x ≢ 0 → (x / 2 ≢ 0 → tb (x / 2) (count_trailing_zeros n (x / 2)) ≡ true) → tb x (under d (count_trailing_zeros n (x / 2))) ≡ true
unfolding tb
low_by n x zero e z h = h (λ y. z (omega (arith, e, y)))
low_by n x (suc zero) e z h = rw e refl
low_by n x (suc (suc d)) e z h = absurd (omega arith)

pub low_in : (n x : ℕ) → x < 2 ^ n → x ≢ 0 → tb x (count_trailing_zeros n x) ≡ true
unfolding count_trailing_zeros
low_in zero x l z = absurd (z (omega arith))
low_in (suc n) x l z = low_by n x (x % 2) refl z (λ y. low_in n (x / 2) (omega arith) y)

pub low_lt : (n x : ℕ) → x < 2 ^ n → x ≢ 0 → count_trailing_zeros n x < n
low_lt n x l z = go (dec_lt (count_trailing_zeros n x) n)
  where
    go : Dec (count_trailing_zeros n x < n) → count_trailing_zeros n x < n
    go (yes q) = q
    go (no q) = absurd (false≢true (sym (tb_high n (count_trailing_zeros n x) x (omega arith) l) ∙ low_in n x l z))

below_by : (n x d k : ℕ) → x % 2 ≡ d → ((j : ℕ) → j < count_trailing_zeros n (x / 2) → tb (x / 2) j ≡ false) → k < under d (count_trailing_zeros n (x / 2)) → tb x k ≡ false
unfolding tb
below_by n x zero zero e h l = rw e refl
below_by n x zero (suc k) e h l = h k (omega arith)
below_by n x (suc d) k e h l = absurd (omega arith)

-- nothing is below it
pub low_below : (n x k : ℕ) → k < count_trailing_zeros n x → tb x k ≡ false
unfolding count_trailing_zeros
low_below zero x k l = absurd (omega arith)
low_below (suc n) x k l = below_by n x (x % 2) k refl (λ j q. low_below n (x / 2) j q) l

-- x & (x - 1) is x without it
even : (x : ℕ) → x % 2 ≡ 0 → x ≢ 0 → bit_and x (x - 1) ≡ bit_and (x / 2) (x / 2 - 1) * 2
even x e z =
    let p : (x - 1) / 2 ≡ x / 2 - 1 = omega (arith, e, z) in
    let q : (x - 1) % 2 ≡ 1 = omega (arith, e, z) in
    and_step x (x - 1) ∙ rw (p, q, e) (omega arith)

odd : (x : ℕ) → x % 2 ≡ 1 → bit_and x (x - 1) ≡ x / 2 * 2
odd x e =
    let p : (x - 1) / 2 ≡ x / 2 = omega (arith, e) in
    let q : (x - 1) % 2 ≡ 0 = omega (arith, e) in
    and_step x (x - 1) ∙ rw (p, q, e, and_self (x / 2)) (omega arith)

rest_by : (n x d o : ℕ) → x % 2 ≡ d → x ≢ 0
    → ((k : ℕ) → x / 2 ≢ 0 → tb (bit_and (x / 2) (x / 2 - 1)) k ≡ (not (eqb k (count_trailing_zeros n (x / 2))) && tb (x / 2) k))
    → tb (bit_and x (x - 1)) o ≡ (not (eqb o (under d (count_trailing_zeros n (x / 2)))) && tb x o)
unfolding tb
rest_by n x zero zero e z h =
    let m : bit_and x (x - 1) % 2 ≡ 0 = omega (arith, even x e z) in
    rw (m, e, eqb-zero-suc (count_trailing_zeros n (x / 2))) refl
rest_by n x zero (suc o) e z h =
    let m : bit_and x (x - 1) / 2 ≡ bit_and (x / 2) (x / 2 - 1) = omega (arith, even x e z) in
    rw (m, eqb-suc-suc o (count_trailing_zeros n (x / 2))) (h o (λ y. z (omega (arith, e, y))))
rest_by n x (suc zero) zero e z h =
    let m : bit_and x (x - 1) % 2 ≡ 0 = omega (arith, odd x e) in
    rw m refl
rest_by n x (suc zero) (suc o) e z h =
    let m : bit_and x (x - 1) / 2 ≡ x / 2 = omega (arith, odd x e) in
    rw (m, eqb-suc-zero o) refl
rest_by n x (suc (suc d)) o e z h = absurd (omega arith)

pub rest_is : (n x : ℕ) → x < 2 ^ n → x ≢ 0 → (o : ℕ) → tb (bit_and x (x - 1)) o ≡ (not (eqb o (count_trailing_zeros n x)) && tb x o)
unfolding count_trailing_zeros
rest_is zero x l z o = absurd (z (omega arith))
rest_is (suc n) x l z o = rest_by n x (x % 2) o refl z (λ k y. rest_is n (x / 2) (omega arith) y k)

pub rest_less : (x : ℕ) → x ≢ 0 → bit_and x (x - 1) < x
rest_less x z = omega (arith, z, and_le_r x (x - 1))

-- the lowest of the rest is above it
module _ (n x : ℕ) (l : x < 2 ^ n) (z : x ≢ 0) where
  pub rest_lt : bit_and x (x - 1) < 2 ^ n
  rest_lt = omega (arith, l, rest_less x z)

  stays : (o : ℕ) → tb (bit_and x (x - 1)) o ≡ true → (o ≢ count_trailing_zeros n x) × (tb x o ≡ true)
  stays o t =
      by_eq o (count_trailing_zeros n x)
      (λ e. absurd (false≢true (sym (rest_is n x l z o ∙ rw e refl) ∙ t)))
      (λ e. (eqb_no o (count_trailing_zeros n x) e, sym (rest_is n x l z o ∙ rw e refl) ∙ t))

  past : (o : ℕ) → tb x o ≡ true → Dec (o < count_trailing_zeros n x) → count_trailing_zeros n x ≤ o
  past o t (yes q) = absurd (false≢true (sym (low_below n x o q) ∙ t))
  past o t (no q) = omega arith

  pub rest_above : count_trailing_zeros n x < count_trailing_zeros n (bit_and x (x - 1))
  rest_above =
      by_eq (bit_and x (x - 1)) 0
      (λ e. rw (eqb_yes (bit_and x (x - 1)) 0 e, trailing_of_zero n) (low_lt n x l z))
      (λ e.
      let o = count_trailing_zeros n (bit_and x (x - 1)) in
      let k = stays o (low_in n (bit_and x (x - 1)) rest_lt (eqb_no (bit_and x (x - 1)) 0 e)) in
      omega (arith, k.0, past o k.1 (dec_lt o (count_trailing_zeros n x))))
