-- A change for each member of a set of bits, the lowest first: as a loop takes the members one by one.
use Prim.Native.Nat.{ℕ, zero, suc, ◌+◌, ◌-◌, ◌*◌, ◌/◌, ◌%◌, ◌^◌, ◌≤◌, ◌<◌}
use Rattle.std.specs.Prelude.{◌≡◌, ◌≢◌, Bool, false, cond, List}
use Rattle.std.proofs.Math.Path.{refl}
use Rattle.std.proofs.Common.{sym, ◌∙◌, arith}
use Rattle.std.specs.Int.Bits.{bit_and}
use Rattle.std.specs.Int.Count.{count_trailing_zeros}
use Rattle.sets.specs.Laws.{by_b, by_eq}
use Rattle.sets.proofs.Laws.{eqb_yes, eqb_no}
use Rattle.cells.specs.Bits.{tb}
use Rattle.cells.proofs.Bits.{tb_zero}
use Rattle.cells.proofs.Lowest.{low_in, low_lt, low_below, rest_is, rest_lt}
use Rattle.cells.specs.Each.{each_to}

module _ (f : List ℕ → ℕ → List ℕ) where
  -- none of the first n is a member
  each_none : (s : List ℕ) (x n : ℕ) → ((k : ℕ) → k < n → tb x k ≡ false) → each_to f x s n ≡ s
  unfolding each_to
  each_none s x zero h = refl
  each_none s x (suc n) h = rw (h n (omega arith)) (each_none s x n (λ k l. h k (omega arith)))

  module _ (w : ℕ) (s : List ℕ) (x : ℕ) (l : x < 2 ^ w) (z : x ≢ 0) where
    abbrev low : ℕ
    low = count_trailing_zeros w x

    abbrev rest : ℕ
    rest = bit_and x (x - 1)

    -- up to the lowest none is left
    rest_none : (k : ℕ) → k ≤ low → tb rest k ≡ false
    rest_none k q =
        by_eq k low (λ e. rest_is w x l z k ∙ rw e refl) (λ e. rest_is w x l z k ∙ rw (e, low_below w x k (omega (arith, q, eqb_no k low e))) refl)

    each_low : each_to f x s (suc low) ≡ each_to f rest (f s low) (suc low)
    unfolding each_to
    each_low =
        rw (each_none s x low (low_below w x), low_in w x l z) (sym (each_none (f s low) rest (suc low) (λ k q. rest_none k (omega arith))))

    -- the lowest, and then the rest
    each_rest : (n : ℕ) → low < n → each_to f x s n ≡ each_to f rest (f s low) n
    unfolding each_to
    each_rest zero q = absurd (omega arith)
    each_rest (suc n) q =
        by_eq n low
        (λ e. rw (eqb_yes n low e) each_low)
        (λ e. rw (each_rest n (omega (arith, q, eqb_no n low e)), rest_is w x l z n, e) refl)

  -- with the members of x, which are left, t becomes e
  abbrev pub Leads : ℕ → ℕ → List ℕ → List ℕ → Type 0
  Leads n x t e = (x < 2 ^ n) × (each_to f x t n ≡ e)

  pub each_next : (n : ℕ) (t : List ℕ) {x k : ℕ} {u e : List ℕ} → x ≢ 0 → k ≡ count_trailing_zeros n x → u ≡ f t k → Leads n x t e → Leads n (bit_and x (x - 1)) u e
  each_next n t {x} z ek eu h = (rest_lt n x h.0 z, rw (eu, ek) (sym (each_rest n t x h.0 z n (low_lt n x h.0 z)) ∙ h.1))

  pub each_last : (n : ℕ) (t : List ℕ) {x : ℕ} {e : List ℕ} → x ≡ 0 → Leads n x t e → t ≡ e
  each_last n t {x} z h = sym (each_none t x n (λ k l. rw z (tb_zero k))) ∙ h.1

-- A DEFINITION THAT ASKS THE STATE at each number whether it is a member: m, which f does not change
module _ (f : List ℕ → ℕ → List ℕ) (m : List ℕ → ℕ → Bool) (x n : ℕ) (to : ℕ → List ℕ)
    (next : (k : ℕ) → k < n → to (suc k) ≡ cond (m (to k) k) (f (to k) k) (to k))
    (keeps : (t : List ℕ) (k j : ℕ) → k < n → j < n → m (f t k) j ≡ m t j)
    (first : (k : ℕ) → k < n → m (to 0) k ≡ tb x k) where
  members : (k : ℕ) → k ≤ n → (j : ℕ) → j < n → m (to k) j ≡ tb x j
  members zero l j q = first j q
  members (suc k) l j q =
      rw (next k (omega arith))
      (by_b (m (to k) k)
      (λ e. rw e (keeps (to k) k j (omega arith) q ∙ members k (omega arith) j q))
      (λ e. rw e (members k (omega arith) j q)))

  pub each_is : (k : ℕ) → k ≤ n → each_to f x (to 0) k ≡ to k
  unfolding each_to
  each_is zero l = refl
  each_is (suc k) l = rw (each_is k (omega arith), next k (omega arith), members k (omega arith) k (omega arith)) refl

-- the addresses of word g of a set of 256, whose words are w
pub each_word : (f : List ℕ → ℕ → List ℕ) (m : List ℕ → ℕ → Bool) (w : ℕ → ℕ) (g : ℕ) (to : ℕ → List ℕ) → g < 4
    → ((k : ℕ) → to (suc k) ≡ cond (m (to k) (g * 64 + k)) (f (to k) (g * 64 + k)) (to k))
    → ((t : List ℕ) (a b : ℕ) → a < 256 → b < 256 → m (f t a) b ≡ m t b)
    → ((a : ℕ) → a < 256 → m (to 0) a ≡ tb (w (a / 64)) (a % 64))
    → (n : ℕ) → n ≤ 64 → each_to (λ t k. f t (g * 64 + k)) (w g) (to 0) n ≡ to n
each_word f m w g to l next keeps first =
    each_is (λ t k. f t (g * 64 + k)) (λ t k. m t (g * 64 + k)) (w g) 64 to (λ k q. next k)
    (λ t k j a b. keeps t (g * 64 + k) (g * 64 + j) (omega arith) (omega arith))
    (λ k q.
    let word : (g * 64 + k) / 64 ≡ g = omega arith in
    let bit : (g * 64 + k) % 64 ≡ k = omega arith in
    first (g * 64 + k) (omega arith) ∙ rw (word, bit) refl)
