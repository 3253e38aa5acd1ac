-- The members of a set one by one, the lowest first: as the stations that owe a 7 are looked at.
use Rattle.std.specs.Prelude.{ℕ, zero, suc, ◌-◌, ◌^◌, ◌≤◌, ◌<◌, ◌≡◌, ◌≢◌, Bool, false, ◌&&◌, List}
use Rattle.std.proofs.Math.Path.{sym}
use Rattle.std.proofs.Common.{ap, ◌∙◌, ⊎_elim, eq-or-lt_of_le, arith, ne_eqb}
use Rattle.std.proofs.Math.Bool.{true, and-true}
use Rattle.std.proofs.lemmas.Bool.{false≢true}
use Rattle.std.specs.Int.Bits.{bit_and}
use Rattle.std.specs.Int.Count.{count_trailing_zeros, trailing_of_zero}
use Rattle.lists.specs.Tests.{all_to, all_to_of}
use Rattle.sets.specs.Laws.{by_eq}
use Rattle.sets.proofs.Laws.{eqb_yes}
use Rattle.cells.specs.Bits.{tb}
use Rattle.cells.proofs.Bits.{tb_test, tb_zero}
use Rattle.station_state.specs.Layout.{has_bit}
use Rattle.server_state.specs.Layout.{pend_of}
use Rattle.server_state.specs.Valid.{owes_at}
use Rattle.cells.proofs.Lowest.{low_below, rest_is, rest_lt, rest_above}

-- a set that has nothing but its lowest member has one
pub one_member : (n x : ℕ) → x < 2 ^ n → x ≢ 0 → bit_and x (x - 1) ≡ 0 → (j k : ℕ) → tb x j ≡ true → tb x k ≡ true → j ≡ k
one_member n x l z e j k a b = lowest j a ∙ sym (lowest k b)
  where
    lowest : (o : ℕ) → tb x o ≡ true → o ≡ count_trailing_zeros n x
    lowest o t =
        by_eq o (count_trailing_zeros n x) (eqb_yes o (count_trailing_zeros n x))
        (λ f. absurd (false≢true (sym (tb_zero o) ∙ ap (λ y. tb y o) (sym e) ∙ rest_is n x l z o ∙ rw (f, t))))

-- what passes from m on adds nothing
all_between : (f : ℕ → Bool) (m n : ℕ) → m ≤ n → ((k : ℕ) → m ≤ k → k < n → f k ≡ true) → all_to f n ≡ all_to f m
unfolding all_to
all_between f m zero l h = let none : m ≡ 0 = omega arith in rw none
all_between f m (suc n) l h =
    ⊎_elim (λ e. ap (all_to f) (sym e))
    (λ q. rw (h n (omega arith) (omega arith), and-true) (all_between f m n (omega arith) (λ k a b. h k a (omega arith)))) (eq-or-lt_of_le l)

-- x has the members of y from its own lowest on
abbrev pub From : ℕ → ℕ → Type 0
From y x = (k : ℕ) → count_trailing_zeros 8 x ≤ k → tb y k ≡ tb x k

module _ (s : List ℕ) (i : ℕ) where
  -- who owes nothing passes
  owes_not : (j : ℕ) → tb (pend_of s i) j ≡ false → owes_at s i j ≡ true
  unfolding owes_at has_bit
  owes_not j e = rw (tb_test j (pend_of s i), e)

  pub owes_first : true ≡ all_to (owes_at s i) (count_trailing_zeros 8 (pend_of s i))
  owes_first = sym (all_to_of (owes_at s i) (count_trailing_zeros 8 (pend_of s i)) (λ k l. owes_not k (low_below 8 (pend_of s i) k l)))

  -- the lowest is looked at; between it and the next nobody owes
  pub owes_next : {x j : ℕ} {ok r : Bool} → x < 256 → x ≢ 0 → j ≡ count_trailing_zeros 8 x → r ≡ owes_at s i j → ok ≡ all_to (owes_at s i) (count_trailing_zeros 8 x) → From (pend_of s i) x
      → (bit_and x (x - 1) < 256) × ((ok && r) ≡ all_to (owes_at s i) (count_trailing_zeros 8 (bit_and x (x - 1)))) × From (pend_of s i) (bit_and x (x - 1))
  unfolding all_to
  owes_next {x} l z ej er ek h =
      let y = bit_and x (x - 1) in
      let m = count_trailing_zeros 8 x in
      let above = rest_above 8 x l z in
      let rest : (k : ℕ) → m < k → tb (pend_of s i) k ≡ tb y k = λ k q. h k (omega arith) ∙ sym (rest_is 8 x l z k ∙ rw (ne_eqb k m (λ e. omega arith))) in
      let none : (k : ℕ) → m < k → k < count_trailing_zeros 8 y → owes_at s i k ≡ true = λ k a b. owes_not k (rest k a ∙ low_below 8 y k b) in
      (rest_lt 8 x l z, rw (ek, er, ej) (sym (all_between (owes_at s i) (suc m) (count_trailing_zeros 8 y) above none)), λ k q. rest k (omega (arith, above)))

  pub owes_last : {x : ℕ} {ok : Bool} → x ≡ 0 → ok ≡ all_to (owes_at s i) (count_trailing_zeros 8 x) → ok ≡ all_to (owes_at s i) 8
  owes_last z h = h ∙ rw (z, trailing_of_zero 8)
