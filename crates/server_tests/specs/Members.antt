-- The members of a set one by one, the lowest first: as objects of a page and pages of a message are looked at.
use Rattle.std.specs.Prelude.{ℕ, zero, suc, ◌+◌, ◌-◌, ◌*◌, ◌^◌, ◌<◌, ◌≡◌, ◌≢◌, Bool, ◌&&◌, ◌||◌, List, eqb}
use Rattle.std.proofs.Math.Path.{refl, sym, ap, ap₂}
use Rattle.std.proofs.Common.{◌∙◌, lt_of_le_of_lt, arith, ne_eqb}
use Rattle.std.proofs.Math.Bool.{true, false, not, or-false, or_assoc}
use Rattle.std.specs.Int.Bits.{bit_and, bit_or}
use Rattle.std.proofs.lemmas.Nat.{and_le_l, or_lt}
use Rattle.std.specs.Int.Count.{count_trailing_zeros}
use Rattle.sets.specs.Base.{any}
use Rattle.sets.specs.Laws.{by_b, by_eq}
use Rattle.sets.proofs.Laws.{eqb_same, eqb_yes, eqb_no, any_ext}
use Rattle.le.specs.Le.{u64_at}
use Rattle.cells.specs.Bits.{tb}
use Rattle.cells.proofs.Bits.{tb_zero, tb_or, tb_tells}
use Rattle.cells.proofs.Lowest.{low_in, low_lt, rest_is, rest_lt}
use Rattle.cells.specs.Loops.{any_to}
use Rattle.cells.proofs.Loops.{any_to_lem, any_suc, any_same}
use Rattle.server_state.specs.Layout.{lock_from, written_set, wanted_on}
use Rattle.server_tests.specs.Tests.{drops_locked_b, drops_own_b, locked_at_b, locked_on_b}
use Rattle.server_tests.specs.Blockers.{join_to, join_is, join_lt, any_none, bit_is, holder_at, holder_lt, holders_on}
use Rattle.server_tests.specs.Alone.{join_none}

-- one of many, and the others
any_out : (n k : ℕ) (g : ℕ → Bool) → k < n → any n g ≡ (g k || any n (λ o. not (eqb o k) && g o))
any_out zero k g l = absurd (omega arith)
any_out (suc n) k g l =
    by_eq k n
    (λ e.
    let z : k ≡ n = eqb_yes k n e in
    any_suc n g ∙ rw (z, any_suc n (λ o. not (eqb o n) && g o), eqb_same n, or-false)
    (swap (any n g) (g n) ∙ ap (λ b. g n || b) (any_same g (λ o. not (eqb o n) && g o) n (λ o m. rw (ne_eqb o n (λ y. omega (arith, y)))))))
    (λ e.
    let z : k ≢ n = eqb_no k n e in
    any_suc n g ∙ rw (any_out n k g (omega (arith, z)), any_suc n (λ o. not (eqb o k) && g o), ne_eqb n k (λ y. z (sym y)))
    (or_assoc (g k) (any n (λ o. not (eqb o k) && g o)) (g n)))
  where
    swap : (a b : Bool) → (a || b) ≡ (b || a)
    swap true true = refl
    swap true false = refl
    swap false true = refl
    swap false false = refl

-- WHAT IS LEFT

-- r tells whether one of n passes f, but for the members of x
unfoldable pub LeftB : ℕ → (ℕ → Bool) → ℕ → Bool → Type 0
LeftB n f x r = any n f ≡ (r || any n (λ o. tb x o && f o))

module _ (n : ℕ) (f : ℕ → Bool) where
  within : (x : ℕ) → ((o : ℕ) → tb x o ≡ false → f o ≡ false) → (o : ℕ) → f o ≡ (tb x o && f o)
  within x h o = by_b (tb x o) (λ t. rw t) (λ t. rw (t, h o t))

  left_all : (x : ℕ) → ((o : ℕ) → tb x o ≡ false → f o ≡ false) → LeftB n f x false
  unfolding LeftB
  left_all x h = any_ext n f (λ o. tb x o && f o) (within x h)

  left_next : (x : ℕ) (r : Bool) → x < 2 ^ n → x ≢ 0 → LeftB n f x r → LeftB n f (bit_and x (x - 1)) (r || f (count_trailing_zeros n x))
  unfolding LeftB
  left_next x r l z h =
      let k = count_trailing_zeros n x in
      let low : (tb x k && f k) ≡ f k = rw (low_in n x l z) refl in
      let rest : any n (λ o. not (eqb o k) && (tb x o && f o)) ≡ any n (λ o. tb (bit_and x (x - 1)) o && f o) =
      any_ext n (λ o. not (eqb o k) && (tb x o && f o)) (λ o. tb (bit_and x (x - 1)) o && f o)
      (λ o. rw (rest_is n x l z o) (regroup (not (eqb o k)) (tb x o) (f o))) in
      let out : any n (λ o. tb x o && f o) ≡ (f k || any n (λ o. tb (bit_and x (x - 1)) o && f o)) =
      any_out n k (λ o. tb x o && f o) (low_lt n x l z) ∙ ap₂ (λ a b. a || b) low rest in
      h ∙ rw out (sym (or_assoc r (f k) (any n (λ o. tb (bit_and x (x - 1)) o && f o))))
    where
      regroup : (a b c : Bool) → (a && (b && c)) ≡ ((a && b) && c)
      regroup true b c = refl
      regroup false b c = refl

  left_none : (x : ℕ) (r : Bool) → x ≡ 0 → LeftB n f x r → r ≡ any n f
  unfolding LeftB
  left_none x r z h = sym (h ∙ ap (λ b. r || b) (any_none n (λ o. tb x o && f o) (λ o _. rw (z, tb_zero o))) ∙ or-false r)

-- of sets: d has the sets f of all, but for those of the members of x
abbrev pub Left : (ℕ → ℕ) → ℕ → ℕ → Type 0
Left f x d = (j : ℕ) → LeftB 8 (λ o. tb (f o) j) x (tb d j)

-- A TEST OF A SET'S MEMBERS

-- f passes none but those of w
module _ (n : ℕ) (f : ℕ → Bool) (w : ℕ) (h : (o : ℕ) → tb w o ≡ false → f o ≡ false) where
  tests_first : {x : ℕ} → x ≡ w → LeftB n f x false
  tests_first e = rw e (left_all n f w h)

  tests_last : {x : ℕ} {r : Bool} → x ≡ 0 → LeftB n f x r → r ≡ any_to f n
  tests_last {x} {r} z l = left_none n f x r z l ∙ sym (any_to_lem f f n (λ o _. refl))

pub tests_next : (n : ℕ) (f : ℕ → Bool) (r : Bool) {x k : ℕ} {b : Bool} → x < 2 ^ n → x ≢ 0 → k ≡ count_trailing_zeros n x → b ≡ f k → LeftB n f x r
    → (bit_and x (x - 1) < 2 ^ n) × LeftB n f (bit_and x (x - 1)) (r || b)
tests_next n f r {x} l z ek eb h = (rest_lt n x l z, rw (eb, ek) (left_next n f x r l z h))

module _ (s : List ℕ) (i p : ℕ) where
  locked_not : (o : ℕ) → tb (written_set s i p) o ≡ false → locked_at_b s i p o ≡ false
  unfolding locked_at_b
  locked_not o e = rw (bit_is (written_set s i p) o, e)

  pub locked_first : {x : ℕ} → x ≡ written_set s i p → LeftB 8 (locked_at_b s i p) x false
  locked_first = tests_first 8 (locked_at_b s i p) (written_set s i p) locked_not

  pub locked_last : {x : ℕ} {r : Bool} → x ≡ 0 → LeftB 8 (locked_at_b s i p) x r → r ≡ locked_on_b s i p
  unfolding locked_on_b
  locked_last z l =
      tests_last 8 (locked_at_b s i p) (written_set s i p) locked_not z l
      ∙ by_eq (written_set s i p) 0
      (λ e. rw (e, any_to_lem (locked_at_b s i p) (locked_at_b s i p) 8 (λ o _. refl)) (any_none 8 (locked_at_b s i p) (λ o _. locked_not o (rw (eqb_yes (written_set s i p) 0 e) (tb_zero o)))))
      (λ e. rw e)

-- the pages d, of which i has a lock on one
module _ (s : List ℕ) (i d : ℕ) where
  drops_not : (p : ℕ) → tb d p ≡ false → drops_locked_b s i d p ≡ false
  unfolding drops_locked_b
  drops_not p e = rw (bit_is d p, e)

  pub drops_first : LeftB 32 (drops_locked_b s i d) d false
  drops_first = tests_first 32 (drops_locked_b s i d) d drops_not refl

  pub drops_last : {x : ℕ} {r : Bool} → x ≡ 0 → LeftB 32 (drops_locked_b s i d) x r → r ≡ drops_own_b s i d
  unfolding drops_own_b
  drops_last = tests_last 32 (drops_locked_b s i d) d drops_not

-- THE HOLDERS OF A PAGE

module _ (s : List ℕ) (i p : ℕ) where
  holder_not : (o : ℕ) → tb (wanted_on s i p) o ≡ false → holder_at s i p o ≡ 0
  unfolding holder_at
  holder_not o e = rw (bit_is (wanted_on s i p) o, e)

  pub holders_first : {x : ℕ} → x ≡ wanted_on s i p → Left (holder_at s i p) x 0
  holders_first e j =
      rw (e, tb_zero j) (left_all 8 (λ o. tb (holder_at s i p o) j) (wanted_on s i p) (λ o t. rw (holder_not o t) (tb_zero j)))

  pub holders_next : {x d k r : ℕ} → x < 256 → x ≢ 0 → d < 256 → k ≡ count_trailing_zeros 8 x → r ≡ holder_at s i p k → Left (holder_at s i p) x d
      → (bit_and x (x - 1) < 256) × (bit_or d r < 256) × Left (holder_at s i p) (bit_and x (x - 1)) (bit_or d r)
  holders_next {x} {d} l z m ek er h = (
    lt_of_le_of_lt (and_le_l x (x - 1)) l,
    rw er (or_lt 8 d _ m (holder_lt s i p _)),
    λ j. rw (er, ek, tb_or j d (holder_at s i p (count_trailing_zeros 8 x))) (left_next 8 (λ o. tb (holder_at s i p o) j) x (tb d j) l z (h j)),
  )

  pub holders_last : {x d : ℕ} → u64_at s (lock_from + p * 8) ≢ 0 → x ≡ 0 → d < 256 → Left (holder_at s i p) x d → d ≡ holders_on s i p
  unfolding holders_on
  holders_last {x} {d} n z l h =
      tb_tells 8 d (join_to (holder_at s i p) 8) l (join_lt (holder_at s i p) 8 (λ o _. holder_lt s i p o))
      (λ j _. left_none 8 (λ o. tb (holder_at s i p o) j) x (tb d j) z (h j) ∙ sym (join_is (holder_at s i p) 8 j))
      ∙ rw (ne_eqb (u64_at s (lock_from + p * 8)) 0 n)
      (by_eq (wanted_on s i p) 0
      (λ e. rw e (join_none (holder_at s i p) 8 (λ o m. holder_not o (rw (eqb_yes (wanted_on s i p) 0 e) (tb_zero o)))))
      (λ e. rw e))
