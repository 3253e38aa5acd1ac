-- What the table's tests tell, a step of the charge, and the rounded quotient by halves.
use Rattle.std.specs.Prelude.{ℕ, ◌+◌, ◌*◌, ◌-◌, ◌/◌, ◌%◌, ◌^◌, ◌≤◌, ◌<◌, ◌≡◌, refl, List, Bool, true, false, ◌&&◌, cond, length, eqb, ltb, ℤ, nat_abs}
use Rattle.std.proofs.Common.{sym, ap, subst, ◌∙◌, add-one, arith, lt-ltb, le-ltb, ltb-false, eqb-true}
use Rattle.std.proofs.lemmas.Bool.{eqb-false}
use Rattle.lists.specs.Tests.{and_l, and_r}
use Rattle.wide.specs.Wide.{words}
use Rattle.signed.specs.Change.{most}
use Rattle.std.specs.Prelude.{Option, Some, None}
use Rattle.tariff.specs.Table.{step_length, longest_table, steps_in, upper_at, price_at, rises, lawful, covered_of, done_to, charge_to, nearest, cents_of}

-- what a table that keeps the rules tells
pub record Lawful (t : List ℕ) : Type 0 where
  pub some : 0 < length t
  pub few : length t ≤ longest_table
  pub whole : length t % step_length ≡ 0
  pub rise : rises t (steps_in t) ≡ true
  pub last : upper_at t (steps_in t - 1) ≡ most

pub lawful_tells : (t : List ℕ) → lawful t ≡ true → Lawful t
unfolding lawful
lawful_tells t h = by_tests (eqb (length t) 0) (ltb longest_table (length t)) (eqb (length t % step_length) 0) refl refl refl h
  where
    by_tests : (a b c : Bool) → eqb (length t) 0 ≡ a → ltb longest_table (length t) ≡ b → eqb (length t % step_length) 0 ≡ c
        → cond a false (cond b false (cond c (rises t (steps_in t) && eqb (upper_at t (steps_in t - 1)) most) false)) ≡ true → Lawful t
    by_tests true b c ea eb ec e = let z : ◌≡◌ {A = ℕ} 0 1 = cc in absurd (omega arith)
    by_tests false true c ea eb ec e = let z : ◌≡◌ {A = ℕ} 0 1 = cc in absurd (omega arith)
    by_tests false false false ea eb ec e = let z : ◌≡◌ {A = ℕ} 0 1 = cc in absurd (omega arith)
    by_tests false false true ea eb ec e =
        let r = rises t (steps_in t) in
        let l = eqb (upper_at t (steps_in t - 1)) most in
        let n : length t ≡ 0 → ⊥ = eqb-false _ _ ea in
        record {
          some = omega (arith, n);
          few = ltb-false _ _ eb;
          whole = eqb-true _ _ ec;
          rise = and_l r l e;
          last = eqb-true _ _ (and_r r l e);
        }

-- one more step, by what each call of the loop's turn tells
module _ (t : List ℕ) (n i up to : ℕ) (eu : up ≡ upper_at t i) (et : to ≡ covered_of n up) where
  pub done_next : to ≡ done_to t n (i + 1)
  done_next = rw (add-one, ← eu) et

  pub charge_next : (done more p before product after : ℕ) → before ≡ charge_to t n i → done ≡ done_to t n i → more ≡ to - done → p ≡ price_at t i
      → product ≡ more * p → after ≡ before + product → after ≡ charge_to t n (i + 1)
  unfolding charge_to
  charge_next done more p before product after eb ed em ep eq ea = rw (add-one, ea, eq, em, eb, ed, ep, ← eu, et)

pub cents_beyond : (x : ℕ) → most < nearest x → None ≡ cents_of x
unfolding cents_of
cents_beyond x h = rw (lt-ltb most (nearest x) h)

pub cents_of_lem : (x q : ℕ) → q ≡ nearest x → q ≤ most → Some q ≡ cents_of x
unfolding cents_of
cents_of_lem x q e h = rw (sym e, le-ltb most q h)

-- more than that in the high word alone
pub high_beyond : (hi lo : ℕ) → 49999 < hi → most < nearest (words hi lo)
unfolding words
high_beyond hi lo h = omega arith

-- the rounded quotient by halves of 32 bits
abbrev high : ℕ → ℕ → ℕ
high hi lo = hi * 4294967296 + lo / 4294967296

pub nearest_words : (hi lo : ℕ) → high hi lo / 100000 * 4294967296 + (high hi lo % 100000 * 4294967296 + lo % 4294967296 + 50000) / 100000 ≡ nearest (words hi lo)
unfolding words
nearest_words hi lo = omega arith

-- what a rounding answers is below 2^63
abbrev amount : Option ℕ → ℕ
amount (Some n) = n
amount None = 0

amount_small : (x : ℕ) → amount (cents_of x) ≤ most
unfolding cents_of
amount_small x = by_test (ltb most (nearest x)) refl
  where
    by_test : (b : Bool) → ltb most (nearest x) ≡ b → amount (cond b None (Some (nearest x))) ≤ most
    by_test true e = omega arith
    by_test false e = ltb-false most (nearest x) e

pub cents_small : (n x : ℕ) → Some n ≡ cents_of x → n < 2 ^ 63
cents_small n x e =
    let h : n ≤ most = subst (λ (k : Option ℕ). amount k ≤ most) (sym e) (amount_small x) in
    omega arith

-- what is rounded, by what each call tells
pub cents_are : (t : List ℕ) (s : ℤ) (m x : ℕ) (r : Option ℕ) → r ≡ cents_of x → x ≡ charge_to t m (steps_in t) → m ≡ nat_abs s
    → r ≡ cents_of (charge_to t (nat_abs s) (steps_in t))
cents_are t s m x r er ex em = er ∙ ap cents_of (ex ∙ ap (λ (k : ℕ). charge_to t k (steps_in t)) em)
