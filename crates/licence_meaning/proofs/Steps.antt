-- A table's bytes mean a tariff: it keeps the rules exactly if they do, and its charge step by step is the cost frame by frame.
use Prim.Native.Nat.{ℕ, zero, suc, ◌+◌, ◌*◌, ◌-◌, ◌%◌, ◌≤◌, ◌<◌}
use Rattle.std.specs.Prelude.{◌≡◌, List, Bool, true, false, cond, length, ltb}
use Rattle.std.proofs.Math.Path.{refl, ap}
use Rattle.std.proofs.Common.{sym, ◌∙◌, ⊎_elim, zero-mul, mul-zero, add-zero, add-suc, suc-add, add-mul, one-mul, eq-or-lt_of_le, le_of_suc-le-suc, add-one, le-leb, lt-ltb, le-ltb, ltb-true, ltb-false, eq-eqb, ne_eqb}
use native.Mathlib.Omega.{arith}
use Rattle.std.proofs.lemmas.Bool.{lt-leb}
use Rattle.lists.specs.Tests.{all_to, all_to_at, all_to_of}
use Rattle.signed.specs.Change.{most}
use Rattle.tariff.specs.Table.{step_length, longest_table, steps_in, upper_at, price_at, rise_at, rises, lawful, covered_of, done_to, charge_to}
use Rattle.tariff.specs.Facts.{Lawful, lawful_tells}
use Rattle.licence_terms.specs.Tariff.{Step, Rise, Ends, price_of, cost_of}
use Rattle.licence_meaning.specs.Steps.{Table, steps_at, steps_of}

length_steps : (c : ℕ) (t : List ℕ) (i : ℕ) → length (steps_at t i c) ≡ c
unfolding steps_at
length_steps zero t i = refl
length_steps (suc c) t i = ap suc (length_steps c t (suc i))

-- upper counts that rise
rise_of : (c : ℕ) (t : List ℕ) (i : ℕ) → ((j : ℕ) → i ≤ j → suc j < i + c → upper_at t j < upper_at t (suc j)) → Rise (steps_at t i c)
unfolding steps_at
rise_of zero t i h = tt
rise_of (suc zero) t i h = tt
rise_of (suc (suc c)) t i h = (h i (omega arith) (omega arith), rise_of (suc c) t (suc i) (λ j l k. h j (omega arith) (omega arith)))

rise_at_lem : (c : ℕ) (t : List ℕ) (i : ℕ) → Rise (steps_at t i c) → (j : ℕ) → i ≤ j → suc j < i + c → upper_at t j < upper_at t (suc j)
unfolding steps_at
rise_at_lem zero t i h j l k = absurd (omega arith)
rise_at_lem (suc zero) t i h j l k = absurd (omega arith)
rise_at_lem (suc (suc c)) t i h j l k = ⊎_elim (λ e. rw (← e) h.0) (λ g. rise_at_lem (suc c) t (suc i) h.1 j g (omega arith)) (eq-or-lt_of_le l)

-- the last upper count
ends_of : (c : ℕ) (t : List ℕ) (i : ℕ) → upper_at t (i + c) ≡ most → Ends (steps_at t i (suc c))
unfolding steps_at
ends_of zero t i h = rw add-zero at h
ends_of (suc c) t i h = ends_of c t (suc i) (rw (add-suc i c, ← suc-add i c) at h)

ends_at : (c : ℕ) (t : List ℕ) (i : ℕ) → Ends (steps_at t i (suc c)) → upper_at t (i + c) ≡ most
unfolding steps_at
ends_at zero t i h = rw add-zero h
ends_at (suc c) t i h = rw (add-suc i c, ← suc-add i c) (ends_at c t (suc i) h)

no_end : (t : List ℕ) (i : ℕ) → Ends (steps_at t i 0) → ⊥
unfolding steps_at
no_end t i h = h

next_rises : (t : List ℕ) (k j : ℕ) → rises t k ≡ true → suc j < k → upper_at t j < upper_at t (suc j)
unfolding rises rise_at
next_rises t k j h l = ltb-true _ _ (rw add-one at (all_to_at (rise_at t) (k - 1) h j (omega arith)))

-- a table that keeps the rules is a tariff's
pub lawful_table : (t : List ℕ) → lawful t ≡ true → Table t
lawful_table t h =
    let l = lawful_tells t h in
    let k = steps_in t in
    let some : k ≡ suc (k - 1) = omega (arith, l.some, l.whole) in
    record {
      whole = rw length_steps (omega (arith, l.whole));
      tariff =
          record {
            few = rw length_steps (omega (arith, l.few));
            rise = rise_of k t 0 (λ j lo hi. next_rises t k j l.rise (omega arith));
            ends = rw some (ends_of (k - 1) t 0 (ap (upper_at t) (omega arith) ∙ l.last));
          };
    }

-- and a tariff's table keeps the rules: 17 is given to no other
pub table_lawful : (t : List ℕ) → Table t → lawful t ≡ true
unfolding lawful rises rise_at
table_lawful t b =
    let k = steps_in t in
    let n : length (steps_of t) ≡ k = length_steps k t 0 in
    let few : k ≤ 16 = rw n at b.tariff.few in
    let size : length t ≡ step_length * k = rw n at b.whole in
    let some : k ≡ 0 → ⊥ = λ z. no_end t 0 (rw z at b.tariff.ends) in
    let one : k ≡ suc (k - 1) = omega (arith, some) in
    let last : upper_at t (k - 1) ≡ most = ap (upper_at t) (omega arith) ∙ ends_at (k - 1) t 0 (rw one at b.tariff.ends) in
    let rise : all_to (rise_at t) (k - 1) ≡ true = all_to_of (rise_at t) (k - 1) (λ j l. rw add-one (lt-ltb _ _ (rise_at_lem k t 0 b.tariff.rise j (omega arith) (omega arith)))) in
    rw (ne_eqb (length t) 0 (λ z. some (omega arith)), le-ltb longest_table (length t) (omega arith), eq-eqb (length t % step_length) 0 (omega arith), rise, eq-eqb _ _ last)

-- uppers below the i-th
module _ (t : List ℕ) (k : ℕ) (rise : rises t k ≡ true) where
  below : (i j : ℕ) → i < k → j < i → upper_at t j < upper_at t i
  below zero j hi hj = absurd (omega arith)
  below (suc i) j hi hj =
      let step = next_rises t k i rise hi in
      ⊎_elim (λ e. rw e step) (λ h. let before = below i j (omega arith) h in omega arith) (eq-or-lt_of_le (le_of_suc-le-suc hj))

-- the price of a frame that is above the first i upper counts and not above the next
price_there : (i c : ℕ) (t : List ℕ) (j f : ℕ) → ((l : ℕ) → j ≤ l → l < j + i → upper_at t l < f) → f ≤ upper_at t (j + i) → i < c → price_of (steps_at t j c) f ≡ price_at t (j + i)
unfolding steps_at
price_there i zero t j f above here l = absurd (omega arith)
price_there zero (suc c) t j f above here l = let h : f ≤ upper_at t j = rw add-zero at here in rw (le-leb f (upper_at t j) h, add-zero j)
price_there (suc i) (suc c) t j f above here l =
    let h : upper_at t j < f = above j (omega arith) (omega arith) in
    let e : suc j + i ≡ j + suc i = omega arith in
    rw (lt-leb f (upper_at t j) h) (price_there i c t (suc j) f (λ l lo hi. above l (omega arith) (omega arith)) (rw e here) (omega arith) ∙ ap (price_at t) e)

-- frames of one price
cost_span : (x : ℕ) (ss : List Step) (m p : ℕ) → ((f : ℕ) → m < f → f ≤ m + x → price_of ss f ≡ p) → cost_of ss (m + x) ≡ cost_of ss m + x * p
unfolding cost_of
cost_span zero ss m p h = let e : m + 0 ≡ m = omega arith in rw (e, zero-mul p) (omega arith)
cost_span (suc x) ss m p h =
    let e : m + suc x ≡ suc (m + x) = omega arith in
    let last : price_of ss (suc (m + x)) ≡ p = h (suc (m + x)) (omega arith) (omega arith) in
    let rest = cost_span x ss m p (λ f lo hi. h f lo (omega arith)) in
    let more : suc x * p ≡ x * p + p = ap (λ (n : ℕ). n * p) (sym (add-one x)) ∙ add-mul x 1 p ∙ ap (λ (n : ℕ). x * p + n) (one-mul p) in
    rw (e, last, rest, more) (omega arith)

covered_le : (n u : ℕ) → (covered_of n u ≤ n) × (covered_of n u ≤ u)
unfolding covered_of
covered_le n u = by_test (ltb n u) refl
  where
    by_test : (b : Bool) → ltb n u ≡ b → (cond b n u ≤ n) × (cond b n u ≤ u)
    by_test true e = let l : n < u = ltb-true _ _ e in (omega arith, omega arith)
    by_test false e = let l : u ≤ n = ltb-false _ _ e in (l, omega arith)

-- what is covered is all, or up to the upper count
covered_is : (n u f : ℕ) → covered_of n u < f → f ≤ n → u < f
unfolding covered_of
covered_is n u f = by_test (ltb n u) refl
  where
    by_test : (b : Bool) → ltb n u ≡ b → cond b n u < f → f ≤ n → u < f
    by_test true e h l = absurd (omega arith)
    by_test false e h l = h

covered_grows : (n u w : ℕ) → u < w → covered_of n u ≤ covered_of n w
unfolding covered_of
covered_grows n u w h = by_tests (ltb n u) (ltb n w) refl refl
  where
    by_tests : (a b : Bool) → ltb n u ≡ a → ltb n w ≡ b → cond a n u ≤ cond b n w
    by_tests true true ea eb = omega arith
    by_tests true false ea eb = let x : n < u = ltb-true _ _ ea in let y : w ≤ n = ltb-false _ _ eb in omega arith
    by_tests false true ea eb = let x : u ≤ n = ltb-false _ _ ea in x
    by_tests false false ea eb = omega arith

-- step by step is frame by frame
module _ (t : List ℕ) (n k : ℕ) (rise : rises t k ≡ true) where
  done_le : (i : ℕ) → i < k → done_to t n i ≤ covered_of n (upper_at t i)
  done_le zero h = omega arith
  done_le (suc i) h = covered_grows n (upper_at t i) (upper_at t (suc i)) (next_rises t k i rise h)

  done_below : (i f : ℕ) → i < k → done_to t n i < f → f ≤ n → (l : ℕ) → l < i → upper_at t l < f
  done_below zero f h d b l hl = absurd (omega arith)
  done_below (suc i) f h d b l hl =
      let last : upper_at t i < f = covered_is n (upper_at t i) f d b in
      ⊎_elim (λ e. rw e last) (λ g. let low = below t k rise i l (omega arith) g in omega arith) (eq-or-lt_of_le (le_of_suc-le-suc hl))

  charge_costs : (i : ℕ) → i ≤ k → charge_to t n i ≡ cost_of (steps_at t 0 k) (done_to t n i)
  unfolding charge_to cost_of
  charge_costs zero h = refl
  charge_costs (suc i) h =
      let m = done_to t n i in
      let c = covered_of n (upper_at t i) in
      let x = c - m in
      let up = done_le i h in
      let e : m + x ≡ c = omega arith in
      let most-n = covered_le n (upper_at t i) in
      let z : 0 + i ≡ i = omega arith in
      let span : cost_of (steps_at t 0 k) (m + x) ≡ cost_of (steps_at t 0 k) m + x * price_at t i =
      cost_span x (steps_at t 0 k) m (price_at t i)
      (λ f lo hi. price_there i k t 0 f (λ l a b. done_below i f h lo (omega (arith, most-n.0)) l (omega arith)) (rw z (omega (arith, most-n.1))) h ∙ ap (price_at t) z) in
      rw (charge_costs i (omega arith)) (sym span ∙ ap (cost_of (steps_at t 0 k)) e)

-- behind the last upper count a frame costs nothing
price_none : (c : ℕ) (t : List ℕ) (j f : ℕ) → ((l : ℕ) → j ≤ l → l < j + c → upper_at t l < f) → price_of (steps_at t j c) f ≡ 0
unfolding steps_at
price_none zero t j f above = refl
price_none (suc c) t j f above =
    rw (lt-leb f (upper_at t j) (above j (omega arith) (omega arith))) (price_none c t (suc j) f (λ l lo hi. above l (omega arith) (omega arith)))

-- "summed exactly over the steps": what the table's steps charge for n frames is what each of the frames costs
pub charge_is_cost : (t : List ℕ) (n : ℕ) → lawful t ≡ true → charge_to t n (steps_in t) ≡ cost_of (steps_of t) n
unfolding covered_of
charge_is_cost t n h =
    let all : charge_to t n k ≡ cost_of ss (covered_of n (upper_at t (k - 1))) = charge_costs t n k l.rise k (omega arith) ∙ ap (λ (i : ℕ). cost_of ss (done_to t n i)) some in
    by_test (ltb n (upper_at t (k - 1))) refl all
  where
    l : Lawful t
    l = lawful_tells t h

    k : ℕ
    k = steps_in t

    ss : List Step
    ss = steps_at t 0 k

    some : k ≡ suc (k - 1)
    some = omega (arith, l.some, l.whole)

    last_high : (f : ℕ) → upper_at t (k - 1) < f → (i : ℕ) → i < k → upper_at t i < f
    last_high f b i hi =
        ⊎_elim (λ e. rw e b) (λ g. let low = below t k l.rise (k - 1) i (omega (arith, some)) g in omega arith) (eq-or-lt_of_le (le_of_suc-le-suc (rw some at hi)))

    by_test : (b : Bool) → ltb n (upper_at t (k - 1)) ≡ b → charge_to t n k ≡ cost_of ss (covered_of n (upper_at t (k - 1))) → charge_to t n k ≡ cost_of ss n
    by_test true e c = rw e at c
    by_test false e c =
        let u = upper_at t (k - 1) in
        let le : u ≤ n = ltb-false _ _ e in
        let sum : u + (n - u) ≡ n = omega arith in
        let free : cost_of ss (u + (n - u)) ≡ cost_of ss u + (n - u) * 0 = cost_span (n - u) ss u 0 (λ f lo hi. price_none k t 0 f (λ i a b. last_high f lo i (omega arith))) in
        let none : (n - u) * 0 ≡ 0 = mul-zero (n - u) in
        rw e at c ∙ sym (rw (sum, none) at free ∙ add-zero (cost_of ss u))
