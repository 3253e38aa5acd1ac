-- What a search leaves that stops at the first number where its test fails.
use Rattle.std.specs.Prelude.{ℕ, ◌+◌, ◌-◌, ◌<◌, ◌≤◌, ◌≡◌, Bool, true, false, List}
use Rattle.std.proofs.Math.Path.{sym}
use Rattle.std.proofs.Common.{ap, ◌∙◌, add-one, arith, lt-ltb, le-ltb, eq-eqb, ne_eqb}
use Rattle.std.proofs.Math.ListN.{get_or}
use Rattle.lists.specs.Tests.{all_to, and_both}
use Rattle.record.specs.Check.{read_count, write_count, rise_at, rises}
use Rattle.replay.specs.Replay.{address_at, value_from, value_at, read_agrees, reads_agree}
use Rattle.fault.specs.declared.Fault.{Fault}
use Rattle.fault.specs.declared.Fault.TheVariants.{Nothing, Order, Read}
use Rattle.fault.specs.First.{first, all_to_fails, first_found}
use Rattle.fault.specs.Fault.{unless, fall, order_fault, differs, read_fault}

one_more : (f : ℕ → Bool) (i : ℕ) → all_to f i ≡ true → f i ≡ true → all_to f (i + 1) ≡ true
unfolding all_to
one_more f i all here = rw add-one (and_both all here)

found : (f : ℕ → Bool) (n i : ℕ) (g : ℕ → Fault) → i < n → all_to f i ≡ true → f i ≡ false → g i ≡ unless (all_to f n) (g (first f n)) Nothing
found f n i g l all fails = rw (all_to_fails f n i l fails, first_found f n i l all fails)

none : (f : ℕ → Bool) (n i : ℕ) (g : ℕ → Fault) → i ≡ n → all_to f i ≡ true → Nothing ≡ unless (all_to f n) (g (first f n)) Nothing
none f n i g e all = let whole : all_to f n ≡ true = rw e at all in rw whole

module _ (t : List ℕ) (a n i : ℕ) (all : all_to (rise_at t a) i ≡ true) where
  pub order_more : get_or t (a + i) 0 < get_or t (a + i + 1) 0 → all_to (rise_at t a) (i + 1) ≡ true
  unfolding rise_at
  order_more l = one_more (rise_at t a) i all (lt-ltb _ _ l)

  pub order_found : {before is : ℕ} → i + 1 < n → get_or t (a + i + 1) 0 ≤ get_or t (a + i) 0 → before ≡ get_or t (a + i) 0 → is ≡ get_or t (a + i + 1) 0
      → Order (a + i + 1) before is ≡ order_fault t a n
  unfolding order_fault rises rise_at
  order_found l falls eb ei = rw (eb, ei) (found (rise_at t a) (n - 1) i (fall t a) (omega arith) all (le-ltb _ _ falls))

  pub order_none : i ≤ n - 1 → n ≤ i + 1 → Nothing ≡ order_fault t a n
  unfolding order_fault rises
  order_none l e = none (rise_at t a) (n - 1) i (fall t a) (omega arith) all

-- a record of n reads and m writes; `place` is where the code looks for the value left
module _ (t v : List ℕ) (n m i : ℕ) (all : all_to (read_agrees t v (n + m)) i ≡ true) where
  pub read_more : (place : ℕ) {is : ℕ} → get_or v place 0 ≡ is → place ≡ address_at t i → is ≡ value_at t (n + m) i → all_to (read_agrees t v (n + m)) (i + 1) ≡ true
  unfolding read_agrees
  read_more place e ep ei =
      one_more (read_agrees t v (n + m)) i all (eq-eqb _ _ (ap (λ (a : ℕ). get_or v a 0) (sym ep) ∙ e ∙ ei))

  pub read_found : (place : ℕ) {address is : ℕ} → n ≡ read_count t → m ≡ write_count t → i < n → (get_or v place 0 ≡ is → ⊥)
      → place ≡ address_at t i → address ≡ address_at t i → is ≡ value_at t (n + m) i
      → Read (value_from (n + m) i) address is (get_or v place 0) ≡ read_fault t v
  unfolding read_fault reads_agree read_agrees
  read_found place en em l apart ep ea ei =
      rw (← en, ← em, ea, ei, ep)
      (found (read_agrees t v (n + m)) n i (differs t v (n + m)) l all (ne_eqb _ _ (λ e. apart (ap (λ (a : ℕ). get_or v a 0) ep ∙ e ∙ sym ei))))

  pub read_none : n ≡ read_count t → m ≡ write_count t → i ≤ n → n ≤ i → Nothing ≡ read_fault t v
  unfolding read_fault reads_agree
  read_none en em l e = rw (← en, ← em) (none (read_agrees t v (n + m)) n i (differs t v (n + m)) (omega arith) all)
