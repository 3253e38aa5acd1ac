-- The lowest waiting line with share left is one, and no line below it is.
use Prim.Native.Nat.{ℕ, zero, suc, ◌+◌, ◌-◌, ◌≤◌, ◌<◌}
use Rattle.std.specs.Prelude.{◌≡◌, Bool, true, false, List, ltb, leb}
use Rattle.std.proofs.Common.{sym, ◌∙◌, leb→le, lt-ltb}
use Rattle.std.proofs.Math.Path.{ap}
use Rattle.std.proofs.Math.Bool.{cond}
use Rattle.std.proofs.lemmas.Bool.{false≢true}
use native.Mathlib.Omega.{arith}
use Rattle.std.proofs.lemmas.List.{get_or-replicate}
use Rattle.lists.specs.Tests.{all_to, all_to_at}
use Rattle.sets.specs.Laws.{by_b, by_eq}
use Rattle.sets.proofs.Laws.{eqb_yes, eqb_no, ltb_yes, ltb_no, and_l, and_r, and_both, not_no}
use Rattle.turns.specs.Turn.{of, waits, ready, lowest_of, lowest, new_round, share_ok, rests}

module _ (s g w : List ℕ) where
  of_is_ready : (n : ℕ) → lowest_of s g w n < 8 → ready s g w (lowest_of s g w n) ≡ true
  unfolding lowest_of
  of_is_ready zero l = absurd (omega arith)
  of_is_ready (suc n) l = by_b (ready s g w (7 - n)) (λ e. rw (e, e)) (λ e. rw e (of_is_ready n (rw e at l)))

  of_is_first : (n : ℕ) → n ≤ 8 → (j : ℕ) → 8 - n ≤ j → j < lowest_of s g w n → ready s g w j ≡ false
  unfolding lowest_of
  of_is_first zero few j from l = absurd (omega arith)
  of_is_first (suc n) few j from l =
      by_b (ready s g w (7 - n))
      (λ e. let m : j < 7 - n = rw e at l in absurd (omega arith))
      (λ e. by_eq j (7 - n) (λ q. rw (eqb_yes j (7 - n) q) e) (λ q. of_is_first n (omega arith) j (omega (arith, eqb_no j (7 - n) q)) (rw e at l)))

  -- a search that has passed over the lines below i, at line i: found, passed over, or at the end
  module _ (i : ℕ) (so : lowest_of s g w (8 - i) ≡ lowest s g w) where
    step : i < 8 → cond (ready s g w i) i (lowest_of s g w (8 - (i + 1))) ≡ lowest s g w
    unfolding lowest_of
    step l =
        let e : 8 - i ≡ suc (8 - (i + 1)) = omega arith in
        let k : 7 - (8 - (i + 1)) ≡ i = omega arith in
        ap (λ (j : ℕ). cond (ready s g w j) j (lowest_of s g w (8 - (i + 1)))) (sym k) ∙ ap (lowest_of s g w) (sym e) ∙ so

    pub search_found : {r : Bool} → i < 8 → r ≡ ready s g w i → r ≡ true → i ≡ lowest s g w
    search_found l e t = let x : ready s g w i ≡ true = sym e ∙ t in rw x at (step l)

    pub search_passed : {r : Bool} → i < 8 → r ≡ ready s g w i → r ≡ false → lowest_of s g w (8 - (i + 1)) ≡ lowest s g w
    search_passed l e t = let x : ready s g w i ≡ false = sym e ∙ t in rw x at (step l)

    pub search_ended : 8 ≤ i → 8 ≡ lowest s g w
    unfolding lowest_of
    search_ended l = let e : 8 - i ≡ 0 = omega arith in ap (lowest_of s g w) (sym e) ∙ so

  -- it waits and has share left
  pub lowest_ready : lowest s g w < 8 → ready s g w (lowest s g w) ≡ true
  unfolding lowest
  lowest_ready l = of_is_ready 8 l

  -- no line below it does
  pub lowest_first : (j : ℕ) → j < lowest s g w → ready s g w j ≡ false
  unfolding lowest
  lowest_first j l = of_is_first 8 (omega arith) j (omega arith) l

  -- there is one if any line waits and has share left
  pub lowest_below : (j : ℕ) → ready s g w j ≡ true → lowest s g w ≤ j
  lowest_below j e = by_b (ltb j (lowest s g w)) (λ l. absurd (false≢true (sym (lowest_first j (ltb_yes j (lowest s g w) l)) ∙ e))) (λ l. ltb_no j (lowest s g w) l)

  -- what it means that a line is ready
  pub ready_left : (j : ℕ) → ready s g w j ≡ true → of g j < of s j
  unfolding ready
  ready_left j e = ltb_yes (of g j) (of s j) (and_r (waits w j) (ltb (of g j) (of s j)) e)

  pub ready_waits : (j : ℕ) → ready s g w j ≡ true → waits w j ≡ true
  unfolding ready
  ready_waits j e = and_l (waits w j) (ltb (of g j) (of s j)) e

pub leb_yes : (m n : ℕ) → leb m n ≡ true → m ≤ n
leb_yes m n e = leb→le m n (rw e tt)

-- a test that not all pass fails for one
all_to_not : (f : ℕ → Bool) (n : ℕ) → all_to f n ≡ false → (k : ℕ) × (k < n) × (f k ≡ false)
unfolding all_to
all_to_not f zero e = absurd (false≢true (sym e))
all_to_not f (suc n) e =
    by_b (all_to f n) (λ t. (n, omega arith, rw t at e)) (λ t. let x = all_to_not f n t in (x.0, omega (arith, x.1), x.2))

-- a share is 1 to 4
pub share_least : (s : List ℕ) → all_to (share_ok s) 8 ≡ true → (j : ℕ) → j < 8 → 1 ≤ of s j
unfolding share_ok
share_least s ok j l = leb_yes 1 (of s j) (and_l (leb 1 (of s j)) (leb (of s j) 4) (all_to_at (share_ok s) 8 ok j l))

pub share_most : (s : List ℕ) → all_to (share_ok s) 8 ≡ true → (j : ℕ) → j < 8 → of s j ≤ 4
unfolding share_ok
share_most s ok j l = leb_yes (of s j) 4 (and_r (leb 1 (of s j)) (leb (of s j) 4) (all_to_at (share_ok s) 8 ok j l))

-- a new round's counts
pub new_count : (j : ℕ) → j < 8 → of new_round j ≡ 0
new_count j l = get_or-replicate 8 j 0 0 l

-- a waiting line has share left in a new round
pub fresh_ready : (s w : List ℕ) → all_to (share_ok s) 8 ≡ true → (j : ℕ) → j < 8 → waits w j ≡ true → ready s new_round w j ≡ true
unfolding ready
fresh_ready s w ok j l e = and_both (waits w j) (ltb (of new_round j) (of s j)) e (lt-ltb (of new_round j) (of s j) (omega (arith, new_count j l, share_least s ok j l)))

-- some line waits, if not all rest
pub someone_waits : (w : List ℕ) → all_to (rests w) 8 ≡ false → (j : ℕ) × (j < 8) × (waits w j ≡ true)
unfolding rests
someone_waits w e = let x = all_to_not (rests w) 8 e in (x.0, x.1, not_no (waits w x.0) x.2)

-- so a new round has a turn to give
pub fresh_lowest : (s w : List ℕ) → all_to (share_ok s) 8 ≡ true → all_to (rests w) 8 ≡ false → lowest s new_round w < 8
fresh_lowest s w ok some =
    let x = someone_waits w some in
    let l = lowest_below s new_round w x.0 (fresh_ready s w ok x.0 x.1 x.2) in
    omega (arith, x.1, l)
