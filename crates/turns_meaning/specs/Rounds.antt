-- "In a round a line is given at most its share": what a line is given is counted from what the turns answer.
use Rattle.std.specs.Prelude.{ℕ, zero, suc, ◌+◌, ◌≤◌, ◌<◌, ◌≡◌, refl, Bool, true, false, cond, List, length, eqb}
use Rattle.std.proofs.Common.{sym, ap, subst, ◌∙◌, arith}
use Rattle.sets.specs.Laws.{by_b, by_eq}
use Rattle.sets.proofs.Laws.{eqb_yes, eqb_no}
use Rattle.turns.specs.Turn.{of, new_round, begins, round_of, choice_of, Turn, one_more, turn_of}
use Rattle.turns.specs.Lowest.{new_count}
use Rattle.turns.specs.Chosen.{Passes, given_passes}
use Rattle.turns_meaning.specs.Run.{Sound, counts_at, turn_at, counted, in_round}
use Rattle.turns_meaning.specs.Turns.{more_here, more_there, round_sound, turn_is, next, before, next_below, turn_sound, refused_keeps}

-- lines at the start of a round
abbrev pub Shares : List ℕ → Type 0
Shares s = Sound s new_round

pub run_sound : {s g : List ℕ} → Sound s g → (w : ℕ → List ℕ) (k : ℕ) → Sound s (counts_at s g w k)
unfolding counts_at
run_sound h w zero = h
run_sound {s} {g} h w (suc k) = turn_sound (run_sound h w k) (w k)

-- a round's counts of a line
round_count : (b : Bool) (g : List ℕ) (i : ℕ) → i < 8 → of (round_of b g) i ≡ cond b 0 (of g i)
round_count true g i l = new_count i l
round_count false g i l = refl

number_of : (s g w : List ℕ) → eqb (turn_of s g w).number 0 ≡ true → (choice_of s g w).number ≡ 0
unfolding turn_of
number_of s g w e = eqb_yes (choice_of s g w).number 0 e

-- what one turn adds to a line's count
turn_counts : {s g : List ℕ} → Sound s g → (w : List ℕ) (i : ℕ) → i < 8 → counted i (begins s g w) (turn_of s g w) (of g i) ≡ of (turn_of s g w).given i
unfolding counted
turn_counts {s} {g} h w i l =
    by_b (eqb (turn_of s g w).number 0)
    (λ e.
    let p : Passes s g w = given_passes s g w (number_of s g w e) in
    let b = round_count (begins s g w) g i l in
    let many : length (before w p) ≡ 8 = (round_sound h (begins s g w)).eight in
    let t = turn_is w p in
    by_eq i (next w p)
    (λ q.
    let at = eqb_yes i (next w p) q in
    let here = more_here (before w p) (next w p) (omega (arith, many, next_below w p)) in
    subst (λ (x : Turn). cond (eqb x.number 0) (cond (begins s g w) 0 (of g i) + cond (eqb i x.line) 1 0) (of g i) ≡ of x.given i) (sym t)
    (rw (q, ← b) (sym (ap (of (one_more (before w p) (next w p))) at ∙ here ∙ ap (λ (j : ℕ). of (before w p) j + 1) (sym at)))))
    (λ q.
    let there = more_there (before w p) (next w p) i (eqb_no i (next w p) q) in
    subst (λ (x : Turn). cond (eqb x.number 0) (cond (begins s g w) 0 (of g i) + cond (eqb i x.line) 1 0) (of g i) ≡ of x.given i) (sym t)
    (rw (q, ← b) (omega (arith, there)))))
    (λ e. rw e (ap (λ (x : List ℕ). of x i) (sym (refused_keeps s g w (eqb_no (turn_of s g w).number 0 e)))))

-- the counts are the turns given in the round under way
pub counts_are_turns : {s : List ℕ} → Shares s → (w : ℕ → List ℕ) (i : ℕ) → i < 8 → (k : ℕ) → in_round s w i k ≡ of (counts_at s new_round w k) i
unfolding in_round counts_at
counts_are_turns h w i l zero = sym (new_count i l)
counts_are_turns {s} h w i l (suc k) =
    ap (counted i (begins s (counts_at s new_round w k) (w k)) (turn_at s new_round w k)) (counts_are_turns h w i l k) ∙ turn_counts (run_sound h w k) (w k) i l

-- in every round, after every turn, a line was given at most its share
pub at_most_share : {s : List ℕ} → Shares s → (w : ℕ → List ℕ) (i : ℕ) → i < 8 → (k : ℕ) → in_round s w i k ≤ of s i
at_most_share h w i l k = let c = (run_sound h w k).counts i l in omega (arith, c, counts_are_turns h w i l k)
