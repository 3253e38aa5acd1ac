-- "a line whose mark stays set is given a turn within 57 turns of setting it, if between turns only the other marks change"
use Rattle.std.specs.Prelude.{ℕ, zero, suc, ◌+◌, ◌-◌, ◌≤◌, ◌<◌, ◌≡◌, refl, true, false, cond, ◌≢◌, List, eqb, ltb}
use Rattle.std.proofs.Common.{sym, ap, subst, ◌∙◌, arith, lt-ltb, le-ltb, ne_eqb}
use Rattle.sets.specs.Laws.{by_b, by_eq}
use Rattle.sets.proofs.Laws.{eqb_yes, eqb_no}
use Rattle.turns.specs.Turn.{of, waits, new_round, begins, round_of, Turn, one_more, turn_of}
use Rattle.turns.specs.Lowest.{new_count}
use Rattle.turns.specs.Chosen.{Passes}
use Rattle.turns_meaning.specs.Run.{Sound, Marks, counts_at, turn_at}
use Rattle.turns_meaning.specs.Sums.{sum_to, but, sum_same, sum_less, sum_but}
use Rattle.turns_meaning.specs.Turns.{more_here, more_there, round_sound, sound_passes, turn_sound, next, turn_is, next_below, next_left, round_ends}

-- the turns that lines other than i may still be given in this round, and in a whole round
abbrev left : List ℕ → List ℕ → ℕ → ℕ
left s g j = of s j - of g j

abbrev others : List ℕ → List ℕ → ℕ → ℕ
others s g i = sum_to (but i (left s g)) 8

abbrev whole : List ℕ → ℕ → ℕ
whole s i = sum_to (but i (of s)) 8

-- how many turns may go to other lines before line i is given one: those of this round; and where line i has no share left, those of the next too
unfoldable pub ahead : List ℕ → List ℕ → ℕ → ℕ
ahead s g i = others s g i + cond (ltb (of g i) (of s i)) 0 (whole s i)

others_most : (f : ℕ → ℕ) (i : ℕ) → i < 8 → ((j : ℕ) → j < 8 → f j ≤ 4) → sum_to (but i f) 8 ≤ 28
others_most f i l b = let x = sum_but f 8 i l b in omega (arith, x)

-- 28 and 28
pub ahead_most : {s g : List ℕ} → Sound s g → (i : ℕ) → i < 8 → ahead s g i ≤ 56
unfolding ahead
ahead_most {s} {g} h i l =
    let a : others s g i ≤ 28 = others_most (left s g) i l (λ j b. let m = h.most j b in omega (arith, m)) in
    let b : whole s i ≤ 28 = others_most (of s) i l h.most in
    by_b (ltb (of g i) (of s i)) (λ e. rw e (omega (arith, a))) (λ e. rw e (omega (arith, a, b)))

-- a turn for another line is one less
one_less : {s g : List ℕ} → Sound s g → (i k : ℕ) → k < 8 → k ≢ i → of g k < of s k → others s g i ≡ others s (one_more g k) i + 1
one_less {s} {g} h i k l off room =
    sum_less (but i (left s g)) (but i (left s (one_more g k))) 8 k l
    (let here = more_here g k (omega (arith, h.eight)) in rw (ne_eqb k i off) (omega (arith, here, room)))
    (λ j b x. let there = more_there g k j x in by_b (eqb j i) (λ q. rw q refl) (λ q. rw q (omega (arith, there))))

pub ahead_less : {s g : List ℕ} → Sound s g → (i k : ℕ) → k < 8 → k ≢ i → of g k < of s k → ahead s g i ≡ ahead s (one_more g k) i + 1
unfolding ahead
ahead_less {s} {g} h i k l off room =
    let a = one_less h i k l off room in
    let same : of (one_more g k) i ≡ of g i = more_there g k i (λ e. off (sym e)) in
    rw same (omega (arith, a))

-- a new round has no more ahead, if line i had no share left
fresh_ahead : {s g : List ℕ} → Sound s g → (i : ℕ) → i < 8 → of s i ≤ of g i → ahead s new_round i ≤ ahead s g i
unfolding ahead
fresh_ahead {s} {g} h i l none =
    let zero_at = new_count i l in
    let all : others s new_round i ≡ whole s i =
    sum_same (but i (left s new_round)) (but i (of s)) 8 (λ j b. let z = new_count j b in by_b (eqb j i) (λ q. rw q refl) (λ q. rw q (omega (arith, z)))) in
    let least = h.least i l in
    let now : ltb (of new_round i) (of s i) ≡ true = lt-ltb (of new_round i) (of s i) (omega (arith, zero_at, least)) in
    let was : ltb (of g i) (of s i) ≡ false = le-ltb (of g i) (of s i) none in
    rw (now, was) (omega (arith, all))

-- the counts of the round in which the turn is given have no more ahead
round_ahead : {s g : List ℕ} → Sound s g → (w : List ℕ) (i : ℕ) → i < 8 → waits w i ≡ true → ahead s (round_of (begins s g w) g) i ≤ ahead s g i
round_ahead {s} {g} h w i l on =
    by_b (begins s g w) (λ e. rw e (fresh_ahead h i l (round_ends s g w e i l on))) (λ e. rw e (omega arith))

-- one turn: line i is given it, or one turn fewer is ahead
pub turn_ahead : {s g : List ℕ} → Sound s g → (w : List ℕ) → (p : Passes s g w) → (i : ℕ) → i < 8 → waits w i ≡ true → (turn_of s g w).line ≢ i → ahead s (turn_of s g w).given i + 1 ≤ ahead s g i
turn_ahead {s} {g} h w p i l on other =
    let t = turn_is w p in
    let off : next w p ≢ i = λ e. other (ap (λ (x : Turn). x.line) t ∙ e) in
    let less = ahead_less (round_sound h (begins s g w)) i (next w p) (next_below w p) off (next_left w p) in
    let most = round_ahead h w i l on in
    subst (λ (x : Turn). ahead s x.given i + 1 ≤ ahead s g i) (sym t) (omega (arith, less, most))

-- a run from its second turn on
shift : (s g : List ℕ) (w : ℕ → List ℕ) (k : ℕ) → counts_at s (turn_of s g (w 0)).given (λ j. w (suc j)) k ≡ counts_at s g w (suc k)
unfolding counts_at
shift s g w zero = refl
shift s g w (suc k) = ap (λ (x : List ℕ). (turn_of s x (w (suc k))).given) (shift s g w k)

-- turn k of the run is given to line i
abbrev pub Given : List ℕ → List ℕ → (ℕ → List ℕ) → ℕ → ℕ → Type 0
Given s g w i k = ((turn_at s g w k).number ≡ 0) × ((turn_at s g w k).line ≡ i)

-- the first turn: line i is given it, or one turn fewer is ahead
first_turn_lem : {s g : List ℕ} → Sound s g → (w : ℕ → List ℕ) → Marks (w 0) → (i : ℕ) → i < 8 → waits (w 0) i ≡ true → {A : Type 0}
    → (Given s g w i 0 → A) → (ahead s (turn_of s g (w 0)).given i + 1 ≤ ahead s g i → A) → A
unfolding counts_at
first_turn_lem {s} {g} h w m i l on here later =
    let p = sound_passes h (w 0) m i l on in
    let number : (turn_of s g (w 0)).number ≡ 0 = ap (λ (x : Turn). x.number) (turn_is (w 0) p) in
    by_eq (turn_of s g (w 0)).line i
    (λ q. here (number, eqb_yes (turn_of s g (w 0)).line i q))
    (λ q. later (turn_ahead h (w 0) p i l on (eqb_no (turn_of s g (w 0)).line i q)))

within : (n : ℕ) {s g : List ℕ} → Sound s g → (w : ℕ → List ℕ) → ((k : ℕ) → Marks (w k)) → (i : ℕ) → i < 8 → ((k : ℕ) → waits (w k) i ≡ true) → ahead s g i ≤ n
    → (k : ℕ) × (k < suc n) × Given s g w i k
within zero h w m i l on few = first_turn_lem h w (m 0) i l (on 0) (λ now. (0, omega arith, now)) (λ less. absurd (omega (arith, less, few)))
within (suc n) {s} {g} h w m i l on few =
    first_turn_lem h w (m 0) i l (on 0) (λ now. (0, omega arith, now))
    (λ less.
    let r = within n (turn_sound h (w 0)) (λ k. w (suc k)) (λ k. m (suc k)) i l (λ k. on (suc k)) (omega (arith, less, few)) in
    (suc r.0, omega (arith, r.1), subst (λ (x : List ℕ). ((turn_of s x (w (suc r.0))).number ≡ 0) × ((turn_of s x (w (suc r.0))).line ≡ i)) (shift s g w r.0) r.2))

-- any shares, any counts, any line, and any marks of the others at each turn
pub within_57 : {s g : List ℕ} → Sound s g → (w : ℕ → List ℕ) → ((k : ℕ) → Marks (w k)) → (i : ℕ) → i < 8 → ((k : ℕ) → waits (w k) i ≡ true)
    → (k : ℕ) × (k < 57) × Given s g w i k
within_57 h w m i l on = within 56 h w m i l on (ahead_most h i l)
