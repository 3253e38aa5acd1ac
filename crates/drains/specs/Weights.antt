-- What is still to come of a world if nobody calls but to deliver: a weight that every delivery lowers.
-- A message down weighs 3: of a 20 comes a 6 and a kept callback. A kept callback weighs 1, like the 7 that it becomes, and so do
-- kinds 4 to 8. Kinds 1 to 3 weigh 28: of a request or commit come at most 9 messages down (crate line's `room`).
use Rattle.std.specs.Prelude.{◌≡◌, refl, List, [], ◌∷◌, ◌++◌, ◌≢◌, ℕ, zero, suc, ◌+◌, ◌*◌, ◌≤◌, length}
use Rattle.std.proofs.Common.{arith}
use Rattle.sets.specs.Laws.{by_eq}
use Rattle.sets.proofs.Laws.{eqb_same, eqb_yes, eqb_no}
use Rattle.line.specs.Messages.{Up, ReadRequest, WriteRequest, Commit, Abort, Purge, Busy, Done, WrittenSet, Sent, To}
use Rattle.line.specs.Station.{Kept}
use Rattle.line.specs.Fuel.{sum_to, nb}
use Rattle.line.specs.Bounds.{room}
use Rattle.line.specs.Line.{World, sent_to}
use Rattle.progress.specs.Clauses.{is_kept}

abbrev pub weigh_up : Up → ℕ
weigh_up (ReadRequest a t) = 28
weigh_up (WriteRequest p t set) = 28
weigh_up (Commit w) = 28
weigh_up (Abort t) = 1
weigh_up (Purge p) = 1
weigh_up (Busy r t) = 1
weigh_up (Done r t d) = 1
weigh_up (WrittenSet p t set) = 1

abbrev pub weigh_ups : List Up → ℕ
weigh_ups [] = 0
weigh_ups (m ∷ l) = weigh_up m + weigh_ups l

abbrev pub weigh_kept : (ℕ → Kept) → ℕ
weigh_kept k = sum_to 8 (λ r. nb (is_kept (k r)))

-- one station with its lines
abbrev pub weigh_line : World → ℕ → ℕ
weigh_line w i = weigh_ups (w.up i) + 3 * length (w.down i) + weigh_kept (w.station i).kept

-- THE WEIGHT of a world
abbrev pub weight : World → ℕ
weight w = sum_to 8 (weigh_line w) + 3 * room w.server

-- lists
pub ups_append : (l k : List Up) → weigh_ups (l ++ k) ≡ weigh_ups l + weigh_ups k
ups_append [] k = omega arith
ups_append (m ∷ l) k = omega (arith, ups_append l k)

-- sums: more at one place at most; as much more everywhere; less at one place by as much
pub sum_more : (n : ℕ) (f g : ℕ → ℕ) (j k : ℕ) → ((i : ℕ) → i ≢ j → f i ≤ g i) → f j ≤ g j + k → sum_to n f ≤ sum_to n g + k
unfolding sum_to
sum_more zero f g j k h e = omega arith
sum_more (suc n) f g j k h e =
    by_eq n j
    (λ q. let z : f n ≤ g n + k = rw (← eqb_yes n j q) at e in omega (arith, sum_before n f g j h (omega (arith, eqb_yes n j q))))
    (λ q. omega (arith, h n (eqb_no n j q), sum_more n f g j k h e))
  where
    sum_before : (n : ℕ) (f g : ℕ → ℕ) (j : ℕ) → ((i : ℕ) → i ≢ j → f i ≤ g i) → n ≤ j → sum_to n f ≤ sum_to n g
    sum_before zero f g j h b = omega arith
    sum_before (suc n) f g j h b = omega (arith, h n (omega arith), sum_before n f g j h (omega arith))

pub sum_add : (n : ℕ) (f g : ℕ → ℕ) → sum_to n (λ i. f i + g i) ≡ sum_to n f + sum_to n g
unfolding sum_to
sum_add zero f g = refl
sum_add (suc n) f g = omega (arith, sum_add n f g)

pub sum_three : (n : ℕ) (f : ℕ → ℕ) → sum_to n (λ i. 3 * f i) ≡ 3 * sum_to n f
unfolding sum_to
sum_three zero f = refl
sum_three (suc n) f = omega (arith, sum_three n f)

pub sum_most : (n : ℕ) (f : ℕ → ℕ) (k : ℕ) → ((i : ℕ) → f i ≤ k) → sum_to n f ≤ n * k
unfolding sum_to
sum_most zero f k h = omega arith
sum_most (suc n) f k h = omega (arith, h n, sum_most n f k h)

-- what a step sends goes to at most one line each
pub sent_once : (l : List Sent) → sum_to 8 (λ i. length (sent_to i l)) ≤ length l
unfolding sum_to
sent_once [] = omega arith
sent_once (To j m ∷ l) =
    let rest : sum_to 8 (λ i. length (sent_to i l)) ≤ length l = sent_once l in
    let one : sum_to 8 (λ i. length (sent_to i (To j m ∷ l))) ≤ sum_to 8 (λ i. length (sent_to i l)) + 1 =
    sum_more 8 (λ i. length (sent_to i (To j m ∷ l))) (λ i. length (sent_to i l)) j 1
    (λ i n. by_eq i j (λ e. absurd (n (eqb_yes i j e))) (λ e. rw e (omega arith)))
    (rw (eqb_same j) (omega arith)) in
    omega arith
