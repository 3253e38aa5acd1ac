-- One turn of sound lines: it is given, the lines stay sound, and the line that is given it waited, had share left, and is the lowest such line.
use Rattle.std.specs.Prelude.{ℕ, ◌+◌, ◌≤◌, ◌<◌, ◌≡◌, refl, Bool, true, false, ◌≢◌, List, length, eqb, ltb, leb}
use Rattle.std.proofs.Common.{sym, subst, ◌∙◌, arith, length-set, get_or-set_same, get_or-set_other, le-leb, ne_eqb}
use Rattle.std.proofs.lemmas.Bool.{false≢true}
use Rattle.lists.specs.Tests.{all_to, all_to_at, all_to_of}
use Rattle.sets.specs.Laws.{by_b, by_eq}
use Rattle.sets.proofs.Laws.{eqb_yes, eqb_no, and_both, ltb_no, not_yes}
use Rattle.turns.specs.Turn.{of, waits, ready, lowest, in_range, share_ok, rests, begins, round_of, found, choice_of, Turn, one_more, turn_of}
use Rattle.turns.specs.Lowest.{lowest_first, new_count, ready_left, ready_waits, lowest_below}
use Rattle.turns.specs.Chosen.{Passes, passed_is, given_passes, given_below, given_ready}
use Rattle.turns_meaning.specs.Run.{Sound, Marks}

-- a count of the line that is given a turn, and of the others
pub more_here : (g : List ℕ) (i : ℕ) → i < length g → of (one_more g i) i ≡ of g i + 1
unfolding one_more
more_here g i l = get_or-set_same g i (of g i + 1) 0 l

pub more_there : (g : List ℕ) (i j : ℕ) → j ≢ i → of (one_more g i) j ≡ of g j
unfolding one_more
more_there g i j off = get_or-set_other g i j (of g i + 1) 0 off

pub more_length : (g : List ℕ) (i : ℕ) → length (one_more g i) ≡ length g
unfolding one_more
more_length g i = length-set g i (of g i + 1)

-- the counts of a round
pub round_sound : {s g : List ℕ} → Sound s g → (b : Bool) → Sound s (round_of b g)
round_sound {s} {g} h true =
    record { eight = refl; least = h.least; most = h.most; counts = λ j l. let z = new_count j l in omega (arith, z) }
round_sound {s} {g} h false = h

pub more_sound : {s g : List ℕ} → Sound s g → (i : ℕ) → i < 8 → of g i < of s i → Sound s (one_more g i)
more_sound {s} {g} h i l left =
    record {
      eight = more_length g i ∙ h.eight;
      least = h.least;
      most = h.most;
      counts =
          λ j b.
          by_eq j i
          (λ q. let e = eqb_yes j i q in let here = more_here g i (omega (arith, h.eight)) in rw e (omega (arith, here, left)))
          (λ q. let there = more_there g i j (eqb_no j i q) in omega (arith, there, h.counts j b));
    }

-- some line waits: the turn is given
pub sound_passes : {s g : List ℕ} → Sound s g → (w : List ℕ) → Marks w → (i : ℕ) → i < 8 → waits w i ≡ true → Passes s g w
unfolding in_range share_ok rests
sound_passes {s} {g} h w m i l on =
    record {
      range =
          all_to_of (in_range s g w) 8
          (λ j b. and_both (leb (of g j) (of s j)) (leb (of w j) 1) (le-leb (of g j) (of s j) (h.counts j b)) (le-leb (of w j) 1 (m j b)));
      shares =
          all_to_of (share_ok s) 8 (λ j b. and_both (leb 1 (of s j)) (leb (of s j) 4) (le-leb 1 (of s j) (h.least j b)) (le-leb (of s j) 4 (h.most j b)));
      some =
          by_b (all_to (rests w) 8)
          (λ e. absurd (false≢true (sym (not_yes (waits w i) (all_to_at (rests w) 8 e i l)) ∙ on)))
          (λ e. e);
    }

module _ {s g : List ℕ} (w : List ℕ) (p : Passes s g w) where
  -- the counts that the turn is given from, and the line
  abbrev pub before : List ℕ
  before = round_of (begins s g w) g

  abbrev pub next : ℕ
  next = lowest s before w

  pub turn_is : turn_of s g w ≡ record { number = 0; line = next; given = one_more before next }
  unfolding turn_of found
  turn_is = rw (passed_is s g w p)

  pub next_below : next < 8
  next_below = given_below s g w p

  -- "the lowest waiting line with share left"
  pub next_waits : waits w next ≡ true
  next_waits = ready_waits s before w next (given_ready s g w p)

  pub next_left : of before next < of s next
  next_left = ready_left s before w next (given_ready s g w p)

  pub next_lowest : (j : ℕ) → j < next → ready s before w j ≡ false
  next_lowest j l = lowest_first s before w j l

pub turn_sound : {s g : List ℕ} → Sound s g → (w : List ℕ) → Sound s (turn_of s g w).given
unfolding turn_of
turn_sound {s} {g} h w =
    by_b (eqb (choice_of s g w).number 0)
    (λ e.
    let p = given_passes s g w (eqb_yes (choice_of s g w).number 0 e) in
    subst (λ (t : Turn). Sound s t.given) (sym (turn_is w p))
    (more_sound (round_sound h (begins s g w)) (next w p) (next_below w p) (next_left w p)))
    (λ e. rw e h)

-- "a refused turn changes nothing": numbers 1, 19 and 20
pub refused_keeps : (s g w : List ℕ) → (turn_of s g w).number ≢ 0 → (turn_of s g w).given ≡ g
unfolding turn_of
refused_keeps s g w bad = rw (ne_eqb (choice_of s g w).number 0 bad) refl

-- "a turn that finds none first begins a new round": no waiting line has share left
pub round_ends : (s g w : List ℕ) → begins s g w ≡ true → (j : ℕ) → j < 8 → waits w j ≡ true → of s j ≤ of g j
unfolding begins ready
round_ends s g w new j l on =
    let none : 8 ≤ lowest s g w = ltb_no (lowest s g w) 8 (not_yes (ltb (lowest s g w) 8) new) in
    by_b (ltb (of g j) (of s j))
    (λ e. absurd (omega (arith, none, lowest_below s g w j (and_both (waits w j) (ltb (of g j) (of s j)) on e))))
    (λ e. ltb_no (of g j) (of s j) e)
