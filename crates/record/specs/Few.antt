-- Few entries are passed in as many turns whatever their number: past the last, a turn is the last one's again.
use Rattle.std.specs.Prelude.{ℕ, zero, suc, ◌+◌, ◌*◌, ◌-◌, ◌≤◌, ◌<◌, ◌≡◌, refl, List, Bool, true, false, ◌&&◌, ◌||◌, not, cond, get_or, eqb, ltb, leb}
use Rattle.std.proofs.Common.{sym, ap, ◌∙◌, ⊎_elim, eq-or-lt_of_le, arith, lt-ltb, le-ltb, le-leb, leb-true}
use Rattle.std.proofs.lemmas.Bool.{lt-leb, eqb-false, not-true}
use Rattle.lists.specs.Tests.{all_to, all_to_at, and_l, and_r}
use Rattle.lists.specs.Parts.{all_to_same}
use Rattle.record.specs.Check.{rise_at, rises}

-- so many reads, or writes, are few, and so many of both
abbrev pub most_few : ℕ
most_few = 4

abbrev pub few_entries : ℕ
few_entries = 2 * most_few

-- there are some, and at most so many
unfoldable pub is_few : ℕ → ℕ → Bool
is_few n most = not (eqb n 0) && leb n most

pub record Few (n most : ℕ) : Type 0 where
  pub some : 0 < n
  pub few : n ≤ most

pub few_are : (n most : ℕ) → is_few n most ≡ true → Few n most
unfolding is_few
few_are n most h =
    let a = not (eqb n 0) in
    record { some = not_none n (eqb-false n 0 (not-true (eqb n 0) (and_l a (leb n most) h))); few = leb-true _ _ (and_r a (leb n most) h) }
  where
    not_none : (n : ℕ) → (n ≡ 0 → ⊥) → 0 < n
    not_none zero z = absurd (z refl)
    not_none (suc n) z = omega arith

-- i, or the last of n where there are no more
unfoldable pub up_to : ℕ → ℕ → ℕ
up_to i n = cond (ltb i n) i (n - 1)

pub up_to_in : (i n : ℕ) → i < n → up_to i n ≡ i
unfolding up_to
up_to_in i n h = simp (lt-ltb _ _ h)

pub up_to_past : (i n : ℕ) → n ≤ i → up_to i n ≡ n - 1
unfolding up_to
up_to_past i n h = simp (le-ltb _ _ h)

-- a test that holds whenever the tests before it do
and_holds : (b c : Bool) → (b ≡ true → c ≡ true) → b && c ≡ b
and_holds true c h = h refl
and_holds false c h = refl

-- a test that is f's below e, and that holds from e on whenever f holds of all below e
all_past : (f g : ℕ → Bool) (e : ℕ) → ((i : ℕ) → i < e → g i ≡ f i) → ((i : ℕ) → e ≤ i → all_to f e ≡ true → g i ≡ true)
    → (j : ℕ) → e ≤ j → all_to g j ≡ all_to f e
unfolding all_to
all_past f g e same past zero l = let z : e ≡ 0 = omega arith in ap (all_to f) (sym z)
all_past f g e same past (suc j) l =
    ⊎_elim (λ q. ap (all_to g) (sym q) ∙ all_to_same g f e same)
    (λ lt. let h : e ≤ j = omega arith in rw (all_past f g e same past j h) (and_holds (all_to f e) (g j) (past j h)))
    (eq-or-lt_of_le l)

-- all turns test all entries
pub all_up_to : (f : ℕ → Bool) (n j : ℕ) → 0 < n → n ≤ j → all_to (λ i. f (up_to i n)) j ≡ all_to f n
all_up_to f n j h l =
    all_past f (λ i. f (up_to i n)) n (λ i lt. ap f (up_to_in i n lt)) (λ i le all. ap f (up_to_past i n le) ∙ all_to_at f n all (n - 1) (omega arith)) j l

-- turn i of the n addresses from a: the two rise, or there is no second one
unfoldable pub rise_in : List ℕ → ℕ → ℕ → ℕ → Bool
rise_in s a n i = leb n (i + 1) || ltb (get_or s (a + up_to i n) 0) (get_or s (a + up_to (i + 1) n) 0)

-- all turns test that the addresses rise
pub few_rise : (s : List ℕ) (a n : ℕ) → Few n most_few → all_to (rise_in s a n) (most_few - 1) ≡ rises s a n
unfolding rises rise_in rise_at
few_rise s a n w = all_past (rise_at s a) (rise_in s a n) (n - 1) in_turn past (most_few - 1) (omega (arith, w.few))
  where
    in_turn : (i : ℕ) → i < n - 1 → rise_in s a n i ≡ rise_at s a i
    in_turn i l = let e : a + (i + 1) ≡ a + i + 1 = omega arith in simp (lt-leb n (i + 1) (omega arith), up_to_in i n (omega arith), up_to_in (i + 1) n (omega arith), e)

    past : (i : ℕ) → n - 1 ≤ i → all_to (rise_at s a) (n - 1) ≡ true → rise_in s a n i ≡ true
    past i l all = simp (le-leb n (i + 1) (omega arith))
