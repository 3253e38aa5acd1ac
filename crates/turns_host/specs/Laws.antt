-- Laws of the definitions: a list of eight by its elements, and what a turn over eight lines leaves.
use Rattle.std.specs.Prelude.{◌≡◌, refl, ℕ, zero, suc, ◌+◌, ◌<◌, ◌≢◌, Bool, true, false, not, cond, length, set, replicate, T, eqb, Result, Ok, Err, IsErrAnd}
use Rattle.std.proofs.Common.{sym, ◌∙◌, subst, le_of_suc-le-suc, arith, eq-eqb, ne_eqb}
use Rattle.std.proofs.Math.Path.{ap}
use Rattle.std.proofs.Math.Nat.{suc_inj}
use mathlib.Core.List.{List, [], ◌∷◌}
use Rattle.refusals.specs.declared.Refusal.{Refusal}
use Rattle.refusals.specs.Refusals.{number_of}
use Rattle.refusals.specs.Laws.{not_accepted}
use Rattle.turns.specs.Turn.{of, new_round, round_of, Outcome, refused, choice_of, one_more, counts_after, turn_of}
use Rattle.turns.specs.Lowest.{new_count}
use Rattle.turns.specs.Chosen.{choice_below, choice_room}
use Rattle.turns_host.specs.declared.Line.{Line}
use Rattle.turns_host.specs.Host.{shares_of, counts_of, marks_of, with_count, recount, with_counts, turned, taken, taken_of, line_told, number_told, line_at}

-- ---- a list by its elements
abbrev by_elements : (ℕ → Line) → ℕ → List Line
by_elements f zero = []
by_elements f (suc n) = f 0 ∷ by_elements (λ i. f (suc i)) n

by_elements_lem : (ls : List Line) (n : ℕ) → length ls ≡ n → by_elements (line_at ls) n ≡ ls
by_elements_lem [] zero h = refl
by_elements_lem [] (suc n) h = absurd (omega arith)
by_elements_lem (x ∷ ls) zero h = absurd (omega arith)
by_elements_lem (x ∷ ls) (suc n) h = ap (λ (m : List Line). x ∷ m) (by_elements_lem ls n (suc_inj h))

-- the first eight elements of a list
abbrev pub first_eight : List Line → List Line
first_eight ls = line_at ls 0 ∷ line_at ls 1 ∷ line_at ls 2 ∷ line_at ls 3 ∷ line_at ls 4 ∷ line_at ls 5 ∷ line_at ls 6 ∷ line_at ls 7 ∷ []

pub first_eight_lem : (ls : List Line) → length ls ≡ 8 → first_eight ls ≡ ls
first_eight_lem ls h = by_elements_lem ls 8 h

-- ---- what the loops leave: a number of each of the first i lines, and the first i lines with no turn given
unfoldable pub numbers_to : (Line → ℕ) → List Line → ℕ → List ℕ
numbers_to f ls zero = replicate 8 0
numbers_to f ls (suc i) = set (numbers_to f ls i) i (f (line_at ls i))

unfoldable pub zeroed_to : List Line → ℕ → List Line
zeroed_to ls zero = ls
zeroed_to ls (suc i) = set (zeroed_to ls i) i (with_count (line_at (zeroed_to ls i) i) 0)

module _ (ls : List Line) (i : ℕ) (eight : length ls ≡ 8) (all : i ≡ 8) where
  pub shares_all : numbers_to (λ l. l.share) ls i ≡ shares_of ls
  unfolding numbers_to
  shares_all = ap (numbers_to (λ l. l.share) ls) all ∙ subst (λ (l : List Line). numbers_to (λ l. l.share) l 8 ≡ shares_of l) (first_eight_lem ls eight) refl

  pub counts_all : numbers_to (λ l. l.given) ls i ≡ counts_of ls
  unfolding numbers_to
  counts_all = ap (numbers_to (λ l. l.given) ls) all ∙ subst (λ (l : List Line). numbers_to (λ l. l.given) l 8 ≡ counts_of l) (first_eight_lem ls eight) refl

  pub marks_all : numbers_to (λ l. l.waiting) ls i ≡ marks_of ls
  unfolding numbers_to
  marks_all = ap (numbers_to (λ l. l.waiting) ls) all ∙ subst (λ (l : List Line). numbers_to (λ l. l.waiting) l 8 ≡ marks_of l) (first_eight_lem ls eight) refl

  pub zeroed_all : zeroed_to ls i ≡ with_counts ls new_round
  unfolding zeroed_to
  zeroed_all = ap (zeroed_to ls) all ∙ subst (λ (l : List Line). zeroed_to l 8 ≡ with_counts l new_round) (first_eight_lem ls eight) refl

-- their own counts
pub own_counts : (ls : List Line) → length ls ≡ 8 → ls ≡ with_counts ls (counts_of ls)
own_counts ls h = subst (λ (l : List Line). l ≡ with_counts l (counts_of l)) (first_eight_lem ls h) refl

-- ---- one count more, in the numbers and in the lines
abbrev one_given : List Line → ℕ → List Line
one_given ls j = set ls j (with_count (line_at ls j) ((line_at ls j).given + 1))

eight_counted : (l₀ l₁ l₂ l₃ l₄ l₅ l₆ l₇ : Line) (g₀ g₁ g₂ g₃ g₄ g₅ g₆ g₇ j : ℕ) → j < 8
    → one_given (with_counts (l₀ ∷ l₁ ∷ l₂ ∷ l₃ ∷ l₄ ∷ l₅ ∷ l₆ ∷ l₇ ∷ []) (g₀ ∷ g₁ ∷ g₂ ∷ g₃ ∷ g₄ ∷ g₅ ∷ g₆ ∷ g₇ ∷ [])) j
    ≡ with_counts (l₀ ∷ l₁ ∷ l₂ ∷ l₃ ∷ l₄ ∷ l₅ ∷ l₆ ∷ l₇ ∷ []) (one_more (g₀ ∷ g₁ ∷ g₂ ∷ g₃ ∷ g₄ ∷ g₅ ∷ g₆ ∷ g₇ ∷ []) j)
unfolding one_more
eight_counted l₀ l₁ l₂ l₃ l₄ l₅ l₆ l₇ g₀ g₁ g₂ g₃ g₄ g₅ g₆ g₇ zero b = refl
eight_counted l₀ l₁ l₂ l₃ l₄ l₅ l₆ l₇ g₀ g₁ g₂ g₃ g₄ g₅ g₆ g₇ (suc zero) b = refl
eight_counted l₀ l₁ l₂ l₃ l₄ l₅ l₆ l₇ g₀ g₁ g₂ g₃ g₄ g₅ g₆ g₇ (suc (suc zero)) b = refl
eight_counted l₀ l₁ l₂ l₃ l₄ l₅ l₆ l₇ g₀ g₁ g₂ g₃ g₄ g₅ g₆ g₇ (suc (suc (suc zero))) b = refl
eight_counted l₀ l₁ l₂ l₃ l₄ l₅ l₆ l₇ g₀ g₁ g₂ g₃ g₄ g₅ g₆ g₇ (suc (suc (suc (suc zero)))) b = refl
eight_counted l₀ l₁ l₂ l₃ l₄ l₅ l₆ l₇ g₀ g₁ g₂ g₃ g₄ g₅ g₆ g₇ (suc (suc (suc (suc (suc zero))))) b = refl
eight_counted l₀ l₁ l₂ l₃ l₄ l₅ l₆ l₇ g₀ g₁ g₂ g₃ g₄ g₅ g₆ g₇ (suc (suc (suc (suc (suc (suc zero)))))) b = refl
eight_counted l₀ l₁ l₂ l₃ l₄ l₅ l₆ l₇ g₀ g₁ g₂ g₃ g₄ g₅ g₆ g₇ (suc (suc (suc (suc (suc (suc (suc zero))))))) b = refl
eight_counted l₀ l₁ l₂ l₃ l₄ l₅ l₆ l₇ g₀ g₁ g₂ g₃ g₄ g₅ g₆ g₇ (suc (suc (suc (suc (suc (suc (suc (suc j)))))))) b = absurd (omega arith)

module _ (ls : List Line) (j : ℕ) (eight : length ls ≡ 8) (below : j < 8) where
  counted : (b : Bool) → one_given (with_counts ls (round_of b (counts_of ls))) j ≡ with_counts ls (one_more (round_of b (counts_of ls)) j)
  counted true =
      subst (λ (l : List Line). one_given (with_counts l new_round) j ≡ with_counts l (one_more new_round j)) (first_eight_lem ls eight)
      (eight_counted (line_at ls 0) (line_at ls 1) (line_at ls 2) (line_at ls 3) (line_at ls 4) (line_at ls 5) (line_at ls 6) (line_at ls 7) 0 0 0 0 0 0 0 0 j below)
  counted false =
      subst (λ (l : List Line). one_given (with_counts l (counts_of l)) j ≡ with_counts l (one_more (counts_of l) j)) (first_eight_lem ls eight)
      (eight_counted (line_at ls 0) (line_at ls 1) (line_at ls 2) (line_at ls 3) (line_at ls 4) (line_at ls 5) (line_at ls 6) (line_at ls 7) (line_at ls 0).given (line_at ls 1).given (line_at ls 2).given (line_at ls 3).given (line_at ls 4).given (line_at ls 5).given (line_at ls 6).given (line_at ls 7).given j below)

-- a count, in the numbers and in the lines
recount_at : (ls : List Line) (gs : List ℕ) (k j n : ℕ) → j < length ls → n ≡ k + j → (line_at (recount ls gs k) j).given ≡ of gs n
recount_at [] gs k j n b e = absurd (omega arith)
recount_at (l ∷ ls) gs k zero n b e = ap (of gs) (omega arith)
recount_at (l ∷ ls) gs k (suc j) n b e = recount_at ls gs (suc k) j n (le_of_suc-le-suc b) (omega arith)

pub is_not : (t : Bool) → T (not t) → t ≡ false
is_not true h = absurd h
is_not false h = refl

-- ---- what a call leaves, by what the code has chosen
pub not_eight : (ls : List Line) (i : ℕ) → length ls ≢ 8 → turned ls i 1 ≡ taken_of ls i
unfolding taken_of
not_eight ls i h = rw (ne_eqb (length ls) 8 h) refl

module _ (ls : List Line) (c : Outcome) (eight : length ls ≡ 8) (is : c ≡ choice_of (shares_of ls) (counts_of ls) (marks_of ls)) where
  -- the turn of these lines, said by the choice
  by_choice : (i : ℕ) → turned (with_counts ls (counts_after (counts_of ls) c)) (cond (eqb c.number 0) c.line i) c.number ≡ taken_of ls i
  unfolding taken_of taken turn_of
  by_choice i =
      ap (λ (x : Outcome). turned (with_counts ls (counts_after (counts_of ls) x)) (cond (eqb x.number 0) x.line i) x.number) is
      ∙ ap (λ (t : Bool). cond t (taken ls i) (turned ls i 1)) (sym (eq-eqb _ _ eight))

  refused_as : (i : ℕ) → eqb c.number 0 ≡ false → turned ls i c.number ≡ taken_of ls i
  refused_as i n = ap (λ (l : List Line). turned l i c.number) (own_counts ls eight) ∙ (rw n at (by_choice i))

  -- a turn that is refused changes nothing
  pub refused_done : (i : ℕ) → T (not (eqb c.number 0)) → turned ls i c.number ≡ taken_of ls i
  refused_done i bad = refused_as i (is_not (eqb c.number 0) bad)

  -- .. as the code tells it
  pub refused_told : (why : Refusal) (r : Result ℕ Refusal) → c ≡ refused (number_of why) → IsErrAnd r (λ y. y ≡ why) → (i : ℕ) → turned ls (line_told i r) (number_told r) ≡ taken_of ls i
  refused_told why (Err y) e same i =
      let n : eqb c.number 0 ≡ false = ap (λ (x : Outcome). eqb x.number 0) e ∙ not_accepted why in
      let k : number_of y ≡ c.number = ap number_of same ∙ sym (ap (λ (x : Outcome). x.number) e) in
      ap (turned ls i) k ∙ refused_as i n
  refused_told why (Ok x) e same i = absurd same

  module _ (given : c.number ≡ 0) where
    pub line_below : c.line < 8
    line_below = choice_below (shares_of ls) (counts_of ls) (marks_of ls) c is given

    -- the count has room
    pub room : (line_at (with_counts ls (round_of c.begins (counts_of ls))) c.line).given + 1 < 256
    room = by_round c.begins refl
      where
        by_round : (b : Bool) → c.begins ≡ b → (line_at (with_counts ls (round_of b (counts_of ls))) c.line).given + 1 < 256
        by_round true e =
            let k = recount_at ls new_round 0 c.line c.line (omega (arith, line_below)) (omega arith) ∙ new_count c.line line_below in
            omega (arith, k)
        by_round false e =
            let k = recount_at ls (counts_of ls) 0 c.line c.line (omega (arith, line_below)) (omega arith) in
            omega (arith, k, choice_room (shares_of ls) (counts_of ls) (marks_of ls) c is given e)

    pub given_done : (i : ℕ) → turned (one_given (with_counts ls (round_of c.begins (counts_of ls))) c.line) c.line 0 ≡ taken_of ls i
    given_done i = ap (λ (l : List Line). turned l c.line 0) (counted ls c.line eight line_below c.begins) ∙ (rw given at (by_choice i))
