-- Cases of document 02's wish 12 as rows of one table, computed: eight lines, and what a turn of them answers and leaves.
use Rattle.std.specs.Prelude.{ℕ, ◌≡◌, refl, List, [], ◌∷◌}
use Rattle.lists.specs.Tests.{all_to}
use Rattle.turns.specs.Turn.{new_round, ready, lowest_of, lowest, in_range, share_ok, rests, begins, found, choice_of, one_more, turn_of}

pub record Case : Type 0 where
  pub share : List ℕ
  pub given : List ℕ
  pub waiting : List ℕ
  pub number : ℕ
  pub line : ℕ
  pub after : List ℕ

abbrev pub case : List ℕ → List ℕ → List ℕ → ℕ → ℕ → List ℕ → Case
case s g w n i a = record { share = s; given = g; waiting = w; number = n; line = i; after = a }

pub record Holds (c : Case) : Type 0 where
  pub number_is : (turn_of c.share c.given c.waiting).number ≡ c.number
  pub line_is : (turn_of c.share c.given c.waiting).line ≡ c.line
  pub counts_are : (turn_of c.share c.given c.waiting).given ≡ c.after

abbrev pub AllHold : List Case → Type 0
AllHold [] = Unit {0}
AllHold (c ∷ cs) = Holds c × AllHold cs

abbrev pub eight : ℕ → ℕ → ℕ → ℕ → ℕ → ℕ → ℕ → ℕ → List ℕ
eight a b c d e f g h = a ∷ b ∷ c ∷ d ∷ e ∷ f ∷ g ∷ h ∷ []

-- shares of 1 to 4
abbrev pub mixed : List ℕ
mixed = eight 1 2 3 4 1 2 3 4

unfoldable pub table : List Case
table =
    -- "the next turn goes to the lowest waiting line with share left"
    case mixed new_round (eight 1 1 1 1 1 1 1 1) 0 0 (eight 1 0 0 0 0 0 0 0)
    -- .. line 0 has none left
    ∷ case mixed (eight 1 1 0 0 0 0 0 0) (eight 1 1 1 1 1 1 1 1) 0 1 (eight 1 2 0 0 0 0 0 0)
    -- .. lines 0 to 4 do not wait
    ∷ case mixed (eight 0 1 0 2 0 1 0 0) (eight 0 0 0 0 0 1 0 1) 0 5 (eight 0 1 0 2 0 2 0 0)
    -- "a turn that finds none first begins a new round, all counts 0": those of lines that do not wait too
    ∷ case mixed (eight 1 2 0 4 1 1 3 4) (eight 0 1 0 0 0 0 1 1) 0 1 (eight 0 1 0 0 0 0 0 0)
    -- a line with share left that does not wait keeps no round open
    ∷ case mixed (eight 0 0 0 0 0 0 0 4) (eight 0 0 0 0 0 0 0 1) 0 7 (eight 0 0 0 0 0 0 0 1)
    -- "1, which a count above its share gets": before 19, which line 7's share would get
    ∷ case (eight 1 2 3 4 1 2 3 9) (eight 2 0 0 0 0 0 0 0) (eight 1 0 0 0 0 0 0 0) 1 0 (eight 2 0 0 0 0 0 0 0)
    -- 1 for a mark that is neither 0 nor 1
    ∷ case mixed new_round (eight 1 0 0 0 0 0 0 2) 1 0 new_round
    -- "19, Share: a share outside 1 to 4", above and below; before 20
    ∷ case (eight 1 2 3 5 1 2 3 4) new_round (eight 1 0 0 0 0 0 0 0) 19 0 new_round
    ∷ case (eight 1 2 3 4 0 2 3 4) new_round new_round 19 0 new_round
    -- "20, Idle: no line waits": no round begins
    ∷ case mixed mixed new_round 20 0 mixed
    ∷ []

row : {c : Case} → (turn_of c.share c.given c.waiting).number ≡ c.number → (turn_of c.share c.given c.waiting).line ≡ c.line → (turn_of c.share c.given c.waiting).given ≡ c.after → Holds c
row a b d = record { number_is = a; line_is = b; counts_are = d }

pub table_holds : AllHold table
unfolding table turn_of choice_of found begins one_more lowest lowest_of ready in_range share_ok rests all_to
table_holds = (
  row refl refl refl,
  (
    row refl refl refl,
    (
      row refl refl refl,
      (
        row refl refl refl,
        (
          row refl refl refl,
          (row refl refl refl, (row refl refl refl, (row refl refl refl, (row refl refl refl, (row refl refl refl, tt))))),
        ),
      ),
    ),
  ),
)
