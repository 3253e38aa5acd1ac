-- A run of turns: the shares stay, and between two turns the host sets and clears marks alone.
use Rattle.std.specs.Prelude.{ℕ, zero, suc, ◌+◌, ◌≤◌, ◌<◌, ◌≡◌, Bool, cond, List, length, eqb}
use Rattle.turns.specs.Turn.{of, new_round, begins, Turn, turn_of}

-- lines that numbers 1 and 19 let pass, whatever their marks
pub record Sound (s g : List ℕ) : Type 0 where
  pub eight : length g ≡ 8
  pub least : (j : ℕ) → j < 8 → 1 ≤ of s j
  pub most : (j : ℕ) → j < 8 → of s j ≤ 4
  pub counts : (j : ℕ) → j < 8 → of g j ≤ of s j

-- marks are 0 or 1
abbrev pub Marks : List ℕ → Type 0
Marks w = (j : ℕ) → j < 8 → of w j ≤ 1

-- the counts before turn k of a run that starts with the counts g and has the marks w k at turn k, turns being numbered from 0
unfoldable pub counts_at : List ℕ → List ℕ → (ℕ → List ℕ) → ℕ → List ℕ
counts_at s g w zero = g
counts_at s g w (suc k) = (turn_of s (counts_at s g w k) (w k)).given

abbrev pub turn_at : List ℕ → List ℕ → (ℕ → List ℕ) → ℕ → Turn
turn_at s g w k = turn_of s (counts_at s g w k) (w k)

-- the turns that line i was given in the round under way, counted from what the turns answer: none where a round begins, one more where it is given one
unfoldable pub counted : ℕ → Bool → Turn → ℕ → ℕ
counted i new t n = cond (eqb t.number 0) (cond new 0 n + cond (eqb i t.line) 1 0) n

unfoldable pub in_round : List ℕ → (ℕ → List ℕ) → ℕ → ℕ → ℕ
in_round s w i zero = 0
in_round s w i (suc k) = counted i (begins s (counts_at s new_round w k) (w k)) (turn_at s new_round w k) (in_round s w i k)
