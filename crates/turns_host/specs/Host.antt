-- A turn over lent lines: the number, the line that is given it, and every field afterwards.
use Rattle.std.specs.Prelude.{ℕ, suc, cond, List, [], ◌∷◌, length, get_or, eqb, Result, Ok, Err}
use Rattle.refusals.specs.declared.Refusal.{Refusal}
use Rattle.refusals.specs.Refusals.{number_of}
use Rattle.turns.specs.Turn.{lines, of, Turn, turn_of}
use Rattle.turns_host.specs.declared.Line.{Line}

-- the numbers of some lines
abbrev pub shares_of : List Line → List ℕ
shares_of [] = []
shares_of (l ∷ ls) = l.share ∷ shares_of ls

abbrev pub counts_of : List Line → List ℕ
counts_of [] = []
counts_of (l ∷ ls) = l.given ∷ counts_of ls

abbrev pub marks_of : List Line → List ℕ
marks_of [] = []
marks_of (l ∷ ls) = l.waiting ∷ marks_of ls

-- "A turn changes counts alone"
abbrev pub with_count : Line → ℕ → Line
with_count l g = record { share = l.share; given = g; waiting = l.waiting }

abbrev pub recount : List Line → List ℕ → ℕ → List Line
recount [] gs i = []
recount (l ∷ ls) gs i = with_count l (of gs i) ∷ recount ls gs (suc i)

-- the same lines with these counts
abbrev pub with_counts : List Line → List ℕ → List Line
with_counts ls gs = recount ls gs 0

-- the lines after a call, the line that is told, and the number
pub record Turned : Type 0 where
  pub lines : List Line
  pub line : ℕ
  pub number : ℕ

abbrev pub turned : List Line → ℕ → ℕ → Turned
turned ls i n = record { lines = ls; line = i; number = n }

-- a turn that is refused tells no line: what is lent for it stays
abbrev pub told : ℕ → Turn → ℕ
told i t = cond (eqb t.number 0) t.line i

-- the turn of eight lines
unfoldable pub taken : List Line → ℕ → Turned
taken ls i = let t = turn_of (shares_of ls) (counts_of ls) (marks_of ls) in turned (with_counts ls t.given) (told i t) t.number

-- a turn over lent lines, with i what is lent for the line: 1 too where they are not eight
unfoldable pub taken_of : List Line → ℕ → Turned
taken_of ls i = cond (eqb (length ls) lines) (taken ls i) (turned ls i 1)

-- ---- the same of the code's answer: the line that is told, with i what is lent for it, and the number
abbrev pub line_told : ℕ → Result ℕ Refusal → ℕ
line_told i (Ok l) = l
line_told i (Err _) = i

abbrev pub number_told : Result ℕ Refusal → ℕ
number_told (Ok _) = 0
number_told (Err why) = number_of why

abbrev pub no_line : Line
no_line = record { share = 0; given = 0; waiting = 0 }

abbrev pub line_at : List Line → ℕ → Line
line_at ls k = get_or ls k no_line
