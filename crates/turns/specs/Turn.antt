-- Document 02's wish 12, "Shares of the server's turns", over the numbers of eight lines: s their shares, g the turns that each was given in this round, w their marks (1: a message waits).
use Rattle.std.specs.Prelude.{ℕ, zero, suc, ◌+◌, ◌-◌, Bool, false, ◌&&◌, not, cond, List, get_or, set, replicate, eqb, ltb, leb, Result, Ok, Err}
use Rattle.lists.specs.Tests.{all_to}
use Rattle.refusals.specs.declared.Refusal.{Refusal}
use Rattle.refusals.specs.Refusals.{number_of}
use Rattle.turns.specs.declared.Choice.{Choice}

-- "eight lines"
abbrev pub lines : ℕ
lines = 8

-- a number of line i
abbrev pub of : List ℕ → ℕ → ℕ
of xs i = get_or xs i 0

-- "a mark whether a message waits"
abbrev pub waits : List ℕ → ℕ → Bool
waits w i = eqb (of w i) 1

-- "waiting line with share left"
unfoldable pub ready : List ℕ → List ℕ → List ℕ → ℕ → Bool
ready s g w i = waits w i && ltb (of g i) (of s i)

-- "the lowest waiting line with share left" among the last n; 8 for none
unfoldable pub lowest_of : List ℕ → List ℕ → List ℕ → ℕ → ℕ
lowest_of s g w zero = lines
lowest_of s g w (suc n) = cond (ready s g w (7 - n)) (7 - n) (lowest_of s g w n)

unfoldable pub lowest : List ℕ → List ℕ → List ℕ → ℕ
lowest s g w = lowest_of s g w lines

-- "a new round, all counts 0"
abbrev pub new_round : List ℕ
new_round = replicate lines 0

-- "1, which a count above its share gets": so does a mark that is neither 0 nor 1, as any field out of range
unfoldable pub in_range : List ℕ → List ℕ → List ℕ → ℕ → Bool
in_range s g w i = leb (of g i) (of s i) && leb (of w i) 1

-- "a share of 1 to 4"
unfoldable pub share_ok : List ℕ → ℕ → Bool
share_ok s i = leb 1 (of s i) && leb (of s i) 4

unfoldable pub rests : List ℕ → ℕ → Bool
rests w i = not (waits w i)

-- whom a turn is given to, and whether it begins a round; a turn that is turned back has its number alone
pub record Outcome : Type 0 where
  pub number : ℕ
  pub line : ℕ
  pub begins : Bool

abbrev pub refused : ℕ → Outcome
refused n = record { number = n; line = 0; begins = false }

-- the same of the code's answer
abbrev pub outcome : Result Choice Refusal → Outcome
outcome (Ok c) = record { number = 0; line = c.line; begins = c.begins }
outcome (Err why) = refused (number_of why)

-- "a turn that finds none first begins a new round"
unfoldable pub begins : List ℕ → List ℕ → List ℕ → Bool
begins s g w = not (ltb (lowest s g w) lines)

abbrev pub round_of : Bool → List ℕ → List ℕ
round_of b g = cond b new_round g

-- "the next turn goes to the lowest waiting line with share left"
unfoldable pub found : List ℕ → List ℕ → List ℕ → Outcome
found s g w = record { number = 0; line = lowest s (round_of (begins s g w) g) w; begins = begins s g w }

-- numbers 1, 19 and 20, in this order
unfoldable pub choice_of : List ℕ → List ℕ → List ℕ → Outcome
choice_of s g w =
    cond (all_to (in_range s g w) lines)
    (cond (all_to (share_ok s) lines) (cond (all_to (rests w) lines) (refused 20) (found s g w)) (refused 19))
    (refused 1)

-- a turn: its number, the line that it is given to, and the counts afterwards
pub record Turn : Type 0 where
  pub number : ℕ
  pub line : ℕ
  pub given : List ℕ

unfoldable pub one_more : List ℕ → ℕ → List ℕ
one_more g i = set g i (of g i + 1)

abbrev pub counts_after : List ℕ → Outcome → List ℕ
counts_after g c = cond (eqb c.number 0) (one_more (round_of c.begins g) c.line) g

unfoldable pub turn_of : List ℕ → List ℕ → List ℕ → Turn
turn_of s g w = record { number = (choice_of s g w).number; line = (choice_of s g w).line; given = counts_after g (choice_of s g w) }
