-- "A line has an upper frame count, a space and a price" (docs/LICENCE.md, "The tariff file").
use Rattle.std.specs.Prelude.{ℕ, ◌+◌, ◌*◌, ◌-◌, List, [], ◌∷◌, Bool, ◌&&◌, cond, length, eqb, leb, Option, Some, None}
use Rattle.signed.specs.Change.{most}
use Rattle.arguments.specs.Modes.{commit_of}
use Rattle.tariff_file.specs.declared.Step.{Step}

unfoldable pub is_digit : ℕ → Bool
is_digit b = leb 48 b && leb b 57

-- the rest of a word behind digits that mean n
unfoldable pub read_from : ℕ → List ℕ → Option ℕ
read_from n [] = Some n
read_from n (b ∷ bs) = cond (is_digit b) (cond (leb (n * 10 + (b - 48)) most) (read_from (n * 10 + (b - 48)) bs) None) None

-- an upper count is written in digits, and is at most 2^63 − 1
unfoldable pub count_of : List ℕ → Option ℕ
count_of word = cond (eqb (length word) 0) None (read_from 0 word)

-- a line up to its first space, and behind it
unfoldable pub word_of : List ℕ → List ℕ
word_of [] = []
word_of (b ∷ bs) = cond (eqb b 32) [] (b ∷ word_of bs)

unfoldable pub rest_of : List ℕ → List ℕ
rest_of [] = []
rest_of (b ∷ bs) = cond (eqb b 32) bs (rest_of bs)

-- a price is written as a commit number is, and has as many bits
abbrev pub step_of : Option ℕ → Option ℕ → Option Step
step_of None p = None
step_of (Some u) None = None
step_of (Some u) (Some p) = Some (record { upper = u; price = p })

unfoldable pub line_of : List ℕ → Option Step
line_of line = step_of (count_of (word_of line)) (commit_of (rest_of line))
