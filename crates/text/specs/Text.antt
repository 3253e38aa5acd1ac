-- Text as bytes, numbers in decimal, and what putting a text leaves of an output.
use Rattle.std.specs.Prelude.{ℕ, zero, suc, ◌+◌, ◌/◌, ◌%◌, List, [], ◌∷◌, ◌++◌, Bool, cond, length, eqb, ltb, leb}
use Prim.Native.Char.{code}
use Prim.Native.String.{String, [] as empty, ◌∷◌ as ◌then◌}
use Rattle.std.proofs.lemmas.List.Edits.{sets}

-- the bytes of a text
abbrev pub ascii : String → List ℕ
ascii empty = []
ascii (c then s) = code c ∷ ascii s

-- a number in decimal, the highest digit first and no zero in front of it, in at most k digits
unfoldable pub decimal_to : ℕ → ℕ → List ℕ
decimal_to zero n = []
decimal_to (suc k) n = cond (ltb n 10) ((48 + n) ∷ []) (decimal_to k (n / 10) ++ ((48 + n % 10) ∷ []))

-- twenty digits are enough for 64 bits
unfoldable pub decimal64 : ℕ → List ℕ
decimal64 n = decimal_to 20 n

-- a number and the byte behind it
unfoldable pub field64 : ℕ → ℕ → List ℕ
field64 n b = decimal64 n ++ (b ∷ [])

-- a row of words, with another byte for each space between them: a spreadsheet wants commas
unfoldable pub parted : ℕ → ℕ → ℕ
parted sep b = cond (eqb b 32) sep b

unfoldable pub columns : ℕ → List ℕ → List ℕ
columns sep [] = []
columns sep (b ∷ bs) = parted sep b ∷ columns sep bs

-- an output, and the position behind what was put there
pub record Put : Type 0 where
  pub out : List ℕ
  pub at : ℕ

abbrev pub put : List ℕ → ℕ → Put
put out at = record { out = out; at = at }

-- x put at a position
unfoldable pub put_of : List ℕ → ℕ → List ℕ → Put
put_of out at x = put (sets out at x) (at + length x)

-- room for the longest line from `at` on, in an output of this length
unfoldable pub has_room_lem : ℕ → ℕ → ℕ → Bool
has_room_lem longest len at = leb (at + longest) len

-- a line put at a position, where the longest line has room there; else nothing changes
unfoldable pub line_within : ℕ → List ℕ → ℕ → List ℕ → Put
line_within longest out at line = cond (has_room_lem longest (length out) at) (put_of out at line) (put out at)
