-- Document 01, "Playback reads an archive on standard input": the text that it prints, as bytes, each line ended by byte 10.
use Rattle.std.specs.Prelude.{ℕ, zero, suc, ◌≡◌, refl, List, [], ◌∷◌, ◌++◌, length, replicate}
use Rattle.text.specs.Text.{ascii, decimal_to, Put, line_within}
use Rattle.archive.specs.declared.Fields.{Fields}
use Rattle.archive.specs.declared.Answer.{Answer}
use Rattle.archive.specs.declared.Answer.TheVariants.{Record, End, Refused}
use Rattle.replay.specs.Replay.{replay_of}

-- ten digits are enough for 32 bits
unfoldable pub decimal : ℕ → List ℕ
decimal n = decimal_to 10 n

-- a number and the byte behind it: a space (32), or the line's end (10)
unfoldable pub field : ℕ → ℕ → List ℕ
field n b = decimal n ++ (b ∷ [])

-- "the heading"
unfoldable pub heading : List ℕ
heading = ascii "commit station transaction reads writes\n"

-- a commit, as in `1 0 1 1 1`: "reads and writes are the counts n and m"
unfoldable pub line_of : Fields → List ℕ
line_of f =
    field f.commit 32 ++ (field f.station 32 ++ (field f.transaction 32 ++ (field f.reads 32 ++ field f.writes 10)))

-- the same with another byte between the numbers: a comma (44) for a spreadsheet
unfoldable pub line_with : ℕ → Fields → List ℕ
line_with sep f =
    field f.commit sep ++ (field f.station sep ++ (field f.transaction sep ++ (field f.reads sep ++ field f.writes 10)))

pub line_with_space : (f : Fields) → line_with 32 f ≡ line_of f
unfolding line_of line_with
line_with_space f = refl

-- "`end` gives the last commit number"
unfoldable pub end_line : ℕ → List ℕ
end_line last = ascii "end " ++ field last 10

-- "a fault prints `refused N after K` (number, last good commit) in place of the end line"
unfoldable pub refused_line : ℕ → ℕ → List ℕ
refused_line number last = ascii "refused " ++ (field number 32 ++ (ascii "after " ++ field last 10))

-- what an answer prints: a record its line, with those from its end on behind it, and any other the last line
abbrev pub lines_for : (ℕ → ℕ → List ℕ → List ℕ) → ℕ → List ℕ → Answer → List ℕ
lines_for next last v (Record f) = line_of f ++ next f.end f.commit v
lines_for next last v End = end_line last
lines_for next last v (Refused k) = refused_line k last

-- the lines for the archive from `at` on, record by record. Each takes a turn, and `printed` has enough (`lines-enough` in Turns).
unfoldable pub lines_from : ℕ → List ℕ → ℕ → ℕ → List ℕ → List ℕ
lines_from zero s at last v = refused_line 12 last
lines_from (suc turns) s at last v = lines_for (lines_from turns s) last (replay_of s at last v).values (replay_of s at last v).answer

-- the whole text for an archive. Playback starts behind commit 0, with every value 0.
unfoldable pub printed : List ℕ → List ℕ
printed s = heading ++ lines_from (suc (length s)) s 0 0 (replicate 256 0)

-- no line is longer (`heading-fits`, `line-fits`, `end_fits` and `refused-fits` in Fits)
abbrev pub longest : ℕ
longest = 64

-- a line put at a position, where the longest line has room there; else nothing changes
abbrev pub line_at : List ℕ → ℕ → List ℕ → Put
line_at out at line = line_within longest out at line
