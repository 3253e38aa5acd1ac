-- The program's turns on the pieces that its reads bring: however they cut the archive, what it puts out is `printed` of the whole.
use Rattle.std.specs.Prelude.{ℕ, zero, suc, ◌+◌, ◌<◌, ◌≡◌, List, [], ◌∷◌, ◌++◌, true, cond, length, take, drop, eqb}
use Rattle.lists.specs.Bytes.{Bytes}
use Rattle.text.specs.Text.{put, has_room_lem}
use Rattle.report.specs.Text.{refused_line, longest}
use Rattle.words.specs.Words.{further}
use Rattle.player.specs.Play.{Ran, no_room, run_of}
use Rattle.player.specs.Close.{never, wants_more}
use Rattle.player_meaning.specs.Lines.{lines_on}
use Rattle.player_meaning.specs.Progress.{lines_job, closing_of}

-- what is put out, where the turns suffice
pub data Out : Type 0 where
  done : List ℕ → Out
  running : Out

-- the text so far: what was written, and what stands in the output
abbrev pub so_far : List ℕ → Ran → List ℕ
so_far written r = written ++ take r.text.at r.text.out

abbrev pub Next : Type 0
Next = List (List ℕ) → List ℕ → ℕ → List ℕ → ℕ → List ℕ → List ℕ → List ℕ → ℕ → Out

-- a read brings the next piece, behind the bytes of b that are not played; behind the last piece there is none
abbrev pub reads : Next → List (List ℕ) → List ℕ → ℕ → List ℕ → Ran → Out
reads next [] written base b r = done (so_far written r ++ closing_of b r.at r.last)
reads next (x ∷ xs) written base b r =
    next xs written (further base r.at) (drop r.at b ++ x) r.last r.values r.counts r.text.out r.text.at

-- behind a play of the bytes b that are there: a write where the output is full, a read where more is wanted, else the closing line
abbrev pub after : Next → List (List ℕ) → List ℕ → ℕ → List ℕ → Ran → Out
after next ps written base b r =
    cond (eqb r.number no_room)
    (next ps (so_far written r) (further base r.at) (drop r.at b) r.last r.values r.counts r.text.out 0)
    (cond (wants_more r.number) (reads next ps written base b r) (done (so_far written r ++ refused_line r.number r.last)))

-- the program's turns (`turn` and `run` of crate playback, without the system calls): ps are the pieces that the reads to come bring,
-- `written` is what was written so far, b the bytes that are there, o the output, filled up to n
unfoldable pub drive : ℕ → Next
drive zero ps written base b last v c o n = running
drive (suc turns) ps written base b last v c o n = after (drive turns) ps written base b (run_of lines_job base b last v c (put o n))

-- the pieces one behind the other
abbrev pub joined : List (List ℕ) → List ℕ
joined [] = []
joined (x ∷ xs) = x ++ joined xs

abbrev pub AllBytes : List (List ℕ) → Type 0
AllBytes [] = Unit {0}
AllBytes (x ∷ xs) = Bytes x × AllBytes xs

-- enough turns for these pieces: one for each, and one for each byte
abbrev pub turns_for : List (List ℕ) → ℕ
turns_for [] = 0
turns_for (x ∷ xs) = suc (length x + turns_for xs)

abbrev pub Drives : ℕ → Type 0
Drives turns = (ps : List (List ℕ)) (written : List ℕ) (base : ℕ) (b : List ℕ) (last : ℕ) (v c o : List ℕ) (n : ℕ)
    → Bytes b → AllBytes ps → last < never → has_room_lem longest (length o) n ≡ true → length b + turns_for ps < turns
    → drive turns ps written base b last v c o n ≡ done ((written ++ take n o) ++ lines_on (b ++ joined ps) 0 last v)
