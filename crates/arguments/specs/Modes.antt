-- What the words behind the program's name ask for (docs/PLAYBACK.md, "Arguments"): each word changes ten numbers.
use Rattle.std.specs.Prelude.{Option, None, Some, ℕ, List, [], ◌∷◌, ◌++◌, Bool, true, false, ◌&&◌, not, cond, length, take, get_or, set, eqb, ltb, leb}
use Rattle.text.specs.Text.{ascii}
use Rattle.text.specs.Decimal.{number}
use Rattle.arguments.specs.Words.{all_digits, same_word}

-- "decimal number from 0 to 4294967295"
abbrev pub most_commits : ℕ
most_commits = 4294967295

unfoldable pub is_number : List ℕ → Bool
is_number word = not (eqb (length word) 0) && (all_digits word && leb (number word) most_commits)

unfoldable pub commit_of : List ℕ → Option ℕ
commit_of word = cond (is_number word) (Some (number word)) None

-- the ten numbers: which listing, its N or A, `--from`, `--to`, whether `--csv` and `--status` are there, the option that waits for its
-- number, and the words that name the archive, a range, and what is not understood (0: none)
abbrev pub listing_at : ℕ
listing_at = 0

abbrev pub number_at : ℕ
number_at = 1

abbrev pub from_at : ℕ
from_at = 2

abbrev pub until_at : ℕ
until_at = 3

abbrev pub csv_at : ℕ
csv_at = 4

abbrev pub status_at : ℕ
status_at = 5

abbrev pub wants_at : ℕ
wants_at = 6

abbrev pub file_at : ℕ
file_at = 7

abbrev pub range_at : ℕ
range_at = 8

abbrev pub wrong_at : ℕ
wrong_at = 9

-- before the first word: all commits, to the end. No commit has the number 4294967296
unfoldable pub fresh : List ℕ
fresh = 0 ∷ 0 ∷ 0 ∷ 4294967296 ∷ 0 ∷ 0 ∷ 0 ∷ 0 ∷ 0 ∷ 0 ∷ []

-- the options by number: those up to 6 choose a listing
unfoldable pub listing_of : List ℕ → ℕ
listing_of word =
    cond (same_word word (ascii "--totals")) 1
    (cond (same_word word (ascii "--at")) 2
    (cond (same_word word (ascii "--counter")) 3
    (cond (same_word word (ascii "--record")) 4 (cond (same_word word (ascii "--help")) 5 (cond (same_word word (ascii "--version")) 6 0)))))

unfoldable pub other_of : List ℕ → ℕ
other_of word =
    cond (same_word word (ascii "--from")) 7
    (cond (same_word word (ascii "--to")) 8 (cond (same_word word (ascii "--csv")) 9 (cond (same_word word (ascii "--status")) 10 0)))

-- no option: "a word that does not begin with `-`, or is `-` alone, names the archive"
unfoldable pub is_name : List ℕ → Bool
is_name word = cond (eqb (length word) 0) false (cond (eqb (get_or word 0 0) 45) (eqb (length word) 1) true)

-- a word that is not understood
unfoldable pub wrong : List ℕ → ℕ → List ℕ
wrong a i = set a wrong_at i

-- an archive is named once
unfoldable pub name_taken : List ℕ → ℕ → List ℕ → List ℕ
name_taken a i word = cond (is_name word) (cond (eqb (get_or a file_at 0) 0) (set a file_at i) (wrong a i)) (wrong a i)

-- a listing is chosen once; `--at`, `--counter` and `--record` want a number
unfoldable pub listing_taken : List ℕ → ℕ → ℕ → List ℕ
listing_taken a i o =
    cond (eqb (get_or a listing_at 0) 0)
    (cond (leb 2 o) (cond (leb o 4) (set (set a listing_at o) wants_at o) (set a listing_at o)) (set a listing_at o)) (wrong a i)

-- `--from` and `--to` want a number too
unfoldable pub other_taken : List ℕ → ℕ → List ℕ → List ℕ
other_taken a i word =
    cond (eqb (other_of word) 9) (set a csv_at 1)
    (cond (eqb (other_of word) 10) (set a status_at 1)
    (cond (eqb (other_of word) 0) (name_taken a i word) (set (set a range_at i) wants_at (other_of word))))

unfoldable pub option_taken : List ℕ → ℕ → List ℕ → List ℕ
option_taken a i word = cond (eqb (listing_of word) 0) (other_taken a i word) (listing_taken a i (listing_of word))

-- the number that an option wants: a counter is 0 to 255, a record's commit is not 0
unfoldable pub number_fits : ℕ → ℕ → Bool
number_fits o n = cond (eqb o 3) (leb n 255) (cond (eqb o 4) (leb 1 n) true)

unfoldable pub place_for : ℕ → ℕ
place_for o = cond (eqb o 7) from_at (cond (eqb o 8) until_at number_at)

abbrev pub number_taken : List ℕ → ℕ → Option ℕ → List ℕ
number_taken a i (Some n) =
    cond (number_fits (get_or a wants_at 0) n) (set (set a (place_for (get_or a wants_at 0)) n) wants_at 0) (wrong a i)
number_taken a i None = wrong a i

-- word i, counted from 1; behind one that is not understood none is looked at
unfoldable pub word_taken : List ℕ → ℕ → List ℕ → List ℕ
word_taken a i word =
    cond (eqb (get_or a wrong_at 0) 0)
    (cond (eqb (get_or a wants_at 0) 0) (option_taken a i word) (number_taken a i (commit_of word))) a

-- behind the last word, which is word i: a number that does not come, a range of a table or of one record, and one that ends before it
-- begins are not understood
unfoldable pub ranges : ℕ → Bool
ranges listing = cond (eqb listing 0) true (eqb listing 3)

unfoldable pub settled : List ℕ → ℕ → List ℕ
settled a i =
    cond (eqb (get_or a wrong_at 0) 0)
    (cond (eqb (get_or a wants_at 0) 0)
    (cond (eqb (get_or a range_at 0) 0) a
    (cond (ranges (get_or a listing_at 0)) (cond (leb (get_or a from_at 0) (get_or a until_at 0)) a (wrong a (get_or a range_at 0))) (wrong a (get_or a range_at 0))))
    (wrong a i)) a

-- of a long word the first 64 bytes
abbrev pub shown_length : ℕ
shown_length = 64

unfoldable pub shown : List ℕ → List ℕ
shown word = cond (ltb (length word) shown_length) word (take shown_length word)

-- the line that names the word
unfoldable pub unclear_line : List ℕ → List ℕ
unclear_line word =
    ascii "playback: " ++ (shown word ++ ascii " is not understood here; playback --help says what is\n")

-- no line is longer
abbrev pub longest : ℕ
longest = 256
