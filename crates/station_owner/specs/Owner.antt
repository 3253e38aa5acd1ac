-- "Station steps" over the bytes of a state: the owner's operations. Each definition carries out the one of crate line that has its
-- name; a call's contract is `called` of it.
use Rattle.std.specs.Prelude.{ℕ, ◌+◌, ◌-◌, ◌*◌, ◌/◌, ◌%◌, ◌^◌, List, [], ◌∷◌, Bool, not, ◌&&◌, ◌||◌, cond, length, set, replicate, eqb, ltb, leb}
use Rattle.std.specs.Int.Bits.{bit_and}
use Rattle.std.specs.Int.Count.{ones, count_trailing_zeros}
use Rattle.std.proofs.lemmas.List.Edits.{sets}
use Rattle.sets.specs.Base.{turned}
use Rattle.limits.specs.Limit.{limit}
use Rattle.message.specs.Layout.{up_message}
use Rattle.station_state.specs.Layout.{copy_of, read_value, written_value, number, cached, whole, unavailable, locks, station, wait, unavailable_from, read_set_from, written_set_from, has_bit, member, count_in, written_with, requested_b, opened, locking_b, kept_whole_b}
use Rattle.station_state.specs.Valid.{valid}
use Rattle.station_state.specs.Changes.{begin_b, record_read_b, write_all_b, for_read_b, for_write_b, for_commit_b}
use Rattle.station_pages.specs.Pages.{used_page_b, drop_pages_b}
use Rattle.station_commit.specs.Commit.{commit_bytes}
use Rattle.station_callbacks.specs.Callbacks.{sends, close_b, undo_b}
use Rattle.station_answer.specs.declared.Answer.{Answer}
use Rattle.station_answer.specs.declared.Answer.TheVariants.{Begun, Value, Waits, Written, Aborted, Purged}
use Rattle.station_answer.specs.Did.{Did, does, does_all, refuses, said, Outcome, outcome, laid}
use Rattle.station_answer.specs.Ask.{open_b}
use Rattle.message.specs.Commit.{station_room, commit_room}

-- number 1: "output is under .. 8 messages"; a commit is "at most 1,408, the station's buffer too"
unfoldable pub ready : List ℕ → List ℕ → List ℕ → Bool
ready s o c = valid s && leb station_room (length o) && leb commit_room (length c)

-- .. and no transaction is open
unfoldable pub at_rest : List ℕ → List ℕ → List ℕ → Bool
at_rest s o c = eqb (opened s) 0 && ready s o c

-- a call on a lent state and lent buffers
abbrev pub called : List ℕ → List ℕ → List ℕ → Did → Outcome
called s o c d = laid o c (cond (ready s o c) d (refuses 1 s))

-- number 0 is none
abbrev pub unless_b : ℕ → Did → List ℕ → Did
unless_b n d s = cond (eqb n 0) d (refuses n s)

-- 7 Waiting, 9 Open, 11 Spent
unfoldable pub check_begin_b : List ℕ → ℕ
check_begin_b s = turned (not (eqb (wait s) 0)) 7 (turned (open_b s) 9 (turned (eqb (number s) 4294967295) 11 0))

-- what these come to, with 1, of a station that is not at rest (`begin-back`)
unfoldable pub no_begin : List ℕ → List ℕ → List ℕ → ℕ
no_begin s o c = cond (ready s o c) (cond (eqb (wait s) 0) 9 7) 1

-- 7 Waiting, 8 Closed, then others
unfoldable pub open_then_b : List ℕ → ℕ → ℕ
open_then_b s others = turned (not (eqb (wait s) 0)) 7 (turned (not (open_b s)) 8 others)

abbrev pub check_open_b : List ℕ → ℕ
check_open_b s = open_then_b s 0

-- 15 Long: "the owner's 49th recorded read or 49th written object"
unfoldable pub long_read_b : ℕ → List ℕ → Bool
long_read_b a s = not (member s read_set_from a || member s written_set_from a) && leb limit (count_in s read_set_from)

-- .. with the whole set x of page p
unfoldable pub long_write_b : ℕ → ℕ → List ℕ → Bool
long_write_b p x s = ltb limit (written_with s p x)

-- 4 Range, 7 Waiting, 8 Closed, 15 Long
unfoldable pub check_read_b : ℕ → List ℕ → ℕ
check_read_b a s = turned (not (ltb a 256)) 4 (open_then_b s (turned (long_read_b a s) 15 0))

-- "the empty set, or several objects from a validating owner, is number 4"
unfoldable pub bad_set_b : ℕ → ℕ → List ℕ → Bool
bad_set_b p x s = ltb 31 p || eqb x 0 || ltb 255 x || (not (locking_b s) && ltb 1 (ones x))

unfoldable pub check_write_b : ℕ → ℕ → List ℕ → ℕ
check_write_b p x s = turned (bad_set_b p x s) 4 (open_then_b s (turned (long_write_b p x s) 15 0))

-- 4 Range, 7 Waiting ("a purge counts only for the requested page"), 10 Kept
unfoldable pub check_purge_b : ℕ → List ℕ → ℕ
check_purge_b p s =
    turned (not (ltb p 32)) 4 (turned (requested_b s p) 7 (turned (used_page_b s p || not (has_bit (cached s) p) || kept_whole_b s p) 10 0))

unfoldable pub own_begin_b : List ℕ → Did
own_begin_b s = unless_b (check_begin_b s) (does (Begun (number s + 1)) (begin_b s) []) s

-- "1 read request (page, object, transaction)"
abbrev pub read_request_b : ℕ → List ℕ → List ℕ
read_request_b a s = up_message 1 (station s) (a / 8) (a % 8) (number s) 0 0

-- "Let kind 2 carry an object set in byte 16; byte 3 is then 0"
abbrev pub write_request_b : ℕ → ℕ → List ℕ → List ℕ
write_request_b p x s = up_message 2 (station s) p 0 (number s) 0 x

-- "an available cached object"
unfoldable pub shown_b : ℕ → List ℕ → Bool
shown_b a s = has_bit (cached s) (a / 8) && not (member s unavailable_from a)

unfoldable pub read_local_b : ℕ → List ℕ → Did
read_local_b a s = does (Value (copy_of s a)) (record_read_b a s) []

-- "An object not cached or unavailable is requested (1) and the owner gets 'waits'"
unfoldable pub read_ask_b : ℕ → List ℕ → Did
read_ask_b a s = does Waits (for_read_b a s) (read_request_b a s ∷ [])

unfoldable pub read_here_b : ℕ → List ℕ → Did
read_here_b a s = cond (shown_b a s) (read_local_b a s) (read_ask_b a s)

-- "afterwards it sees that value or its own last write. Otherwise an available cached object is read locally."
unfoldable pub read_as_b : ℕ → List ℕ → Did
read_as_b a s =
    cond (member s written_set_from a) (does (Value (written_value s a)) s [])
    (cond (member s read_set_from a) (does (Value (read_value s a)) s []) (read_here_b a s))

unfoldable pub own_read_b : ℕ → List ℕ → Did
own_read_b a s = unless_b (check_read_b a s) (read_as_b a s) s

-- "A locking station writes locally under its lock on object or page, else sends 2." Of a validating one document 02 says: "It writes
-- locally only on available objects"; else it sends 1. What may be written at once on page p:
unfoldable pub at_hand_b : ℕ → List ℕ → ℕ
at_hand_b p s =
    cond (locking_b s) (cond (has_bit (whole s) p) 255 (locks s p)) (cond (has_bit (cached s) p) (255 - unavailable s p) 0)

-- "the request names those under no lock yet"
unfoldable pub named_b : ℕ → ℕ → List ℕ → ℕ
named_b p x s = bit_and x (255 - at_hand_b p s)

-- a validating station asks for the object
unfoldable pub ask_b : ℕ → ℕ → List ℕ → List ℕ
ask_b p x s = cond (locking_b s) (write_request_b p x s) (read_request_b (p * 8 + count_trailing_zeros 8 x) s)

unfoldable pub write_ask_b : ℕ → ℕ → List ℕ → List ℕ → Did
write_ask_b p x f s = does Waits (for_write_b p x f s) (ask_b p (named_b p x s) s ∷ [])

-- "all are written when the grant arrives, at once if none is named"
unfoldable pub write_as_b : ℕ → ℕ → List ℕ → List ℕ → Did
write_as_b p x f s = cond (eqb (named_b p x s) 0) (does Written (write_all_b p x f s) []) (write_ask_b p x f s)

-- "The owner gives a value for each object": f by object, those outside the set are not looked at
unfoldable pub own_write_set_b : ℕ → ℕ → List ℕ → List ℕ → Did
own_write_set_b p x f s = unless_b (check_write_b p x s) (write_as_b p x f s) s

-- one object's value
unfoldable pub only_at : ℕ → ℕ → List ℕ
only_at o v = set (replicate 8 0) o v

-- a write of one object is that of the set of one
unfoldable pub own_write_b : ℕ → ℕ → List ℕ → Did
own_write_b a v s = own_write_set_b (a / 8) (2 ^ (a % 8)) (only_at (a % 8) v) s

-- "Commit sends 3 and waits for 21 or 22.": the commit's bytes from the start of c
abbrev pub commits : List ℕ → List ℕ → List ℕ → Outcome
commits s o c = outcome (for_commit_b s) o (sets c 0 (commit_bytes s)) (said Waits 0 (length (commit_bytes s)))

unfoldable pub commit_called : List ℕ → List ℕ → List ℕ → Outcome
commit_called s o c =
    cond (ready s o c) (cond (eqb (check_open_b s) 0) (commits s o c) (laid o c (refuses (check_open_b s) s))) (laid o c (refuses 1 s))

-- "An owner's abort ends the transaction; a locking station sends 4."
unfoldable pub aborts_b : List ℕ → List (List ℕ)
aborts_b s = cond (locking_b s) (up_message 4 (station s) 0 0 (number s) 0 0 ∷ []) []

unfoldable pub own_abort_b : List ℕ → Did
own_abort_b s = unless_b (check_open_b s) (does_all (Aborted 0) (close_b (station s) (sends (undo_b s) (aborts_b s)))) s

-- "5 purge (page)"
unfoldable pub own_purge_b : ℕ → List ℕ → Did
own_purge_b p s = unless_b (check_purge_b p s) (does Purged (drop_pages_b (2 ^ p) s) (up_message 5 (station s) p 0 0 0 0 ∷ [])) s
