-- "Server steps": the questions that the server asks of its state. Each definition carries out the one of crate line that has its name;
-- i is the station whose message or waiting entry is looked at, m the bytes of its message.
use Rattle.std.specs.Prelude.{ℕ, ◌+◌, ◌-◌, ◌*◌, ◌/◌, ◌%◌, ◌^◌, List, Bool, true, false, not, ◌&&◌, ◌||◌, cond, get_or, eqb, ltb}
use Rattle.std.specs.Int.Bits.{bit_and}
use Rattle.sets.specs.Base.{turned}
use Rattle.le.specs.Le.{u32_at}
use Rattle.cells.specs.Loops.{any_to, mask_to}
use Rattle.message.specs.Layout.{station_of, page_of, transaction_of, pages_of}
use Rattle.message.specs.Layout as Message
use Rattle.message.specs.Commit.{addresses_at, sent_reads, sent_writes}
use Rattle.station_state.specs.Layout.{number_width, has_bit}
use Rattle.server_state.specs.Layout.{arrival_of, version_of, read_versions_from, written_versions_from, latest_of, listed_of, last_of, asked_of, lock_of, whole_of, read_set, written_set, unfinished_of, pend_of, busy_of, locking_b, keeps_b, waits_b, other_b, wanted_on}

-- "a lock of its own" on the page
unfoldable pub lock_at_b : List ℕ → ℕ → ℕ → ℕ → Bool
lock_at_b s i p o = eqb (lock_of s (p * 8 + o)) (i + 1)

unfoldable pub lock_on_b : List ℕ → ℕ → ℕ → Bool
lock_on_b s i p = eqb (whole_of s p) (i + 1) || any_to (lock_at_b s i p) 8

-- number 6

-- "1 to 4 with a number below the station's latest, of a finished transaction, above an unfinished locking one or while it waits"
unfoldable pub bad_number_b : List ℕ → ℕ → ℕ → Bool
bad_number_b s i t =
    ltb t (latest_of s i) || (eqb t (latest_of s i) && eqb (unfinished_of s i) 0)
    || (ltb (latest_of s i) t && not (eqb (unfinished_of s i) 0) && locking_b s i) || waits_b s i

-- "a locking commit that writes an unlocked object": write k of the record
unfoldable pub unlocked_at : List ℕ → ℕ → List ℕ → ℕ → Bool
unlocked_at s i m k =
    let a = get_or m (addresses_at m + sent_reads m + k) 0 in
    not (eqb (lock_of s a) (i + 1)) && not (eqb (whole_of s (a / 8)) (i + 1))

unfoldable pub unlocked_b : List ℕ → ℕ → List ℕ → Bool
unlocked_b s i m = locking_b s i && any_to (unlocked_at s i m) (sent_writes m)

-- "7 dropping a page with a lock of its own"
unfoldable pub drops_locked_b : List ℕ → ℕ → ℕ → ℕ → Bool
drops_locked_b s i d p = has_bit d p && lock_on_b s i p

unfoldable pub drops_own_b : List ℕ → ℕ → ℕ → Bool
drops_own_b s i d = any_to (drops_locked_b s i d) 32

-- document 02, wish 10: an 8 of a keeping station "naming a transaction above an unfinished one is number 6"
unfoldable pub above_open_b : List ℕ → ℕ → ℕ → Bool
above_open_b s i t = ltb (latest_of s i) t && not (eqb (unfinished_of s i) 0)

-- "2, 4, 6, 7, 8 from a validating station"
unfoldable pub unexpected_b : List ℕ → List ℕ → Bool
unexpected_b s m =
    let i = station_of m in
    let t = transaction_of m in
    let k = Message.kind_of m in
    cond (eqb k 1) (bad_number_b s i t)
    (cond (eqb k 2) (bad_number_b s i t || not (locking_b s i))
    (cond (eqb k 3) (bad_number_b s i t || unlocked_b s i m)
    (cond (eqb k 4) (bad_number_b s i t || not (locking_b s i))
    (cond (eqb k 5) (lock_on_b s i (page_of m))
    (cond (eqb k 7) (not (locking_b s i) || drops_own_b s i (pages_of m))
    (cond (eqb k 8) (not (locking_b s i) || (keeps_b s i && above_open_b s i t)) (not (locking_b s i))))))))

-- what an answer answers

-- a 20 of r's transaction t is open at station i
unfoldable pub open_call_b : List ℕ → ℕ → ℕ → ℕ → Bool
open_call_b s i r t = waits_b s r && eqb t (latest_of s r) && has_bit (pend_of s r) i

-- a 19 for the page is open at station i; a keeping station's 8 "is heeded either way"
unfoldable pub open_ask_b : List ℕ → ℕ → ℕ → ℕ → Bool
open_ask_b s i p t = eqb (whole_of s p) (i + 1) && has_bit (asked_of s) p && (keeps_b s i || (not (eqb (unfinished_of s i) 0) && eqb t (latest_of s i)))

-- the gates of the pass

-- "a used object with another version": object o of page p
unfoldable pub other_version : List ℕ → ℕ → ℕ → Bool
other_version s from a = not (eqb (u32_at s (from + a * number_width)) (version_of s a))

unfoldable pub stale_at_b : List ℕ → ℕ → ℕ → ℕ → Bool
stale_at_b s i p o =
    (has_bit (read_set s i p) o && other_version s (read_versions_from i) (p * 8 + o)) || (has_bit (written_set s i p) o && other_version s (written_versions_from i) (p * 8 + o))

-- a page of which nothing is used is not looked at
unfoldable pub stale_on_b : List ℕ → ℕ → ℕ → Bool
stale_on_b s i p = cond (eqb (wanted_on s i p) 0) false (any_to (stale_at_b s i p) 8)

unfoldable pub stale_b : List ℕ → ℕ → Bool
stale_b s i = any_to (stale_on_b s i) 32

-- "exactly when a written object itself is locked by another": object o of page p
unfoldable pub locked_at_b : List ℕ → ℕ → ℕ → ℕ → Bool
locked_at_b s i p o = has_bit (written_set s i p) o && other_b (lock_of s (p * 8 + o)) i

-- a page on which nothing is written is not looked at
unfoldable pub locked_on_b : List ℕ → ℕ → ℕ → Bool
locked_on_b s i p = cond (eqb (written_set s i p) 0) false (any_to (locked_at_b s i p) 8)

unfoldable pub locked_b : List ℕ → ℕ → Bool
locked_b s i = any_to (locked_on_b s i) 32

-- "number 4,294,967,295 already used, cause 4; a used object with another version, cause 2"; "a written object itself .. locked by another", cause 3
unfoldable pub fault_b : List ℕ → ℕ → ℕ
fault_b s i = turned (eqb (last_of s) 4294967295) 4 (turned (stale_b s i) 2 (turned (locked_b s i) 3 0))

unfoldable pub earlier_b : List ℕ → ℕ → ℕ → Bool
earlier_b s j i = waits_b s j && ltb (arrival_of s j) (arrival_of s i)

-- "another holds a lock on an object wanted, or an earlier waiter wants it and one of the two writes": j blocks i at object o of page p
unfoldable pub blocks_b : List ℕ → ℕ → ℕ → ℕ → ℕ → Bool
blocks_b s i p o j =
    (eqb (lock_of s (p * 8 + o)) (j + 1) && not (eqb j i))
    || (earlier_b s j i && has_bit (wanted_on s j p) o && (has_bit (written_set s j p) o || has_bit (written_set s i p) o))

unfoldable pub blocked_at_b : List ℕ → ℕ → ℕ → ℕ → Bool
blocked_at_b s i p o = has_bit (wanted_on s i p) o && any_to (blocks_b s i p o) 8

unfoldable pub blocked_on_b : List ℕ → ℕ → ℕ → Bool
blocked_on_b s i p = cond (eqb (wanted_on s i p) 0) false (any_to (blocked_at_b s i p) 8)

unfoldable pub blocked_b : List ℕ → ℕ → Bool
blocked_b s i = any_to (blocked_on_b s i) 32

-- "Page locked whole by another"
unfoldable pub shut_b : List ℕ → ℕ → ℕ → Bool
shut_b s i p = not (eqb (wanted_on s i p) 0) && other_b (whole_of s p) i

unfoldable pub shut_out_b : List ℕ → ℕ → Bool
shut_out_b s i = any_to (shut_b s i) 32

-- causes 4 and 2, which come ahead of a keeping holder's 19
unfoldable pub out_of_time_b : List ℕ → ℕ → Bool
out_of_time_b s i = eqb (last_of s) 4294967295 || stale_b s i

-- page p's 19 is due: k, only if its holder keeps
unfoldable pub due_b : Bool → List ℕ → ℕ → ℕ → Bool
due_b k s i p = shut_b s i p && (not k || keeps_b s (whole_of s p - 1)) && not (has_bit (asked_of s) p)

-- "each other locking station listed for a page of theirs"
unfoldable pub concerns_at : List ℕ → ℕ → ℕ → ℕ → Bool
concerns_at s i j p = has_bit (listed_of s j) p && not (eqb (written_set s i p) 0)

unfoldable pub concerned_b : List ℕ → ℕ → ℕ → Bool
concerned_b s i j = not (eqb j i) && locking_b s j && any_to (concerns_at s i j) 32

-- as a station set
unfoldable pub concerned_set : List ℕ → ℕ → ℕ
concerned_set s i = mask_to (concerned_b s i) 8

-- "if no other locking station is listed and no other station has a lock there or waits to write there"
unfoldable pub hinders_b : List ℕ → ℕ → ℕ → ℕ → Bool
hinders_b s i p j = not (eqb j i) && ((locking_b s j && has_bit (listed_of s j) p) || lock_on_b s j p || not (eqb (written_set s j p) 0))

unfoldable pub hindered_b : List ℕ → ℕ → ℕ → Bool
hindered_b s i p = any_to (hinders_b s i p) 8

-- "Unavailable in 16 to 18 are objects that others have locked or wait to write, without the one requested", of a set without all of
-- it: object o of a's page
unfoldable pub waits_to_write_b : List ℕ → ℕ → ℕ → ℕ → ℕ → Bool
waits_to_write_b s i p o j = not (eqb j i) && has_bit (written_set s j p) o

unfoldable pub unavailable_at : List ℕ → ℕ → ℕ → ℕ → Bool
unavailable_at s i a o =
    not (has_bit (wanted_on s i (a / 8)) o) && (other_b (lock_of s (a / 8 * 8 + o)) i || any_to (waits_to_write_b s i (a / 8) o) 8)

unfoldable pub unavailable_b : List ℕ → ℕ → ℕ → ℕ
unavailable_b s i a = mask_to (unavailable_at s i a) 8

-- the pages that station i's entry writes
unfoldable pub written_page_b : List ℕ → ℕ → ℕ → Bool
written_page_b s i p = not (eqb (written_set s i p) 0)

unfoldable pub written_pages_b : List ℕ → ℕ → ℕ
written_pages_b s i = mask_to (written_page_b s i) 32

-- "other validating stations listed for one" of the pages d
unfoldable pub informed_b : List ℕ → ℕ → ℕ → ℕ → Bool
informed_b s i d j = not (eqb j i) && not (locking_b s j) && not (eqb (bit_and (listed_of s j) d) 0)

-- "a waits-for edge runs from a waiter to a lock's holder that blocks it, an earlier waiter that blocks it, and a station that sent 6"
unfoldable pub edge_at_b : List ℕ → ℕ → ℕ → ℕ → ℕ → Bool
edge_at_b s i j p o = has_bit (wanted_on s i p) o && blocks_b s i p o j

unfoldable pub edge_on_b : List ℕ → ℕ → ℕ → ℕ → Bool
edge_on_b s i j p = cond (eqb (wanted_on s i p) 0) false (any_to (edge_at_b s i j p) 8)

unfoldable pub edge_b : List ℕ → ℕ → ℕ → Bool
edge_b s i j = waits_b s i && (has_bit (busy_of s i) j || any_to (edge_on_b s i j) 32)

-- the edges that leave i, as a station set
unfoldable pub edge_set : List ℕ → ℕ → ℕ
edge_set s i = mask_to (edge_b s i) 8
