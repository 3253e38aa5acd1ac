-- "Server steps": the changes of the server's state. Each definition carries out the one of crate line that has its name.
use Rattle.std.specs.Prelude.{ℕ, zero, suc, ◌+◌, ◌-◌, ◌*◌, ◌/◌, ◌^◌, List, Bool, not, ◌&&◌, cond, get_or, set, eqb, ltb}
use Rattle.std.specs.Int.Bits.{bit_and, bit_or}
use Rattle.le.specs.Le.{u64_at, set_u32, set_u64}
use Rattle.message.specs.Layout.{transaction_of}
use Rattle.message.specs.Commit.{addresses_at, sent_reads, sent_writes, entries_of, entry_version}
use Rattle.layout.specs.Record.{value_length}
use Rattle.station_state.specs.Layout.{page_set_width, number_width, value_width, has_bit, member}
use Rattle.station_state.specs.Changes.{add_to, page_on, page_off, clear_to}
use Rattle.server_state.specs.Layout.{age_width, set_row, value_from, age_from, arrival_from, next_age_from, next_arrival_from, version_from, work_from, latest_from, listed_from, last_from, asked_from, whole_for_from, lock_from, whole_from, want_from, request_from, called_from, pend_from, busy_from, unfinished_from, age_kept_from, read_versions_from, written_versions_from, read_values_from, written_values_from, ages_of, arrivals_of, latest_of, listed_of, last_of, lock_of, whole_of, read_set_from, written_set_from, pend_of, busy_of, unfinished_of, age_kept_of, keeps_b}

-- the next age, and the counter one higher
unfoldable pub new_age_b : ℕ → List ℕ → List ℕ
new_age_b i s = set_u64 (set_u64 s (age_from + i * age_width) (ages_of s)) next_age_from (ages_of s + 1)

-- kept or new: a station that keeps its age has it already
unfoldable pub age_b : ℕ → List ℕ → List ℕ
age_b i s = cond (eqb (age_kept_of s i) 0) (new_age_b i s) s

-- a transaction gets its age with its first message
unfoldable pub notice_b : ℕ → ℕ → List ℕ → List ℕ
notice_b i t s = cond (eqb t (latest_of s i)) s (set_u32 (set (age_b i s) (unfinished_from + i) 1) (latest_from + i * number_width) t)

-- "every transaction's end frees its locks"

-- page p's whole lock is h's (0 for none), given to its transaction t, and no 19 is out for it
unfoldable pub hold_b : ℕ → ℕ → ℕ → List ℕ → List ℕ
hold_b p h t s = set_u32 (set (page_off s asked_from p) (whole_from + p) h) (whole_for_from + p * number_width) t

-- a page locked whole by i, with its 19
unfoldable pub free_page_b : ℕ → List ℕ → ℕ → List ℕ
free_page_b i s p = cond (eqb (whole_of s p) (i + 1)) (hold_b p 0 0 s) s

unfoldable pub free_pages_to : ℕ → List ℕ → ℕ → List ℕ
free_pages_to i s zero = s
free_pages_to i s (suc p) = free_page_b i (free_pages_to i s p) p

-- document 02, wish 10: a keeping station's "whole-page lock outlives commit and abort"
unfoldable pub free_pages_b : ℕ → List ℕ → List ℕ
free_pages_b i s = cond (keeps_b s i) s (free_pages_to i s 32)

unfoldable pub free_one_b : ℕ → List ℕ → ℕ → List ℕ
free_one_b i s a = cond (eqb (lock_of s a) (i + 1)) (set s (lock_from + a) 0) s

unfoldable pub free_to : ℕ → List ℕ → ℕ → List ℕ
free_to i s zero = s
free_to i s (suc a) = free_one_b i (free_to i s a) a

-- whether the station keeps its age behind a 22, by the cause; behind 21 and 4 it keeps none
unfoldable pub keeps_age_b : ℕ → ℕ
keeps_age_b c = cond (eqb c 1) 1 0

-- k is 1 where the station keeps its age
unfoldable pub finish_b : ℕ → ℕ → List ℕ → List ℕ
finish_b i k s = set (set (free_to i (free_pages_b i s) 256) (unfinished_from + i) 0) (age_kept_from + i) k

-- a station's entry in the waiting list goes
unfoldable pub leave_b : ℕ → List ℕ → List ℕ
leave_b i s =
    set (set (set (clear_to (clear_to (set (set_u64 (set s (want_from + i) 0) (arrival_from + i * age_width) 0) (request_from + i) 0) (read_set_from i) set_row) (written_set_from i) set_row)
    (called_from + i) 0) (pend_from + i) 0) (busy_from + i) 0

-- "joins one waiting list by arrival": wanting k (1 a read, 2 a write, 3 a commit) at address a
unfoldable pub join_b : ℕ → ℕ → ℕ → List ℕ → List ℕ
join_b i k a s =
    let t = leave_b i s in
    set_u64 (set (set (set_u64 t (arrival_from + i * age_width) (arrivals_of s)) (want_from + i) k) (request_from + i) a) next_arrival_from (arrivals_of s + 1)

unfoldable pub join_read_b : ℕ → ℕ → List ℕ → List ℕ
join_read_b i a s = add_to (join_b i 1 a s) (read_set_from i) a

-- the objects x of page p; its sets were empty before
unfoldable pub join_write_b : ℕ → ℕ → ℕ → List ℕ → List ℕ
join_write_b i p x s = set (join_b i 2 (p * 8) s) (written_set_from i + p) x

-- a commit's record and its versions, from message m: entry e, of the sets from `at` with values from `from` and versions from `seen`
unfoldable pub unpack_one : List ℕ → List ℕ → ℕ → ℕ → ℕ → ℕ → List ℕ
unpack_one m s at from seen e =
    let a = get_or m (addresses_at m + e) 0 in
    set_u32 (set_u64 (add_to s at a) (from + a * value_width) (u64_at m (addresses_at m + entries_of m + e * value_length))) (seen + a * number_width) (entry_version m e)

-- n entries from the first on
unfoldable pub unpack_to : List ℕ → List ℕ → ℕ → ℕ → ℕ → ℕ → ℕ → List ℕ
unpack_to m s at from seen first zero = s
unpack_to m s at from seen first (suc n) = unpack_one m (unpack_to m s at from seen first n) at from seen (first + n)

-- the work of a commit: transaction, reads, writes. The sets were empty before
unfoldable pub unpack_b : ℕ → List ℕ → List ℕ → List ℕ
unpack_b i m s =
    unpack_to m
    (unpack_to m (set_u32 s (work_from + i * number_width) (transaction_of m)) (read_set_from i) (read_values_from i) (read_versions_from i) 0 (sent_reads m))
    (written_set_from i) (written_values_from i) (written_versions_from i) (sent_reads m) (sent_writes m)

unfoldable pub join_commit_b : ℕ → List ℕ → List ℕ → List ℕ
join_commit_b i m s = unpack_b i m (join_b i 3 0 s)

-- "A station is listed as holding a page from the sending of 16, 17 or 18 until 5, a page in 7"; by document 02 it "remains listed after 23"
unfoldable pub list_b : ℕ → ℕ → List ℕ → List ℕ
list_b i p s = page_on s (listed_from + i * page_set_width) p

unfoldable pub unlist_b : ℕ → ℕ → List ℕ → List ℕ
unlist_b i d s = set_u32 s (listed_from + i * page_set_width) (bit_and (listed_of s i) (4294967295 - d))

-- 6 and 7 to r's 20
unfoldable pub mark_busy_b : ℕ → ℕ → List ℕ → List ℕ
mark_busy_b i r s = set s (busy_from + r) (bit_or (busy_of s r) (2 ^ i))

unfoldable pub answered_b : ℕ → ℕ → List ℕ → List ℕ
answered_b i r s =
    set (set s (busy_from + r) (bit_and (busy_of s r) (255 - 2 ^ i))) (pend_from + r) (bit_and (pend_of s r) (255 - 2 ^ i))

-- locks on a set: 17 "takes them in one step", "8 makes it locks on its set"
unfoldable pub lock_one_b : ℕ → ℕ → ℕ → List ℕ → ℕ → List ℕ
lock_one_b i p x s o = cond (has_bit x o) (set s (lock_from + (p * 8 + o)) (i + 1)) s

unfoldable pub lock_to : ℕ → ℕ → ℕ → List ℕ → ℕ → List ℕ
lock_to i p x s zero = s
lock_to i p x s (suc o) = lock_one_b i p x (lock_to i p x s o) o

unfoldable pub loosen_b : ℕ → ℕ → ℕ → List ℕ → List ℕ
loosen_b i p x s = lock_to i p x (hold_b p 0 0 s) 8

-- "A transaction that the server first meets through such an 8 gets its age then."
unfoldable pub meet_b : ℕ → ℕ → List ℕ → List ℕ
meet_b i t s = cond (ltb (latest_of s i) t) (notice_b i t s) s

-- "its set is locked only if that transaction is unfinished"
unfoldable pub heeded_b : ℕ → ℕ → ℕ → List ℕ → ℕ
heeded_b i t x s = cond (not (eqb (unfinished_of s i) 0) && eqb t (latest_of s i)) x 0

-- an 8 of transaction t that answers
unfoldable pub heed_b : ℕ → ℕ → ℕ → ℕ → List ℕ → List ℕ
heed_b i p t x s = let u = meet_b i t s in loosen_b i p (heeded_b i t x u) u

-- "send 19, once for each 18"
unfoldable pub asked_b : ℕ → List ℕ → List ℕ
asked_b p s = page_on s asked_from p

-- the 20s of i's entry are sent, to the stations of x
unfoldable pub called_b : ℕ → ℕ → List ℕ → List ℕ
called_b i x s = set (set s (called_from + i) 1) (pend_from + i) x

-- 18
unfoldable pub lock_page_b : ℕ → ℕ → List ℕ → List ℕ
lock_page_b i p s = hold_b p (i + 1) (latest_of s i) s

-- "write values", from i's entry; written objects take the new number n as version

unfoldable pub value_one_b : ℕ → ℕ → List ℕ → ℕ → List ℕ
value_one_b i n s a =
    cond (member s (written_set_from i) a) (set_u32 (set_u64 s (value_from + a * value_width) (u64_at s (written_values_from i + a * value_width))) (version_from + a * number_width) n) s

unfoldable pub values_to : ℕ → ℕ → List ℕ → ℕ → List ℕ
values_to i n s zero = s
values_to i n s (suc a) = value_one_b i n (values_to i n s a) a

unfoldable pub write_b : ℕ → List ℕ → List ℕ
write_b i s = values_to i (last_of s + 1) (set_u32 s last_from (last_of s + 1)) 256
