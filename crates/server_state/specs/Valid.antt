-- Number 1 of the server's state: "a lent state has a wrong length, a field out of range, .. two holders of one lock, a whole lock beside
-- another's lock on that page, or equal ages or arrivals". A lock has one byte for its holder, so that two cannot be written down. The
-- range of a field that does not count is 0 (docs/STATE.md), so that what is taken stays so: `valid-stays` of crate line_bytes.
use Rattle.std.specs.Prelude.{ℕ, zero, suc, ◌+◌, ◌*◌, ◌-◌, ◌/◌, ◌%◌, ◌^◌, List, Bool, not, ◌&&◌, ◌||◌, cond, length, get_or, set, replicate, eqb, ltb, leb}
use Rattle.lists.specs.Tests.{all_to}
use Rattle.std.specs.Int.Bits.{bit_or}
use Rattle.le.specs.Le.{u64_at, set_u64}
use Rattle.limits.specs.Limit.{limit}
use Rattle.kinds.specs.Kinds.{most_kind}
use Rattle.station_state.specs.Layout.{has_bit, count_in, none_in}
use Rattle.server_state.specs.Layout.{counter_limit, next_age_from, next_arrival_from, kind_from, want_from, called_from, unfinished_from, server_length, age_of, arrival_of, ages_of, arrivals_of, work_number, latest_of, asked_of, whole_for_of, lock_of, whole_of, read_set_from, written_set_from, kind_of, want_of, request_of, called_of_lem, pend_of, busy_of, unfinished_of, age_kept_from, age_kept_of, locking_b, keeps_b}

-- a byte is at most n
unfoldable pub most_at : List ℕ → ℕ → ℕ → ℕ → Bool
most_at s at n k = leb (get_or s (at + k) 0) n

-- the m bytes from `at` are at most n
unfoldable pub most : List ℕ → ℕ → ℕ → ℕ → Bool
most s at n m = all_to (most_at s at n) m

-- kinds and flags
unfoldable pub ranges_ok : List ℕ → Bool
ranges_ok s = most s kind_from most_kind 8 && most s want_from 3 8 && most s called_from 1 8 && most s unfinished_from 1 8 && most s age_kept_from 1 8

-- "each transaction gets a new age, 2^63 being out of range": the counters stand above every age and arrival
unfoldable pub counters_ok : List ℕ → Bool
counters_ok s = ltb (ages_of s) counter_limit && ltb (arrivals_of s) counter_limit

-- OBJECT SETS, eight pages at a time: bit b of word k is address k * 64 + b

-- the word k of the set that has the address a alone
unfoldable pub word_of : ℕ → ℕ → ℕ
word_of a k = cond (eqb k (a / 64)) (2 ^ (a % 64)) 0

-- the sets from `at` have a alone
unfoldable pub only_in : List ℕ → ℕ → ℕ → Bool
only_in s at a =
    eqb (u64_at s at) (word_of a 0) && eqb (u64_at s (at + 8)) (word_of a 1) && eqb (u64_at s (at + 16)) (word_of a 2) && eqb (u64_at s (at + 24)) (word_of a 3)

-- the set of page q has objects exactly where q is p
unfoldable pub page_only_at : List ℕ → ℕ → ℕ → ℕ → Bool
page_only_at s at p q = cond (eqb q p) (not (eqb (get_or s (at + q) 0) 0)) (eqb (get_or s (at + q) 0) 0)

-- of the sets from `at`, that of page p alone has objects
unfoldable pub page_only : List ℕ → ℕ → ℕ → Bool
page_only s at p = all_to (page_only_at s at p) 32

-- THE WAITING LIST

-- a station that waits for nothing has an empty entry
unfoldable pub blank_ok_lem : List ℕ → ℕ → Bool
blank_ok_lem s i = eqb (arrival_of s i) 0 && eqb (request_of s i) 0 && none_in s (read_set_from i) && none_in s (written_set_from i)

-- document 02, wish 1: "48 distinct reads and 48 distinct writes", so that the record has room
unfoldable pub few_ok : List ℕ → ℕ → Bool
few_ok s i = leb (count_in s (read_set_from i)) limit && leb (count_in s (written_set_from i)) limit

-- a validating commit, of the latest transaction
unfoldable pub commit_ok : List ℕ → ℕ → Bool
commit_ok s i = eqb (kind_of s i) 1 && eqb (request_of s i) 0 && eqb (work_number s i) (latest_of s i) && few_ok s i

-- a write, document 02, wish 9: of objects of one page, whose first address is the request
unfoldable pub write_ok : List ℕ → ℕ → Bool
write_ok s i = eqb (request_of s i % 8) 0 && page_only s (written_set_from i) (request_of s i / 8) && none_in s (read_set_from i)

-- a locking station's read, of the object requested, or write
unfoldable pub request_ok : List ℕ → ℕ → Bool
request_ok s i =
    locking_b s i && cond (eqb (want_of s i) 1) (only_in s (read_set_from i) (request_of s i) && none_in s (written_set_from i)) (write_ok s i)

-- who waits has an unfinished transaction and an arrival that was given
unfoldable pub waiter_ok : List ℕ → ℕ → Bool
waiter_ok s i =
    not (eqb (unfinished_of s i) 0) && ltb (arrival_of s i) (arrivals_of s) && cond (eqb (want_of s i) 3) (commit_ok s i) (request_ok s i)

unfoldable pub entry_ok : List ℕ → ℕ → Bool
entry_ok s i = cond (eqb (want_of s i) 0) (blank_ok_lem s i) (waiter_ok s i)

-- whoever owes station i a 7 is another, locking one
unfoldable pub owes_at : List ℕ → ℕ → ℕ → Bool
owes_at s i j = not (has_bit (pend_of s i) j) || (not (eqb j i) && locking_b s j)

-- 20s go out for a write or a commit; a 6 comes of one that owes a 7
unfoldable pub calls_ok : List ℕ → ℕ → Bool
calls_ok s i =
    cond (eqb (called_of_lem s i) 0)
    (eqb (pend_of s i) 0 && eqb (busy_of s i) 0)
    (leb 2 (want_of s i) && eqb (bit_or (busy_of s i) (pend_of s i)) (pend_of s i) && all_to (owes_at s i) 8)

-- an age was given; an unfinished transaction has a number
unfoldable pub aged_ok : List ℕ → ℕ → Bool
aged_ok s i = ltb (age_of s i) (ages_of s) && (eqb (unfinished_of s i) 0 || not (eqb (latest_of s i) 0))

unfoldable pub station_ok : List ℕ → ℕ → Bool
station_ok s i = aged_ok s i && entry_ok s i && calls_ok s i

-- LOCKS

-- an object's holder is a locking station whose transaction is unfinished; 0 is none
unfoldable pub holder_ok_lem : List ℕ → ℕ → Bool
holder_ok_lem s h = eqb h 0 || (leb h 8 && locking_b s (h - 1) && not (eqb (unfinished_of s (h - 1)) 0))

unfoldable pub holder_at : List ℕ → ℕ → ℕ → Bool
holder_at s p o = holder_ok_lem s (lock_of s (p * 8 + o))

-- "a whole lock beside another's lock on that page"
unfoldable pub beside_at : List ℕ → ℕ → ℕ → Bool
beside_at s p o = eqb (lock_of s (p * 8 + o)) 0 || eqb (lock_of s (p * 8 + o)) (whole_of s p)

-- the transaction that a whole lock of station i was given to: its unfinished one; document 02, wish 10: a keeping station's may be over
unfoldable pub given_ok : List ℕ → ℕ → ℕ → Bool
given_ok s i t = not (eqb t 0) && cond (keeps_b s i) (leb t (latest_of s i)) (not (eqb (unfinished_of s i) 0) && eqb t (latest_of s i))

unfoldable pub whole_ok : List ℕ → ℕ → Bool
whole_ok s p =
    let h = whole_of s p in
    cond (eqb h 0) (eqb (whole_for_of s p) 0) (leb h 8 && locking_b s (h - 1) && given_ok s (h - 1) (whole_for_of s p) && all_to (beside_at s p) 8)

unfoldable pub page_ok : List ℕ → ℕ → Bool
page_ok s p = whole_ok s p && all_to (holder_at s p) 8

-- 19 was sent for a present 18
unfoldable pub asked_at : List ℕ → ℕ → Bool
asked_at s p = not (has_bit (asked_of s) p) || not (eqb (whole_of s p) 0)

-- a station's age does not count: its transaction is finished, and it keeps no age
unfoldable pub ageless : List ℕ → ℕ → Bool
ageless s i = eqb (unfinished_of s i) 0 && eqb (age_kept_of s i) 0

-- "equal ages or arrivals": of unfinished transactions and of stations that keep their age, of waiters
unfoldable pub apart_at : List ℕ → ℕ → ℕ → Bool
apart_at s i j =
    (ageless s i || ageless s j || not (eqb (age_of s i) (age_of s j)))
    && (eqb (want_of s i) 0 || eqb (want_of s j) 0 || not (eqb (arrival_of s i) (arrival_of s j)))

-- each pair is looked at once
unfoldable pub apart_ok : List ℕ → ℕ → Bool
apart_ok s i = all_to (apart_at s i) i

unfoldable pub valid : List ℕ → Bool
valid s =
    eqb (length s) server_length
    && (ranges_ok s && counters_ok s && all_to (station_ok s) 8 && all_to (page_ok s) 32 && all_to (asked_at s) 32 && all_to (apart_ok s) 8)

-- the number and the state afterwards
pub record Freshened : Type 0 where
  pub state : List ℕ
  pub number : ℕ

abbrev pub freshened : List ℕ → ℕ → Freshened
freshened s n = record { state = s; number = n }

-- the kinds of the first n stations
unfoldable pub kinds_to : List ℕ → List ℕ → ℕ → List ℕ
kinds_to kinds s zero = s
kinds_to kinds s (suc i) = set (kinds_to kinds s i) (kind_from + i) (get_or kinds i 0)

-- "A fresh line has every value, version and last number 0, nothing open, cached, listed, locked or under way"; the counters start at 1
unfoldable pub fresh_server : List ℕ → List ℕ
fresh_server kinds = kinds_to kinds (set_u64 (set_u64 (replicate server_length 0) next_age_from 1) next_arrival_from 1) 8

unfoldable pub kinds_ok : List ℕ → Bool
kinds_ok kinds = eqb (length kinds) 8 && most kinds 0 most_kind 8

-- 1: the length; 4: the kinds
unfoldable pub fresh_of : List ℕ → List ℕ → Freshened
fresh_of kinds s =
    cond (eqb (length s) server_length) (cond (kinds_ok kinds) (freshened (fresh_server kinds) 0) (freshened s 4)) (freshened s 1)
