-- "Station steps", on each kind of message. Each definition carries out the one of crate line that has its name; m are the message's bytes.
use Rattle.std.specs.Prelude.{ℕ, ◌+◌, ◌*◌, ◌/◌, ◌%◌, ◌≤◌, ◌<◌, ◌≡◌, ◌≢◌, List, [], ◌∷◌, Bool, true, false, not, ◌&&◌, ◌||◌, cond, eqb, ltb}
use Rattle.message.specs.Layout.{sets_from, kind_of, page_of, requester_of, object_of, cause_of, transaction_of, version_of, up_message}
use Rattle.station_state.specs.Layout.{whole_from, copy_of, number, whole, written_set, station, wait, address, waiting_set, has_bit, locking_b, keeps_b}
use Rattle.station_state.specs.Changes.{page_on, record_read_b, write_all_b, waiting_values, idle_b, lock_waiting_b, loosen_b, keep_b}
use Rattle.station_pages.specs.Pages.{in_use_b, mark_b, arrive_b, versions_b}
use Rattle.station_callbacks.specs.Callbacks.{sends, sets_at, do_callback_b, close_b, undo_b}
use Rattle.station_answer.specs.declared.Answer.{Answer}
use Rattle.station_answer.specs.declared.Answer.TheVariants.{Value, Written, Committed, Aborted, Nothing}
use Rattle.station_answer.specs.Did.{Did, does, does_all}
use Rattle.station_answer.specs.Ask.{open_b}

-- "16 to 23 to stations": what number 3 has seen to
abbrev pub ForStations : List ℕ → Type 0
ForStations m = (16 ≤ kind_of m) × (kind_of m < 24)

-- .. and number 4: 20 names a requester; 16 to 19 name a page (21 to 23 have zeros there)
abbrev pub Named : List ℕ → Type 0
Named m = (kind_of m ≢ 20 → page_of m < 32) × (kind_of m ≡ 20 → requester_of m < 8) × ForStations m

-- the address that a page message names
abbrev pub address_of : List ℕ → ℕ
address_of m = page_of m * 8 + object_of m

-- the named transaction is the open one
unfoldable pub live_b : List ℕ → ℕ → Bool
live_b s t = open_b s && eqb t (number s)

-- "A 16 that then comes for the ended transaction is taken and ignored."
unfoldable pub ended_b : List ℕ → ℕ → Bool
ended_b s t = not (locking_b s) && not (live_b s t) && not (ltb (number s) t)

-- a read of that address is out; a write on that page; a write of that address among others
unfoldable pub for_read_of : List ℕ → ℕ → Bool
for_read_of s a = eqb (wait s) 1 && eqb a (address s)

unfoldable pub for_write_on : List ℕ → ℕ → Bool
for_write_on s p = eqb (wait s) 2 && eqb p (address s / 8)

unfoldable pub for_write_of : List ℕ → ℕ → Bool
for_write_of s a = for_write_on s (a / 8) && has_bit (waiting_set s) (a % 8)

-- number 6: "a down message that fits neither station, kind nor open wait (19, 20, 23 and a 16 for an ended validating transaction need no wait)"

-- 16
unfoldable pub fits_page_b : List ℕ → List ℕ → Bool
fits_page_b m s =
    ended_b s (transaction_of m)
    || (live_b s (transaction_of m) && (for_read_of s (address_of m) || (not (locking_b s) && for_write_of s (address_of m))))

-- 17 and 18: they name no object
unfoldable pub fits_lock_b : List ℕ → List ℕ → Bool
fits_lock_b m s = locking_b s && live_b s (transaction_of m) && for_write_on s (page_of m)

-- 21
unfoldable pub fits_committed_b : List ℕ → List ℕ → Bool
fits_committed_b m s = live_b s (transaction_of m) && eqb (wait s) 3

-- 22
unfoldable pub fits_aborted_b : List ℕ → List ℕ → Bool
fits_aborted_b m s = live_b s (transaction_of m) && not (eqb (wait s) 0)

unfoldable pub fits_b : List ℕ → List ℕ → Bool
fits_b m s =
    let k = kind_of m in
    cond (eqb k 16) (fits_page_b m s) (cond (eqb k 17) (fits_lock_b m s) (cond (eqb k 18) (fits_lock_b m s) (cond (eqb k 19) (locking_b s)
    (cond (eqb k 20) (locking_b s) (cond (eqb k 21) (fits_committed_b m s) (cond (eqb k 22) (fits_aborted_b m s) (not (locking_b s))))))))

-- "17 the same with a lock on the object; 18 with a lock on the whole page": the request "takes them in one step"
unfoldable pub take_lock_b : List ℕ → List ℕ → List ℕ
take_lock_b m s =
    cond (eqb (kind_of m) 17) (lock_waiting_b (page_of m) s) (cond (eqb (kind_of m) 18) (page_on s whole_from (page_of m)) s)

-- the lock is taken, the page arrives, nothing is out any more
unfoldable pub arrived_b : List ℕ → List ℕ → List ℕ
arrived_b m s = idle_b (arrive_b m (page_of m) (take_lock_b m s))

-- "the delivery that brings the page gives the owner's answer": w, a, x and f are what was out, s the state with the page; "all are
-- written when the grant arrives"
unfoldable pub answer_wait_b : ℕ → ℕ → ℕ → List ℕ → List ℕ → Did
answer_wait_b w a x f s =
    cond (eqb w 1) (does (Value (copy_of s a)) (record_read_b a s) []) (cond (eqb w 2) (does Written (write_all_b (a / 8) x f s) []) (does Nothing s []))

unfoldable pub on_page_b : List ℕ → List ℕ → Did
on_page_b m s =
    cond (ended_b s (transaction_of m)) (does Nothing s []) (answer_wait_b (wait s) (address s) (waiting_set s) (waiting_values s) (arrived_b m s))

-- "On 19: send 8 with the objects written on that page, empty if that transaction is over; if it is open, the whole lock becomes
-- locks on those objects."
-- A keeping station's 8 "names the open transaction, else the 18's transaction, as 19 always does".
unfoldable pub answers_for_b : List ℕ → List ℕ → ℕ
answers_for_b m s = cond (keeps_b s && open_b s) (number s) (transaction_of m)

unfoldable pub written_on_b : List ℕ → List ℕ → ℕ
written_on_b m s = cond (live_b s (answers_for_b m s)) (written_set s (page_of m)) 0

-- the whole lock goes: a keeping station's whatever transaction is open
unfoldable pub gives_up_b : List ℕ → List ℕ → Bool
gives_up_b m s = (keeps_b s || live_b s (transaction_of m)) && has_bit (whole s) (page_of m)

unfoldable pub loosened_b : List ℕ → List ℕ → List ℕ
loosened_b m s = cond (gives_up_b m s) (loosen_b (page_of m) (written_on_b m s) s) s

unfoldable pub on_deescalate_b : List ℕ → List ℕ → Did
on_deescalate_b m s =
    does Nothing (loosened_b m s) (up_message 8 (station s) (page_of m) 0 (answers_for_b m s) 0 (written_on_b m s) ∷ [])

-- "if the open transaction has read or written a named object, send 6 and keep the callback, a newer one from that requester replacing
-- it; else mark .., drop .., and send 7"
unfoldable pub on_callback_b : List ℕ → List ℕ → Did
on_callback_b m s =
    let r = requester_of m in
    let t = transaction_of m in
    cond (in_use_b (sets_at m sets_from) s)
    (does Nothing (keep_b r t (sets_at m sets_from) s) (up_message 6 (station s) r 0 t 0 0 ∷ []))
    (does_all Nothing (do_callback_b (station s) r t (sets_at m sets_from) (sends s [])))

-- "on 21 the written objects, no longer their pages, take the commit number"
unfoldable pub on_committed_b : List ℕ → List ℕ → Did
on_committed_b m s = does_all (Committed (version_of m)) (close_b (station s) (sends (versions_b (version_of m) s) []))

unfoldable pub on_aborted_b : List ℕ → List ℕ → Did
on_aborted_b m s = does_all (Aborted (cause_of m)) (close_b (station s) (sends (undo_b s) []))

-- Validating, on 23: "the station marks those objects unavailable, and its transaction, if no commit is out, ends if it used one", as
-- aborted, cause 2
unfoldable pub on_invalidate_b : List ℕ → List ℕ → Did
on_invalidate_b m s =
    let x = sets_at m sets_from in
    cond (in_use_b x s && not (eqb (wait s) 3))
    (does_all (Aborted 2) (close_b (station s) (sends (undo_b (mark_b x s)) [])))
    (does Nothing (mark_b x s) [])

unfoldable pub on_down_b : List ℕ → List ℕ → Did
on_down_b m s =
    let k = kind_of m in
    cond (eqb k 19) (on_deescalate_b m s) (cond (eqb k 20) (on_callback_b m s) (cond (eqb k 21) (on_committed_b m s)
    (cond (eqb k 22) (on_aborted_b m s) (cond (eqb k 23) (on_invalidate_b m s) (on_page_b m s)))))
