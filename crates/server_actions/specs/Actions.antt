-- "Server steps" over the bytes of a state: the messages that the server sends, the atomic actions, the message's own effect. Each
-- definition carries out the one of crate line that has its name.
use Rattle.std.specs.Prelude.{ℕ, zero, suc, ◌+◌, ◌-◌, ◌*◌, ◌/◌, ◌%◌, ◌^◌, List, [], ◌∷◌, ◌++◌, Bool, not, ◌&&◌, cond, take, drop, replicate, eqb}
use Rattle.sets.specs.Base.{snoc}
use Rattle.layout.specs.Record.{bytes_of}
use Rattle.message.specs.Layout.{sets_length, behind_length, message, single, station_of, page_of, requester_of, object_of, transaction_of, pages_of, set_of}
use Rattle.message.specs.Layout as Message
use Rattle.station_state.specs.Layout.{has_bit}
use Rattle.set_record.specs.Record.{record_from}
use Rattle.server_state.specs.Layout.{page_row, page_version_row, set_row, page_values_from, page_versions_from, read_values_from, written_values_from, work_number, latest_of, last_of, whole_for_of, asked_of, whole_of, read_set_from, written_set_from, kind_of, request_of, locking_b}
use Rattle.server_tests.specs.Tests.{open_call_b, open_ask_b, shut_b, concerned_set, hindered_b, unavailable_b, written_pages_b, informed_b}
use Rattle.server_changes.specs.Changes.{notice_b, keeps_age_b, finish_b, leave_b, join_read_b, join_write_b, join_commit_b, unpack_b, list_b, unlist_b, mark_busy_b, answered_b, heed_b, asked_b, called_b, lock_page_b, write_b}

-- a step under way: the state, the messages sent in order, the records archived
pub record Serving : Type 0 where
  pub state : List ℕ
  pub sent : List (List ℕ)
  pub recs : List (List ℕ)

abbrev pub serving : List ℕ → List (List ℕ) → List (List ℕ) → Serving
serving s m r = record { state = s; sent = m; recs = r }

abbrev pub on_state : Serving → List ℕ → Serving
on_state x s = serving s x.sent x.recs

abbrev pub send : Serving → List ℕ → Serving
send x m = serving x.state (snoc x.sent m) x.recs

-- messages

abbrev pub plain : ℕ → ℕ → ℕ → ℕ → ℕ → ℕ → ℕ → List ℕ
plain kind i page object transaction pages version = message kind i page object transaction pages version (replicate sets_length 0) (replicate behind_length 0)

-- 16, 17, 18 for address a; the page's values and its versions stand in the state as they are sent
abbrev pub page_b : ℕ → ℕ → ℕ → ℕ → List ℕ → List ℕ
page_b kind i a u s =
    message kind i (a / 8) (a % 8) (latest_of s i) 0 0 (single u) (take page_row (drop (page_values_from (a / 8)) s) ++ take page_version_row (drop (page_versions_from (a / 8)) s))

abbrev pub deescalate_b : ℕ → ℕ → List ℕ → List ℕ
deescalate_b h p s = plain 19 h p 0 (whole_for_of s p) 0 0

-- object sets by page: what i's entry writes
abbrev pub written_sets : ℕ → List ℕ → List ℕ
written_sets i s = take set_row (drop (written_set_from i) s)

-- to station j, for requester i
abbrev pub callback_b : ℕ → ℕ → List ℕ → List ℕ
callback_b j i s = message 20 j i 0 (latest_of s i) 0 0 (written_sets i s) (replicate behind_length 0)

abbrev pub committed_b : ℕ → ℕ → ℕ → List ℕ
committed_b i t n = plain 21 i 0 0 t 0 n

abbrev pub aborted_b : ℕ → ℕ → ℕ → List ℕ
aborted_b i t c = plain 22 i 0 c t 0 0

-- "Kind 23 carries object sets by page and no page set": y are the sets
abbrev pub invalidate_b : ℕ → List ℕ → List ℕ
invalidate_b j y = message 23 j 0 0 0 0 0 y (replicate behind_length 0)

-- the record of station i's entry, with the last commit number
abbrev pub record_b : ℕ → List ℕ → List ℕ
record_b i s =
    bytes_of (record_from s (read_set_from i) (read_values_from i) (written_set_from i) (written_values_from i) (last_of s) (work_number s i) i (kind_of s i))

-- actions

-- "A station is listed as holding a page from the sending of 16, 17 or 18"
unfoldable pub send_page_b : ℕ → ℕ → ℕ → ℕ → Serving → Serving
send_page_b kind i a u x = send (on_state x (list_b i (a / 8) x.state)) (page_b kind i a u x.state)

-- 22: "its locks and request go"
unfoldable pub abort_b : ℕ → ℕ → Serving → Serving
abort_b i c x = let s = finish_b i (keeps_age_b c) (leave_b i x.state) in send (on_state x s) (aborted_b i (latest_of s i) c)

-- 23 with the sets y to station j, if it is listed for one of the pages d, which are theirs; "A listed copy remains listed after 23"
unfoldable pub inform_b : ℕ → ℕ → List ℕ → Serving → ℕ → Serving
inform_b i d y x j = cond (informed_b x.state i d j) (send x (invalidate_b j y)) x

-- "stations rising"
unfoldable pub inform_to : ℕ → ℕ → List ℕ → Serving → ℕ → Serving
inform_to i d y x zero = x
inform_to i d y x (suc j) = inform_b i d y (inform_to i d y x j) j

-- "Install: write values, archive the record, free locks, send 21, then .. 23"
unfoldable pub install_b : ℕ → Serving → Serving
install_b i x =
    let s = write_b i x.state in
    let t = finish_b i 0 (leave_b i s) in
    inform_to i (written_pages_b x.state i) (written_sets i x.state) (serving t (snoc x.sent (committed_b i (work_number x.state i) (last_of t))) (snoc x.recs (record_b i s))) 8

-- accept: the message's own effect

-- "number 4,294,967,295 already used, cause 4 (so too a locking commit)"; "A locking commit installs without waiting"
unfoldable pub commit_now_b : ℕ → List ℕ → Serving → Serving
commit_now_b i m x = cond (eqb (last_of x.state) 4294967295) (abort_b i 4 x) (install_b i (on_state x (unpack_b i m (leave_b i x.state))))

abbrev pub address_of : List ℕ → ℕ
address_of m = page_of m * 8 + object_of m

unfoldable pub noticed_b : List ℕ → Serving → Serving
noticed_b m x = on_state x (notice_b (station_of m) (transaction_of m) x.state)

-- "Validating read: send 16 at the same step, unavailable set empty."
unfoldable pub on_read_b : List ℕ → Serving → Serving
on_read_b m x =
    let i = station_of m in
    let y = noticed_b m x in
    cond (locking_b x.state i) (on_state y (join_read_b i (address_of m) y.state)) (send_page_b 16 i (address_of m) 0 y)

unfoldable pub on_write_b : List ℕ → Serving → Serving
on_write_b m x = let y = noticed_b m x in on_state y (join_write_b (station_of m) (page_of m) (set_of m 0) y.state)

unfoldable pub on_commit_b : List ℕ → Serving → Serving
on_commit_b m x =
    let i = station_of m in
    let y = noticed_b m x in
    cond (locking_b x.state i) (commit_now_b i m y) (on_state y (join_commit_b i m y.state))

unfoldable pub on_abort_b : List ℕ → Serving → Serving
on_abort_b m x = let y = noticed_b m x in on_state y (finish_b (station_of m) 0 y.state)

unfoldable pub on_purge_b : List ℕ → Serving → Serving
on_purge_b m x = on_state x (unlist_b (station_of m) (2 ^ page_of m) x.state)

unfoldable pub on_busy_b : List ℕ → Serving → Serving
on_busy_b m x =
    cond (open_call_b x.state (station_of m) (requester_of m) (transaction_of m)) (on_state x (mark_busy_b (station_of m) (requester_of m) x.state)) x

unfoldable pub on_done_b : List ℕ → Serving → Serving
on_done_b m x =
    let y = unlist_b (station_of m) (pages_of m) x.state in
    cond (open_call_b x.state (station_of m) (requester_of m) (transaction_of m)) (on_state x (answered_b (station_of m) (requester_of m) y)) (on_state x y)

unfoldable pub on_written_set_b : List ℕ → Serving → Serving
on_written_set_b m x =
    cond (open_ask_b x.state (station_of m) (page_of m) (transaction_of m)) (on_state x (heed_b (station_of m) (page_of m) (transaction_of m) (set_of m 0) x.state)) x

unfoldable pub accept_b : List ℕ → Serving → Serving
accept_b m x =
    let k = Message.kind_of m in
    cond (eqb k 1) (on_read_b m x) (cond (eqb k 2) (on_write_b m x) (cond (eqb k 3) (on_commit_b m x) (cond (eqb k 4) (on_abort_b m x)
    (cond (eqb k 5) (on_purge_b m x) (cond (eqb k 6) (on_busy_b m x) (cond (eqb k 7) (on_done_b m x) (on_written_set_b m x)))))))
