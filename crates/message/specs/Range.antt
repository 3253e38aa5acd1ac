-- Number 4: "a station, page, object, requester or cause lies outside its range, a callback's requester is the station it comes to,
-- a named transaction or commit is 0, or an unnamed field isn't 0". One test for each form of message, by the fields that it names.
use Rattle.std.specs.Prelude.{ℕ, ◌+◌, ◌-◌, List, Bool, false, not, ◌&&◌, cond, get_or, eqb, leb}
use Rattle.lists.specs.Tests.{all_to}
use Rattle.message.specs.Layout.{page_from, object_from, transaction_from, pages_from, version_from, sets_from, second_set, values_from, message_length, kind_of, station_of, page_of, requester_of, object_of, cause_of, transaction_of, version_of, set_of}

unfoldable pub zero_at : List ℕ → ℕ → ℕ → Bool
zero_at m a i = eqb (get_or m (a + i) 0) 0

-- the n bytes from a are 0
unfoldable pub zeros : List ℕ → ℕ → ℕ → Bool
zeros m a n = all_to (zero_at m a) n

abbrev pub station_ok : List ℕ → Bool
station_ok m = leb (station_of m) 7

abbrev pub page_ok : List ℕ → Bool
page_ok m = leb (page_of m) 31

abbrev pub object_ok : List ℕ → Bool
object_ok m = leb (object_of m) 7

abbrev pub requester_ok : List ℕ → Bool
requester_ok m = leb (requester_of m) 7

abbrev pub transaction_ok : List ℕ → Bool
transaction_ok m = not (eqb (transaction_of m) 0)

-- up

-- 1: page, object, transaction
unfoldable pub request_ok : List ℕ → Bool
request_ok m = page_ok m && object_ok m && transaction_ok m && zeros m pages_from (message_length - pages_from)

-- 3: transaction, set of pages used
unfoldable pub commit_ok : List ℕ → Bool
commit_ok m = zeros m page_from (transaction_from - page_from) && transaction_ok m && zeros m version_from (message_length - version_from)

-- 4: transaction
unfoldable pub abort_ok : List ℕ → Bool
abort_ok m = zeros m page_from (transaction_from - page_from) && transaction_ok m && zeros m pages_from (message_length - pages_from)

-- 5: page
unfoldable pub purge_ok : List ℕ → Bool
purge_ok m = page_ok m && zeros m object_from (message_length - object_from)

-- 6: requester, its transaction
unfoldable pub busy_ok : List ℕ → Bool
busy_ok m = requester_ok m && zeros m object_from 1 && transaction_ok m && zeros m pages_from (message_length - pages_from)

-- 7: the same, and the set of dropped pages
unfoldable pub done_ok_lem : List ℕ → Bool
done_ok_lem m = requester_ok m && zeros m object_from 1 && transaction_ok m && zeros m version_from (message_length - version_from)

-- 8: page, transaction, set
unfoldable pub written_set_ok : List ℕ → Bool
written_set_ok m = page_ok m && zeros m object_from 1 && transaction_ok m && zeros m pages_from (sets_from - pages_from) && zeros m second_set (message_length - second_set)

-- 2: the same, "the empty set .. is number 4"
unfoldable pub write_request_ok : List ℕ → Bool
write_request_ok m = not (eqb (set_of m 0) 0) && written_set_ok m

-- down

-- 16: page, object, transaction, unavailable set, values, versions
unfoldable pub page_message_ok : List ℕ → Bool
page_message_ok m = page_ok m && object_ok m && transaction_ok m && zeros m pages_from (sets_from - pages_from) && zeros m second_set (values_from - second_set)

-- 17 and 18: the same, "byte 3 is then 0"
unfoldable pub grant_ok : List ℕ → Bool
grant_ok m = page_message_ok m && zeros m object_from 1

-- 19: page, transaction
unfoldable pub deescalate_ok : List ℕ → Bool
deescalate_ok m = page_ok m && zeros m object_from 1 && transaction_ok m && zeros m pages_from (message_length - pages_from)

-- 20: requester, its transaction, object sets by page; at is the station it comes to
unfoldable pub callback_ok : ℕ → List ℕ → Bool
callback_ok at m = requester_ok m && not (eqb (requester_of m) at) && zeros m object_from 1 && transaction_ok m && zeros m pages_from (sets_from - pages_from) && zeros m values_from (message_length - values_from)

-- 21: transaction, commit number
unfoldable pub committed_ok : List ℕ → Bool
committed_ok m = zeros m page_from (transaction_from - page_from) && transaction_ok m && zeros m pages_from (version_from - pages_from) && not (eqb (version_of m) 0) && zeros m sets_from (message_length - sets_from)

-- 22: transaction, cause ("Causes are 1 to 4")
unfoldable pub aborted_ok : List ℕ → Bool
aborted_ok m = zeros m page_from 1 && leb 1 (cause_of m) && leb (cause_of m) 4 && transaction_ok m && zeros m pages_from (message_length - pages_from)

-- 23: object sets by page
unfoldable pub invalidate_ok : List ℕ → Bool
invalidate_ok m = zeros m page_from (sets_from - page_from) && zeros m values_from (message_length - values_from)

-- "Kinds 1 to 8 go to the server": an arm for each
unfoldable pub up_fields_ok : List ℕ → Bool
up_fields_ok m =
    let k = kind_of m in
    cond (eqb k 1) (request_ok m) (cond (eqb k 2) (write_request_ok m) (cond (eqb k 3) (commit_ok m) (cond (eqb k 4) (abort_ok m)
    (cond (eqb k 5) (purge_ok m) (cond (eqb k 6) (busy_ok m) (cond (eqb k 7) (done_ok_lem m) (cond (eqb k 8) (written_set_ok m) false)))))))

-- "and 16 to 23 to stations"
unfoldable pub down_fields_ok : ℕ → List ℕ → Bool
down_fields_ok at m =
    let k = kind_of m in
    cond (eqb k 16) (page_message_ok m) (cond (eqb k 17) (grant_ok m) (cond (eqb k 18) (grant_ok m) (cond (eqb k 19) (deescalate_ok m)
    (cond (eqb k 20) (callback_ok at m) (cond (eqb k 21) (committed_ok m) (cond (eqb k 22) (aborted_ok m) (cond (eqb k 23) (invalidate_ok m) false)))))))
