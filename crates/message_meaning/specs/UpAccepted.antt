-- What a message that the server takes tells of its bytes: numbers 2 to 5 are not due.
use Rattle.std.specs.Prelude.{ℕ, ◌+◌, ◌-◌, ◌≤◌, ◌<◌, ◌≡◌, true, List, ◌≢◌, length, get_or, drop}
use Rattle.kinds.specs.Kinds.{locking}
use Rattle.cells.specs.Bits.{tb}
use Rattle.limits.specs.Limit.{limit}
use Rattle.record.specs.Check.{length_of, check_of}
use Rattle.record_meaning.specs.Parse.{record_of}
use Rattle.line.specs.Server.{used_page}
use Rattle.message.specs.Layout.{page_from, object_from, transaction_from, pages_from, version_from, sets_from, second_set, message_length, kind_of, station_of, page_of, requester_of, object_of, transaction_of, pages_of, set_of}
use Rattle.message.specs.Commit.{record_at, entries_of as entries_in, entry_version}
use Rattle.message.specs.Number.{kinds_ok}
use Rattle.message_meaning.specs.Meant.{work_at}
use Rattle.message.specs.Facts.{Commit}
use Rattle.message.specs.Accepted.{Zero}

-- "1 read request (page, object, transaction)"
pub record RequestFields (m : List ℕ) : Type 0 where
  pub page_is : page_of m < 32
  pub object_is : object_of m < 8
  pub transaction_not_0 : transaction_of m ≢ 0
  pub unnamed_pages : Zero m pages_from (message_length - pages_from)

-- "4 abort (transaction)"
pub record AbortFields (m : List ℕ) : Type 0 where
  pub transaction_not_0 : transaction_of m ≢ 0
  pub unnamed_page : Zero m page_from (transaction_from - page_from)
  pub unnamed_pages : Zero m pages_from (message_length - pages_from)

-- "5 purge (page)"
pub record PurgeFields (m : List ℕ) : Type 0 where
  pub page_is : page_of m < 32
  pub unnamed_object : Zero m object_from (message_length - object_from)

-- "6 busy (requester, its transaction)"
pub record BusyFields (m : List ℕ) : Type 0 where
  pub requester_is : requester_of m < 8
  pub transaction_not_0 : transaction_of m ≢ 0
  pub unnamed_object : Zero m object_from 1
  pub unnamed_pages : Zero m pages_from (message_length - pages_from)

-- "7 done (same, and the set of dropped pages)"
pub record DoneFields (m : List ℕ) : Type 0 where
  pub requester_is : requester_of m < 8
  pub transaction_not_0 : transaction_of m ≢ 0
  pub unnamed_object : Zero m object_from 1
  pub unnamed_version : Zero m version_from (message_length - version_from)

-- "8 written set (page, own transaction as named in kind 19, set)"
pub record WrittenSetFields (m : List ℕ) : Type 0 where
  pub page_is : page_of m < 32
  pub transaction_not_0 : transaction_of m ≢ 0
  pub unnamed_object : Zero m object_from 1
  pub unnamed_pages : Zero m pages_from (sets_from - pages_from)
  pub unnamed_other_sets : Zero m second_set (message_length - second_set)

-- "2 write request", by document 02 with "an object set in byte 16, its byte 3 is then 0"; "the empty set .. is number 4"
pub record WriteRequestFields (m : List ℕ) : Type 0 where
  pub some_named : set_of m 0 ≢ 0
  pub page_is : page_of m < 32
  pub transaction_not_0 : transaction_of m ≢ 0
  pub unnamed_object : Zero m object_from 1
  pub unnamed_pages : Zero m pages_from (sets_from - pages_from)
  pub unnamed_other_sets : Zero m second_set (message_length - second_set)

-- "3 commit (transaction, set of pages used)", by document 02 with "one version for each entry of its record, in record order .. from a locking
-- station all are 0": what number 5 looks at; kind is that of the station at the server
pub record CommitFields (kind : ℕ) (m : List ℕ) : Type 0 where
  pub transaction_not_0 : transaction_of m ≢ 0
  pub unnamed_page : Zero m page_from (transaction_from - page_from)
  pub unnamed_version : Zero m version_from (message_length - version_from)
  pub length_is : length m ≡ record_at m + length_of (drop (record_at m) m)
  -- document 02, wish 1: "The server gives number 5 to n or m above 48."
  pub reads_few : length (record_of (drop (record_at m) m)).reads ≤ limit
  pub writes_few : length (record_of (drop (record_at m) m)).writes ≤ limit
  pub record_accepted : check_of (drop (record_at m) m) ≡ 0
  pub commit_0 : (record_of (drop (record_at m) m)).commit ≡ 0
  pub transaction_is : (record_of (drop (record_at m) m)).transaction ≡ transaction_of m
  pub station_is : (record_of (drop (record_at m) m)).station ≡ station_of m
  pub kind_is : (record_of (drop (record_at m) m)).kind ≡ kind
  pub parts_are : Commit m
  pub versions_0 : (e : ℕ) → e < entries_in m → locking kind ≡ true → entry_version m e ≡ 0
  pub pages_are : (p : ℕ) → tb (pages_of m) p ≡ used_page (work_at m) p

pub record UpAccepted (kinds m : List ℕ) : Type 0 where
  pub kinds_ok_lem : kinds_ok kinds ≡ true
  pub station_is : station_of m < 8
  pub kind_from_lem : 1 ≤ kind_of m
  pub kind_to : kind_of m ≤ 8
  pub length_is : kind_of m ≢ 3 → length m ≡ message_length
  pub request : kind_of m ≡ 1 → RequestFields m
  pub write_request : kind_of m ≡ 2 → WriteRequestFields m
  pub commit : kind_of m ≡ 3 → CommitFields (get_or kinds (station_of m) 0) m
  pub abort : kind_of m ≡ 4 → AbortFields m
  pub purge : kind_of m ≡ 5 → PurgeFields m
  pub busy : kind_of m ≡ 6 → BusyFields m
  pub done : kind_of m ≡ 7 → DoneFields m
  pub written_set : kind_of m ≡ 8 → WrittenSetFields m
