-- What the bytes of a message say, as a message of the line. Documents 01 and 02, "every message is 144 bytes": each kind takes the
-- fields that it names, in that order. "Byte 0 kind, 1 station on the line, 2 page or requester, 3 object or cause, 4–7 transaction, 8–11
-- page set, 12–15 .. commit number, 16–47 object sets by page (one set of a single page: byte 16), 48–111 eight values", and eight versions.
-- Of bytes that are refused (numbers 2 to 5) nothing is said.
use Rattle.std.specs.Prelude.{ℕ, suc, ◌/◌, ◌%◌, Bool, ◌&&◌, cond, List, [], ◌∷◌, length, get_or, take, drop, eqb}
use Rattle.cells.specs.Bits.{tb}
use Rattle.line.specs.Messages.{address, Work, Up, ReadRequest, WriteRequest, Commit, Abort, Purge, Busy, Done, WrittenSet, Lock, NoLock, ObjectLock, WholeLock, Down, Page, Deescalate, Callback, Committed, Aborted, Invalidate}
use Rattle.layout.specs.Record.{Entry}
use Rattle.entries.specs.Entries.{value_in}
use Rattle.record_meaning.specs.Parse.{record_of}
use Rattle.message.specs.Layout.{sets_from, sets_length, kind_of, page_of, requester_of, object_of, cause_of, transaction_of, pages_of, version_of, set_of, value_of, page_version_of}
use Rattle.message.specs.Commit.{record_at, entry_version}

-- SETS AND VALUES

-- "In an object set (8 bits) bit i is object i": the set of a single page, as addresses
abbrev pub objects_on : ℕ → ℕ → ℕ → Bool
objects_on page set a = eqb (a / 8) page && tb set (a % 8)

-- "object sets by page": one set for each page, as addresses
abbrev pub objects_in : List ℕ → ℕ → Bool
objects_in sets a = tb (get_or sets (a / 8) 0) (a % 8)

-- "in a page set (32 bits) bit p is page p"
abbrev pub pages_in : ℕ → ℕ → Bool
pages_in set p = tb set p

-- "16–47 object sets by page": what stands behind them is no set
abbrev pub sets_of : List ℕ → List ℕ
sets_of m = take sets_length (drop sets_from m)

-- "eight values" of a page, by address; 0 off the page
abbrev pub values_on : ℕ → List ℕ → ℕ → ℕ
values_on page m a = cond (eqb (a / 8) page) (value_of m (a % 8)) 0

-- and the versions of its objects: "kinds 16 to 18 carry eight of 4 bytes after the values"
abbrev pub versions_on : ℕ → List ℕ → ℕ → ℕ
versions_on page m a = cond (eqb (a / 8) page) (page_version_of m (a % 8)) 0

-- UP

-- a commit "carries one version for each entry of its record, in record order": by address, of entries that are number e and on
abbrev pub version_in : (ℕ → ℕ) → List Entry → ℕ → ℕ → ℕ
version_in v [] e a = 0
version_in v (x ∷ es) e a = cond (eqb a x.address) (v e) (version_in v es (suc e) a)

unfoldable pub work_at : List ℕ → Work
work_at m =
    let r = record_of (drop (record_at m) m) in
    record {
      transaction = transaction_of m;
      reads = value_in r.reads;
      writes = value_in r.writes;
      read_versions = version_in (entry_version m) r.reads 0;
      written_versions = version_in (entry_version m) r.writes (length r.reads);
    }

-- "Up: 1 read request (page, object, transaction); 2 write request (same); 3 commit (transaction, set of pages used); 4 abort
-- (transaction); 5 purge (page); 6 busy (requester, its transaction); 7 done (same, and the set of dropped pages); 8 written set (page,
-- own transaction as named in kind 19, set)." By document 02 "the write request (2) carries an object set in byte 16, its byte 3 is then
-- 0". A commit's set of pages used is that of its record (number 5 otherwise).
unfoldable pub up_of : List ℕ → Up
up_of m =
    let k = kind_of m in
    cond (eqb k 1) (ReadRequest (address (page_of m) (object_of m)) (transaction_of m))
    (cond (eqb k 2) (WriteRequest (page_of m) (transaction_of m) (objects_on (page_of m) (set_of m 0)))
    (cond (eqb k 3) (Commit (work_at m))
    (cond (eqb k 4) (Abort (transaction_of m))
    (cond (eqb k 5) (Purge (page_of m))
    (cond (eqb k 6) (Busy (requester_of m) (transaction_of m))
    (cond (eqb k 7) (Done (requester_of m) (transaction_of m) (pages_in (pages_of m)))
    (WrittenSet (page_of m) (transaction_of m) (objects_on (page_of m) (set_of m 0)))))))))

-- DOWN

-- "16 page (page, object, transaction, versions, unavailable set, values); 17 the same with a lock on the object; 18 with a lock on the
-- whole page"
unfoldable pub page_at : Lock → List ℕ → Down
page_at lock m =
    Page lock (address (page_of m) (object_of m)) (transaction_of m) (versions_on (page_of m) m) (objects_on (page_of m) (set_of m 0)) (values_on (page_of m) m)

-- "19 de-escalate (page, transaction); 20 callback (requester, its transaction, object sets by page); 21 committed (transaction, commit
-- number); 22 aborted (transaction, cause)"; by document 02 "23 .. names objects: object sets by page"
unfoldable pub down_of : List ℕ → Down
down_of m =
    let k = kind_of m in
    cond (eqb k 16) (page_at NoLock m)
    (cond (eqb k 17) (page_at ObjectLock m)
    (cond (eqb k 18) (page_at WholeLock m)
    (cond (eqb k 19) (Deescalate (page_of m) (transaction_of m))
    (cond (eqb k 20) (Callback (requester_of m) (transaction_of m) (objects_in (sets_of m)))
    (cond (eqb k 21) (Committed (transaction_of m) (version_of m))
    (cond (eqb k 22) (Aborted (transaction_of m) (cause_of m))
    (Invalidate (objects_in (sets_of m)))))))))
