-- A message as the fields of its bytes, and a record as the fields of its own: what a run shows.
use Rattle.std.specs.Prelude.{Bool, cond, List, [], ◌∷◌, ◌++◌, ℕ, zero, suc, ◌+◌, ◌*◌, ◌%◌, eqb}
use Rattle.sets.specs.Base.{Val, none, some, table}
use Rattle.line.specs.Messages.{page_of, address, Work, Up, ReadRequest, WriteRequest, Commit, Abort, Purge, Busy, Done, WrittenSet, Lock, NoLock, ObjectLock, WholeLock, Page, Deescalate, Callback, Committed, Aborted, Invalidate, Sent, To, Rec}
use Rattle.line.specs.Server.{used_page}

-- "Record, sizes first: reads n, writes m, commit number (0 on the way up), transaction, station, its kind"; then addresses and
-- values, here side by side. The sizes are the lists' lengths.
pub record RecordFields : Type 0 where
  pub number : ℕ
  pub transaction : ℕ
  pub station : ℕ
  pub kind : ℕ
  pub reads : List (ℕ × ℕ)
  pub writes : List (ℕ × ℕ)

pub record Fields : Type 0 where
  pub kind : ℕ  -- "Byte 0 kind,
  pub station : ℕ  -- 1 station on the line,
  pub page_or_requester : ℕ  -- 2 page or requester,
  pub object_or_cause : ℕ  -- 3 object or cause,
  pub transaction : ℕ  -- 4–7 transaction,
  pub pages : ℕ  -- 8–11 page set,
  pub commit_number : ℕ  -- 12–15 commit number,
  pub sets : List ℕ  -- 16–47 object sets by page (one set of a single page: byte 16),
  pub values : List ℕ  -- 48–111 eight values."
  pub page_versions : List ℕ  -- by document 02 "kinds 16 to 18 carry eight of 4 bytes after the values"
  pub versions : List ℕ  -- "A commit carries one version for each entry of its record, in record order",
  pub behind : List RecordFields  -- and the record

-- parts

abbrev pub times : ℕ → ℕ → List ℕ
times zero v = []
times (suc n) v = v ∷ times n v

abbrev pub no_sets : List ℕ
no_sets = times 32 0

abbrev pub no_values : List ℕ
no_values = times 8 0

abbrev pub no_versions : List ℕ
no_versions = times 8 0

-- "one set of a single page: byte 16"
abbrev pub one_set_lem : ℕ → List ℕ
one_set_lem set = set ∷ times 31 0

-- object sets by page: this one on page p, empty on the others
abbrev pub set_on : ℕ → ℕ → List ℕ
set_on p set = table 32 0 (λ q. cond (eqb q p) set 0)

-- the numbers i to i + n - 1 of a set, as bits
abbrev pub bits_from : ℕ → ℕ → (ℕ → Bool) → ℕ
bits_from zero i f = 0
bits_from (suc n) i f = cond (f i) 1 0 + 2 * bits_from n (suc i) f

-- "in a page set (32 bits) bit p is page p"
abbrev pub page_set : (ℕ → Bool) → ℕ
page_set f = bits_from 32 0 f

-- "In an object set (8 bits) bit i is object i"
abbrev pub object_set : (ℕ → Bool) → ℕ → ℕ
object_set f p = bits_from 8 (address p 0) f

abbrev pub object_of : ℕ → ℕ
object_of a = a % 8

-- "addresses rise strictly"
abbrev pub entry : ℕ → Val → List (ℕ × ℕ) → List (ℕ × ℕ)
entry a none l = l
entry a (some v) l = (a, v) ∷ l

abbrev pub entries_from_lem : ℕ → ℕ → (ℕ → Val) → List (ℕ × ℕ)
entries_from_lem zero a f = []
entries_from_lem (suc n) a f = entry a (f a) (entries_from_lem n (suc a) f)

abbrev pub entries : (ℕ → Val) → List (ℕ × ℕ)
entries f = entries_from_lem 256 0 f

abbrev pub recorded : ℕ → ℕ → ℕ → ℕ → List (ℕ × ℕ) → List (ℕ × ℕ) → RecordFields
recorded n t i k r w = record { number = n; transaction = t; station = i; kind = k; reads = r; writes = w }

abbrev pub record_fields : Rec → RecordFields
record_fields r = recorded r.number r.transaction r.station r.kind (entries r.reads) (entries r.writes)

-- Makers: the station on the line, then what the kind names, in document 01's order. "Fields that a kind doesn't name are 0."

-- kind, station, page or requester, object or cause, transaction, page set, commit number, sets, values
abbrev pub fields : ℕ → ℕ → ℕ → ℕ → ℕ → ℕ → ℕ → List ℕ → List ℕ → Fields
fields k i r o t d n u x =
    record { kind = k; station = i; page_or_requester = r; object_or_cause = o; transaction = t; pages = d; commit_number = n; sets = u; values = x; page_versions = no_versions; versions = []; behind = [] }

-- "1 read request (page, object, transaction)"
abbrev pub read_request : ℕ → ℕ → ℕ → ℕ → Fields
read_request i p o t = fields 1 i p o t 0 0 no_sets no_values

-- "2 write request", by document 02 (page, transaction, set): "an object set in byte 16; byte 3 is then 0"
abbrev pub write_request : ℕ → ℕ → ℕ → ℕ → Fields
write_request i p t u = fields 2 i p 0 t 0 0 (one_set_lem u) no_values

-- "3 commit (transaction, set of pages used)", its entries' versions and its record
abbrev pub commit : ℕ → ℕ → ℕ → List ℕ → RecordFields → Fields
commit i t d v r =
    record { kind = 3; station = i; page_or_requester = 0; object_or_cause = 0; transaction = t; pages = d; commit_number = 0; sets = no_sets; values = no_values; page_versions = no_versions; versions = v; behind = r ∷ [] }

-- "4 abort (transaction)"
abbrev pub abort : ℕ → ℕ → Fields
abort i t = fields 4 i 0 0 t 0 0 no_sets no_values

-- "5 purge (page)"
abbrev pub purge : ℕ → ℕ → Fields
purge i p = fields 5 i p 0 0 0 0 no_sets no_values

-- "6 busy (requester, its transaction)"
abbrev pub busy : ℕ → ℕ → ℕ → Fields
busy i r t = fields 6 i r 0 t 0 0 no_sets no_values

-- "7 done (same, and the set of dropped pages)"
abbrev pub done : ℕ → ℕ → ℕ → ℕ → Fields
done i r t d = fields 7 i r 0 t d 0 no_sets no_values

-- "8 written set (page, own transaction as named in kind 19, set)"
abbrev pub written_set : ℕ → ℕ → ℕ → ℕ → Fields
written_set i p t u = fields 8 i p 0 t 0 0 (one_set_lem u) no_values

-- "16 page (page, object, transaction, version, unavailable set, values)", the versions those of the eight objects
abbrev page_of_kind : ℕ → ℕ → ℕ → ℕ → ℕ → List ℕ → ℕ → List ℕ → Fields
page_of_kind k i p o t v u x =
    record { kind = k; station = i; page_or_requester = p; object_or_cause = o; transaction = t; pages = 0; commit_number = 0; sets = one_set_lem u; values = x; page_versions = v; versions = []; behind = [] }

abbrev pub page : ℕ → ℕ → ℕ → ℕ → List ℕ → ℕ → List ℕ → Fields
page i p o t v u x = page_of_kind 16 i p o t v u x

-- "17 the same with a lock on the object"
abbrev pub page_and_object : ℕ → ℕ → ℕ → ℕ → List ℕ → ℕ → List ℕ → Fields
page_and_object i p o t v u x = page_of_kind 17 i p o t v u x

-- "18 with a lock on the whole page"
abbrev pub page_whole : ℕ → ℕ → ℕ → ℕ → List ℕ → ℕ → List ℕ → Fields
page_whole i p o t v u x = page_of_kind 18 i p o t v u x

-- "19 de-escalate (page, transaction)"
abbrev pub deescalate : ℕ → ℕ → ℕ → Fields
deescalate i p t = fields 19 i p 0 t 0 0 no_sets no_values

-- "20 callback (requester, its transaction, object sets by page)"
abbrev pub callback : ℕ → ℕ → ℕ → List ℕ → Fields
callback i r t u = fields 20 i r 0 t 0 0 u no_values

-- "21 committed (transaction, commit number)"
abbrev pub committed : ℕ → ℕ → ℕ → Fields
committed i t n = fields 21 i 0 0 t 0 n no_sets no_values

-- "22 aborted (transaction, cause)"
abbrev pub aborted : ℕ → ℕ → ℕ → Fields
aborted i t c = fields 22 i 0 c t 0 0 no_sets no_values

-- "Kind 23 carries object sets by page and no page set"
abbrev pub invalidate : ℕ → List ℕ → Fields
invalidate i u = fields 23 i 0 0 0 0 0 u no_values

-- the line's messages

-- "commit number (0 on the way up)"
abbrev pub work_fields : ℕ → ℕ → Work → RecordFields
work_fields i k w = recorded 0 w.transaction i k (entries w.reads) (entries w.writes)

-- the versions of what there is, rising
abbrev pub version_if : Val → ℕ → List ℕ → List ℕ
version_if none n l = l
version_if (some v) n l = n ∷ l

abbrev pub versions_from : ℕ → ℕ → (ℕ → Val) → (ℕ → ℕ) → List ℕ
versions_from zero a f v = []
versions_from (suc n) a f v = version_if (f a) (v a) (versions_from n (suc a) f v)

-- "in record order": those of the reads, then those of the writes
abbrev pub entry_versions : Work → List ℕ
entry_versions w = versions_from 256 0 w.reads w.read_versions ++ versions_from 256 0 w.writes w.written_versions

-- of a station and its kind
abbrev pub up_fields : ℕ → ℕ → Up → Fields
up_fields i k (ReadRequest a t) = read_request i (page_of a) (object_of a) t
up_fields i k (WriteRequest p t set) = write_request i p t (object_set set p)
up_fields i k (Commit w) = commit i w.transaction (page_set (used_page w)) (entry_versions w) (work_fields i k w)
up_fields i k (Abort t) = abort i t
up_fields i k (Purge p) = purge i p
up_fields i k (Busy r t) = busy i r t
up_fields i k (Done r t d) = done i r t (page_set d)
up_fields i k (WrittenSet p t set) = written_set i p t (object_set set p)

abbrev pub page_fields : Lock → ℕ → ℕ → ℕ → ℕ → List ℕ → ℕ → List ℕ → Fields
page_fields NoLock i p o t v u x = page i p o t v u x
page_fields ObjectLock i p o t v u x = page_and_object i p o t v u x
page_fields WholeLock i p o t v u x = page_whole i p o t v u x

abbrev pub down_fields : Sent → Fields
down_fields (To i (Page l a t v u x)) =
    let p = page_of a in
    page_fields l i p (object_of a) t (table 8 (address p 0) v) (object_set u p) (table 8 (address p 0) x)
down_fields (To i (Deescalate p t)) = deescalate i p t
down_fields (To i (Callback r t set)) = callback i r t (table 32 0 (object_set set))
down_fields (To i (Committed t n)) = committed i t n
down_fields (To i (Aborted t c)) = aborted i t c
down_fields (To i (Invalidate set)) = invalidate i (table 32 0 (object_set set))
