-- What goes over the lines. "Kinds 1 to 8 go to the server and 16 to 23 to stations."
-- A page and an object on it are one address everywhere: "Address = page × 8 + object." Sets of objects are sets of addresses,
-- a page's eight values and its eight versions are functions of the address, 0 off the message's page.
use Rattle.std.specs.Prelude.{Bool, ℕ, ◌+◌, ◌*◌, ◌/◌}
use Rattle.sets.specs.Base.{Val}
use Rattle.kinds.specs.Kinds

abbrev pub page_of : ℕ → ℕ
page_of a = a / 8

abbrev pub address : ℕ → ℕ → ℕ
address p o = p * 8 + o

-- "Commits are numbered 1 to 4,294,967,295"; a station's transactions too
abbrev pub last_number : ℕ
last_number = 4294967295

-- which kind is which is said by crate kinds
abbrev pub locking : ℕ → Bool
locking k = Kinds.locking k

abbrev pub keeps : ℕ → Bool
keeps k = Kinds.keeps k

-- what a commit brings: its record's reads and writes, and by document 02 "one version for each entry of its record, in record order, in
-- place of the 32 page versions; from a locking station all are 0". An object that is read and written has two entries, each with a
-- version. The set of pages used is that of the reads and writes (number 5 otherwise).
pub record Work : Type 0 where
  pub transaction : ℕ
  pub reads : ℕ → Val
  pub writes : ℕ → Val
  pub read_versions : ℕ → ℕ
  pub written_versions : ℕ → ℕ

pub data Up : Type 0 where
  ReadRequest : ℕ → ℕ → Up  -- 1: address, transaction
  WriteRequest : ℕ → ℕ → (ℕ → Bool) → Up  -- 2: page, transaction; by document 02 "an object set in byte 16": set of addresses
  Commit : Work → Up  -- 3
  Abort : ℕ → Up  -- 4: transaction
  Purge : ℕ → Up  -- 5: page
  Busy : ℕ → ℕ → Up  -- 6: requester, its transaction
  Done : ℕ → ℕ → (ℕ → Bool) → Up  -- 7: requester, its transaction, dropped pages
  WrittenSet : ℕ → ℕ → (ℕ → Bool) → Up  -- 8: page, own transaction as named in kind 19, set of addresses

-- what a page brings with it: 16 nothing, "17 the same with a lock on the object", by document 02 on each object that its 2 named;
-- "18 with a lock on the whole page"
pub data Lock : Type 0 where
  NoLock ObjectLock WholeLock : Lock

pub data Down : Type 0 where
  -- 16, 17, 18: address, transaction, versions, unavailable, values; of 17 and 18 "byte 3 is then 0": the address is the page's first
  Page : Lock → ℕ → ℕ → (ℕ → ℕ) → (ℕ → Bool) → (ℕ → ℕ) → Down
  Deescalate : ℕ → ℕ → Down  -- 19: page, transaction
  Callback : ℕ → ℕ → (ℕ → Bool) → Down  -- 20: requester, its transaction, addresses
  Committed : ℕ → ℕ → Down  -- 21: transaction, commit number
  Aborted : ℕ → ℕ → Down  -- 22: transaction, cause
  Invalidate : (ℕ → Bool) → Down  -- 23: addresses

-- a message and the station it goes to
pub data Sent : Type 0 where
  To : ℕ → Down → Sent

-- a record of the archive
pub record Rec : Type 0 where
  pub number : ℕ
  pub transaction : ℕ
  pub station : ℕ
  pub kind : ℕ
  pub reads : ℕ → Val
  pub writes : ℕ → Val

-- what a call answers
pub data Answer : Type 0 where
  Nothing : Answer
  Begun : ℕ → Answer
  Value : ℕ → Answer
  Waits : Answer
  Written : Answer
  CommittedAs : ℕ → Answer
  AbortedFor : ℕ → Answer  -- cause; 0 for the owner's own abort
  Purged : Answer
  Refused : ℕ → Answer
  Empty : Answer  -- no message in that line: no call
