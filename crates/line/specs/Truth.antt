-- Demand 3: what it means that an archive is true. Over what owners were told, what was sent, and the archive; no word of the invariant.
use Rattle.std.specs.Prelude.{◌≡◌, Bool, ◌&&◌, cond, List, [], ◌∷◌, ◌++◌, ℕ, zero, suc, ◌+◌, eqb, take}
use Rattle.sets.specs.Base.{Val, none, some, val_or, zeros}
use Rattle.line.specs.Messages.{Committed, Aborted, To, Rec}
use Rattle.line.specs.Line.{Told, ToldRead, ToldWrite, ToldCommit, ToldAbort, World}

-- x is in the list
pub data In {A : Type 0} (x : A) : List A → Type 0 where
  here : {l : List A} → In x (x ∷ l)
  there : {y : A} {l : List A} → In x l → In x (y ∷ l)

abbrev pub count : {A : Type 0} → (A → Bool) → List A → ℕ
count f [] = 0
count f (x ∷ l) = cond (f x) 1 0 + count f l

-- "run its records one by one in commit order from zeros, each setting its writes": the values that a list of records leaves
abbrev pub left : List Rec → (ℕ → ℕ) → ℕ → ℕ
left [] v = v
left (r ∷ l) v = left l (λ a. val_or (r.writes a) (v a))

-- the values that the records before number n leave
abbrev pub left_before : ℕ → List Rec → ℕ → ℕ
left_before zero l = zeros
left_before (suc n) l = left (take n l) zeros

-- the records are numbered n, n + 1, ..
abbrev pub NumberedFrom : ℕ → List Rec → Type 0
NumberedFrom n [] = Unit {0}
NumberedFrom n (r ∷ l) = (r.number ≡ n) × NumberedFrom (n + 1) l

abbrev pub of_transaction : ℕ → ℕ → Rec → Bool
of_transaction i t r = eqb r.station i && eqb r.transaction t

abbrev pub of_number : ℕ → Rec → Bool
of_number n r = eqb r.number n

-- "its last writes": the last value that owner i was told written at a in transaction t
abbrev pub last_write : ℕ → ℕ → List Told → ℕ → Val → Val
last_write i t [] a w = w
last_write i t (ToldRead j u b v ∷ l) a w = last_write i t l a w
last_write i t (ToldWrite j u b v ∷ l) a w = last_write i t l a (cond (eqb j i && eqb u t && eqb b a) (some v) w)
last_write i t (ToldCommit j u n ∷ l) a w = last_write i t l a w
last_write i t (ToldAbort j u c ∷ l) a w = last_write i t l a w

-- "the first reads told of objects it had not yet written": w and r are what was written and first read so far
abbrev pub first_of : Val → Val → ℕ → Val
first_of (some x) r v = r
first_of none (some y) v = some y
first_of none none v = some v

abbrev pub first_read : ℕ → ℕ → List Told → ℕ → Val → Val → Val
first_read i t [] a w r = r
first_read i t (ToldRead j u b v ∷ l) a w r = first_read i t l a w (cond (eqb j i && eqb u t && eqb b a) (first_of w r v) r)
first_read i t (ToldWrite j u b v ∷ l) a w r = first_read i t l a (cond (eqb j i && eqb u t && eqb b a) (some v) w) r
first_read i t (ToldCommit j u n ∷ l) a w r = first_read i t l a w r
first_read i t (ToldAbort j u c ∷ l) a w r = first_read i t l a w r

-- a record has exactly what its owner was told
pub record SameAsTold (told : List Told) (r : Rec) : Type 0 where
  pub reads : (a : ℕ) → r.reads a ≡ first_read r.station r.transaction told a none none
  pub writes : (a : ℕ) → r.writes a ≡ last_write r.station r.transaction told a none

-- "Committed: 21 sent." "Aborted: 22 sent, or ended by 23 or its owner's abort."
abbrev pub CommittedAt : World → ℕ → ℕ → ℕ → Type 0
CommittedAt w i t n = In (To i (Committed t n)) w.sent_down

pub data AbortedAt (w : World) (i t : ℕ) : Type 0 where
  by22 : {c : ℕ} → In (To i (Aborted t c)) w.sent_down → AbortedAt w i t
  by_owner_or23 : {c : ℕ} → In (ToldAbort i t c) w.told → AbortedAt w i t

pub record True (w : World) : Type 0 where
  -- records stand in commit order, numbered from 1
  pub order : NumberedFrom 1 w.archive
  -- each record is one committed transaction's
  pub committed : (r : Rec) → In r w.archive → CommittedAt w r.station r.transaction r.number
  pub one_each : (r : Rec) → In r w.archive → count (of_transaction r.station r.transaction) w.archive ≡ 1
  pub sent : (i t n : ℕ) → CommittedAt w i t n → count (λ r. of_number n r && of_transaction i t r) w.archive ≡ 1
  -- with exactly the first reads told of objects it had not yet written, and its last writes
  pub contents : (r : Rec) → In r w.archive → SameAsTold w.told r
  -- every commit told to an owner has exactly one record, with the number told
  pub told : (i t n : ℕ) → In (ToldCommit i t n) w.told → (count (of_number n) w.archive ≡ 1) × (count (λ r. of_number n r && of_transaction i t r) w.archive ≡ 1)
  -- every owner's read in a committed transaction was told the value that the records before its own leave (behind the
  -- transaction's own write of that object, its own last write)
  pub reads :
      (i t n a v : ℕ) (before after : List Told) → CommittedAt w i t n → w.told ≡ before ++ (ToldRead i t a v ∷ after)
      → v ≡ val_or (last_write i t before a none) (left_before n w.archive a)
  -- the pages end equal to the server's
  pub pages : (a : ℕ) → left w.archive zeros a ≡ w.server.val a
  -- no aborted transaction has a record
  pub aborted : (i t : ℕ) → AbortedAt w i t → count (of_transaction i t) w.archive ≡ 0
