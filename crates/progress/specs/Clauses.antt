-- What holds while somebody waits, beside the invariant of crate truth: statements only.
use Rattle.std.specs.Prelude.{◌≡◌, Bool, true, false, ◌&&◌, ◌||◌, cond, List, [], ◌∷◌, ◌⊎◌, ℕ, suc, ◌+◌, ◌≤◌, ◌<◌, eqb}
use Rattle.line.specs.Messages.{locking, keeps, Up, ReadRequest, WriteRequest, Commit, Abort, Purge, Busy, Done, WrittenSet, Down, Page, Deescalate, Callback, Committed, Aborted, Invalidate}
use Rattle.line.specs.Station.{Station, Wait, waiting, Kept, NotKept, KeptCall}
use Rattle.line.specs.Server.{Server, Waiter, Want}
use Rattle.line.specs.Line.{World}
use Rattle.line.specs.Runs.{Of}
use Rattle.line.specs.Truth.{count}
use Rattle.truth.specs.Clauses.{stale, tokens, call_tokens, kept_of}
use Rattle.truth.specs.Inv.{Inv}

-- P1: an owner that waits has its token under way or at the server
abbrev pub P1 : ℕ → ℕ → Bool → Wait → Want → List Up → List Down → Type 0
P1 kind num opened w v U D = waiting w ≡ true → 1 ≤ tokens (stale kind num opened) v U D

abbrev pub P1At : Server → (ℕ → Station) → (ℕ → List Up) → (ℕ → List Down) → ℕ → Type 0
P1At s t u d i = P1 (t i).kind (t i).num (t i).opened (t i).wait (s.queue i).want (u i) (d i)

-- a 6 of (r, t)
abbrev pub busy_of : ℕ → ℕ → Up → Bool
busy_of r t (ReadRequest a u) = false
busy_of r t (WriteRequest p u set) = false
busy_of r t (Commit w) = false
busy_of r t (Abort u) = false
busy_of r t (Purge p) = false
busy_of r t (Busy k u) = eqb k r && eqb u t
busy_of r t (Done k u d) = false
busy_of r t (WrittenSet p u set) = false

-- the transaction of a kept callback, 0 if none
abbrev pub kept_number : Kept → ℕ
kept_number NotKept = 0
kept_number (KeptCall t set) = t

abbrev pub is_kept : Kept → Bool
is_kept NotKept = false
is_kept (KeptCall t set) = true

-- the 20s of requester r do not fall along the line, from b on
abbrev pub RisingFrom : ℕ → ℕ → List Down → Type 0
RisingFrom r b [] = Unit {0}
RisingFrom r b (Page l a u v x y ∷ D) = RisingFrom r b D
RisingFrom r b (Deescalate p u ∷ D) = RisingFrom r b D
RisingFrom r b (Callback k u set ∷ D) = (k ≡ r → (b ≤ u) × RisingFrom r u D) × ((eqb k r ≡ false) → RisingFrom r b D)
RisingFrom r b (Committed u n ∷ D) = RisingFrom r b D
RisingFrom r b (Aborted u c ∷ D) = RisingFrom r b D
RisingFrom r b (Invalidate d ∷ D) = RisingFrom r b D

-- requester r (its entry q, its latest t) at station j
pub record Owed (r j t : ℕ) (q : Waiter) (kind : ℕ) (opened : Bool) (kept : Kept) (U : List Up) (D : List Down) : Type 0 where
  pub P2a : q.busy j ≡ true → q.pend j ≡ true
  pub P2b : q.called ≡ false → q.pend j ≡ false
  pub P2c : q.pend j ≡ true → (eqb j r ≡ false) × (1 ≤ call_tokens r t kept U D)  -- who owes a 7 is another, and its token exists
  pub P3 : is_kept kept ≡ true → (opened ≡ true) × (locking kind ≡ true)  -- a callback is kept by an open transaction of a locking station
  pub P4 : q.pend j ≡ true → kept_of t kept ≡ true → (q.busy j ≡ true) ⊎ (1 ≤ count (busy_of r t) U)  -- .. and its 6 was sent
  pub P7 : RisingFrom r (kept_number kept) D

abbrev pub OwedAt : Server → (ℕ → Station) → (ℕ → List Up) → (ℕ → List Down) → ℕ → ℕ → Type 0
OwedAt s t u d r j = Owed r j (s.latest r) (s.queue r) (t j).kind (t j).opened ((t j).kept r) (u j) (d j)

-- a 19 for the page, an 8 for it: of transaction t, or of any, where the station keeps the page
abbrev pub ask_is : Bool → ℕ → ℕ → Down → Bool
ask_is k p t (Page l a u v x y) = false
ask_is k p t (Deescalate q u) = eqb q p && (k || eqb u t)
ask_is k p t (Callback r u set) = false
ask_is k p t (Committed u n) = false
ask_is k p t (Aborted u c) = false
ask_is k p t (Invalidate d) = false

abbrev pub set_is : Bool → ℕ → ℕ → Up → Bool
set_is k p t (ReadRequest a u) = false
set_is k p t (WriteRequest q u set) = false
set_is k p t (Commit w) = false
set_is k p t (Abort u) = false
set_is k p t (Purge q) = false
set_is k p t (Busy r u) = false
set_is k p t (Done r u d) = false
set_is k p t (WrittenSet q u set) = eqb q p && (k || eqb u t)

abbrev pub asks_out : Bool → ℕ → ℕ → List Up → List Down → ℕ
asks_out k p t U D = count (ask_is k p t) D + count (set_is k p t) U

-- the transaction that counts: the latest, none where the station keeps the page
abbrev pub asked_for : ℕ → ℕ → ℕ
asked_for kind latest = cond (keeps kind) 0 latest

-- P5: a page asked for is held, and its holder's token exists
abbrev pub P5At : Server → (ℕ → List Up) → (ℕ → List Down) → ℕ → ℕ → Type 0
P5At s u d p h = s.wl p ≡ suc h → s.asked p ≡ true → 1 ≤ asks_out (keeps (s.kind h)) p (asked_for (s.kind h) (s.latest h)) (u h) (d h)

-- of a world
abbrev pub P1Of : Server → (ℕ → Station) → (ℕ → List Up) → (ℕ → List Down) → Type 0
P1Of s t u d = (i : ℕ) → i < 8 → P1At s t u d i

abbrev pub OwedOf : Server → (ℕ → Station) → (ℕ → List Up) → (ℕ → List Down) → Type 0
OwedOf s t u d = (r j : ℕ) → r < 8 → j < 8 → OwedAt s t u d r j

abbrev pub P5Of : Server → (ℕ → Station) → (ℕ → List Up) → (ℕ → List Down) → Type 0
P5Of s t u d = (p h : ℕ) → p < 32 → h < 8 → P5At s u d p h

-- THE WHOLE, of a world
pub record Moving (w : World) : Type 0 where
  pub inv : Inv w
  pub P1 : Of P1Of w
  pub owed : Of OwedOf w
  pub P5 : Of P5Of w
