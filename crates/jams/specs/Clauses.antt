-- What "no message of a rule-keeper is refused" needs beside the invariant of crate truth: statements only. Each is over plain values of
-- one station and its lines, so that an action that leaves these values is seen to keep the clause.
use Rattle.std.specs.Prelude.{◌≡◌, Bool, true, false, ◌&&◌, ◌||◌, List, [], ◌∷◌, ◌⊎◌, ◌≢◌, ℕ, suc, ◌+◌, ◌≤◌, ◌<◌, eqb}
use Rattle.sets.specs.Base.{Val, has, any}
use Rattle.line.specs.All.{All}
use Rattle.line.specs.Messages.{page_of, address, locking, keeps, Up, ReadRequest, WriteRequest, Commit, Abort, Purge, Busy, Done, WrittenSet, NoLock, ObjectLock, WholeLock, Down, Page, Deescalate, Callback, Committed, Aborted, Invalidate}
use Rattle.line.specs.Station.{Station, NotKept, Wait, for_write, writes_to, some_on}
use Rattle.line.specs.Server.{Server, Want, WantWrite, Waiter}
use Rattle.line.specs.Line.{World}
use Rattle.line.specs.Truth.{count}
use Rattle.truth.specs.Clauses.{dropped, ask_of, set_of, ask_tokens}
use Rattle.truth.specs.Inv.{Inv}

-- 1. NUMBERS, of one station

-- "2, 4, 6, 7, 8 from a validating station" are refused
abbrev pub KindUp : ℕ → Up → Type 0
KindUp kind (ReadRequest a t) = Unit {0}
KindUp kind (WriteRequest p t set) = locking kind ≡ true
KindUp kind (Commit w) = Unit {0}
KindUp kind (Abort t) = locking kind ≡ true
KindUp kind (Purge p) = Unit {0}
KindUp kind (Busy r t) = locking kind ≡ true
KindUp kind (Done r t d) = locking kind ≡ true
KindUp kind (WrittenSet p t set) = locking kind ≡ true

-- 17 to 20 go to locking stations alone, 23 to validating ones
abbrev pub KindDown : ℕ → Down → Type 0
KindDown kind (Page NoLock a t v u x) = Unit {0}
KindDown kind (Page ObjectLock a t v u x) = locking kind ≡ true
KindDown kind (Page WholeLock a t v u x) = locking kind ≡ true
KindDown kind (Deescalate p t) = locking kind ≡ true
KindDown kind (Callback r t set) = locking kind ≡ true
KindDown kind (Committed t n) = Unit {0}
KindDown kind (Aborted t c) = Unit {0}
KindDown kind (Invalidate d) = locking kind ≡ false

-- kinds 1 to 4 name the station's own transaction
abbrev pub numbered : Up → Bool
numbered (ReadRequest a t) = true
numbered (WriteRequest p t set) = true
numbered (Commit w) = true
numbered (Abort t) = true
numbered (Purge p) = false
numbered (Busy r t) = false
numbered (Done r t d) = false
numbered (WrittenSet p t set) = false

abbrev pub named : Up → ℕ
named (ReadRequest a t) = t
named (WriteRequest p t set) = t
named (Commit w) = w.transaction
named (Abort t) = t
named (Purge p) = 0
named (Busy r t) = 0
named (Done r t d) = 0
named (WrittenSet p t set) = 0

abbrev pub Above : ℕ → Up → Type 0
Above t m = numbered m ≡ true → t < named m

-- their numbers rise strictly along the line
abbrev pub Rising : List Up → Type 0
Rising [] = Unit {0}
Rising (m ∷ l) = (numbered m ≡ true → All (Above (named m)) l) × Rising l

-- a number that the server takes next: above the latest, or the latest while it is unfinished
abbrev pub Next : ℕ → Bool → Up → Type 0
Next latest fin m = numbered m ≡ true → (latest < named m) ⊎ ((named m ≡ latest) × (fin ≡ false))

-- a 4 of transaction t
abbrev pub abort_of : ℕ → Up → Bool
abort_of t (ReadRequest a u) = false
abort_of t (WriteRequest p u set) = false
abort_of t (Commit w) = false
abort_of t (Abort u) = eqb u t
abort_of t (Purge p) = false
abort_of t (Busy r u) = false
abort_of t (Done r u d) = false
abort_of t (WrittenSet p u set) = false

-- a 4 names a transaction that is over
abbrev pub AbortOver : ℕ → Bool → Up → Type 0
AbortOver num opened (ReadRequest a t) = Unit {0}
AbortOver num opened (WriteRequest p t set) = Unit {0}
AbortOver num opened (Commit w) = Unit {0}
AbortOver num opened (Abort t) = (t < num) ⊎ ((t ≡ num) × (opened ≡ false))
AbortOver num opened (Purge p) = Unit {0}
AbortOver num opened (Busy r t) = Unit {0}
AbortOver num opened (Done r t d) = Unit {0}
AbortOver num opened (WrittenSet p t set) = Unit {0}

-- a 21 or 22
abbrev pub is_end : Down → Bool
is_end (Page l a t v u x) = false
is_end (Deescalate p t) = false
is_end (Callback r t set) = false
is_end (Committed t n) = true
is_end (Aborted t c) = true
is_end (Invalidate d) = false

-- a page for the open transaction names the server's latest, unfinished; a 21 or 22 names it finished
abbrev pub Latest : ℕ → Bool → ℕ → Bool → Down → Type 0
Latest num opened latest fin (Page l a t v u x) = (opened && eqb t num) ≡ true → (t ≡ latest) × (fin ≡ false)
Latest num opened latest fin (Deescalate p t) = Unit {0}
Latest num opened latest fin (Callback r t set) = Unit {0}
Latest num opened latest fin (Committed t n) = (t ≡ latest) × (fin ≡ true)
Latest num opened latest fin (Aborted t c) = (t ≡ latest) × (fin ≡ true)
Latest num opened latest fin (Invalidate d) = Unit {0}

-- what a 19 names is not above t
abbrev pub AskBelow : ℕ → Down → Type 0
AskBelow t (Page l a u v x y) = Unit {0}
AskBelow t (Deescalate q u) = u ≤ t
AskBelow t (Callback r u set) = Unit {0}
AskBelow t (Committed u n) = Unit {0}
AskBelow t (Aborted u c) = Unit {0}
AskBelow t (Invalidate d) = Unit {0}

-- the transaction that an 8 names
abbrev pub answer_number : Up → ℕ
answer_number (ReadRequest a t) = 0
answer_number (WriteRequest p t set) = 0
answer_number (Commit w) = 0
answer_number (Abort t) = 0
answer_number (Purge p) = 0
answer_number (Busy r t) = 0
answer_number (Done r t d) = 0
answer_number (WrittenSet p t set) = t

-- kinds 1 to 4 behind an 8 name nothing below it
abbrev pub AnswersFirst : List Up → Type 0
AnswersFirst [] = Unit {0}
AnswersFirst (m ∷ l) = All (λ x. numbered x ≡ true → answer_number m ≤ named x) l × AnswersFirst l

-- an 8 names a transaction that the server has met, or the open one, or one whose 4 is under way
abbrev pub Met : ℕ → Bool → ℕ → List Up → Up → Type 0
Met num opened latest U m = latest < answer_number m → ((opened ≡ true) × (answer_number m ≡ num)) ⊎ (1 ≤ count (abort_of (answer_number m)) U)

pub record Numbers (kind num : ℕ) (opened : Bool) (latest : ℕ) (fin : Bool) (U : List Up) (D : List Down) : Type 0 where
  pub N1_up : All (KindUp kind) U
  pub N1_down : All (KindDown kind) D
  pub N2 : Rising U  -- kinds 1 to 4 in Up: numbers rise strictly
  pub N3 : All (Next latest fin) U  -- .. above the latest, or the latest and unfinished
  pub N4 : locking kind ≡ true → fin ≡ false → ((opened ≡ true) × (latest ≡ num)) ⊎ (1 ≤ count (abort_of latest) U)  -- unfinished: open, or its 4 is under way
  pub N5 : opened ≡ true → latest ≡ num → fin ≡ true → 1 ≤ count is_end D  -- open and finished: its 21 or 22 is under way
  pub N6 : latest ≤ num
  pub N7 : All (AbortOver num opened) U
  pub N8 : All (Latest num opened latest fin) D
  pub N2s : AnswersFirst U
  pub N10 : All (Met num opened latest U) U
  pub N10a : All (λ m. answer_number m ≤ num) U
  pub K6a : All (AskBelow latest) D

abbrev pub NumbersAt : Server → (ℕ → Station) → (ℕ → List Up) → (ℕ → List Down) → ℕ → Type 0
NumbersAt s t u d i = Numbers (t i).kind (t i).num (t i).opened (s.latest i) (s.fin i) (u i) (d i)

-- callbacks are kept at locking stations alone, so that a validating one has no 7 to send
abbrev pub KeptAt : (ℕ → Station) → ℕ → Type 0
KeptAt t i = locking (t i).kind ≡ false → (r : ℕ) → (t i).kept r ≡ NotKept

-- 2. LOCKS, of one station i; OL and WL are the server's, ol and wl the station's own

-- a 17 for the page, an 18 for the page
abbrev pub grants_object : ℕ → Down → Bool
grants_object p (Page NoLock a t v u x) = false
grants_object p (Page ObjectLock a t v u x) = eqb p (page_of a)
grants_object p (Page WholeLock a t v u x) = false
grants_object p (Deescalate q t) = false
grants_object p (Callback r t set) = false
grants_object p (Committed t n) = false
grants_object p (Aborted t c) = false
grants_object p (Invalidate d) = false

abbrev pub grants_whole : ℕ → Down → Bool
grants_whole p (Page NoLock a t v u x) = false
grants_whole p (Page ObjectLock a t v u x) = false
grants_whole p (Page WholeLock a t v u x) = eqb p (page_of a)
grants_whole p (Deescalate q t) = false
grants_whole p (Callback r t set) = false
grants_whole p (Committed t n) = false
grants_whole p (Aborted t c) = false
grants_whole p (Invalidate d) = false

-- a 2 for the page
abbrev pub asks_lock : ℕ → Up → Bool
asks_lock p (ReadRequest a t) = false
asks_lock p (WriteRequest q t set) = eqb p q
asks_lock p (Commit w) = false
asks_lock p (Abort t) = false
asks_lock p (Purge q) = false
asks_lock p (Busy r t) = false
asks_lock p (Done r t d) = false
asks_lock p (WrittenSet q t set) = false

-- something is written on the page
abbrev pub meets : (ℕ → Val) → ℕ → Bool
meets wr p = any 8 (λ o. has (wr (address p o)))

-- along the line, up to the first message that passes `ends`, none passes `bad`
abbrev pub NoneUntil : (Up → Bool) → (Up → Bool) → List Up → Type 0
NoneUntil ends bad [] = Unit {0}
NoneUntil ends bad (m ∷ l) = (bad m ≡ false) × ((ends m ≡ true) ⊎ NoneUntil ends bad l)

-- a lock brought by a page message stands at the server; `due` is what the owner waits to write, all of it locked then
abbrev pub Granted : ℕ → (ℕ → ℕ) → (ℕ → ℕ) → (ℕ → Bool) → (ℕ → Bool) → Down → Type 0
Granted i OL WL due ol (Page NoLock a t v u x) = Unit {0}
Granted i OL WL due ol (Page ObjectLock a t v u x) = (b : ℕ) → due b ≡ true → (OL b ≡ suc i) ⊎ (ol b ≡ true)
Granted i OL WL due ol (Page WholeLock a t v u x) = WL (page_of a) ≡ suc i
Granted i OL WL due ol (Deescalate p t) = Unit {0}
Granted i OL WL due ol (Callback r t set) = Unit {0}
Granted i OL WL due ol (Committed t n) = Unit {0}
Granted i OL WL due ol (Aborted t c) = Unit {0}
Granted i OL WL due ol (Invalidate d) = Unit {0}

-- a lock that the station has for whole stands: it keeps it, or its transaction is not ended
abbrev pub Stands : ℕ → Bool → List Down → Type 0
Stands kind opened D = (keeps kind ≡ true) ⊎ ((locking kind ≡ true) × (opened ≡ true) × (count is_end D ≡ 0))

pub record Locks (i kind num : ℕ) (opened : Bool) (wr : ℕ → Val) (ol wl due : ℕ → Bool) (OL WL : ℕ → ℕ) (latest : ℕ) (U : List Up) (D : List Down) : Type 0 where
  -- an object lock: its 4 is under way, or the object is written, or it is to be written and a 17 for its page is under way
  pub K1a : (a : ℕ) → OL a ≡ suc i → (1 ≤ count (abort_of latest) U) ⊎ ((opened ≡ true) × (has (wr a) ≡ true)) ⊎ ((1 ≤ count (grants_object (page_of a)) D) × (due a ≡ true))
  -- a whole lock: its 4 is under way, or the page is written and the station has it whole or its 8 is under way, or its 18 is under way
  pub K1b : keeps kind ≡ false → (p : ℕ) → WL p ≡ suc i → (1 ≤ count (abort_of latest) U) ⊎ ((opened ≡ true) × (meets wr p ≡ true) × ((wl p ≡ true) ⊎ (1 ≤ count (set_of p latest) U))) ⊎ (1 ≤ count (grants_whole p) D)
  -- what is written and not ended is locked at the server
  pub K2a : locking kind ≡ true → opened ≡ true → count is_end D ≡ 0 → (a : ℕ) → has (wr a) ≡ true → (OL a ≡ suc i) ⊎ (WL (page_of a) ≡ suc i)
  pub K2b : (p : ℕ) → wl p ≡ true → Stands kind opened D → WL p ≡ suc i
  -- own locks are on what is written
  pub K3a : (a : ℕ) → ol a ≡ true → has (wr a) ≡ true
  pub K3b : keeps kind ≡ false → (p : ℕ) → wl p ≡ true → meets wr p ≡ true
  pub K7 : All (Granted i OL WL due ol) D
  -- who has written under a lock is known to the server, or keeps the page
  pub K9 : locking kind ≡ true → opened ≡ true → (a : ℕ) → has (wr a) ≡ true → (latest ≡ num) ⊎ ((keeps kind ≡ true) × (WL (page_of a) ≡ suc i))
  -- a drop of a page with a lock of its own comes behind the 4
  pub N9 : (p : ℕ) → ((a : ℕ) → page_of a ≡ p → OL a ≡ suc i → NoneUntil (abort_of latest) (dropped p) U) × (keeps kind ≡ false → WL p ≡ suc i → NoneUntil (abort_of latest) (dropped p) U)

abbrev pub LocksAt : Server → (ℕ → Station) → (ℕ → List Up) → (ℕ → List Down) → ℕ → Type 0
LocksAt s t u d i =
    Locks i (t i).kind (t i).num (t i).opened (t i).wr (t i).ol (t i).wl (for_write (t i).wait) s.ol s.wl (s.latest i) (u i) (d i)

-- 3. DE-ESCALATION of page p at station i that keeps nothing; WL and asked are the server's for p, OL its object locks, wl the station's own

-- what an 8 names is not above t
abbrev pub SetBelow : ℕ → Up → Type 0
SetBelow t (ReadRequest a u) = Unit {0}
SetBelow t (WriteRequest q u set) = Unit {0}
SetBelow t (Commit w) = Unit {0}
SetBelow t (Abort u) = Unit {0}
SetBelow t (Purge q) = Unit {0}
SetBelow t (Busy r u) = Unit {0}
SetBelow t (Done r u d) = Unit {0}
SetBelow t (WrittenSet q u set) = u ≤ t

-- an 8 of (p, t) has every written object of the page that is not locked by itself already ..
abbrev pub SetFull : ℕ → ℕ → ℕ → (ℕ → Val) → (ℕ → ℕ) → Up → Type 0
SetFull i p t wr OL (ReadRequest a u) = Unit {0}
SetFull i p t wr OL (WriteRequest q u set) = Unit {0}
SetFull i p t wr OL (Commit w) = Unit {0}
SetFull i p t wr OL (Abort u) = Unit {0}
SetFull i p t wr OL (Purge q) = Unit {0}
SetFull i p t wr OL (Busy r u) = Unit {0}
SetFull i p t wr OL (Done r u d) = Unit {0}
SetFull i p t wr OL (WrittenSet q u set) = q ≡ p → u ≡ t → (a : ℕ) → page_of a ≡ p → has (wr a) ≡ true → (set a ≡ true) ⊎ (OL a ≡ suc i)

-- .. and nothing that is not written
abbrev pub SetWritten : ℕ → ℕ → (ℕ → Val) → Up → Type 0
SetWritten p t wr (ReadRequest a u) = Unit {0}
SetWritten p t wr (WriteRequest q u set) = Unit {0}
SetWritten p t wr (Commit w) = Unit {0}
SetWritten p t wr (Abort u) = Unit {0}
SetWritten p t wr (Purge q) = Unit {0}
SetWritten p t wr (Busy r u) = Unit {0}
SetWritten p t wr (Done r u d) = Unit {0}
SetWritten p t wr (WrittenSet q u set) = q ≡ p → u ≡ t → (a : ℕ) → set a ≡ true → has (wr a) ≡ true

-- behind the 19 of (p, t) no 18 for the page
abbrev pub NoWholeBehind : ℕ → ℕ → List Down → Type 0
NoWholeBehind p t [] = Unit {0}
NoWholeBehind p t (m ∷ l) = (ask_of p t m ≡ true → count (grants_whole p) l ≡ 0) × NoWholeBehind p t l

-- an 8 of (p, t), or a 4 of t
abbrev pub gives_up : ℕ → ℕ → Up → Bool
gives_up p t m = set_of p t m || abort_of t m

pub record Deescalation (i p kind num : ℕ) (opened : Bool) (wr : ℕ → Val) (wl : Bool) (OL : ℕ → ℕ) (WL : ℕ) (asked : Bool) (want : Want) (req latest : ℕ) (fin : Bool) (U : List Up) (D : List Down) : Type 0 where
  pub K4 : opened ≡ true → fin ≡ false → latest ≡ num → WL ≡ suc i → All (SetFull i p latest wr OL) U
  pub K4b : opened ≡ true → fin ≡ false → latest ≡ num → All (SetWritten p latest wr) U
  pub K6a_down : All (AskBelow latest) D
  pub K6a_up : All (SetBelow latest) U
  pub K6b : fin ≡ false → 1 ≤ ask_tokens p latest U D → (WL ≡ suc i) × (asked ≡ true)  -- a token of the unfinished latest: the lock stands and is asked for
  pub K6c : fin ≡ false → ask_tokens p latest U D ≤ 1  -- .. and there is one only
  pub K6d_up : fin ≡ false → 1 ≤ count (set_of p latest) U → (wl ≡ false) × (count (grants_whole p) D ≡ 0)  -- the 8 is under way: the station has the page whole no more
  pub K6d_down : fin ≡ false → NoWholeBehind p latest D
  pub K10 : want ≡ WantWrite → page_of req ≡ p → WL ≢ suc i  -- who waits for a lock on the page has not got it whole
  pub K10_up : WL ≡ suc i → NoneUntil (gives_up p latest) (asks_lock p) U  -- .. nor who asks, but behind an 8 or 4

abbrev pub DeescalationAt : Server → (ℕ → Station) → (ℕ → List Up) → (ℕ → List Down) → ℕ → ℕ → Type 0
DeescalationAt s t u d i p =
    Deescalation i p (t i).kind (t i).num (t i).opened (t i).wr ((t i).wl p) s.ol (s.wl p) (s.asked p) (s.queue i).want (s.queue i).req (s.latest i) (s.fin i) (u i) (d i)

-- 3k. KEEPING of page p at station i of kind 2: its tokens need no transaction

-- an 8 for the page, a 19 for it
abbrev pub set_for : ℕ → Up → Bool
set_for p (ReadRequest a t) = false
set_for p (WriteRequest q t set) = false
set_for p (Commit w) = false
set_for p (Abort t) = false
set_for p (Purge q) = false
set_for p (Busy r t) = false
set_for p (Done r t d) = false
set_for p (WrittenSet q t set) = eqb q p

abbrev pub ask_for : ℕ → Down → Bool
ask_for p (Page l a t v u x) = false
ask_for p (Deescalate q t) = eqb q p
ask_for p (Callback r t set) = false
ask_for p (Committed t n) = false
ask_for p (Aborted t c) = false
ask_for p (Invalidate d) = false

-- an 8 for the page has every object that the open transaction has written there, or that is locked by itself for it
abbrev pub KeptFull : ℕ → ℕ → ℕ → ℕ → (ℕ → Val) → (ℕ → ℕ) → Up → Type 0
KeptFull i p num latest wr OL (ReadRequest a u) = Unit {0}
KeptFull i p num latest wr OL (WriteRequest q u set) = Unit {0}
KeptFull i p num latest wr OL (Commit w) = Unit {0}
KeptFull i p num latest wr OL (Abort u) = Unit {0}
KeptFull i p num latest wr OL (Purge q) = Unit {0}
KeptFull i p num latest wr OL (Busy r u) = Unit {0}
KeptFull i p num latest wr OL (Done r u d) = Unit {0}
KeptFull i p num latest wr OL (WrittenSet q u set) = q ≡ p → (a : ℕ) → page_of a ≡ p → has (wr a) ≡ true → ((u ≡ num) × (set a ≡ true)) ⊎ ((OL a ≡ suc i) × (latest ≡ num))

-- behind a 19 for the page no 18 for it
abbrev pub NoWholeAfter : ℕ → List Down → Type 0
NoWholeAfter p [] = Unit {0}
NoWholeAfter p (m ∷ l) = (ask_for p m ≡ true → count (grants_whole p) l ≡ 0) × NoWholeAfter p l

-- a transaction that the server has not met, or has not finished
abbrev pub Unended : ℕ → Bool → ℕ → Type 0
Unended latest fin u = (latest < u) ⊎ ((u ≡ latest) × (fin ≡ false))

-- behind an 8 that will lock an object of the page: no drop of it but behind the transaction's 4, which is there unless it is open
abbrev pub SetClear : ℕ → ℕ → Bool → ℕ → Bool → List Up → Up → Type 0
SetClear p num opened latest fin l (ReadRequest a u) = Unit {0}
SetClear p num opened latest fin l (WriteRequest q u set) = Unit {0}
SetClear p num opened latest fin l (Commit w) = Unit {0}
SetClear p num opened latest fin l (Abort u) = Unit {0}
SetClear p num opened latest fin l (Purge q) = Unit {0}
SetClear p num opened latest fin l (Busy r u) = Unit {0}
SetClear p num opened latest fin l (Done r u d) = Unit {0}
SetClear p num opened latest fin l (WrittenSet q u set) =
    q ≡ p → Unended latest fin u → (a : ℕ) → page_of a ≡ p → set a ≡ true → NoneUntil (abort_of u) (dropped p) l × (((opened ≡ true) × (u ≡ num)) ⊎ (1 ≤ count (abort_of u) l))

abbrev pub SetsClear : ℕ → ℕ → Bool → ℕ → Bool → List Up → Type 0
SetsClear p num opened latest fin [] = Unit {0}
SetsClear p num opened latest fin (m ∷ l) = SetClear p num opened latest fin l m × SetsClear p num opened latest fin l

pub record Keeping (i p num : ℕ) (opened : Bool) (wr : ℕ → Val) (wl : Bool) (OL : ℕ → ℕ) (WL : ℕ) (asked : Bool) (want : Want) (req latest : ℕ) (fin : Bool) (U : List Up) (D : List Down) : Type 0 where
  pub K1 : WL ≡ suc i → (wl ≡ true) ⊎ (1 ≤ count (set_for p) U) ⊎ (1 ≤ count (grants_whole p) D)  -- the station has the page whole, or its 8 or its 18 is under way
  pub K4 : opened ≡ true → count is_end D ≡ 0 → WL ≡ suc i → All (KeptFull i p num latest wr OL) U
  pub K4b : opened ≡ true → All (SetWritten p num wr) U
  pub K6b : 1 ≤ count (ask_for p) D + count (set_for p) U → (WL ≡ suc i) × (asked ≡ true)  -- a token for the page: the lock stands and is asked for
  pub K6c : count (ask_for p) D + count (set_for p) U ≤ 1  -- .. and there is one only
  pub K6d_up : 1 ≤ count (set_for p) U → (wl ≡ false) × (count (grants_whole p) D ≡ 0)  -- the 8 is under way: the station has the page whole no more
  pub K6d_down : NoWholeAfter p D
  pub K10 : want ≡ WantWrite → page_of req ≡ p → WL ≢ suc i  -- who waits for a lock on the page has not got it whole
  pub K10_up : WL ≡ suc i → NoneUntil (set_for p) (asks_lock p) U  -- .. nor who asks, but behind the 8
  pub N9 : WL ≡ suc i → NoneUntil (set_for p) (dropped p) U  -- a drop of the page comes behind the 8
  pub N12 : SetsClear p num opened latest fin U

abbrev pub KeepingAt : Server → (ℕ → Station) → (ℕ → List Up) → (ℕ → List Down) → ℕ → ℕ → Type 0
KeepingAt s t u d i p =
    Keeping i p (t i).num (t i).opened (t i).wr ((t i).wl p) s.ol (s.wl p) (s.asked p) (s.queue i).want (s.queue i).req (s.latest i) (s.fin i) (u i) (d i)

-- 4. SETS: what a 2, or the waiter that it became, names is what the owner waits to write and has no lock on yet

abbrev pub NamesSet : Wait → (ℕ → Bool) → ℕ → (ℕ → Bool) → Type 0
NamesSet w ol p set = writes_to w p ≡ true → ((b : ℕ) → page_of b ≡ p → set b ≡ true → for_write w b ≡ true) × ((b : ℕ) → for_write w b ≡ true → (set b ≡ true) ⊎ (ol b ≡ true))

abbrev pub NamesUp : Wait → (ℕ → Bool) → Up → Type 0
NamesUp w ol (ReadRequest a t) = Unit {0}
NamesUp w ol (WriteRequest p t set) = NamesSet w ol p set
NamesUp w ol (Commit k) = Unit {0}
NamesUp w ol (Abort t) = Unit {0}
NamesUp w ol (Purge p) = Unit {0}
NamesUp w ol (Busy r t) = Unit {0}
NamesUp w ol (Done r t d) = Unit {0}
NamesUp w ol (WrittenSet p t set) = Unit {0}

pub record Sets (w : Wait) (ol : ℕ → Bool) (q : Waiter) (U : List Up) : Type 0 where
  pub S8_up : All (NamesUp w ol) U
  pub K11 : (p : ℕ) → writes_to w p ≡ true → (some_on p (for_write w) ≡ true) × ((a : ℕ) → for_write w a ≡ true → page_of a ≡ p)  -- what is to be written is some of one page
  pub S8_waiter : q.want ≡ WantWrite → NamesSet w ol (page_of q.req) q.writes

abbrev pub SetsAt : Server → (ℕ → Station) → (ℕ → List Up) → ℕ → Type 0
SetsAt s t u i = Sets (t i).wait (t i).ol (s.queue i) (u i)

-- THE WHOLE, of a world
abbrev pub SetsOf : World → Type 0
SetsOf w = (i : ℕ) → i < 8 → SetsAt w.server w.station w.up i

abbrev pub NumbersOf : World → Type 0
NumbersOf w = (i : ℕ) → i < 8 → NumbersAt w.server w.station w.up w.down i

abbrev pub KeptOf : World → Type 0
KeptOf w = (i : ℕ) → i < 8 → KeptAt w.station i

abbrev pub LocksOf : World → Type 0
LocksOf w = (i : ℕ) → i < 8 → LocksAt w.server w.station w.up w.down i

abbrev pub DeescalationOf : World → Type 0
DeescalationOf w = (i p : ℕ) → i < 8 → p < 32 → keeps (w.station i).kind ≡ false → DeescalationAt w.server w.station w.up w.down i p

abbrev pub KeepingOf : World → Type 0
KeepingOf w = (i p : ℕ) → i < 8 → keeps (w.station i).kind ≡ true → KeepingAt w.server w.station w.up w.down i p

pub record Orderly (w : World) : Type 0 where
  pub inv : Inv w
  pub numbers : NumbersOf w
  pub kept : KeptOf w
  pub locks : LocksOf w
  pub deescalation : DeescalationOf w
  pub keeping : KeepingOf w
  pub sets : SetsOf w
