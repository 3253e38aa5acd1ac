-- What an owner is told: the clauses `Owned` of one owner under each event of the owner and its station.
use Rattle.std.specs.Prelude.{◌≡◌, Bool, true, false, cond, ltb}
use mathlib.Core.List.{List, ◌∷◌, ◌++◌}
use Prim.Native.Nat.{ℕ}
use Rattle.sets.specs.Base.{Val, none, val_or}
use Rattle.line.specs.Messages.{Down, Page, Deescalate, Callback, Committed, Aborted, Invalidate}
use Rattle.line.specs.Station.{or_val}
use Rattle.line.specs.Line.{Told, ToldRead, ToldWrite, ToldCommit, ToldAbort}
use Rattle.line.specs.Truth.{last_write, first_read}
use Rattle.truth.specs.Clauses.{over}

abbrev pub told_in : Told → ℕ
told_in (ToldRead i t a v) = t
told_in (ToldWrite i t a v) = t
told_in (ToldCommit i t n) = t
told_in (ToldAbort i t c) = t

abbrev pub told_number : Told → ℕ
told_number (ToldRead i t a v) = 0
told_number (ToldWrite i t a v) = 0
told_number (ToldCommit i t n) = n
told_number (ToldAbort i t c) = 0

abbrev pub tells_commit : Told → Bool
tells_commit (ToldRead i t a v) = false
tells_commit (ToldWrite i t a v) = false
tells_commit (ToldCommit i t n) = true
tells_commit (ToldAbort i t c) = false

abbrev pub tells_abort : Told → Bool
tells_abort (ToldRead i t a v) = false
tells_abort (ToldWrite i t a v) = false
tells_abort (ToldCommit i t n) = false
tells_abort (ToldAbort i t c) = true

abbrev pub tells_read : Told → Bool
tells_read (ToldRead i t a v) = true
tells_read (ToldWrite i t a v) = false
tells_read (ToldCommit i t n) = false
tells_read (ToldAbort i t c) = false

abbrev pub told_address : Told → ℕ
told_address (ToldRead i t a v) = a
told_address (ToldWrite i t a v) = a
told_address (ToldCommit i t n) = 0
told_address (ToldAbort i t c) = 0

abbrev pub told_value : Told → ℕ
told_value (ToldRead i t a v) = v
told_value (ToldWrite i t a v) = v
told_value (ToldCommit i t n) = 0
told_value (ToldAbort i t c) = 0

-- T2_again of one owner
abbrev pub Again : ℕ → List Told → Type 0
Again i told =
    (t a v : ℕ) (before after : List Told) → told ≡ before ++ (ToldRead i t a v ∷ after)
    → v ≡ val_or (last_write i t before a none) (val_or (first_read i t told a none none) 0)

-- the message taken from the line leaves nothing open
abbrev pub Passed : ℕ → Bool → Down → Type 0
Passed num opened (Page l a t v u x) = Unit {0}
Passed num opened (Deescalate p t) = Unit {0}
Passed num opened (Callback r t set) = Unit {0}
Passed num opened (Committed t n) = over num opened t ≡ true
Passed num opened (Aborted t c) = over num opened t ≡ true
Passed num opened (Invalidate d) = Unit {0}

-- the writes below n of a set
abbrev pub first_ones : ℕ → (ℕ → Val) → (ℕ → Val) → ℕ → Val
first_ones n f wr b = cond (ltb b n) (or_val (f b) (wr b)) (wr b)
