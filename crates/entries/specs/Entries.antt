-- What was read or written by address, as document 01's entries, rising; and nothing is lost by that.
use Rattle.std.specs.Prelude.{ℕ, zero, suc, ◌≤◌, ◌<◌, ◌^◌, ◌≡◌, cond, List, [], ◌∷◌, eqb}
use Rattle.sets.specs.Base.{Val, none, some}
use Rattle.layout.specs.Record.{Entry}

abbrev pub entry : ℕ → ℕ → Entry
entry a x = record { address = a; value = x }

-- an entry in front, if there is a value
abbrev pub entry_if : ℕ → Val → List Entry → List Entry
entry_if a none l = l
entry_if a (some x) l = entry a x ∷ l

-- the entries of n addresses from a on, rising
unfoldable pub entries_from_lem : ℕ → ℕ → (ℕ → Val) → List Entry
entries_from_lem zero a f = []
entries_from_lem (suc n) a f = entry_if a (f a) (entries_from_lem n (suc a) f)

-- .. of addresses 0 to 255: "page 0 to 31, object 0 to 7"
unfoldable pub entries_of : (ℕ → Val) → List Entry
entries_of f = entries_from_lem 256 0 f

-- and back: what a list of entries says of an address
abbrev pub value_in : List Entry → ℕ → Val
value_in [] a = none
value_in (e ∷ es) a = cond (eqb a e.address) (some e.value) (value_in es a)

-- a value of 8 bytes, if there is one
abbrev pub FitVal : Val → Type 0
FitVal none = Unit {0}
FitVal (some x) = x < 2 ^ 64

-- nothing from address 256 on
abbrev pub Within : (ℕ → Val) → Type 0
Within f = (a : ℕ) → 256 ≤ a → f a ≡ none

-- the first address is a or above
abbrev pub Above : ℕ → List Entry → Type 0
Above a [] = Unit {0}
Above a (e ∷ es) = a ≤ e.address
