-- Document 01: "fixed for life as locking (0) or validating (1)". Document 02, wish 10: "Add station kind 2, keeping: a locking station
-- whose whole-page lock outlives commit and abort"; "number 5 starts at kind 3".
use Rattle.std.specs.Prelude.{ℕ, Bool, not, eqb}

abbrev pub most_kind : ℕ
most_kind = 2

-- holds locks and is called back
abbrev pub locking : ℕ → Bool
locking k = not (eqb k 1)

-- its whole locks outlive their transactions
abbrev pub keeps : ℕ → Bool
keeps k = eqb k 2
