-- Document 02, wish 7: the chargeable frames of an address over a stretch of commits.
use Rattle.std.specs.Prelude.{ℕ, List, [], ◌∷◌, Bool, true, ◌&&◌, cond, eqb, leb, ℤ, pos, ◌+ℤ◌}
use Rattle.layout.specs.Record.{Entry, Record}
use Rattle.layout.specs.Replay.{Values, wrote}
use Rattle.signed.specs.Change.{most, diff}

-- "the sum over its writes of new value minus the value before": of a record's writes, on the values before it
abbrev pub changes : ℕ → List Entry → Values → ℤ
changes a [] v = pos 0
changes a (e ∷ es) v = cond (eqb e.address a) (diff e.value (v a)) (pos 0) +ℤ changes a es (wrote (e ∷ []) v)

-- neither end of any of these changes is above 2^63 − 1
abbrev pub changes_fit : ℕ → List Entry → Values → Bool
changes_fit a [] v = true
changes_fit a (e ∷ es) v = cond (eqb e.address a) (leb e.value most && leb (v a) most) true && changes_fit a es (wrote (e ∷ []) v)

-- "a stretch of commits, given by its first and last number"
abbrev pub within : ℕ → ℕ → Record → Bool
within first last r = leb first r.commit && leb r.commit last

-- of all records of the stretch, from these values on
abbrev pub frames : ℕ → ℕ → ℕ → List Record → Values → ℤ
frames a first last [] v = pos 0
frames a first last (r ∷ rs) v = cond (within first last r) (changes a r.writes v) (pos 0) +ℤ frames a first last rs (wrote r.writes v)

abbrev pub frames_fit : ℕ → ℕ → ℕ → List Record → Values → Bool
frames_fit a first last [] v = true
frames_fit a first last (r ∷ rs) v = cond (within first last r) (changes_fit a r.writes v) true && frames_fit a first last rs (wrote r.writes v)
