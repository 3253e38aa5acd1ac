-- The values that the first n records leave (`Hist`): a longer archive leaves them unchanged, and what one record more does. And the
-- numbers of records, which are 1 to the length of the archive.
use Rattle.std.specs.Prelude.{◌≡◌, List, ℕ, ◌≤◌}
use Rattle.sets.specs.Base.{Val, some}
use Rattle.line.specs.Messages.{Rec, Down, Page, Deescalate, Callback, Committed, Aborted, Invalidate}
use Rattle.truth.specs.Clauses.{Hist}

-- a 21 on its way has a number that was given
abbrev pub NumberBelow : ℕ → Down → Type 0
NumberBelow last (Page l a t v u x) = Unit {0}
NumberBelow last (Deescalate p t) = Unit {0}
NumberBelow last (Callback r t set) = Unit {0}
NumberBelow last (Committed t n) = n ≤ last
NumberBelow last (Aborted t c) = Unit {0}
NumberBelow last (Invalidate d) = Unit {0}

-- the values that a 21's transaction wrote stand at its number
abbrev pub WrittenBy : List Rec → (ℕ → Val) → Down → Type 0
WrittenBy archive wr (Page l a t v u x) = Unit {0}
WrittenBy archive wr (Deescalate p t) = Unit {0}
WrittenBy archive wr (Callback r t set) = Unit {0}
WrittenBy archive wr (Committed t n) = (a v : ℕ) → wr a ≡ some v → Hist archive n a ≡ v
WrittenBy archive wr (Aborted t c) = Unit {0}
WrittenBy archive wr (Invalidate d) = Unit {0}
