-- Frames that several stations add to one counter sum up: "each read told in a committed transaction is the value that the earlier records
-- leave", so that no addition is lost and none counts twice. A consequence of demand 3 over bytes, for counters that stations only add to.
use Rattle.std.specs.Prelude.{ℕ, ◌+◌, ◌≡◌, List, [], ◌∷◌, ◌++◌}
use Rattle.sets.specs.Base.{Val, none, some}
use Rattle.line.specs.Messages.{Rec}
use Rattle.line.specs.Line.{Told, ToldRead}
use Rattle.line.specs.Truth.{last_write}

-- record r adds n to counter a: it read it, and wrote that and n more; or it adds nothing, and did not write it
pub data Adds (a n : ℕ) (r : Rec) : Type 0 where
  added : {x : ℕ} → r.reads a ≡ some x → r.writes a ≡ some (x + n) → Adds a n r
  untouched : r.writes a ≡ none → n ≡ 0 → Adds a n r

-- frames of each record, in all
abbrev pub total : (Rec → ℕ) → List Rec → ℕ
total f [] = 0
total f (r ∷ l) = f r + total f l

-- a first read was told, before the transaction wrote there: w is what it wrote so far
pub record Found (i t : ℕ) (told : List Told) (a x : ℕ) (w : Val) : Type 0 where
  pub before : List Told
  pub after : List Told
  pub is : told ≡ before ++ (ToldRead i t a x ∷ after)
  pub unwritten : last_write i t before a w ≡ none
