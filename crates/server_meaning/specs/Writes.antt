-- "write values": what station i's entry wrote, and the new number as version of the objects written.
use Rattle.std.specs.Prelude.{ℕ, cond, eqb}
use Rattle.cells.specs.Upd.{bulk}
use Rattle.cells.specs.Cells.{Cells}
use Rattle.server_state.specs.Layout.{value_cell, written_value_cell, version_cell, written_set_cell}
use Rattle.station_meaning.specs.Meant.{within}

-- a whole row changed
abbrev pub row_as : Cells → ℕ → ℕ → (ℕ → ℕ) → Cells
row_as C k i f k' i' j' = cond (eqb k' k) (cond (eqb i' i) (f j') (C k' i' j')) (C k' i' j')

-- the values that row i writes, of the addresses below n, and their versions
abbrev pub written : Cells → ℕ → ℕ → ℕ → ℕ
written C i n = bulk (C value_cell 0) (within (C written_set_cell i)) (C written_value_cell i) n

abbrev pub versioned : Cells → ℕ → ℕ → ℕ → ℕ → ℕ
versioned C i v n = bulk (C version_cell 0) (within (C written_set_cell i)) (λ _. v) n

abbrev pub both_to : Cells → ℕ → ℕ → ℕ → Cells
both_to C i v n = row_as (row_as C value_cell 0 (written C i n)) version_cell 0 (versioned C i v n)
