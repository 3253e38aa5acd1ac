-- What a station does page by page: pages dropped, marked and arrived, and what is written given its version.
use Rattle.std.specs.Prelude.{ℕ, ◌+◌, ◌*◌, ◌/◌, ◌%◌, Bool, false, not, cond, ◌&&◌, ◌||◌, List, eqb, ltb, get_or}
use Rattle.sets.specs.Base.{has, val_or}
use Rattle.le.specs.Le.{u64_at}
use Rattle.cells.specs.Bits.{tb}
use Rattle.cells.specs.Cells.{Cells}
use Rattle.line.specs.Messages.{page_of}
use Rattle.line.specs.Station.{Station, set_cver, set_copy, set_unav}
use Rattle.station_state.specs.Layout.{written_value_cell, written_set_cell}
use Rattle.station_meaning.specs.Meant.{within, value_if}
use Rattle.message.specs.Layout.{values_from, page_version_of}
use Rattle.layout.specs.Record.{value_length}

-- the first n of page p are those of g
abbrev pub page_to : Cells → ℕ → ℕ → ℕ → (ℕ → ℕ) → Cells
page_to C c p n g k i j = cond (eqb k c) (cond (eqb i 0) (cond (eqb (j / 8) p && ltb (j % 8) n) (g j) (C k i j)) (C k i j)) (C k i j)

-- all eight
abbrev pub page_over : Cells → ℕ → ℕ → (ℕ → ℕ) → Cells
page_over C c p g k i j = cond (eqb k c) (cond (eqb i 0) (cond (eqb (j / 8) p) (g j) (C k i j)) (C k i j)) (C k i j)

-- what drop_pages does save for the set of cached pages
abbrev pub emptied : (ℕ → Bool) → Station → Station
emptied f m =
    set_cver (set_copy (set_unav m
    (λ a. not (f (page_of a)) && m.unav a))
    (λ a. cond (f (page_of a)) 0 (m.copy a)))
    (λ a. cond (f (page_of a)) 0 (m.cver a))

-- the pages of d below n
abbrev pub below : ℕ → ℕ → ℕ → Bool
below d n q = ltb q n && tb d q

-- of the pages below n
abbrev pub marked_to : List ℕ → Station → ℕ → ℕ → Bool
marked_to sets m n a = m.unav a || (m.cached (a / 8) && cond (ltb (a / 8) n) (tb (get_or sets (a / 8) 0) (a % 8)) false)

-- the eight values of page p that message x brings
abbrev pub brought : List ℕ → ℕ → ℕ → ℕ
brought x p b = cond (eqb (b / 8) p) (u64_at x (values_from + (b % 8) * value_length)) 0

-- .. save for the transaction's own
abbrev pub arrived : Cells → List ℕ → ℕ → ℕ → ℕ
arrived C x p b = val_or (value_if (within (C written_set_cell 0) b) (C written_value_cell 0 b)) (brought x p b)

-- and the eight versions
abbrev pub renewed : List ℕ → ℕ → ℕ → ℕ
renewed x p b = cond (eqb (b / 8) p) (page_version_of x (b % 8)) 0

-- the first k objects of page p
abbrev pub on_to : Station → ℕ → ℕ → ℕ → ℕ → ℕ
on_to m n p k a = cond (eqb (a / 8) p && (ltb (a % 8) k && has (m.wr a))) n (m.cver a)

-- of the pages below k, those that are cached
abbrev pub all_to : Station → ℕ → ℕ → ℕ → ℕ
all_to m n k a = cond (ltb (a / 8) k && (m.cached (a / 8) && has (m.wr a))) n (m.cver a)
