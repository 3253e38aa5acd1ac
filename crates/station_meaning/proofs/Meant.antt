-- What the bytes of a station's state mean: docs/STATE.md as the table of regions of crate station_state, and the station of crate line read from its cells.
use Rattle.std.specs.Prelude.{ℕ, ◌≤◌, ◌≡◌, List}
use Rattle.std.proofs.Common.{ap, ◌∙◌, arith}
use Rattle.cells.specs.Cells.{Cells, view, Holds}
use Rattle.cells.proofs.Cells.{begin}
use Rattle.line.specs.Station.{Station}
use Rattle.station_state.specs.Layout.{station_cell, open_cell, wait_cell, address_cell, table}
use Rattle.station_meaning.specs.Meant.{Is, Stands, meant, meant_c}

pub start : {i : ℕ} {s : List ℕ} {m : Station} → Is i s m → Holds table 0 s s (view table 0 s)
start {i} {s} h = begin table 0 s (omega (arith, h.len)) h.bytes

-- changed cells are the model's change, and the flags are in range
pub done_flags : {i : ℕ} {s t : List ℕ} {C : Cells} {m : Station} → Is i s m → (op : Station → Station) → Holds table 0 s t C → meant_c C ≡ op (meant s)
    → C station_cell 0 0 ≡ view table 0 s station_cell 0 0 → C open_cell 0 0 ≤ 1 → C wait_cell 0 0 ≤ 3 → Stands (C wait_cell 0 0) (C address_cell 0 0) → Is i t (op m)
done_flags {i} {s} {t} {C} h op k e a b c d =
    let cell : (r : ℕ) → view table 0 t r 0 0 ≡ C r 0 0 = λ r. ap (λ (D : Cells). D r 0 0) k.is in
    record {
      len = k.len ∙ h.len;
      bytes = k.bytes;
      own = cell station_cell ∙ a ∙ h.own;
      open_flag = rw (cell open_cell) b;
      wait_flag = rw (cell wait_cell) c;
      stands = rw (cell wait_cell, cell address_cell) d;
      is = ap meant_c k.is ∙ e ∙ ap op h.is;
    }

-- .. or as they were
pub done : {i : ℕ} {s t : List ℕ} {C : Cells} {m : Station} → Is i s m → (op : Station → Station) → Holds table 0 s t C → meant_c C ≡ op (meant s)
    → (C station_cell 0 0 ≡ view table 0 s station_cell 0 0) × (C open_cell 0 0 ≡ view table 0 s open_cell 0 0) × (C wait_cell 0 0 ≡ view table 0 s wait_cell 0 0) × (C address_cell 0 0 ≡ view table 0 s address_cell 0 0) → Is i t (op m)
done h op k e f = done_flags h op k e f.0 (rw f.1 h.open_flag) (rw f.2 h.wait_flag) (rw (f.2, f.3) h.stands)
