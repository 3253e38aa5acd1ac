-- What the bytes of the server's state mean: the server of crate line, read from the cells of the layout's table.
use Rattle.std.specs.Prelude.{ℕ, ◌+◌, ◌*◌, ◌/◌, ◌%◌, ◌≤◌, ◌≡◌, Bool, not, cond, List, eqb, length}
use Rattle.std.proofs.Common.{ap, ◌∙◌, arith}
use Rattle.cells.specs.Num.{AllBytes}
use Rattle.cells.specs.Bits.{tb}
use Rattle.cells.specs.Cells.{Cells, view, Holds}
use Rattle.cells.proofs.Cells.{begin}
use Rattle.line.specs.Messages.{Work}
use Rattle.line.specs.Server.{Server, Waiter, Want, NoWant, WantRead, WantWrite, WantCommit, no_work}
use Rattle.station_meaning.specs.Meant.{within, value_if}
use Rattle.server_state.specs.Layout.{value_cell, read_value_cell, written_value_cell, age_cell, arrival_cell, next_age_cell, next_arrival_cell, version_cell, read_version_cell, written_version_cell, work_cell, latest_cell, listed_cell, last_cell, asked_cell, whole_for_cell, lock_cell, whole_cell, read_set_cell, written_set_cell, kind_cell, want_cell, request_cell, called_cell, pend_cell, busy_cell, unfinished_cell, age_kept_cell, table, server_length}

-- "0 nothing, 1 a read, 2 a write, 3 a commit"
abbrev pub want_as : ℕ → Want
want_as k = cond (eqb k 1) WantRead (cond (eqb k 2) WantWrite (cond (eqb k 3) WantCommit NoWant))

-- the work that stands in station i's row
abbrev pub row_work : Cells → ℕ → Work
row_work C i =
    record {
      transaction = C work_cell i 0;
      reads = λ a. value_if (within (C read_set_cell i) a) (C read_value_cell i a);
      writes = λ a. value_if (within (C written_set_cell i) a) (C written_value_cell i a);
      read_versions = λ a. cond (within (C read_set_cell i) a) (C read_version_cell i a) 0;
      written_versions = λ a. cond (within (C written_set_cell i) a) (C written_version_cell i a) 0;
    }

abbrev pub waiter_c : Cells → ℕ → Waiter
waiter_c C i =
    record {
      want = want_as (C want_cell i 0);
      arrival = C arrival_cell i 0;
      req = C request_cell i 0;
      work = cond (eqb (C want_cell i 0) 3) (row_work C i) no_work;
      reads = within (C read_set_cell i);
      writes = within (C written_set_cell i);
      called = not (eqb (C called_cell i 0) 0);
      pend = tb (C pend_cell i 0);
      busy = tb (C busy_cell i 0);
    }

abbrev pub meant_c : Cells → Server
meant_c C =
    record {
      kind = λ i. C kind_cell i 0;
      val = λ a. C value_cell 0 a;
      ver = λ a. C version_cell 0 a;
      last = C last_cell 0 0;
      ol = λ a. C lock_cell 0 a;
      wl = λ p. C whole_cell 0 p;
      whole_for = λ p. C whole_for_cell 0 p;
      asked = tb (C asked_cell 0 0);
      listed = λ i p. tb (C listed_cell i 0) p;
      latest = λ i. C latest_cell i 0;
      fin = λ i. eqb (C unfinished_cell i 0) 0;
      age = λ i. C age_cell i 0;
      ages = C next_age_cell 0 0;
      age_kept = λ i. not (eqb (C age_kept_cell i 0) 0);
      arrivals = C next_arrival_cell 0 0;
      queue = waiter_c C;
    }

-- the server that a state means
abbrev pub meant : List ℕ → Server
meant s = meant_c (view table 0 s)

-- state s means server m
pub record Is (s : List ℕ) (m : Server) : Type 0 where
  pub len : length s ≡ server_length
  pub bytes : AllBytes s
  pub is : meant s ≡ m

pub start : {s : List ℕ} {m : Server} → Is s m → Holds table 0 s s (view table 0 s)
start {s} h = begin table 0 s (omega (arith, h.len)) h.bytes

-- changed cells are the model's change
pub done : {s t : List ℕ} {C : Cells} {m : Server} → Is s m → (op : Server → Server) → Holds table 0 s t C → meant_c C ≡ op (meant s) → Is t (op m)
done h op k e = record { len = k.len ∙ h.len; bytes = k.bytes; is = ap meant_c k.is ∙ e ∙ ap op h.is }

-- the work of station i's row, whether or not it waits with it
abbrev pub work_of : List ℕ → ℕ → Work
work_of s i = row_work (view table 0 s) i
