-- What the bytes of a station's state mean: docs/STATE.md as the table of regions of crate station_state, and the station of crate line read from its cells.
use Rattle.std.specs.Prelude.{ℕ, ◌/◌, ◌%◌, ◌≤◌, ◌≡◌, Bool, not, ◌||◌, cond, List, eqb, length}
use Rattle.sets.specs.Base.{Val, none, some}
use Rattle.cells.specs.Num.{AllBytes}
use Rattle.cells.specs.Bits.{tb}
use Rattle.cells.specs.Cells.{Cells, view}
use Rattle.line.specs.Station.{Station, Wait, Idle, ForRead, ForWrite, ForCommit, of_page, Kept, NotKept, KeptCall}
use Rattle.station_state.specs.Layout.{state_length, copy_cell, read_value_cell, written_value_cell, waiting_value_cell, kept_cell, version_cell, seen_cell, number_cell, cached_cell, whole_cell, unavailable_cell, read_set_cell, written_set_cell, locks_cell, named_cell, station_cell, kind_cell, open_cell, wait_cell, address_cell, waiting_set_cell, table}

-- a set of addresses, kept as a byte for each page
abbrev pub within : (ℕ → ℕ) → ℕ → Bool
within D a = tb (D (a / 8)) (a % 8)

-- a value where the address is in the set
abbrev pub value_if : Bool → ℕ → Val
value_if b v = cond b (some v) none

-- "The owner gives a value for each object": of the objects of set x
abbrev pub given : ℕ → (ℕ → ℕ) → ℕ → Val
given x v a = value_if (tb x (a % 8)) (v (a % 8))

-- "0 nothing, 1 a read, 2 a write, 3 a commit"
abbrev pub wait_of : ℕ → ℕ → (ℕ → Val) → Wait
wait_of k a f = cond (eqb k 1) (ForRead a) (cond (eqb k 2) (ForWrite (a / 8) (of_page (a / 8) f)) (cond (eqb k 3) ForCommit Idle))

-- "the transaction of the callback kept for it, 0 for none"
abbrev pub kept_if : ℕ → (ℕ → Bool) → Kept
kept_if t x = cond (eqb t 0) NotKept (KeptCall t x)

abbrev pub meant_c : Cells → Station
meant_c C =
    record {
      kind = C kind_cell 0 0;
      num = C number_cell 0 0;
      opened = not (eqb (C open_cell 0 0) 0);
      cached = tb (C cached_cell 0 0);
      cver = λ a. C version_cell 0 a;
      copy = λ a. C copy_cell 0 a;
      unav = within (C unavailable_cell 0);
      rd = λ a. value_if (within (C read_set_cell 0) a) (C read_value_cell 0 a);
      wr = λ a. value_if (within (C written_set_cell 0) a) (C written_value_cell 0 a);
      seen = λ a. cond (within (C read_set_cell 0) a || within (C written_set_cell 0) a) (C seen_cell 0 a) 0;
      wait = wait_of (C wait_cell 0 0) (C address_cell 0 0) (given (C waiting_set_cell 0 0) (C waiting_value_cell 0));
      ol = within (C locks_cell 0);
      wl = tb (C whole_cell 0 0);
      kept = λ r. kept_if (C kept_cell r 0) (within (C named_cell r));
    }

-- the station that a state means
abbrev pub meant : List ℕ → Station
meant s = meant_c (view table 0 s)

-- a write that is out has the address of its page's object 0
abbrev pub Stands : ℕ → ℕ → Type 0
Stands k a = k ≡ 2 → a % 8 ≡ 0

-- state s means station m of number i; what number 1 asks of the flags, which the meaning alone does not tell, stands beside
pub record Is (i : ℕ) (s : List ℕ) (m : Station) : Type 0 where
  pub len : length s ≡ state_length
  pub bytes : AllBytes s
  pub own : view table 0 s station_cell 0 0 ≡ i
  pub open_flag : view table 0 s open_cell 0 0 ≤ 1
  pub wait_flag : view table 0 s wait_cell 0 0 ≤ 3
  pub stands : Stands (view table 0 s wait_cell 0 0) (view table 0 s address_cell 0 0)
  pub is : meant s ≡ m
