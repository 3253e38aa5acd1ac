-- The waiting list: each change of an entry's bytes means the change of the model that has its name.
use Prim.Native.Nat.{ℕ, ◌-◌, ◌≤◌, ◌<◌, ◌/◌, ◌%◌, ◌^◌}
use Rattle.std.specs.Prelude.{◌≡◌, Bool, true, ◌&&◌, cond, ltb}
use Rattle.std.proofs.Math.Path.{ap, fun_ext}
use Rattle.std.proofs.Common.{ap₂, ◌∙◌}
use Rattle.std.proofs.Math.Bool.{false}
use Rattle.std.proofs.Math.Dec.{eqb}
use Rattle.std.specs.Int.Bits.{bit_and, bit_or}
use Rattle.sets.specs.Base.{upd, nowhere}
use Rattle.sets.specs.Laws.{by_b, by_eq}
use Rattle.sets.proofs.Laws.{eqb_yes, ltb_no}
use Rattle.cells.specs.Bits.{tb}
use Rattle.cells.proofs.Bits.{tb_zero, tb_set, tb_clear_all}
use Rattle.cells.proofs.Pages.{addr_on}
use Rattle.cells.specs.Cells.{Cells, upd3}
use Rattle.line.specs.Messages.{Work}
use Rattle.line.specs.Server.{Waiter, Want, NoWant, WantRead, WantWrite, WantCommit, no_work, waiter_called, waiter_pend, waiter_busy}
use Rattle.server_state.specs.Layout.{arrival_cell, read_set_cell, written_set_cell, want_cell, request_cell, called_cell, pend_cell, busy_cell}
use Rattle.station_meaning.specs.Meant.{within}
use Rattle.server_meaning.specs.Meant.{want_as, waiter_c}

-- a set that is cleared
pub set_none : (D : ℕ → ℕ) → ((j : ℕ) → 32 ≤ j → D j ≡ 0) → ◌≡◌ {A = ℕ → Bool} (within (λ j. cond (ltb j 32) 0 (D j))) nowhere
set_none D g =
    fun_ext
    (λ a.
    by_b (ltb (a / 8) 32) (λ e. rw e (tb_zero (a % 8))) (λ e. rw (e, g (a / 8) (ltb_no (a / 8) 32 e)) (tb_zero (a % 8))))

pub zero_set : ◌≡◌ {A = ℕ → Bool} (tb 0) nowhere
zero_set = fun_ext (λ q. tb_zero q)

pub set_one : (a : ℕ) → ◌≡◌ {A = ℕ → Bool} (upd nowhere a true) (λ b. eqb b a)
set_one a = fun_ext (λ b. by_eq b a (λ e. rw e) (λ e. rw e))

abbrev pub upd_if : Bool → Cells → ℕ → ℕ → ℕ → Cells
upd_if b C k j v k' i' j' = cond (eqb k' k) (cond b (cond (eqb j' j) v (C k' i' j')) (C k' i' j')) (C k' i' j')

abbrev pub row_if : Bool → Cells → ℕ → ℕ → (ℕ → ℕ) → Cells
row_if b C k n f k' i' j' = cond (eqb k' k) (cond b (cond (ltb j' n) (f j') (C k' i' j')) (C k' i' j')) (C k' i' j')

-- station i's entry is gone
abbrev pub left_if : Bool → Cells → Cells
left_if b C =
    upd_if b (upd_if b (upd_if b (row_if b (row_if b (upd_if b (upd_if b (upd_if b C want_cell 0 0) arrival_cell 0 0) request_cell 0 0) read_set_cell 32 (λ _. 0)) written_set_cell 32 (λ _. 0)) called_cell 0 0) pend_cell 0 0) busy_cell 0 0

-- one that wants k at address a joins, of arrival n; g is the work that stands in its row
abbrev pub joining : ℕ → ℕ → ℕ → Work → Waiter
joining k a n g =
    record {
      want = want_as k;
      arrival = n;
      req = a;
      work = cond (eqb k 3) g no_work;
      reads = nowhere;
      writes = nowhere;
      called = false;
      pend = nowhere;
      busy = nowhere;
    }

-- whether it is a commit is told by what it wants
abbrev pub is_commit : Want → Bool
is_commit NoWant = false
is_commit WantRead = false
is_commit WantWrite = false
is_commit WantCommit = true

pub set_on : (D : ℕ → ℕ) (a x : ℕ) → x ≡ D (a / 8)
    → ◌≡◌ {A = ℕ → Bool} (within (λ j. cond (eqb j (a / 8)) (bit_or x (2 ^ (a % 8))) (D j))) (upd (within D) a true)
set_on D a x f = ap {B = ℕ → Bool} (λ (y : ℕ). within (λ j. cond (eqb j (a / 8)) (bit_or y (2 ^ (a % 8))) (D j))) f ∙ addr_on D a

-- the objects x of page p are those of a set there, whatever it had
abbrev pub on_page : ℕ → ℕ → (ℕ → Bool) → ℕ → Bool
on_page p x f a = cond (eqb (a / 8) p) (tb x (a % 8)) (f a)

-- what changes in row i only
pub at_row : (q : ℕ → Waiter) (f : ℕ → Waiter) (i : ℕ) (w : Waiter) → f i ≡ w → ◌≡◌ {A = ℕ → Waiter} (λ j. cond (eqb j i) (f j) (q j)) (upd q i w)
at_row q f i w h = fun_ext (λ j. by_eq j i (λ e. rw (e, eqb_yes j i e) h) (λ e. rw e))

-- the sets of stations in an entry
pub busy_on : (C : Cells) (i r : ℕ)
    → ◌≡◌ {A = ℕ → Waiter} (waiter_c (upd3 C busy_cell r 0 (bit_or (C busy_cell r 0) (2 ^ i)))) (upd (waiter_c C) r (waiter_busy (waiter_c C r) (upd (tb (C busy_cell r 0)) i true)))
busy_on C i r = fun_ext (λ j. by_eq j r (λ e. rw (e, eqb_yes j r e) (ap (waiter_busy (waiter_c C r)) (fun_ext (tb_set (C busy_cell r 0) i)))) (λ e. rw e))

pub answered_row : (C : Cells) (i r y : ℕ) → i < 8 → C busy_cell r 0 < 256 → C pend_cell r 0 < 256 → y ≡ C pend_cell r 0
    → ◌≡◌ {A = ℕ → Waiter} (waiter_c (upd3 (upd3 C busy_cell r 0 (bit_and (C busy_cell r 0) (255 - 2 ^ i))) pend_cell r 0 (bit_and y (255 - 2 ^ i))))
    (upd (waiter_c C) r (waiter_pend (waiter_busy (waiter_c C r) (upd (tb (C busy_cell r 0)) i false)) (upd (tb (C pend_cell r 0)) i false)))
answered_row C i r y l p q f =
    fun_ext
    (λ j.
    by_eq j r
    (λ e.
    rw (e, eqb_yes j r e, f)
    (ap₂ (λ (a b : ℕ → Bool). waiter_pend (waiter_busy (waiter_c C r) a) b)
    (fun_ext (λ k. tb_clear_all 8 (C busy_cell r 0) i k l p))
    (fun_ext (λ k. tb_clear_all 8 (C pend_cell r 0) i k l q))))
    (λ e. rw e))

pub called_row : (C : Cells) (i x : ℕ)
    → ◌≡◌ {A = ℕ → Waiter} (waiter_c (upd3 (upd3 C called_cell i 0 1) pend_cell i 0 x)) (upd (waiter_c C) i (waiter_pend (waiter_called (waiter_c C i) true) (tb x)))
called_row C i x = fun_ext (λ j. by_eq j i (λ e. rw (e, eqb_yes j i e)) (λ e. rw e))

-- of a write the set x of page p
pub page_set : (p x : ℕ) → ◌≡◌ {A = ℕ → Bool} (on_page p x nowhere) (λ b. eqb (b / 8) p && tb x (b % 8))
page_set p x = fun_ext (λ b. by_eq (b / 8) p (λ e. rw e) (λ e. rw e))
