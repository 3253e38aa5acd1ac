-- A commit's record unpacked into its station's row is the work that the message brings.
use Rattle.std.specs.Prelude.{ℕ, zero, suc, ◌+◌, ◌*◌, ◌/◌, ◌%◌, ◌^◌, ◌≡◌, Bool, cond, List, eqb, get_or}
use Rattle.std.proofs.Math.Path.{fun_ext}
use Rattle.std.proofs.Common.{sym, ap, ◌∙◌}
use Rattle.std.specs.Int.Bits.{bit_or}
use Rattle.sets.specs.Base.{upd, Val, some, has}
use Rattle.sets.specs.Laws.{by_eq}
use Rattle.le.specs.Le.{u64_at}
use Rattle.cells.proofs.Pages.{addr_on}
use Rattle.cells.specs.Cells.{Cells, upd3}
use Rattle.layout.specs.Record.{value_length}
use Rattle.line.specs.Messages.{Work}
use Rattle.line.specs.Server.{Waiter, no_work, waiter_work, waiter_reads, waiter_writes}
use Rattle.message.specs.Layout.{transaction_of}
use Rattle.message.specs.Commit.{addresses_at, sent_reads, sent_writes, entries_of, entry_version}
use Rattle.server_state.specs.Layout.{read_value_cell, written_value_cell, read_version_cell, written_version_cell, work_cell, read_set_cell, written_set_cell}
use Rattle.station_meaning.specs.Meant.{within, value_if}
use Rattle.station_meaning.proofs.Tests.{has_if}
use Rattle.server_meaning.specs.Waiting.{upd_if, is_commit}
use Rattle.server_meaning.specs.Writes.{row_as}

-- the address of entry e, and its value
abbrev pub address_in : List ℕ → ℕ → ℕ
address_in x e = get_or x (addresses_at x + e) 0

abbrev pub value_at : List ℕ → ℕ → ℕ
value_at x e = u64_at x (addresses_at x + entries_of x + e * value_length)

-- sets and values when n entries from the first on have joined them
unfoldable pub sets_to : List ℕ → (ℕ → ℕ) → ℕ → ℕ → ℕ → ℕ
sets_to x D first zero = D
sets_to x D first (suc n) =
    let a = address_in x (first + n) in
    upd (sets_to x D first n) (a / 8) (bit_or (sets_to x D first n (a / 8)) (2 ^ (a % 8)))

unfoldable pub values_to : List ℕ → (ℕ → ℕ) → ℕ → ℕ → ℕ → ℕ
values_to x W first zero = W
values_to x W first (suc n) = upd (values_to x W first n) (address_in x (first + n)) (value_at x (first + n))

unfoldable pub versions_to : List ℕ → (ℕ → ℕ) → ℕ → ℕ → ℕ → ℕ
versions_to x Y first zero = Y
versions_to x Y first (suc n) = upd (versions_to x Y first n) (address_in x (first + n)) (entry_version x (first + n))

-- the cells when n entries from the first on are in rows i of k, r and y
abbrev pub rows_to : Cells → List ℕ → ℕ → ℕ → ℕ → ℕ → ℕ → ℕ → Cells
rows_to C x k r y i first n = row_as (row_as (row_as C k i (sets_to x (C k i) first n)) r i (values_to x (C r i) first n)) y i (versions_to x (C y i) first n)

-- the cells when the record is unpacked into row i
abbrev pub unpacked_c : Cells → ℕ → List ℕ → Cells
unpacked_c C i x =
    rows_to (rows_to (upd3 C work_cell i 0 (transaction_of x)) x read_set_cell read_value_cell read_version_cell i 0 (sent_reads x)) x written_set_cell written_value_cell written_version_cell i (sent_reads x) (sent_writes x)

-- an address that joins the set with value v has the value v
pub value_on : (D W : ℕ → ℕ) (a v : ℕ)
    → ◌≡◌ {A = ℕ → Val} (λ b. value_if (within (upd D (a / 8) (bit_or (D (a / 8)) (2 ^ (a % 8)))) b) (upd W a v b)) (upd (λ b. value_if (within D b) (W b)) a (some v))
value_on D W a v =
    fun_ext (λ b. ap (λ (x : Bool). value_if x (cond (eqb b a) v (W b))) (ap (λ (f : ℕ → Bool). f b) (addr_on D a)) ∙ by_eq b a (λ e. rw e) (λ e. rw e))

pub version_on : (D W : ℕ → ℕ) (a v : ℕ)
    → ◌≡◌ {A = ℕ → ℕ} (λ b. cond (within (upd D (a / 8) (bit_or (D (a / 8)) (2 ^ (a % 8)))) b) (upd W a v b) 0) (upd (λ b. cond (within D b) (W b) 0) a v)
version_on D W a v =
    fun_ext (λ b. ap (λ (x : Bool). cond x (cond (eqb b a) v (W b)) 0) (ap (λ (f : ℕ → Bool). f b) (addr_on D a)) ∙ by_eq b a (λ e. rw e) (λ e. rw e))

pub has_told : (D W : ℕ → ℕ) (f : ℕ → Val) → ◌≡◌ {A = ℕ → Val} (λ b. value_if (within D b) (W b)) f → ◌≡◌ {A = ℕ → Bool} (within D) (λ b. has (f b))
has_told D W f e = fun_ext (λ b. sym (has_if (within D b) (W b)) ∙ ap (λ (v : ℕ → Val). has (v b)) e)

-- an entry in whose row the record of work w was unpacked
abbrev pub bringing : Work → Waiter → Waiter
bringing w y = waiter_work (waiter_writes (waiter_reads y (λ b. has (w.reads b))) (λ b. has (w.writes b))) (cond (is_commit y.want) w no_work)

-- the row with the test on it as a value
abbrev as_if : Bool → Cells → ℕ → (ℕ → ℕ) → Cells
as_if b C k f k' i' j' = cond (eqb k' k) (cond b (f j') (C k' i' j')) (C k' i' j')

abbrev pub unpacked_if : Bool → Cells → List ℕ → (ℕ → ℕ) → (ℕ → ℕ) → (ℕ → ℕ) → (ℕ → ℕ) → (ℕ → ℕ) → (ℕ → ℕ) → Cells
unpacked_if b C x D W Y E X Z =
    as_if b (as_if b (as_if b (as_if b (as_if b (as_if b (upd_if b C work_cell 0 (transaction_of x)) read_set_cell D) read_value_cell W) read_version_cell Y) written_set_cell E) written_value_cell X) written_version_cell Z
