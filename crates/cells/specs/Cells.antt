-- A list of bytes as regions one behind the other, each of rows of columns of numbers of one width.
-- The frame law: a number written is one cell changed, and every other cell of every region is as it was.
use Rattle.std.specs.Prelude.{◌≡◌, cond, List, [], ◌∷◌, ◌⊎◌, ℕ, zero, suc, ◌+◌, ◌*◌, ◌≤◌, ◌<◌, eqb, ltb, length, get_or}
use Rattle.le.specs.Width.{bytes, num_at}
use Rattle.cells.specs.Num.{AllBytes}

pub record Region : Type 0 where
  pub w : ℕ
  pub rows : ℕ
  pub cols : ℕ

abbrev pub region : ℕ → ℕ → ℕ → Region
region w r c = record { w = w; rows = r; cols = c }

-- region k; past the end one of no cell
abbrev pub reg : List Region → ℕ → Region
reg L k = get_or L k (region 0 0 0)

abbrev pub span : Region → ℕ
span r = r.rows * (r.cols * r.w)

-- where region k begins; at the number of regions: how long all are
abbrev pub base : List Region → ℕ → ℕ
base [] k = 0
base (r ∷ L) zero = 0
base (r ∷ L) (suc k) = span r + base L k

-- the place of a cell
abbrev pub off : List Region → ℕ → ℕ → ℕ → ℕ
off L k i j = base L k + (i * ((reg L k).cols * (reg L k).w) + j * (reg L k).w)

abbrev pub Cells : Type 0
Cells = ℕ → ℕ → ℕ → ℕ

-- what stands in the cells; 0 where there is none
unfoldable pub view : List Region → ℕ → List ℕ → ℕ → ℕ → ℕ → ℕ
view L b s k i j = cond (ltb i (reg L k).rows) (cond (ltb j (reg L k).cols) (num_at (reg L k).w s (b + off L k i j)) 0) 0

abbrev pub upd3 : Cells → ℕ → ℕ → ℕ → ℕ → Cells
upd3 C k i j v k' i' j' = cond (eqb k' k) (cond (eqb i' i) (cond (eqb j' j) v (C k' i' j')) (C k' i' j')) (C k' i' j')

-- as one statement that goes from change to change
-- s came of s₀ by changes of cells, and its cells are C
pub record Holds (L : List Region) (b : ℕ) (s₀ s : List ℕ) (C : Cells) : Type 0 where
  pub fit : b + base L (length L) ≤ length s
  pub len : length s ≡ length s₀
  pub out : (p : ℕ) → (p < b) ⊎ (b + base L (length L) ≤ p) → get_or s p 0 ≡ get_or s₀ p 0
  pub bytes : AllBytes s
  pub is : view L b s ≡ C

-- a loop that writes one row, column by column
abbrev pub row_to : Cells → ℕ → ℕ → ℕ → (ℕ → ℕ) → Cells
row_to C k i n f k' i' j' = cond (eqb k' k) (cond (eqb i' i) (cond (ltb j' n) (f j') (C k' i' j')) (C k' i' j')) (C k' i' j')
