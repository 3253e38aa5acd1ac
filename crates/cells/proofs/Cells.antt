-- A list of bytes as regions one behind the other, each of rows of columns of numbers of one width.
-- The frame law: a number written is one cell changed, and every other cell of every region is as it was.
use Rattle.std.specs.Prelude.{◌≡◌, refl, List, [], ◌∷◌, ◌⊎◌, ◌≢◌, ℕ, zero, suc, ◌+◌, ◌*◌, ◌≤◌, ◌<◌, ◌^◌, ltb, length, get_or, set}
use Rattle.std.proofs.Common.{ap, ◌∙◌}
use Rattle.std.proofs.Math.Path.{fun_ext}
use Rattle.std.proofs.Math.Logic.{inl, inr}
use Rattle.std.proofs.Math.Nat.{mul-le-mul_right}
use Rattle.std.proofs.Math.Decide.{dec_lt}
use native.Mathlib.Omega.{arith}
use Rattle.std.proofs.lemmas.List.Edits.{sets}
use Rattle.std.proofs.Math.Seq.{length-sets}
use borrow.Author.Tests.{lt-ltb, le-ltb}
use Rattle.sets.specs.Laws.{by_b, by_eq}
use Rattle.sets.proofs.Laws.{eqb_yes, eqb_no, ltb_yes}
use Rattle.le.specs.Le.{u16_at, u32_at, u64_at, set_u16, set_u32, set_u64}
use Rattle.le.specs.Laws.{u16_at_is, u32_at_is, u64_at_is, set_u16_is, set_u32_is}
use Rattle.le.specs.Width.{bytes, num_at}
use Rattle.cells.proofs.Upd.{ltb_suc}
use Rattle.cells.specs.Num.{AllBytes}
use Rattle.cells.proofs.Num.{put_other, put_all, num_frame, num_put, num_lt, num_zero, pow_pos}
use Rattle.cells.proofs.Le.{u8_at_is, set_u8_is, set_u64_is}
use Rattle.cells.specs.Cells.{Cells, Holds, Region, base, off, reg, row_to, span, upd3, view}

-- regions are one behind the other
pub base_step : (L : List Region) (k k' : ℕ) → k < k' → base L k + span (reg L k) ≤ base L k'
base_step [] k k' h = omega arith
base_step (r ∷ L) k zero h = absurd (omega arith)
base_step (r ∷ L) zero (suc k') h = omega arith
base_step (r ∷ L) (suc k) (suc k') h = omega (arith, base_step L k k' (omega arith))

-- a region with a row is one of the table
pub in_table : (L : List Region) (k i : ℕ) → i < (reg L k).rows → k < length L
in_table [] k i h = absurd (omega arith)
in_table (r ∷ L) zero i h = omega arith
in_table (r ∷ L) (suc k) i h = omega (arith, in_table L k i h)

-- a cell lies in its region
pub cell_in : (i j r c w : ℕ) → i < r → j < c → i * (c * w) + j * w + w ≤ r * (c * w)
cell_in i j r c w p q = omega (arith, mul-le-mul_right w q, mul-le-mul_right (c * w) p)

pub fits : (L : List Region) (k i j : ℕ) → i < (reg L k).rows → j < (reg L k).cols → off L k i j + (reg L k).w ≤ base L (length L)
fits L k i j p q =
    let c = cell_in i j (reg L k).rows (reg L k).cols (reg L k).w p q in
    omega (arith, base_step L k (length L) (in_table L k i p), c)

-- two cells that are not one lie apart
module _ (L : List Region) where
  Apart : ℕ → ℕ → ℕ → ℕ → ℕ → ℕ → Type 0
  Apart k i j k' i' j' = (off L k i j + (reg L k).w ≤ off L k' i' j') ⊎ (off L k' i' j' + (reg L k').w ≤ off L k i j)

  before : (k i j k' i' j' : ℕ) → i < (reg L k).rows → j < (reg L k).cols → k < k' → off L k i j + (reg L k).w ≤ off L k' i' j'
  before k i j k' i' j' p q h = omega (arith, base_step L k k' h, cell_in i j (reg L k).rows (reg L k).cols (reg L k).w p q)

  regions : (k i j k' i' j' : ℕ) → i < (reg L k).rows → j < (reg L k).cols → i' < (reg L k').rows → j' < (reg L k').cols → k' ≢ k → Apart k i j k' i' j'
  unfolding Apart
  regions k i j k' i' j' p q p' q' n = go (dec_lt k k')
    where
      go : Dec (k < k') → Apart k i j k' i' j'
      go (yes h) = inl (before k i j k' i' j' p q h)
      go (no h) = inr (before k' i' j' k i j p' q' (omega arith))

  row_before : (k i j i' j' : ℕ) → j < (reg L k).cols → i < i' → off L k i j + (reg L k).w ≤ off L k i' j'
  row_before k i j i' j' q h =
      omega (arith, mul-le-mul_right (reg L k).w q, mul-le-mul_right ((reg L k).cols * (reg L k).w) h)

  rows_apart : (k i j i' j' : ℕ) → j < (reg L k).cols → j' < (reg L k).cols → i' ≢ i → Apart k i j k i' j'
  unfolding Apart
  rows_apart k i j i' j' q q' n = go (dec_lt i i')
    where
      go : Dec (i < i') → Apart k i j k i' j'
      go (yes h) = inl (row_before k i j i' j' q h)
      go (no h) = inr (row_before k i' j' i j q' (omega arith))

  cols_apart : (k i j j' : ℕ) → j' ≢ j → Apart k i j k i j'
  unfolding Apart
  cols_apart k i j j' n = go (dec_lt j j')
    where
      go : Dec (j < j') → Apart k i j k i j'
      go (yes h) = inl (omega (arith, mul-le-mul_right (reg L k).w h))
      go (no h) = let l : j' < j = omega arith in inr (omega (arith, mul-le-mul_right (reg L k).w l))

-- a number written at one cell
module _ (L : List Region) (b : ℕ) (s : List ℕ) (len : b + base L (length L) ≤ length s) (k i j v at : ℕ) (here : at ≡ b + off L k i j)
    (pi : i < (reg L k).rows) (pj : j < (reg L k).cols) (pv : v < 256 ^ (reg L k).w) where
  there : (k' i' j' : ℕ) → Apart L k i j k' i' j'
      → num_at (reg L k').w (sets s at (bytes (reg L k).w v)) (b + off L k' i' j') ≡ num_at (reg L k').w s (b + off L k' i' j')
  unfolding Apart
  there k' i' j' (inl h) = num_frame (reg L k').w (sets s at (bytes (reg L k).w v)) s (b + off L k' i' j') (λ p x y. put_other (reg L k).w s at v p (inr (omega arith)))
  there k' i' j' (inr h) = num_frame (reg L k').w (sets s at (bytes (reg L k).w v)) s (b + off L k' i' j') (λ p x y. put_other (reg L k).w s at v p (inl (omega arith)))

  same : num_at (reg L k).w (sets s at (bytes (reg L k).w v)) (b + off L k i j) ≡ v
  same = rw (← here) (num_put (reg L k).w s at v (omega (arith, fits L k i j pi pj)) pv)

  kept : (k' i' j' : ℕ) → (i' < (reg L k').rows → j' < (reg L k').cols → Apart L k i j k' i' j')
      → view L b (sets s at (bytes (reg L k).w v)) k' i' j' ≡ view L b s k' i' j'
  unfolding view
  kept k' i' j' h =
      by_b (ltb i' (reg L k').rows)
      (λ e. by_b (ltb j' (reg L k').cols) (λ f. rw (e, f) (there k' i' j' (h (ltb_yes _ _ e) (ltb_yes _ _ f)))) (λ f. rw (e, f)))
      (λ e. rw e)

  hit : view L b (sets s at (bytes (reg L k).w v)) k i j ≡ v
  unfolding view
  hit = rw (lt-ltb i (reg L k).rows pi, lt-ltb j (reg L k).cols pj) same

  pub view_put : (k' i' j' : ℕ) → view L b (sets s at (bytes (reg L k).w v)) k' i' j' ≡ upd3 (view L b s) k i j v k' i' j'
  view_put k' i' j' =
      by_eq k' k
      (λ e.
      by_eq i' i
      (λ f.
      by_eq j' j (λ g. rw (e, f, g, eqb_yes k' k e, eqb_yes i' i f, eqb_yes j' j g) hit)
      (λ g. rw (e, f, g, eqb_yes k' k e, eqb_yes i' i f) (kept k i j' (λ p q. cols_apart L k i j j' (eqb_no j' j g)))))
      (λ f. rw (e, f, eqb_yes k' k e) (kept k i' j' (λ p q. rows_apart L k i j i' j' pj q (eqb_no i' i f)))))
      (λ e. rw e (kept k' i' j' (λ p q. regions L k i j k' i' j' pi pj p q (eqb_no k' k e))))

-- what is read at a cell's place
pub view_get : (L : List Region) (b : ℕ) (s : List ℕ) (k i j at : ℕ) → at ≡ b + off L k i j → i < (reg L k).rows → j < (reg L k).cols
    → num_at (reg L k).w s at ≡ view L b s k i j
unfolding view
view_get L b s k i j at here pi pj = rw (lt-ltb i (reg L k).rows pi, lt-ltb j (reg L k).cols pj, here)

-- a cell's number fits its width
pub view_lt : (L : List Region) (b : ℕ) (s : List ℕ) → AllBytes s → (k i j : ℕ) → view L b s k i j < 256 ^ (reg L k).w
unfolding view
view_lt L b s h k i j =
    by_b (ltb i (reg L k).rows)
    (λ e. by_b (ltb j (reg L k).cols) (λ f. rw (e, f) (num_lt (reg L k).w s (b + off L k i j) h)) (λ f. rw (e, f) (pow_pos (reg L k).w)))
    (λ e. rw e (pow_pos (reg L k).w))

-- outside the table there is 0
pub view_col : (L : List Region) (b : ℕ) (s : List ℕ) (k i j : ℕ) → (reg L k).cols ≤ j → view L b s k i j ≡ 0
unfolding view
view_col L b s k i j h = by_b (ltb i (reg L k).rows) (λ e. rw (e, le-ltb j (reg L k).cols h)) (λ e. rw e)

pub view_row : (L : List Region) (b : ℕ) (s : List ℕ) (k i j : ℕ) → (reg L k).rows ≤ i → view L b s k i j ≡ 0
unfolding view
view_row L b s k i j h = rw (le-ltb i (reg L k).rows h)

-- zeros mean zeros
pub view_zero : (L : List Region) (b : ℕ) (s : List ℕ) → ((j : ℕ) → get_or s j 0 ≡ 0) → (k i j : ℕ) → view L b s k i j ≡ 0
unfolding view
view_zero L b s h k i j =
    by_b (ltb i (reg L k).rows)
    (λ e. by_b (ltb j (reg L k).cols) (λ f. rw (e, f) (num_zero (reg L k).w s (b + off L k i j) h)) (λ f. rw (e, f)))
    (λ e. rw e)

-- bytes outside the table's part do not matter
pub view_frame : (L : List Region) (b : ℕ) (s t : List ℕ) → ((p : ℕ) → b ≤ p → p < b + base L (length L) → get_or s p 0 ≡ get_or t p 0)
    → (k i j : ℕ) → view L b s k i j ≡ view L b t k i j
unfolding view
view_frame L b s t h k i j =
    by_b (ltb i (reg L k).rows)
    (λ e.
    by_b (ltb j (reg L k).cols)
    (λ f.
    let z = fits L k i j (ltb_yes _ _ e) (ltb_yes _ _ f) in
    rw (e, f) (num_frame (reg L k).w s t (b + off L k i j) (λ p x y. h p (omega arith) (omega arith))))
    (λ f. rw (e, f)))
    (λ e. rw e)

pub put : {L : List Region} {b : ℕ} {s₀ s : List ℕ} {C : Cells} → Holds L b s₀ s C → (k i j v at : ℕ) → at ≡ b + off L k i j
    → i < (reg L k).rows → j < (reg L k).cols → v < 256 ^ (reg L k).w → Holds L b s₀ (sets s at (bytes (reg L k).w v)) (upd3 C k i j v)
put {L} {b} {s₀} {s} {C} h k i j v at here pi pj pv =
    record {
      fit = rw (length-sets s at (bytes (reg L k).w v)) h.fit;
      len = length-sets s at (bytes (reg L k).w v) ∙ h.len;
      out = λ p q. put_other (reg L k).w s at v p (outside p q) ∙ h.out p q;
      bytes = put_all (reg L k).w s at v h.bytes;
      is = fun_ext (λ k'. fun_ext (λ i'. fun_ext (λ j'. view_put L b s h.fit k i j v at here pi pj pv k' i' j')))
          ∙ ap (λ D. upd3 D k i j v) h.is;
    }
  where
    z : off L k i j + (reg L k).w ≤ base L (length L)
    z = fits L k i j pi pj

    outside : (p : ℕ) → (p < b) ⊎ (b + base L (length L) ≤ p) → (p < at) ⊎ (at + (reg L k).w ≤ p)
    outside p (inl q) = inl (omega arith)
    outside p (inr q) = inr (omega (arith, z))

pub begin : (L : List Region) (b : ℕ) (s : List ℕ) → b + base L (length L) ≤ length s → AllBytes s → Holds L b s s (view L b s)
begin L b s h k = record { fit = h; len = refl; out = λ p q. refl; bytes = k; is = refl }

-- a store of the code: t is s with the bytes of a number of the cell's width
put_as : {L : List Region} {b : ℕ} {s₀ s t : List ℕ} {C : Cells} → Holds L b s₀ s C → (n k i j v at : ℕ) → (reg L k).w ≡ n → at ≡ b + off L k i j
    → i < (reg L k).rows → j < (reg L k).cols → v < 256 ^ n → t ≡ sets s at (bytes n v) → Holds L b s₀ t (upd3 C k i j v)
put_as h n k i j v at w here pi pj pv e = rw (e, ← w) (put h k i j v at here pi pj (rw w pv))

module _ {L : List Region} {b : ℕ} {s₀ s : List ℕ} {C : Cells} (h : Holds L b s₀ s C) (k i j v at : ℕ) where
  pub put8 : (reg L k).w ≡ 1 → at ≡ b + off L k i j → i < (reg L k).rows → j < (reg L k).cols → v < 256 → Holds L b s₀ (set s at v) (upd3 C k i j v)
  put8 w here pi pj pv = put_as h 1 k i j v at w here pi pj pv (set_u8_is s at v pv)

  pub put16 : (reg L k).w ≡ 2 → at ≡ b + off L k i j → i < (reg L k).rows → j < (reg L k).cols → v < 2 ^ 16 → Holds L b s₀ (set_u16 s at v) (upd3 C k i j v)
  put16 w here pi pj pv = put_as h 2 k i j v at w here pi pj pv (set_u16_is s at v)

  pub put32 : (reg L k).w ≡ 4 → at ≡ b + off L k i j → i < (reg L k).rows → j < (reg L k).cols → v < 2 ^ 32 → Holds L b s₀ (set_u32 s at v) (upd3 C k i j v)
  put32 w here pi pj pv = put_as h 4 k i j v at w here pi pj pv (set_u32_is s at v)

  pub put64 : (reg L k).w ≡ 8 → at ≡ b + off L k i j → i < (reg L k).rows → j < (reg L k).cols → v < 2 ^ 64 → Holds L b s₀ (set_u64 s at v) (upd3 C k i j v)
  put64 w here pi pj pv = put_as h 8 k i j v at w here pi pj pv (set_u64_is s at v)

-- what the code reads
module _ {L : List Region} {b : ℕ} {s₀ s : List ℕ} {C : Cells} (h : Holds L b s₀ s C) (k i j at : ℕ) where
  get_as : (n : ℕ) → (reg L k).w ≡ n → at ≡ b + off L k i j → i < (reg L k).rows → j < (reg L k).cols → num_at n s at ≡ C k i j
  get_as n w here pi pj = rw (← w) (view_get L b s k i j at here pi pj ∙ ap (λ (D : Cells). D k i j) h.is)

  pub get8 : (reg L k).w ≡ 1 → at ≡ b + off L k i j → i < (reg L k).rows → j < (reg L k).cols → get_or s at 0 ≡ C k i j
  get8 w here pi pj = u8_at_is s at ∙ get_as 1 w here pi pj

  pub get16 : (reg L k).w ≡ 2 → at ≡ b + off L k i j → i < (reg L k).rows → j < (reg L k).cols → u16_at s at ≡ C k i j
  get16 w here pi pj = u16_at_is s at ∙ get_as 2 w here pi pj

  pub get32 : (reg L k).w ≡ 4 → at ≡ b + off L k i j → i < (reg L k).rows → j < (reg L k).cols → u32_at s at ≡ C k i j
  get32 w here pi pj = u32_at_is s at ∙ get_as 4 w here pi pj

  pub get64 : (reg L k).w ≡ 8 → at ≡ b + off L k i j → i < (reg L k).rows → j < (reg L k).cols → u64_at s at ≡ C k i j
  get64 w here pi pj = u64_at_is s at ∙ get_as 8 w here pi pj

pub cell_lt : {L : List Region} {b : ℕ} {s₀ s : List ℕ} {C : Cells} → Holds L b s₀ s C → (k i j : ℕ) → C k i j < 256 ^ (reg L k).w
cell_lt {L} {b} {s₀} {s} {C} h k i j = rw (ap (λ (D : Cells). D k i j) h.is) at (view_lt L b s h.bytes k i j)

pub row_none : (C : Cells) (k i : ℕ) (f : ℕ → ℕ) → C ≡ row_to C k i 0 f
row_none C k i f =
    fun_ext
    (λ k'. fun_ext (λ i'. fun_ext (λ j'. rw (le-ltb j' 0 (omega arith)) (by_eq k' k (λ e. by_eq i' i (λ g. rw (e, g)) (λ g. rw (e, g))) (λ e. rw e)))))

pub row_more : (C : Cells) (k i n : ℕ) (f : ℕ → ℕ) → upd3 (row_to C k i n f) k i n (f n) ≡ row_to C k i (suc n) f
row_more C k i n f =
    fun_ext
    (λ k'.
    fun_ext
    (λ i'.
    fun_ext
    (λ j'.
    by_eq k' k
    (λ e.
    by_eq i' i
    (λ g.
    rw (e, g)
    (by_eq j' n
    (λ q. rw (q, eqb_yes j' n q, lt-ltb n (suc n) (omega arith)))
    (λ q. rw (q, ltb_suc j' n (eqb_no j' n q)))))
    (λ g. rw (e, g)))
    (λ e. rw e))))
