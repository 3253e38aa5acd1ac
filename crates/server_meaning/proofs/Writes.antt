-- "write values": what station i's entry wrote, and the new number as version of the objects written.
use Rattle.std.specs.Prelude.{ℕ, zero, suc, ◌+◌, ◌*◌, ◌≤◌, ◌<◌, ◌/◌, ◌%◌, ◌^◌, ◌≡◌, Bool, true, false, cond, List, eqb, ltb}
use Rattle.std.proofs.Math.Path.{refl, fun_ext}
use Rattle.std.proofs.Common.{ap, ap₂, subst, ◌∙◌, arith}
use Rattle.sets.specs.Base.{upd, has, val_or}
use Rattle.sets.specs.Laws.{by_b, by_eq}
use Rattle.sets.proofs.Laws.{eqb_yes, ltb_no}
use Rattle.le.specs.Le.{u64_at}
use Rattle.cells.specs.Upd.{cond_rel, bulk}
use Rattle.cells.proofs.Upd.{bulk_none, bulk_more}
use Rattle.cells.proofs.Bits.{tb_zero}
use Rattle.cells.specs.Cells.{Cells, view, upd3, Holds}
use Rattle.cells.proofs.Cells.{view_col, put32, put64, get32, get64, cell_lt}
use Rattle.cells.proofs.Sets.{test8}
use Rattle.line.specs.Server.{Server, set_last, set_ver, set_val}
use Rattle.station_state.specs.Layout.{number_width, value_width, has_bit, member}
use Rattle.server_state.specs.Layout.{value_cell, written_value_cell, version_cell, last_cell, written_set_cell, value_from, table, version_from, last_from, written_values_from, last_of, written_set_from}
use Rattle.server_changes.specs.Changes.{value_one_b, values_to, write_b}
use Rattle.station_meaning.specs.Meant.{within, value_if}
use Rattle.station_meaning.proofs.Tests.{has_if}
use Rattle.server_meaning.specs.Meant.{row_work, meant, Is, start, done, work_of}
use Rattle.server_meaning.specs.Writes.{both_to, row_as, versioned, written}

pub as_none : (C : Cells) (k i : ℕ) (f : ℕ → ℕ) → C k i ≡ f → C ≡ row_as C k i f
as_none C k i f h =
    fun_ext
    (λ k'.
    fun_ext
    (λ i'.
    fun_ext (λ j'. by_eq k' k (λ e. by_eq i' i (λ g. rw (e, g, eqb_yes k' k e, eqb_yes i' i g) (ap (λ (f : ℕ → ℕ). f j') h)) (λ g. rw (e, g))) (λ e. rw e))))

-- one more of its cells
pub as_more : (C : Cells) (k i n v : ℕ) (f : ℕ → ℕ) → upd3 (row_as C k i f) k i n v ≡ row_as C k i (upd f n v)
as_more C k i n v f =
    fun_ext (λ k'. fun_ext (λ i'. fun_ext (λ j'. by_eq k' k (λ e. by_eq i' i (λ g. rw (e, g)) (λ g. rw (e, g))) (λ e. rw e))))

-- a cell of the row below the last one changed
pub as_past : (D : Cells) (k y i i₁ n v : ℕ) (f : ℕ → ℕ) → eqb y k ≡ false → upd3 (row_as D y i f) k i₁ n v ≡ row_as (upd3 D k i₁ n v) y i f
as_past D k y i i₁ n v f d =
    fun_ext (λ k'. fun_ext (λ i'. fun_ext (λ j'. by_eq k' y (λ e. rw (e, eqb_yes k' y e, d)) (λ e. rw e))))

-- a cell of each of two rows
two_more : (C : Cells) (n v w : ℕ) (f g : ℕ → ℕ)
    → upd3 (upd3 (row_as (row_as C value_cell 0 f) version_cell 0 g) value_cell 0 n v) version_cell 0 n w ≡ row_as (row_as C value_cell 0 (upd f n v)) version_cell 0 (upd g n w)
two_more C n v w f g =
    ap (λ (D : Cells). upd3 D version_cell 0 n w) (as_past (row_as C value_cell 0 f) value_cell version_cell 0 0 n v g refl)
    ∙ ap (λ (D : Cells). upd3 (row_as D version_cell 0 g) version_cell 0 n w) (as_more C value_cell 0 n v f)
    ∙ as_more (row_as C value_cell 0 (upd f n v)) version_cell 0 n w g

-- one round more of both
bulk_two : (F : (ℕ → ℕ) → (ℕ → ℕ) → Cells) (f g : ℕ → ℕ) (t : ℕ → Bool) (u v : ℕ → ℕ) (n : ℕ)
    → cond (t n) (F (upd (bulk f t u n) n (u n)) (upd (bulk g t v n) n (v n))) (F (bulk f t u n) (bulk g t v n)) ≡ F (bulk f t u (suc n)) (bulk g t v (suc n))
bulk_two F f g t u v n =
    by_b (t n)
    (λ e. rw e (ap₂ F (rw e at (bulk_more (λ (x : ℕ → ℕ). x) f t u n)) (rw e at (bulk_more (λ (x : ℕ → ℕ). x) g t v n))))
    (λ e. rw e (ap₂ F (rw e at (bulk_more (λ (x : ℕ → ℕ). x) f t u n)) (rw e at (bulk_more (λ (x : ℕ → ℕ). x) g t v n))))

values_to_lem : {s₀ s : List ℕ} {C : Cells} → Holds table 0 s₀ s C → (i v : ℕ) → i < 8 → v < 2 ^ 32 → (n : ℕ) → n ≤ 256 → Holds table 0 s₀ (values_to i v s n) (both_to C i v n)
unfolding values_to value_one_b member has_bit
values_to_lem {s₀} {s} {C} h i v l lv zero q =
    let t = within (C written_set_cell i) in
    subst (Holds table 0 s₀ s)
    (as_none C value_cell 0 (written C i 0) (bulk_none (C value_cell 0) t (C written_value_cell i))
    ∙ as_none (row_as C value_cell 0 (written C i 0)) version_cell 0 (versioned C i v 0) (bulk_none (C version_cell 0) t (λ _. v))) h
values_to_lem {s₀} {s} {C} h i v l lv (suc n) q =
    let r = values_to_lem h i v l lv n (omega arith) in
    let t = values_to i v s n in
    let b = within (C written_set_cell i) n in
    let D = both_to C i v n in
    let w = C written_value_cell i n in
    let e : u64_at t (written_values_from i + n * value_width) ≡ w = get64 r written_value_cell i n (written_values_from i + n * value_width) refl (omega arith) l q in
    subst (Holds table 0 s₀ (value_one_b i v t n))
    (ap (λ (E : Cells). cond b E D) (two_more C n w v (written C i n) (versioned C i v n))
    ∙ bulk_two (λ f g. row_as (row_as C value_cell 0 f) version_cell 0 g) (C value_cell 0) (C version_cell 0) (within (C written_set_cell i)) (C written_value_cell i) (λ _. v) n)
    (cond_rel (Holds table 0 s₀) (member t (written_set_from i) n) b
    (test8 r written_set_cell i (n / 8) (n % 8) (written_set_from i + n / 8) (omega arith) l (omega arith) refl)
    (rw e
    (put32 (put64 r value_cell 0 n w (value_from + n * value_width) refl (omega arith) (omega arith) q (cell_lt h written_value_cell i n))
    version_cell 0 n v (version_from + n * number_width) refl (omega arith) (omega arith) q lv))
    r)

-- what the bytes tell is what the work tells
val_or_lem : (b : Bool) (v d : ℕ) → cond b v d ≡ val_or (value_if b v) d
val_or_lem true v d = refl
val_or_lem false v d = refl

has_written : (C : Cells) (i a x y : ℕ) → cond (within (C written_set_cell i) a) x y ≡ cond (has ((row_work C i).writes a)) x y
has_written C i a x y = rw (has_if (within (C written_set_cell i) a) (C written_value_cell i a))

module _ {s : List ℕ} {m : Server} (h : Is s m) where
  write_cells : (i : ℕ) → i < 8 → last_of s + 1 < 2 ^ 32 → Holds table 0 s (write_b i s) (both_to (upd3 (view table 0 s) last_cell 0 0 (last_of s + 1)) i (last_of s + 1) 256)
  unfolding write_b
  write_cells i l ln =
      values_to_lem (put32 (start h) last_cell 0 0 (last_of s + 1) last_from refl refl (omega arith) (omega arith) ln) i (last_of s + 1) l ln 256 (omega arith)

  pub write_is : (i : ℕ) → i < 8 → last_of s + 1 < 2 ^ 32
      → Is (write_b i s)
      (set_val (set_ver (set_last m (m.last + 1)) (λ a. cond (has ((work_of s i).writes a)) (m.last + 1) (m.ver a))) (λ a. val_or ((work_of s i).writes a) (m.val a)))
  write_is i l ln =
      let C = view table 0 s in
      let w = work_of s i in
      let c : last_of s ≡ C last_cell 0 0 = get32 (start h) last_cell 0 0 last_from refl refl (omega arith) (omega arith) in
      done h
      (λ (n : Server). set_val (set_ver (set_last n (n.last + 1)) (λ a. cond (has (w.writes a)) (n.last + 1) (n.ver a))) (λ a. val_or (w.writes a) (n.val a)))
      (write_cells i l ln)
      ((λ t. set_val (set_ver (set_last (meant s) (last_of s + 1)) (fun_ext versions t)) (fun_ext values t))
      ∙ ap (λ (x : ℕ). set_val (set_ver (set_last (meant s) (x + 1)) (λ a. cond (has (w.writes a)) (x + 1) (C version_cell 0 a))) (λ a. val_or (w.writes a) (C value_cell 0 a))) c)
    where
      none : (a : ℕ) → ltb a 256 ≡ false → within (view table 0 s written_set_cell i) a ≡ false
      none a e = let b : 256 ≤ a = ltb_no a 256 e in rw (view_col table 0 s written_set_cell i (a / 8) (omega arith)) (tb_zero (a % 8))

      versions : (a : ℕ) → versioned (view table 0 s) i (last_of s + 1) 256 a ≡ cond (has ((work_of s i).writes a)) (last_of s + 1) (view table 0 s version_cell 0 a)
      versions a =
          by_b (ltb a 256) (λ e. rw e) (λ e. rw (e, none a e))
          ∙ has_written (view table 0 s) i a (last_of s + 1) (view table 0 s version_cell 0 a)

      values : (a : ℕ) → written (view table 0 s) i 256 a ≡ val_or ((work_of s i).writes a) (view table 0 s value_cell 0 a)
      values a =
          by_b (ltb a 256)
          (λ e. rw e (val_or_lem (within (view table 0 s written_set_cell i) a) (view table 0 s written_value_cell i a) (view table 0 s value_cell 0 a)))
          (λ e. rw (e, none a e))

  -- the entries' work is as it was
  pub write_work : (i : ℕ) → i < 8 → last_of s + 1 < 2 ^ 32 → (j : ℕ) → work_of (write_b i s) j ≡ work_of s j
  write_work i l ln j = ap (λ (D : Cells). row_work D j) (write_cells i l ln).is
