-- The cells tell every byte.
use Rattle.std.specs.Prelude.{◌≡◌, refl, List, [], ◌∷◌, ℕ, zero, suc, ◌+◌, ◌-◌, ◌*◌, ◌≤◌, ◌<◌, ◌/◌, ◌%◌, ltb, length, get_or}
use Rattle.std.proofs.Common.{sym, ◌∙◌, mod-lt, div-add-mod', div-lt_iff_lt-mul, arith, ext_get_or}
use Rattle.std.proofs.Math.Decide.{dec_lt}
use Rattle.le.specs.Width.{num_at}
use Rattle.sets.specs.Laws.{by_b}
use Rattle.sets.proofs.Laws.{ltb_yes, ltb_no}
use Rattle.cells.specs.Bits.{tb}
use Rattle.cells.proofs.Bits.{tb_tells}
use Rattle.cells.specs.Num.{AllBytes}
use Rattle.cells.proofs.Num.{num_tells}
use Rattle.cells.specs.Cells.{Region, reg, span, base, off, view}
use Rattle.cells.proofs.Cells.{view_get, view_col, view_row, view_lt, in_table}
use Rattle.cells.specs.Tells.{Spot}

pos : (x r c : ℕ) → x < r * c → 0 < c
pos x r zero h = absurd (omega arith)
pos x r (suc c) h = omega arith

pub find : (L : List Region) (p : ℕ) → p < base L (length L) → Spot L p
find [] p h = absurd (omega arith)
find (r ∷ L) p h = go (dec_lt p (span r)) (λ q. find L (p - span r) q)
  where
    go : Dec (p < span r) → (p - span r < base L (length L) → Spot L (p - span r)) → Spot (r ∷ L) p
    go (yes q) f =
        let n = r.cols * r.w in
        let x = p % n in
        let hn : 0 < n = pos p r.rows n q in
        let hx : x < n = mod-lt p hn in
        let hw : 0 < r.w = pos x r.cols r.w hx in
        record {
          k = 0;
          i = p / n;
          j = x / r.w;
          c = x % r.w;
          pi = (div-lt_iff_lt-mul hn).1 q;
          pj = (div-lt_iff_lt-mul hw).1 hx;
          pc = mod-lt x hw;
          at = omega (arith, div-add-mod' p n, div-add-mod' x r.w);
        }
    go (no q) f =
        let s = f (omega arith) in
        record {
          k = suc s.k;
          i = s.i;
          j = s.j;
          c = s.c;
          pi = s.pi;
          pj = s.pj;
          pc = s.pc;
          at = omega (arith, s.at);
        }

pub view_out : (L : List Region) (b : ℕ) (s : List ℕ) (k i j : ℕ) → length L ≤ k → view L b s k i j ≡ 0
view_out L b s k i j h =
    by_b (ltb i (reg L k).rows) (λ e. absurd (omega (arith, in_table L k i (ltb_yes i (reg L k).rows e)))) (λ e. view_row L b s k i j (ltb_no i (reg L k).rows e))

module _ (L : List Region) (s t : List ℕ) (ls : length s ≡ base L (length L)) (lt : length t ≡ base L (length L)) (hs : AllBytes s) (ht : AllBytes t) where
  pub view_tells : ((k i j : ℕ) → view L 0 s k i j ≡ view L 0 t k i j) → s ≡ t
  view_tells h = ext_get_or 0 s t (ls ∙ sym lt) byte
    where
      byte : (p : ℕ) → p < length s → get_or s p 0 ≡ get_or t p 0
      byte p l =
          let q = find L p (omega arith) in
          let a = 0 + off L q.k q.i q.j in
          let e : num_at (reg L q.k).w s a ≡ num_at (reg L q.k).w t a =
          view_get L 0 s q.k q.i q.j a refl q.pi q.pj ∙ h q.k q.i q.j ∙ sym (view_get L 0 t q.k q.i q.j a refl q.pi q.pj) in
          num_tells (reg L q.k).w s t a hs ht e p (omega (arith, q.at)) (omega (arith, q.at, q.pc))

-- cells told by one column, by one row, by members
module _ (L : List Region) (s t : List ℕ) (k : ℕ) where
  pub by_row : (reg L k).cols ≡ 1 → ((i : ℕ) → view L 0 s k i 0 ≡ view L 0 t k i 0) → (i j : ℕ) → view L 0 s k i j ≡ view L 0 t k i j
  by_row w f i zero = f i
  by_row w f i (suc j) = view_col L 0 s k i (suc j) (omega arith) ∙ sym (view_col L 0 t k i (suc j) (omega arith))

  pub by_col : (reg L k).rows ≡ 1 → ((j : ℕ) → view L 0 s k 0 j ≡ view L 0 t k 0 j) → (i j : ℕ) → view L 0 s k i j ≡ view L 0 t k i j
  by_col w f zero j = f j
  by_col w f (suc i) j = view_row L 0 s k (suc i) j (omega arith) ∙ sym (view_row L 0 t k (suc i) j (omega arith))

  pub by_bits8 : AllBytes s → AllBytes t → (reg L k).w ≡ 1 → (i j : ℕ) → ((q : ℕ) → q < 8 → tb (view L 0 s k i j) q ≡ tb (view L 0 t k i j) q) → view L 0 s k i j ≡ view L 0 t k i j
  by_bits8 hs ht w i j f = tb_tells 8 (view L 0 s k i j) (view L 0 t k i j) (rw w at (view_lt L 0 s hs k i j)) (rw w at (view_lt L 0 t ht k i j)) f

  pub by_bits32 : AllBytes s → AllBytes t → (reg L k).w ≡ 4 → (i j : ℕ) → ((q : ℕ) → q < 32 → tb (view L 0 s k i j) q ≡ tb (view L 0 t k i j) q) → view L 0 s k i j ≡ view L 0 t k i j
  by_bits32 hs ht w i j f = tb_tells 32 (view L 0 s k i j) (view L 0 t k i j) (rw w at (view_lt L 0 s hs k i j)) (rw w at (view_lt L 0 t ht k i j)) f
