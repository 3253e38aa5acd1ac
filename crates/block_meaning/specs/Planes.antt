-- Values and their planes: the eight bytes of each value, one of each plane.
use Rattle.std.specs.Prelude.{ℕ, zero, suc, ◌+◌, ◌*◌, ◌≤◌, ◌<◌, ◌≡◌, refl, List, [], ◌∷◌, ◌++◌, length, take, drop, get_or}
use Rattle.std.proofs.Common.{sym, ap, ◌∙◌, append_assoc, append-nil, add-zero, add-suc, suc-add, arith, drop-cons, get_or-drop}
use Rattle.std.proofs.Math.ListN.{get_or-append}
use Rattle.lists.specs.Parts.{drop_behind}
use Rattle.le.specs.Width.{bytes, length_bytes}
use Rattle.layout.specs.Record.{value_length, Entry, values}
use Rattle.block.specs.Block.{plane}
use Rattle.block_reader.specs.Read.{row, rows}
use Rattle.block_writer.specs.Write.{column}
use Rattle.block_meaning.specs.Lists.{split}

-- the first value, then the others
rows_cons : (b : List ℕ) (p t n : ℕ) → rows b p t (suc n) ≡ row b p t ++ rows b (suc p) t n
unfolding rows
rows_cons b p t zero = rw (add-zero p, append-nil)
rows_cons b p t (suc n) = rw (rows_cons b p t n, append_assoc, add-suc p n, suc-add p n)

column_cons : (s : List ℕ) (at n : ℕ) → column s at (suc n) ≡ get_or s at 0 ∷ column s (at + value_length) n
unfolding column
column_cons s at zero = let e : at + value_length * 0 ≡ at = omega arith in rw e
column_cons s at (suc n) =
    let e : at + value_length + value_length * n ≡ at + value_length * suc n = omega arith in
    rw (column_cons s at n, e)

-- byte k of a value is the one of plane k
row_at : (b : List ℕ) (p t k : ℕ) → k < value_length → get_or (row b p t) k 0 ≡ get_or b (p + k * t) 0
unfolding row
row_at b p t zero l = let e : p + 0 * t ≡ p = omega arith in rw e
row_at b p t (suc zero) l = let e : p + 1 * t ≡ p + t = omega arith in rw e
row_at b p t (suc (suc zero)) l = refl
row_at b p t (suc (suc (suc zero))) l = refl
row_at b p t (suc (suc (suc (suc zero)))) l = refl
row_at b p t (suc (suc (suc (suc (suc zero))))) l = refl
row_at b p t (suc (suc (suc (suc (suc (suc zero)))))) l = refl
row_at b p t (suc (suc (suc (suc (suc (suc (suc zero))))))) l = refl
row_at b p t (suc (suc (suc (suc (suc (suc (suc (suc k)))))))) l = absurd (omega arith)

pub seven_planes : (k t : ℕ) → k < value_length → k * t ≤ 7 * t
seven_planes zero t l = omega arith
seven_planes (suc zero) t l = omega arith
seven_planes (suc (suc zero)) t l = omega arith
seven_planes (suc (suc (suc zero))) t l = omega arith
seven_planes (suc (suc (suc (suc zero)))) t l = omega arith
seven_planes (suc (suc (suc (suc (suc zero))))) t l = omega arith
seven_planes (suc (suc (suc (suc (suc (suc zero)))))) t l = omega arith
seven_planes (suc (suc (suc (suc (suc (suc (suc zero))))))) t l = omega arith
seven_planes (suc (suc (suc (suc (suc (suc (suc (suc k)))))))) t l = absurd (omega arith)

length_row : (v : ℕ) (b : List ℕ) (p t : ℕ) → length (bytes value_length v) ≡ length (row b p t)
unfolding row
length_row v b p t = length_bytes value_length v

-- values that were put together from the planes: each plane has their bytes
pub planes_of_rows : (es : List Entry) (b : List ℕ) (p t k : ℕ) → k < value_length → p + length es + 7 * t ≤ length b → values es ≡ rows b p t (length es)
    → plane es k ≡ take (length es) (drop (p + k * t) b)
planes_of_rows [] b p t k l h e = refl
planes_of_rows (v ∷ es) b p t k l h e =
    let both = split (bytes value_length v.value) (row b p t) (values es) (rows b (suc p) t (length es)) (length_row v.value b p t) (e ∙ rows_cons b p t (length es)) in
    let first : get_or (bytes value_length v.value) k 0 ≡ get_or b (p + k * t) 0 = ap (λ (u : List ℕ). get_or u k 0) both.0 ∙ row_at b p t k l in
    let rest = planes_of_rows es b (suc p) t k l (omega arith) both.1 in
    let s = seven_planes k t l in
    let place : suc p + k * t ≡ suc (p + k * t) = omega arith in
    rw (drop-cons b (p + k * t) 0 (omega arith), first, rest, place)

-- .. and the other way round
row_is : (b : List ℕ) (p t v : ℕ) → ((k : ℕ) → k < value_length → get_or b (p + k * t) 0 ≡ get_or (bytes value_length v) k 0) → row b p t ≡ bytes value_length v
unfolding row bytes
row_is b p t v h =
    let e0 : p ≡ p + 0 * t = omega arith in
    let e1 : p + t ≡ p + 1 * t = omega arith in
    let h0 = ap (λ (j : ℕ). get_or b j 0) e0 ∙ h 0 (omega arith) in
    let h1 = ap (λ (j : ℕ). get_or b j 0) e1 ∙ h 1 (omega arith) in
    let h2 = h 2 (omega arith) in
    let h3 = h 3 (omega arith) in
    let h4 = h 4 (omega arith) in
    let h5 = h 5 (omega arith) in
    let h6 = h 6 (omega arith) in
    let h7 = h 7 (omega arith) in
    λ i. h0 i ∷ h1 i ∷ h2 i ∷ h3 i ∷ h4 i ∷ h5 i ∷ h6 i ∷ h7 i ∷ []

pub rows_of_planes : (es : List Entry) (b : List ℕ) (p t : ℕ) → ((k j : ℕ) → k < value_length → j < length es → get_or b (p + k * t + j) 0 ≡ get_or (plane es k) j 0)
    → rows b p t (length es) ≡ values es
unfolding rows
rows_of_planes [] b p t h = refl
rows_of_planes (v ∷ es) b p t h =
    let first = row_is b p t v.value (λ k l. ap (λ (j : ℕ). get_or b j 0) (sym (add-zero (p + k * t))) ∙ h k 0 l (omega arith)) in
    let rest = rows_of_planes es b (suc p) t
    (λ k j l m. ap (λ (i : ℕ). get_or b i 0) (moved p (k * t) j) ∙ h k (suc j) l (omega arith)) in
    rows_cons b p t (length es) ∙ rw (first, rest)
  where
    moved : (a c j : ℕ) → suc a + c + j ≡ a + c + suc j
    moved a c j = omega arith

-- values one behind the other: every eighth byte is a plane
pub column_of_values : (es : List Entry) (s rest : List ℕ) (at k : ℕ) → k < value_length → drop at s ≡ values es ++ rest → column s (at + k) (length es) ≡ plane es k
unfolding column
column_of_values [] s rest at k l e = refl
column_of_values (v ∷ es) s rest at k l e =
    let w = bytes value_length v.value in
    let n = length_bytes value_length v.value in
    let e' : drop at s ≡ w ++ (values es ++ rest) = e ∙ append_assoc w (values es) rest in
    let first : get_or s (at + k) 0 ≡ get_or w k 0 = sym (get_or-drop at s k 0) ∙ ap (λ (u : List ℕ). get_or u k 0) e' ∙ get_or-append w (values es ++ rest) 0 k (omega arith) in
    let others = column_of_values es s rest (at + value_length) k l (drop_behind w (values es ++ rest) s at (at + value_length) e' (omega arith)) in
    let place : at + k + value_length ≡ at + value_length + k = omega arith in
    column_cons s (at + k) (length es) ∙ rw (place, first, others)
