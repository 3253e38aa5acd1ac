-- What the writer's stores leave.
use Prim.Native.Nat.{ℕ, zero, suc, ◌+◌, ◌*◌, ◌≤◌, ◌<◌}
use Rattle.std.specs.Prelude.{◌≡◌, length, drop, set, get_or}
use Rattle.std.proofs.Math.Path.{refl, ap, fun_ext}
use Rattle.std.proofs.Common.{◌∙◌, arith}
use mathlib.Core.List.{List, [], ◌∷◌, ◌++◌}
use Rattle.std.proofs.Math.ListN.{take, length-append}
use Rattle.std.proofs.Math.Seq.{sets}
use Rattle.lists.specs.Stores.{sets_join}
use Rattle.le.specs.Le.{set_u16}
use Rattle.le.specs.Width.{bytes, length_bytes}
use Rattle.le.specs.Laws.{set_u16_is}
use Rattle.layout.specs.Record.{header_length, value_length}
use Rattle.block.specs.Block.{joined}
use Rattle.block.specs.Places.{record_count_from, entry_total_from, counts_length, header_at, planes_at, size_at}
use Rattle.block.specs.Parts.{length_part}
use Rattle.block_writer.specs.Write.{start_of, entries_in, headers_to, addresses_to, column, plane_to, packed}
use Rattle.block_writer.specs.Stripes.{stripes, no_stripes, stripes_last, stripes_join, sets_first}
use Rattle.block_writer.specs.Facts.{lies}

-- one value, a byte to each plane
unfoldable pub striped_to : List ℕ → List ℕ → ℕ → ℕ → ℕ → ℕ → List ℕ
striped_to s to p t a zero = to
striped_to s to p t a (suc k) = set (striped_to s to p t a k) (p + k * t) (get_or s (a + k) 0)

striped : (s to : List ℕ) (p t a k : ℕ) → striped_to s to p t a k ≡ stripes k to p t (λ j. get_or s (a + j) 0 ∷ [])
unfolding striped_to
striped s to p t a zero = no_stripes to p t (λ j. get_or s (a + j) 0 ∷ [])
striped s to p t a (suc k) = rw (striped s to p t a k) (stripes_last k to p t (λ j. get_or s (a + j) 0 ∷ []))

pub value_stored : (s to : List ℕ) (p t a k : ℕ) → k ≡ value_length → striped_to s to p t a k ≡ stripes value_length to p t (λ j. get_or s (a + j) 0 ∷ [])
value_stored s to p t a k e = striped s to p t a k ∙ ap (λ n. stripes n to p t (λ j. get_or s (a + j) 0 ∷ [])) e

pub length_column : (s : List ℕ) (at n : ℕ) → length (column s at n) ≡ n
unfolding column
length_column s at zero = refl
length_column s at (suc n) = length-append (column s at n) (get_or s (at + value_length * n) 0 ∷ []) ∙ omega (arith, length_column s at n)

-- one value more
pub values_stored : (s to : List ℕ) (p t a n : ℕ) {o o' : List ℕ} → n < t → o ≡ stripes value_length to p t (λ k. column s (a + k) n)
    → o' ≡ stripes value_length o (p + n) t (λ k. get_or s (a + value_length * n + k) 0 ∷ []) → o' ≡ stripes value_length to p t (λ k. column s (a + k) (suc n))
unfolding column
values_stored s to p t a n h e e' =
    rw (e', e)
    (stripes_join value_length to p (p + n) t n (λ k. column s (a + k) n) (λ k. get_or s (a + value_length * n + k) 0 ∷ []) refl (λ k. length_column s (a + k) n) (λ k. omega arith)
    ∙ ap (stripes value_length to p t) (fun_ext (λ k. ap (λ (j : ℕ). column s (a + k) n ++ (get_or s j 0 ∷ [])) (same k))))
  where
    same : (k : ℕ) → a + value_length * n + k ≡ a + k + value_length * n
    same k = omega arith

stripes_none : (n : ℕ) (o : List ℕ) (p t : ℕ) → o ≡ stripes n o p t (λ k. [])
unfolding stripes
stripes_none zero o p t = refl
stripes_none (suc n) o p t = stripes_none n o (p + t) t

pub values_none : (s to : List ℕ) (p t a : ℕ) → to ≡ stripes value_length to p t (λ k. column s (a + k) 0)
unfolding column
values_none s to p t a = stripes_none value_length to p t

pub planes_none : (s to : List ℕ) (p t : ℕ) → to ≡ stripes value_length to p t (plane_to s 0)
unfolding plane_to
planes_none s to p t = stripes_none value_length to p t

-- what was put for the first i records, where all of c records are there
module _ (s : List ℕ) (c : ℕ) (there : start_of s c ≤ length s) where
  pub length_headers_to : (i : ℕ) → i ≤ c → length (headers_to s i) ≡ header_length * i
  unfolding headers_to
  length_headers_to zero l = refl
  length_headers_to (suc i) l =
      length-append (headers_to s i) (take header_length (drop (start_of s i) s))
      ∙ omega (arith, length_headers_to i (omega arith), length_part header_length (start_of s i) s (lies s i c l there refl refl refl).header_there)

  pub length_addresses_to : (i : ℕ) → i ≤ c → length (addresses_to s i) ≡ entries_in s i
  unfolding addresses_to entries_in
  length_addresses_to zero l = refl
  length_addresses_to (suc i) l =
      length-append (addresses_to s i) (take (size_at s (start_of s i)) (drop (start_of s i + header_length) s))
      ∙ omega (arith, length_addresses_to i (omega arith), length_part (size_at s (start_of s i)) (start_of s i + header_length) s (lies s i c l there refl refl refl).addresses_there)

  -- a record's header and addresses, each behind those before
  pub heads_stored : (to : List ℕ) (i : ℕ) {h a at q k : ℕ} {o o' : List ℕ} → i < c → h ≡ header_at i → a ≡ header_at c → at ≡ start_of s i → q ≡ entries_in s i
      → k ≡ size_at s at → o ≡ sets (sets to counts_length (headers_to s i)) (header_at c) (addresses_to s i)
      → o' ≡ sets (sets o h (take header_length (drop at s))) (a + q) (take k (drop (at + header_length) s))
      → o' ≡ sets (sets to counts_length (headers_to s (suc i))) (header_at c) (addresses_to s (suc i))
  unfolding headers_to addresses_to
  heads_stored to i l eh ea eat eq ek e e' =
      let x = headers_to s i in
      let y = addresses_to s i in
      let w = lies s i c l there refl refl refl in
      let x' = take header_length (drop (start_of s i) s) in
      let y' = take (size_at s (start_of s i)) (drop (start_of s i + header_length) s) in
      let lx = length_headers_to i (omega arith) in
      let ly = length_addresses_to i (omega arith) in
      let lx' = length_part header_length (start_of s i) s w.header_there in
      rw (e', e, ek, eat, eq, ea, eh)
      (ap (λ (l : List ℕ). sets l (header_at c + entries_in s i) y')
      (sets_first x' y (sets to counts_length x) (header_at c) (header_at i) (omega arith)
      ∙ ap (λ (l : List ℕ). sets l (header_at c) y) (sets_join x x' to counts_length (header_at i) (omega arith)))
      ∙ sets_join y y' (sets to counts_length (x ++ x')) (header_at c) (header_at c + entries_in s i) (omega arith))

  pub length_plane_to : (i k : ℕ) → length (plane_to s i k) ≡ entries_in s i
  unfolding plane_to entries_in
  length_plane_to zero k = refl
  length_plane_to (suc i) k =
      length-append (plane_to s i k) (column s (start_of s i + header_length + size_at s (start_of s i) + k) (size_at s (start_of s i)))
      ∙ omega (arith, length_plane_to i k, length_column s (start_of s i + header_length + size_at s (start_of s i) + k) (size_at s (start_of s i)))

  -- a record's values, each plane behind what it has
  pub planes_stored : (to : List ℕ) (p t i : ℕ) {at q k : ℕ} {o o' : List ℕ} → i < c → entries_in s c ≡ t → at ≡ start_of s i → q ≡ entries_in s i
      → k ≡ size_at s at → o ≡ stripes value_length to p t (plane_to s i) → o' ≡ stripes value_length o (p + q) t (λ j. column s (at + header_length + k + j) k)
      → o' ≡ stripes value_length to p t (plane_to s (suc i))
  unfolding plane_to
  planes_stored to p t i l et eat eq ek e e' =
      let w = lies s i c l there refl refl refl in
      let n = size_at s (start_of s i) in
      let a = start_of s i + header_length + n in
      rw (e', e, ek, eat, eq)
      (stripes_join value_length to p (p + entries_in s i) t (entries_in s i) (plane_to s i) (λ j. column s (a + j) n) refl (length_plane_to i)
      (λ j. omega (arith, length_column s (a + j) n, w.entries_there)))

  -- all of the block
  pub packed_stored : (to : List ℕ) (t : ℕ) {o1 o2 o3 o4 : List ℕ} → entries_in s c ≡ t
      → o1 ≡ set_u16 to record_count_from c → o2 ≡ set_u16 o1 entry_total_from t → o3 ≡ sets (sets o2 counts_length (headers_to s c)) (header_at c) (addresses_to s c)
      → o4 ≡ sets o3 (planes_at c t) (joined (plane_to s c) value_length) → o4 ≡ sets to 0 (packed s c t)
  unfolding packed
  packed_stored to t et e1 e2 e3 e4 =
      let x = headers_to s c in
      let y = addresses_to s c in
      let z = joined (plane_to s c) value_length in
      let lx = length_headers_to c (omega arith) in
      let ly = length_addresses_to c (omega arith) in
      let b1 = bytes 2 c in
      let b2 = bytes 2 t in
      let l1 = length_bytes 2 c in
      let l2 = length_bytes 2 t in
      rw (e4, e3, e2, set_u16_is, e1, set_u16_is)
      (sets_join y z (sets (sets (sets to record_count_from b1) entry_total_from b2) counts_length x) (header_at c) (planes_at c t) (omega arith)
      ∙ sets_join x (y ++ z) (sets (sets to record_count_from b1) entry_total_from b2) counts_length (header_at c) (omega arith)
      ∙ sets_join b2 (x ++ (y ++ z)) (sets to record_count_from b1) entry_total_from counts_length (omega arith)
      ∙ sets_join b1 (b2 ++ (x ++ (y ++ z))) to record_count_from entry_total_from (omega arith))
