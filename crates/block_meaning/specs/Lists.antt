-- Laws on lists, on records one behind the other and on their entries.
use Rattle.std.specs.Prelude.{ℕ, zero, suc, ◌+◌, ◌*◌, ◌≤◌, ◌<◌, ◌≡◌, refl, Bool, true, false, ◌&&◌, List, [], ◌∷◌, ◌++◌, length, take, drop, get_or}
use Rattle.std.proofs.Common.{sym, ap, ◌∙◌, append_assoc, append-nil, zero-add, zero-mul, suc-mul, arith, length-append, get_or-append-add}
use Rattle.std.proofs.Math.ListN.{get_or-append}
use Rattle.std.proofs.Math.Seq.{take-append_seam, drop-append_seam}
use Rattle.le.specs.Le.{u16_at, u32_at}
use Rattle.layout.specs.Record.{Entry, Record, AllWellFormed, entries, bytes_of, archive_of}
use Rattle.block.specs.Block.{all_entries, headers, plane, joined}

pub and_assoc : (a b c : Bool) → a && b && c ≡ a && (b && c)
and_assoc true b c = refl
and_assoc false b c = refl

pub u16_at_front : (x y : List ℕ) (at : ℕ) → at + 2 ≤ length x → u16_at (x ++ y) at ≡ u16_at x at
unfolding u16_at
u16_at_front x y at l = rw (get_or-append x y 0 at (omega arith), get_or-append x y 0 (at + 1) (omega arith))

pub u32_at_front : (x y : List ℕ) (at : ℕ) → at + 4 ≤ length x → u32_at (x ++ y) at ≡ u32_at x at
unfolding u32_at
u32_at_front x y at l =
    rw (get_or-append x y 0 at (omega arith), get_or-append x y 0 (at + 1) (omega arith), get_or-append x y 0 (at + 2) (omega arith), get_or-append x y 0 (at + 3) (omega arith))

-- two lists that begin with as many elements
pub split : {A : Type 0} (x x' y y' : List A) → length x ≡ length x' → x ++ y ≡ x' ++ y' → (x ≡ x') × (y ≡ y')
split x x' y y' l e = (
  sym (take-append_seam x y) ∙ ap (take (length x)) e ∙ ap (λ (n : ℕ). take n (x' ++ y')) l ∙ take-append_seam x' y',
  sym (drop-append_seam x y) ∙ ap (drop (length x)) e ∙ ap (λ (n : ℕ). drop n (x' ++ y')) l ∙ drop-append_seam x' y',
)

-- what records have together
pub entries_append : (rs qs : List Record) → all_entries (rs ++ qs) ≡ all_entries rs ++ all_entries qs
entries_append [] qs = refl
entries_append (r ∷ rs) qs = rw (entries_append rs qs) (sym (append_assoc (entries r) (all_entries rs) (all_entries qs)))

pub headers_append : (rs qs : List Record) → headers (rs ++ qs) ≡ headers rs ++ headers qs
headers_append [] qs = refl
headers_append (r ∷ rs) qs = rw (headers_append rs qs, append_assoc)

pub archive_append : (rs qs : List Record) → archive_of (rs ++ qs) ≡ archive_of rs ++ archive_of qs
unfolding archive_of
archive_append [] qs = refl
archive_append (r ∷ rs) qs = rw (archive_append rs qs, append_assoc)

pub archive_one : (r : Record) → archive_of (r ∷ []) ≡ bytes_of r
unfolding archive_of
archive_one r = append-nil (bytes_of r)

pub formed_append : (rs qs : List Record) → AllWellFormed rs → AllWellFormed qs → AllWellFormed (rs ++ qs)
formed_append [] qs h k = k
formed_append (r ∷ rs) qs h k = (h.0, formed_append rs qs h.1 k)

pub plane_append : (es fs : List Entry) (k : ℕ) → plane (es ++ fs) k ≡ plane es k ++ plane fs k
plane_append [] fs k = refl
plane_append (e ∷ es) fs k = rw (plane_append es fs k)

pub length_plane : (es : List Entry) (k : ℕ) → length (plane es k) ≡ length es
length_plane [] k = refl
length_plane (e ∷ es) k = ap suc (length_plane es k)

-- runs one behind the other
pub joined_same : (f g : ℕ → List ℕ) (n : ℕ) → ((k : ℕ) → k < n → f k ≡ g k) → joined f n ≡ joined g n
joined_same f g zero h = refl
joined_same f g (suc n) h = rw (h 0 (omega arith), joined_same (λ k. f (suc k)) (λ k. g (suc k)) n (λ k l. h (suc k) (omega arith)))

pub length_joined : (f : ℕ → List ℕ) (n t : ℕ) → ((k : ℕ) → length (f k) ≡ t) → length (joined f n) ≡ n * t
length_joined f zero t h = sym (zero-mul t)
length_joined f (suc n) t h = rw (length-append, h 0, length_joined (λ k. f (suc k)) n t (λ k. h (suc k)), suc-mul n t) (omega arith)

-- element j of run k
pub joined_at : (f : ℕ → List ℕ) (n t k j : ℕ) → ((i : ℕ) → length (f i) ≡ t) → k < n → j < t → get_or (joined f n) (k * t + j) 0 ≡ get_or (f k) j 0
joined_at f zero t k j h l m = absurd (omega arith)
joined_at f (suc n) t zero j h l m =
    rw (zero-mul, zero-add) (get_or-append (f 0) (joined (λ i. f (suc i)) n) 0 j (omega (arith, h 0)))
joined_at f (suc n) t (suc k) j h l m =
    let place : suc k * t + j ≡ length (f 0) + (k * t + j) = rw (h 0, suc-mul k t) (omega arith) in
    rw (place, get_or-append-add (f 0) (joined (λ i. f (suc i)) n) (k * t + j) 0) (joined_at (λ i. f (suc i)) n t k j (λ i. h (suc i)) (omega arith) m)
