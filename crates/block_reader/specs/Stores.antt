-- What the reader's stores leave, one behind the other.
use Rattle.std.specs.Prelude.{ℕ, zero, suc, ◌+◌, ◌*◌, ◌≤◌, ◌<◌, ◌≡◌, refl, List, [], ◌∷◌, ◌++◌, length, take, drop, set, get_or}
use Rattle.std.proofs.Common.{◌∙◌, add-one, arith, length-append}
use Rattle.std.proofs.Math.Numerals.{add-two, add-three, add-four, add_five, add_six, add_seven}
use Rattle.std.proofs.lemmas.List.Edits.{sets}
use Rattle.lists.specs.Stores.{sets_join}
use Rattle.layout.specs.Record.{header_length, value_length, entry_length, record_length}
use Rattle.block.specs.Places.{record_count, entry_total, header_at, size_at, entries_to}
use Rattle.block.specs.Facts.{Agreed, placed}
use Rattle.block.specs.Parts.{length_part}
use Rattle.block_reader.specs.Read.{row, rows, record_at, record_in, records_to}

pub length_rows : (b : List ℕ) (p t n : ℕ) → length (rows b p t n) ≡ value_length * n
unfolding rows row
length_rows b p t zero = refl
length_rows b p t (suc n) = length-append (rows b p t n) (row b (p + n) t) ∙ omega (arith, length_rows b p t n)

-- a run of eight stores
pub eight : (s : List ℕ) (at a b c d e f g h : ℕ)
    → set (set (set (set (set (set (set (set s at a) (at + 1) b) (at + 2) c) (at + 3) d) (at + 4) e) (at + 5) f) (at + 6) g) (at + 7) h
    ≡ sets s at (a ∷ b ∷ c ∷ d ∷ e ∷ f ∷ g ∷ h ∷ [])
eight s at a b c d e f g h = rw (add-one, add-two, add-three, add-four, add_five, add_six, add_seven)

-- one value, byte by byte
unfoldable pub stored_to : List ℕ → List ℕ → ℕ → ℕ → ℕ → ℕ → List ℕ
stored_to b to at p t zero = to
stored_to b to at p t (suc k) = set (stored_to b to at p t k) (at + k) (get_or b (p + k * t) 0)

pub row_stored : (b to : List ℕ) (at p t k : ℕ) → k ≡ value_length → stored_to b to at p t k ≡ sets to at (row b p t)
unfolding stored_to row
row_stored b to at p t k e =
    let here : at + 0 ≡ at = omega arith in
    let first : p + 0 * t ≡ p = omega arith in
    let second : p + 1 * t ≡ p + t = omega arith in
    rw (e, here, first, second)
    (eight to at (get_or b p 0) (get_or b (p + t) 0) (get_or b (p + 2 * t) 0) (get_or b (p + 3 * t) 0) (get_or b (p + 4 * t) 0) (get_or b (p + 5 * t) 0) (get_or b (p + 6 * t) 0) (get_or b (p + 7 * t) 0))

-- one value more
pub rows_stored : (b to : List ℕ) (at p t n : ℕ) {s s' : List ℕ} → s ≡ sets to at (rows b p t n) → s' ≡ sets s (at + value_length * n) (row b (p + n) t)
    → s' ≡ sets to at (rows b p t (suc n))
unfolding rows
rows_stored b to at p t n e e' = rw (e', e) (sets_join (rows b p t n) (row b (p + n) t) to at (at + value_length * n) (rw length_rows))

-- header, addresses and values, each behind the one before
pub record_stored : (b to : List ℕ) (at h a p t k : ℕ) {s1 s2 s3 : List ℕ} → h + header_length ≤ length b → a + k ≤ length b
    → s1 ≡ sets to at (take header_length (drop h b)) → s2 ≡ sets s1 (at + header_length) (take k (drop a b))
    → s3 ≡ sets s2 (at + header_length + k) (rows b p t k) → s3 ≡ sets to at (record_at b h a p t k)
unfolding record_at
record_stored b to at h a p t k hh ha e1 e2 e3 =
    let x = take header_length (drop h b) in
    let y = take k (drop a b) in
    let lx = length_part header_length h b hh in
    let ly = length_part k a b ha in
    rw (e3, e2, e1)
    (sets_join y (rows b p t k) (sets to at x) (at + header_length) (at + header_length + k) (omega arith)
    ∙ sets_join x (y ++ rows b p t k) to at (at + header_length) (omega arith))

pub length_record_at : (b : List ℕ) (h a p t k : ℕ) → h + header_length ≤ length b → a + k ≤ length b → length (record_at b h a p t k) ≡ record_length k 0
unfolding record_at
length_record_at b h a p t k hh ha =
    simp (length-append, length_rows) (omega (arith, length_part header_length h b hh, length_part k a b ha))

pub length_records_to : (b : List ℕ) (i : ℕ) → Agreed b → i ≤ record_count b → length (records_to b i) ≡ header_length * i + entry_length * entries_to b i
unfolding records_to record_in entries_to
length_records_to b zero g l = refl
length_records_to b (suc i) g l =
    let q = placed b i g l in
    rw (length-append, length_records_to b i g (omega arith), length_record_at b _ _ _ (entry_total b) _ q.header_there q.addresses_there) (omega arith)

-- the record at a place, where the code has its places from the counts
pub record_is : (b : List ℕ) (i : ℕ) {c t a q h k : ℕ} → c ≡ record_count b → t ≡ entry_total b → a ≡ header_at c → q ≡ entries_to b i → h ≡ header_at i
    → k ≡ size_at b h → record_at b h (a + q) (a + t + q) t k ≡ record_in b i
unfolding record_in
record_is b i ec et ea eq eh ek = rw (ek, eh, eq, ea, et, ec)

-- one record more
pub records_stored : (b to : List ℕ) (i : ℕ) {q : ℕ} {s s' x : List ℕ} → Agreed b → i < record_count b → q ≡ entries_to b i → s ≡ sets to 0 (records_to b i)
    → s' ≡ sets s (header_length * i + entry_length * q) x → x ≡ record_in b i → s' ≡ sets to 0 (records_to b (suc i))
unfolding records_to
records_stored b to i g l eq e e' ex =
    rw (e', e, ex, eq) (sets_join (records_to b i) (record_in b i) to 0 (header_length * i + entry_length * entries_to b i) (rw (length_records_to b i g (omega arith)) (omega arith)))
