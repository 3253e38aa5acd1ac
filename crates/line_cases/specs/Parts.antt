-- Parts of a message, read and written again: fields, zeros, sets and tables.
use Rattle.std.specs.Prelude.{ℕ, zero, suc, ◌+◌, ◌-◌, ◌*◌, ◌/◌, ◌%◌, ◌^◌, ◌≤◌, ◌<◌, ◌≡◌, Bool, List, [], ◌++◌, eqb, length, take, drop, get_or, replicate}
use Rattle.std.proofs.Math.Path.{refl}
use Rattle.std.proofs.Common.{sym, ap, subst, ◌∙◌, append_assoc, append-nil, zero-add, add-zero, pow-suc, arith, length-drop, take-append-drop, drop-drop, take_all}
use Rattle.std.proofs.Math.Seq.{drop-cons}
use Rattle.lists.specs.Bytes.{Bytes}
use Rattle.sets.specs.Base.{table}
use Rattle.sets.specs.Laws.{by_eq}
use Rattle.sets.proofs.Laws.{eqb_yes, eqb_no, eqb_same}
use Rattle.le.specs.Le.{u32_at}
use Rattle.le.specs.Width.{bytes, bytes_num_at}
use Rattle.le.specs.Laws.{u32_at_is}
use Rattle.layout.specs.Record.{value_length}
use Rattle.cells.specs.Bits.{tb}
use Rattle.line.specs.Messages.{address}
use Rattle.line.specs.Fields.{one_set_lem, no_sets, no_values, no_versions, bits_from, object_set, page_set}
use Rattle.message.specs.Layout.{kind_from, station_from, page_from, object_from, transaction_from, pages_from, version_from, sets_from, sets_length, second_set, values_from, version_width, behind_length, message_length, kind_of, station_of, page_of, object_of, transaction_of, pages_of, version_of, set_of, message}
use Rattle.message.specs.Accepted.{Zero, fields_fit}
use Rattle.message_meaning.specs.Meant.{objects_on, pages_in, sets_of}
use Rattle.message_meaning.specs.Numbers.{numbers}
use Rattle.line_cases.specs.Wire.{words}

-- THE FIELDS

-- a part, and what stands behind it
pub part_rest : (k a b : ℕ) (s : List ℕ) → b ≡ a + k → take k (drop a s) ++ drop b s ≡ drop a s
part_rest k a b s e = rw (e, ← drop-drop k a s) (take-append-drop k (drop a s))

pub two_join : (x y z : List ℕ) → (x ++ (y ++ [])) ++ z ≡ x ++ (y ++ z)
two_join x y z = append_assoc x (y ++ []) z ∙ ap (λ (l : List ℕ). x ++ (l ++ z)) (append-nil y)

module _ (m : List ℕ) (hm : Bytes m) (hl : values_from ≤ length m) where
  -- the message of the fields that are read is the one that they were read from, whatever follows
  fields_back : message (kind_of m) (station_of m) (page_of m) (object_of m) (transaction_of m) (pages_of m) (version_of m) (sets_of m) (drop values_from m) ≡ m
  unfolding message
  fields_back =
      rw (
        u32_at_is m transaction_from,
        u32_at_is m pages_from,
        u32_at_is m version_from,
        bytes_num_at 4 m transaction_from hm (omega arith),
        bytes_num_at 4 m pages_from hm (omega arith),
        bytes_num_at 4 m version_from hm (omega arith),
        part_rest sets_length sets_from values_from m refl,
        part_rest 4 version_from sets_from m refl,
        part_rest 4 pages_from version_from m refl,
        part_rest 4 transaction_from pages_from m refl,
        ← drop-cons m object_from 0 (omega arith),
        ← drop-cons m page_from 0 (omega arith),
        ← drop-cons m station_from 0 (omega arith),
        ← drop-cons m kind_from 0 (omega arith),
      )

  -- so it is the message of these fields
  pub made : {k i p o t d v : ℕ} {sets values : List ℕ} → kind_of m ≡ k → station_of m ≡ i → page_of m ≡ p → object_of m ≡ o → transaction_of m ≡ t
      → pages_of m ≡ d → version_of m ≡ v → sets_of m ≡ sets → drop values_from m ≡ values → m ≡ message k i p o t d v sets values
  made ek ei ep eo et ed ev es ex = sym fields_back ∙ rw (ek, ei, ep, eo, et, ed, ev, es, ex)

-- ZEROS: "Fields that a kind doesn't name are 0"

module _ (m : List ℕ) where
  -- a part of the zeros
  pub inside : (a n b k : ℕ) → Zero m a n → a ≤ b → b + k ≤ a + n → Zero m b k
  inside a n b k h l r i q =
      let place : a + (b - a + i) ≡ b + i = omega arith in
      subst (λ (j : ℕ). get_or m j 0 ≡ 0) place (h (b - a + i) (omega arith))

  pub zero_at : (a n : ℕ) → Zero m a n → 0 < n → get_or m a 0 ≡ 0
  zero_at a n h l = let place : a + 0 ≡ a = omega arith in subst (λ (j : ℕ). get_or m j 0 ≡ 0) place (h 0 l)

  pub zero_32 : (a : ℕ) → Zero m a 4 → u32_at m a ≡ 0
  unfolding u32_at
  zero_32 a h = omega (arith, zero_at a 4 h (omega arith), h 1 (omega arith), h 2 (omega arith), h 3 (omega arith))

  pub zero_part : (a n : ℕ) → Zero m a n → a + n ≤ length m → take n (drop a m) ≡ replicate n 0
  zero_part a zero h l = refl
  zero_part a (suc n) h l =
      let place : (i : ℕ) → a + suc i ≡ suc a + i = λ i. omega arith in
      let rest : Zero m (suc a) n = λ i q. subst (λ (j : ℕ). get_or m j 0 ≡ 0) (place i) (h (suc i) (omega arith)) in
      rw (drop-cons m a 0 (omega arith), zero_at a (suc n) h (omega arith), zero_part (suc a) n rest (omega arith))

-- SETS

-- the number of the bits that a number has
pub bits_back : (n i x : ℕ) (f : ℕ → Bool) → x < 2 ^ n → ((k : ℕ) → k < n → f (i + k) ≡ tb x k) → bits_from n i f ≡ x
unfolding tb
bits_back zero i x f l h = omega arith
bits_back (suc n) i x f l h =
    let now : f i ≡ eqb (x % 2) 1 = rw add-zero at (h 0 (omega arith)) in
    let place : (k : ℕ) → i + suc k ≡ suc i + k = λ k. omega arith in
    let next : (k : ℕ) → k < n → f (suc i + k) ≡ tb (x / 2) k = λ k q. subst (λ (j : ℕ). f j ≡ tb (x / 2) k) (place k) (h (suc k) (omega arith)) in
    let small : x < 2 ^ n * 2 = rw pow-suc at l in
    let rest : bits_from n (suc i) f ≡ x / 2 = bits_back n (suc i) (x / 2) f (omega arith) next in
    rw (now, rest) (by_eq (x % 2) 1 (λ e. rw e (omega (arith, eqb_yes (x % 2) 1 e))) (λ e. rw e (omega (arith, eqb_no (x % 2) 1 e))))

-- "In an object set (8 bits) bit i is object i"
pub set_of_page : (p set : ℕ) → set < 256 → object_set (objects_on p set) p ≡ set
set_of_page p set l =
    bits_back 8 (address p 0) set (objects_on p set) (omega arith)
    (λ k q.
    let page : (address p 0 + k) / 8 ≡ p = omega arith in
    let object : (address p 0 + k) % 8 ≡ k = omega arith in
    rw (page, object, eqb_same p))

-- "in a page set (32 bits) bit p is page p"
pub pages_back : (m : List ℕ) → Bytes m → page_set (pages_in (pages_of m)) ≡ pages_of m
pages_back m hm = bits_back 32 0 (pages_of m) (pages_in (pages_of m)) (fields_fit m hm).pages_fit (λ k q. ap (tb (pages_of m)) (zero-add k))

-- TABLES

pub table_same : {A : Type 0} (n j : ℕ) (f g : ℕ → A) → ((p : ℕ) → j ≤ p → p < j + n → f p ≡ g p) → table n j f ≡ table n j g
table_same zero j f g h = refl
table_same (suc n) j f g h = rw (h j (omega arith) (omega arith), table_same n (suc j) f g (λ p a b. h p (omega arith) (omega arith)))

pub table_join : (n k e : ℕ) (f : ℕ → ℕ) → table (n + k) e f ≡ table n e f ++ table k (e + n) f
table_join zero k e f = rw (zero-add, add-zero e)
table_join (suc n) k e f =
    let more : suc n + k ≡ suc (n + k) = omega arith in
    let place : e + suc n ≡ suc e + n = omega arith in
    rw (more, place, table_join n k (suc e) f)

pub table_back : (n j : ℕ) (s : List ℕ) → j + n ≤ length s → table n j (λ p. get_or s p 0) ≡ take n (drop j s)
table_back zero j s l = refl
table_back (suc n) j s l = rw (drop-cons s j 0 (omega arith), table_back n (suc j) s (omega arith))

pub words_table : (w n j : ℕ) (f : ℕ → ℕ) → words w (table n j f) ≡ numbers w f n j
unfolding numbers
words_table w zero j f = refl
words_table w (suc n) j f = rw (words_table w n (suc j) f)

-- WHAT STANDS BEHIND THE FIRST SET

-- no values and no versions of a page
abbrev pub none_behind : List ℕ
none_behind = words value_length no_values ++ (words version_width no_versions ++ [])

pub zero_behind : replicate behind_length 0 ≡ none_behind
unfolding bytes
zero_behind = refl

module _ (m : List ℕ) (hl : values_from ≤ length m) where
  -- "one set of a single page: byte 16"
  pub one_set : Zero m second_set (values_from - second_set) → sets_of m ≡ one_set_lem (set_of m 0)
  one_set z = rw (drop-cons m sets_from 0 (omega arith), zero_part m second_set (values_from - second_set) z (omega arith))

  pub no_sets_lem : Zero m sets_from sets_length → sets_of m ≡ no_sets
  no_sets_lem z = zero_part m sets_from sets_length z (omega arith)

module _ (m : List ℕ) (hl : length m ≡ message_length) where
  pub none_behind_lem : Zero m values_from behind_length → drop values_from m ≡ none_behind
  none_behind_lem z = sym (take_all behind_length (drop values_from m) (rw length-drop (omega arith))) ∙ zero_part m values_from behind_length z (omega arith) ∙ zero_behind

  -- from the page set on there is nothing
  pub none_from_pages : Zero m pages_from (message_length - pages_from) → (pages_of m ≡ 0) × (version_of m ≡ 0) × (sets_of m ≡ no_sets) × (drop values_from m ≡ none_behind)
  none_from_pages z = (
    zero_32 m pages_from (inside m pages_from (message_length - pages_from) pages_from 4 z (omega arith) (omega arith)),
    zero_32 m version_from (inside m pages_from (message_length - pages_from) version_from 4 z (omega arith) (omega arith)),
    no_sets_lem m (omega arith) (inside m pages_from (message_length - pages_from) sets_from sets_length z (omega arith) (omega arith)),
    none_behind_lem (inside m pages_from (message_length - pages_from) values_from behind_length z (omega arith) (omega arith)),
  )
