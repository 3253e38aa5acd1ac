-- The stores, one behind the other, leave the record's bytes.
use Prim.Native.Nat.{ℕ, zero, suc, ◌+◌, ◌*◌, ◌-◌, ◌≤◌, ◌<◌}
use Rattle.std.specs.Prelude.{◌≡◌, Bool, take, drop, get_or, set}
use Rattle.std.proofs.Math.Path.{refl, ap}
use Rattle.std.proofs.Common.{sym, ◌∙◌, arith, add-one, length-take, length-drop, drop_of_length-le, length-take-le, take-suc, take_at, drop_at}
use mathlib.Core.List.{List, [], ◌∷◌, ◌++◌, append_assoc, append-nil}
use Rattle.std.proofs.Math.Bool.{true, false, cond}
use Rattle.std.proofs.Math.ListN.{length, length-append}
use Rattle.std.proofs.lemmas.List.Edits.{sets}
use Rattle.std.proofs.lemmas.List.{set_comm}
use Rattle.std.proofs.Math.Seq.{length-sets}
use Rattle.lists.specs.Stores.{sets_join, sets_front, put_part, copy_whole}
use Rattle.le.specs.Le.{u64_at, set_u64}
use Rattle.le.specs.Width.{bytes, length_bytes}
use Rattle.sets.specs.Base.{Val, none, some}
use Rattle.cells.proofs.Le.{set_u64_is}
use Rattle.cells.specs.Loops.{rank}
use Rattle.cells.proofs.Loops.{rank_size}
use Rattle.layout.specs.Record.{header_length, value_length, entry_length, Entry, Record, entries, header, addresses, values, bytes_of}
use Rattle.entries.specs.Entries.{entry_if, entries_from_lem, entries_of}
use Rattle.entries.proofs.Entries.{from_snoc}
use Rattle.record.specs.Stores.{length_header}
use Rattle.record_meaning.proofs.LayoutLaws.{addresses_append, values_append, length_addresses, length_bytes_of}
use Rattle.station_state.specs.Layout.{member, count_in}
use Rattle.set_record.specs.Record.{values_at, record_from, filled, record_filled}
use Rattle.set_record.specs.Stores.{entry_one, entries_to, values_for, both_for}

-- a store in front of a run changes places with it
pub one_first : (y s : List ℕ) (p q v : ℕ) → p < q → set (sets s q y) p v ≡ sets (set s p v) q y
one_first [] s p q v h = refl
one_first (w ∷ y) s p q v h =
    one_first y (set s q w) p (suc q) v (omega arith) ∙ ap (λ (l : List ℕ). sets l (suc q) y) (set_comm s q p w v (λ e. omega arith))

-- a part that a callee filled from its start to its end
part_filled : (h s x : List ℕ) (a k : ℕ) → k ≡ length h → a + k ≤ length s → x ≡ sets (take k (drop a s)) 0 h
    → take a s ++ (x ++ drop k (drop a s)) ≡ sets s a h
part_filled h s x a k e fits ex =
    let p = take k (drop a s) in
    let there : k ≡ length p = simp (length-take, length-drop) (omega arith) in
    let whole : x ≡ h = rw (ex, sets_front h p k e (omega arith), drop_of_length-le p {i = k} (omega arith), append-nil) in
    put_part h x s a k whole e fits

-- THE LIST OF A SET'S ADDRESSES

-- an address behind the addresses, if so
entry_step : (o t : List ℕ) (i a v : ℕ) (l : List Entry) (b : Bool) → t ≡ sets o i (addresses l)
    → cond b (set t (i + length l) a) t ≡ sets o i (addresses (l ++ entry_if a (cond b (some v) none) []))
entry_step o t i a v l false e = rw append-nil e
entry_step o t i a v l true e = rw (addresses_append, e) (sets_join (addresses l) (a ∷ []) o i (i + length l) (rw length_addresses))

module _ (s : List ℕ) (at from : ℕ) where
  -- the entries of the addresses below n
  below : ℕ → List Entry
  below n = entries_from_lem n 0 (values_at s at from)

  below_none : below 0 ≡ []
  unfolding below entries_from_lem
  below_none = refl

  below_more : (n : ℕ) → below (suc n) ≡ below n ++ entry_if n (values_at s at from n) []
  unfolding below
  below_more n = from_snoc n 0 (values_at s at from) ∙ ap (λ (b : ℕ). below n ++ entry_if b (values_at s at from b) []) (omega arith)

  below_all : below 256 ≡ entries_of (values_at s at from)
  unfolding below entries_of
  below_all = refl

  length_below : (n : ℕ) → length (below n) ≡ rank (member s at) n
  unfolding rank
  length_below zero = rw below_none
  length_below (suc n) = rw (below_more n, length-append, length_below n) (one (member s at n))
    where
      one : (b : Bool) → rank (member s at) n + length (entry_if n (cond b (some (u64_at s (from + n * value_length))) none) []) ≡ rank (member s at) n + cond b 1 0
      one true = refl
      one false = refl

  pub length_all : length (entries_of (values_at s at from)) ≡ rank (member s at) 256
  length_all = rw (← below_all) (length_below 256)

  -- as many entries as the set has members
  pub length_counted : length (entries_of (values_at s at from)) ≡ count_in s at
  unfolding count_in
  length_counted = length_all ∙ rank_size (member s at) 256

  listed_below : (o : List ℕ) (i n : ℕ) → entries_to o s at i n ≡ sets o i (addresses (below n))
  unfolding entries_to entry_one
  listed_below o i zero = rw below_none
  listed_below o i (suc n) =
      rw (below_more n, ← length_below n)
      (entry_step o (entries_to o s at i n) i n (u64_at s (from + n * value_length)) (below n) (member s at n) (listed_below o i n))

  listed : (o : List ℕ) (i : ℕ) → entries_to o s at i 256 ≡ sets o i (addresses (entries_of (values_at s at from)))
  listed o i = rw (← below_all) (listed_below o i 256)

  -- the entries' values are those of their addresses
  values_from : (n a : ℕ) → values_for s from (addresses (entries_from_lem n a (values_at s at from))) ≡ values (entries_from_lem n a (values_at s at from))
  unfolding entries_from_lem values_for
  values_from zero a = refl
  values_from (suc n) a = one (member s at a) (entries_from_lem n (suc a) (values_at s at from)) (values_from n (suc a))
    where
      one : (b : Bool) (es : List Entry) → values_for s from (addresses es) ≡ values es
          → values_for s from (addresses (entry_if a (cond b (some (u64_at s (from + a * value_length))) none) es)) ≡ values (entry_if a (cond b (some (u64_at s (from + a * value_length))) none) es)
      one true es e = rw e
      one false es e = e

  values_of : values_for s from (addresses (entries_of (values_at s at from))) ≡ values (entries_of (values_at s at from))
  unfolding entries_of
  values_of = values_from 256 0

-- THE VALUES OF A LIST OF ADDRESSES

for_append : (s : List ℕ) (from : ℕ) (x y : List ℕ) → values_for s from (x ++ y) ≡ values_for s from x ++ values_for s from y
unfolding values_for
for_append s from [] y = refl
for_append s from (a ∷ x) y = rw (for_append s from x y, append_assoc)

length_for : (s : List ℕ) (from : ℕ) (x : List ℕ) → length (values_for s from x) ≡ length x * value_length
unfolding values_for
length_for s from [] = refl
length_for s from (a ∷ x) = rw (length-append, length_bytes, length_for s from x) (omega arith)

-- a turn of the loop over the addresses
pub values_turn : (o s : List ℕ) (from i : ℕ) (l : List ℕ) (c : ℕ) {d e : List ℕ} → c < length l → d ≡ sets o (i * value_length) (values_for s from (take c l))
    → e ≡ set_u64 d ((i + c) * value_length) (u64_at s (from + get_or l c 0 * value_length))
    → e ≡ sets o (i * value_length) (values_for s from (take (c + 1) l))
unfolding values_for
values_turn o s from i l c lt ed ee =
    let there : length (take c l) ≡ c = length-take-le c l (omega arith) in
    rw (add-one, take-suc l c 0 lt, for_append s from (take c l) (get_or l c 0 ∷ []), append-nil, ee, set_u64_is, ed)
    (sets_join (values_for s from (take c l)) (bytes value_length (u64_at s (from + get_or l c 0 * value_length))) o (i * value_length) ((i + c) * value_length)
    (rw (length_for s from (take c l), there) (omega arith)))

-- values behind values, from the start of a part to its end
pub values_filled : (p v w : List ℕ) (n : ℕ) {p₁ p₂ : List ℕ} → p₁ ≡ sets p (0 * value_length) v → p₂ ≡ sets p₁ (n * value_length) w
    → length v ≡ n * value_length → length p ≡ length (v ++ w) → p₂ ≡ v ++ w
values_filled p v w n e₁ e₂ hv hp =
    let start : 0 * value_length ≡ 0 = omega arith in
    rw (e₂, e₁, start, sets_join v w p 0 (n * value_length) (omega arith), sets_front (v ++ w) p (length (v ++ w)) refl (omega arith), drop_of_length-le p {i = length (v ++ w)} (omega arith), append-nil)

pub length_both : (s : List ℕ) (rv wv n : ℕ) (l : List ℕ) → n ≤ length l → length (both_for s rv wv n l) ≡ length l * value_length
length_both s rv wv n l h =
    let there : length (take n l) ≡ n = length-take-le n l h in
    rw (length-append, length_for s rv (take n l), length_for s wv (drop n l), there, length-drop) (omega arith)

pub length_first : (s : List ℕ) (rv n : ℕ) (l : List ℕ) → n ≤ length l → length (values_for s rv (take n l)) ≡ n * value_length
length_first s rv n l h = rw (length_for, length-take-le n l h)

-- the addresses through a part, then the values through the next
pub parts_put : (o l v : List ℕ) (e a b : ℕ) {y z : List ℕ} → a ≡ e + length l → b ≡ a + length v → b ≤ length o
    → y ≡ take (length l) l ++ drop (length l) (take (a - e) (drop e o)) → z ≡ v
    → take a (take e o ++ (y ++ drop (a - e) (drop e o))) ++ (z ++ drop (b - a) (drop a (take e o ++ (y ++ drop (a - e) (drop e o))))) ≡ sets o e (l ++ v)
parts_put o l v e a b {y} {z} ha hb fits ey ez =
    let p = take (a - e) (drop e o) in
    let there : length p ≡ length l = simp (length-take, length-drop) (omega arith) in
    let first : take e o ++ (y ++ drop (a - e) (drop e o)) ≡ sets o e l = put_part l y o e (a - e) (ey ∙ copy_whole l p there) (omega arith) (omega arith) in
    let same : length (sets o e l) ≡ length o = length-sets o e l in
    rw first (put_part v z (sets o e l) a (b - a) ez (omega arith) (omega arith) ∙ sets_join l v o e a ha)

-- THE RECORD, ITS SIZES AS LISTED

module _ (s : List ℕ) (ra rv wa wv commit transaction station kind n k : ℕ) (en : n ≡ 0 + rank (member s ra) 256) (ek : k ≡ n + rank (member s wa) 256) where
  abbrev whole : Record
  whole = record_from s ra rv wa wv commit transaction station kind

  reads_are : length whole.reads ≡ n
  reads_are = let l = length_all s ra rv in omega arith

  writes_are : length whole.writes ≡ k - n
  writes_are = let l = length_all s wa wv in omega arith

  reads_listed : length (addresses whole.reads) ≡ n
  reads_listed = length_addresses whole.reads ∙ reads_are

  -- the list behind both sets, lent from its start to its k-th
  pub both_listed : (l : List ℕ) {l₁ l₂ : List ℕ} → l₁ ≡ entries_to l s ra 0 256 → l₂ ≡ entries_to l₁ s wa n 256 → k ≤ length l → take (k - 0) l₂ ≡ addresses (entries whole)
  both_listed l e₁ e₂ fits =
      let r = addresses whole.reads in
      let w = addresses whole.writes in
      let lr = reads_listed in
      let lw = length_addresses whole.writes in
      let lx = writes_are in
      let la = length-append r w in
      let all : length (r ++ w) ≡ k = omega arith in
      let to-k : k - 0 ≡ k = omega arith in
      rw (to-k, e₂, listed s wa wv _ n, e₁, listed s ra rv l 0, sets_join r w l 0 n (omega arith), sets_front (r ++ w) l k (sym all) (omega arith))
      (take_at (r ++ w) (drop k l) k all ∙ sym (addresses_append whole.reads whole.writes))

  both_values : (l : List ℕ) → l ≡ addresses (entries whole) → both_for s rv wv n l ≡ values (entries whole)
  both_values l e =
      let r = addresses whole.reads in
      let w = addresses whole.writes in
      rw (e, addresses_append whole.reads whole.writes, take_at r w n reads_listed, drop_at r w n reads_listed, values_of s ra rv, values_of s wa wv)
      (sym (values_append whole.reads whole.writes))

  record_is : bytes_of whole ≡ header n (k - n) commit transaction station kind ++ (addresses (entries whole) ++ values (entries whole))
  unfolding bytes_of
  record_is = rw (reads_are, writes_are)

  record_length : length (bytes_of whole) ≡ header_length + entry_length * k
  record_length = length_bytes_of whole ∙ rw (reads_are, writes_are) (omega arith)

  -- where the record fits, its header and its entries do
  pub record_room : (base l : ℕ) → base + length (bytes_of whole) ≤ l → base + header_length + entry_length * k ≤ l
  record_room base l fits = omega (arith, record_length, fits)

  -- header, addresses and values, each behind the one before; as `put_record` calls, the header is put into a part
  pub record_filled_lem : (o : List ℕ) (base : ℕ) (l : List ℕ) {x o₂ : List ℕ} → l ≡ addresses (entries whole)
      → x ≡ sets (take (base + header_length - base) (drop base o)) 0 (header n (k - n) commit transaction station kind)
      → o₂ ≡ sets (take base o ++ (x ++ drop (base + header_length - base) (drop base o))) (base + header_length) (l ++ both_for s rv wv n l) → base + header_length ≤ length o
      → filled o₂ (header_length + entry_length * k) ≡ record_filled o base whole
  record_filled_lem o base l {x} el ex e₂ fits =
      let h = header n (k - n) commit transaction station kind in
      let size : base + header_length - base ≡ length h = rw length_header (omega arith) in
      let e₀ = part_filled h o x base (base + header_length - base) size (omega arith) ex in
      rw (e₂, e₀, both_values l el, el, record_length, record_is)
      (ap (λ (y : List ℕ). filled y (header_length + entry_length * k)) (sets_join h (addresses (entries whole) ++ values (entries whole)) o base (base + header_length) (rw length_header)))
