-- What a scan of records tells.
use Rattle.std.specs.Prelude.{ℕ, zero, suc, ◌+◌, ◌-◌, ◌*◌, ◌≤◌, ◌<◌, ◌≡◌, refl, List, Bool, true, false, cond, length, take, drop, eqb, ltb, Result, Ok, Err, IsErrAnd}
use Rattle.std.proofs.Common.{ap, ◌∙◌, ⊎_elim, eq-or-lt_of_le, le_of_suc-le-suc, not-suc-le-zero, arith, length-drop, ltb-true, ltb-false, eqb-true, lt-ltb, le-ltb, eq-eqb, ne_eqb}
use Rattle.std.proofs.lemmas.Bool.{eqb-false}
use Rattle.layout.specs.Record.{header_length, value_length, entry_length, most_entries, record_length}
use Rattle.record.specs.Check.{check_of, head_at, addresses_rise, length_of}
use Rattle.record.specs.Facts.{accepted}
use Rattle.lists.specs.Tests.{and_l}
use Rattle.lists.specs.Stores.{to_the_end}
use Rattle.block.specs.Block.{most_records}
use Rattle.block.specs.Places.{size_at}
use Rattle.block.specs.Facts.{size_at_is, head_size}
use Rattle.refusals.specs.declared.Refusal.{Refusal}
use Rattle.refusals.specs.Refusals.{number_of}
use Rattle.block_writer.specs.declared.Counts.{Counts}
use Rattle.block_writer.specs.Write.{Scanned, Finds, scanned, scan_from, scan_of, start_of, entries_in}

-- the places of the first c records
pub starts : (s : List ℕ) (c : ℕ) → start_of s c ≡ header_length * c + entry_length * entries_in s c
unfolding start_of entries_in
starts s zero = refl
starts s (suc c) = omega (arith, starts s c)

-- a record ends before the next ones do
pub ends_within : (s : List ℕ) (i c : ℕ) → i < c → start_of s i + record_length (size_at s (start_of s i)) 0 ≤ start_of s c
unfolding start_of
ends_within s i zero l = absurd (not-suc-le-zero l)
ends_within s i (suc c) l =
    ⊎_elim (λ e. rw e (omega arith)) (λ m. omega (arith, ends_within s i c m)) (eq-or-lt_of_le (le_of_suc-le-suc l))

pub entries_before : (s : List ℕ) (i c : ℕ) → i < c → entries_in s i + size_at s (start_of s i) ≤ entries_in s c
unfolding entries_in
entries_before s i zero l = absurd (not-suc-le-zero l)
entries_before s i (suc c) l =
    ⊎_elim (λ e. rw e (omega arith)) (λ m. omega (arith, entries_before s i c m)) (eq-or-lt_of_le (le_of_suc-le-suc l))

-- an accepted record at a place: its length by its sizes, and that it is there
pub record Checked (s : List ℕ) (at : ℕ) : Type 0 where
  pub length_is : length_of (drop at s) ≡ record_length (size_at s at) 0
  pub there : record_length (size_at s at) 0 ≤ length s - at
  pub size : size_at s at ≤ 2 * most_entries

pub checked : (s : List ℕ) (at : ℕ) → check_of (drop at s) ≡ 0 → Checked s at
checked s at h =
    let a = accepted (drop at s) h in
    let e = size_at_is s at in
    let d = length-drop at s in
    record {
      length_is = omega arith;
      there = omega (arith, a.all_there);
      size = head_size s at (and_l (head_at (drop at s)) (addresses_rise (drop at s)) a.layout);
    }

-- record check of the bytes from `at` on, as they are lent
pub check_lent : (s : List ℕ) (at : ℕ) {n : ℕ} → n ≡ check_of (take (length s - at) (drop at s)) → n ≡ check_of (drop at s)
check_lent s at e = e ∙ ap check_of (to_the_end s at)

-- one turn of the scan, with i records behind it: a record more, a 65th, a record that is refused, the end
pub scan_turn : (s : List ℕ) (at i e : ℕ) → i < most_records → at < length s → check_of (drop at s) ≡ 0
    → scan_from (most_records - i) s at i e ≡ scan_from (most_records - suc i) s (at + record_length (size_at s at) 0) (suc i) (e + size_at s at)
unfolding scan_from
scan_turn s at i e hi ha h =
    let r : most_records - i ≡ suc (most_records - suc i) = omega arith in
    rw (r, lt-ltb at (length s) ha, eq-eqb (check_of (drop at s)) 0 h)

pub scan_full : (s : List ℕ) (at i e : ℕ) → i ≡ most_records → at < length s → scan_from (most_records - i) s at i e ≡ scanned 21 i e
unfolding scan_from
scan_full s at i e hi ha =
    let r : most_records - i ≡ 0 = omega arith in
    rw (r, lt-ltb at (length s) ha)

pub scan_refused : (s : List ℕ) (at i e : ℕ) → i < most_records → at < length s → (check_of (drop at s) ≡ 0 → ⊥)
    → scan_from (most_records - i) s at i e ≡ scanned (check_of (drop at s)) i e
unfolding scan_from
scan_refused s at i e hi ha h =
    let r : most_records - i ≡ suc (most_records - suc i) = omega arith in
    rw (r, lt-ltb at (length s) ha, ne_eqb (check_of (drop at s)) 0 h)

pub scan_ends : (room : ℕ) (s : List ℕ) (at i e : ℕ) → length s ≤ at → scan_from room s at i e ≡ scanned 0 i e
unfolding scan_from
scan_ends zero s at i e h = rw (le-ltb at (length s) h)
scan_ends (suc room) s at i e h = rw (le-ltb at (length s) h)

-- a refused scan
pub finds_refusal : (r : Result Counts Refusal) (why : Refusal) (x : Scanned) → IsErrAnd r (λ y. y ≡ why) → number_of why ≡ x.number → Finds r x
finds_refusal (Ok n) why x e h = absurd e
finds_refusal (Err y) why x e h = ap number_of e ∙ h

-- records that a scan accepts: c of them, t entries, each checked, and nothing behind them
pub record Whole (s : List ℕ) (c t : ℕ) : Type 0 where
  pub at_most : c ≤ most_records
  pub ends : start_of s c ≡ length s
  pub total_is : entries_in s c ≡ t
  pub each : (i : ℕ) → i < c → check_of (drop (start_of s i) s) ≡ 0

-- so far
record SoFar (s : List ℕ) (room at i e : ℕ) : Type 0 where
  room_is : i + room ≡ most_records
  at_is : start_of s i ≡ at
  within : at ≤ length s
  entries_are : entries_in s i ≡ e
  each : (j : ℕ) → j < i → check_of (drop (start_of s j) s) ≡ 0

more : (s : List ℕ) (room at i e : ℕ) → SoFar s (suc room) at i e → at < length s → check_of (drop at s) ≡ 0
    → SoFar s room (at + record_length (size_at s at) 0) (suc i) (e + size_at s at)
unfolding start_of entries_in
more s room at i e f ha h =
    let k = checked s at h in
    let last : check_of (drop (start_of s i) s) ≡ 0 = rw f.at_is h in
    record {
      room_is = omega (arith, f.room_is);
      at_is = rw f.at_is;
      within = omega (arith, k.there);
      entries_are = rw (f.at_is, f.entries_are);
      each = λ j l. ⊎_elim (λ q. rw q last) (λ m. f.each j m) (eq-or-lt_of_le (le_of_suc-le-suc l));
    }

done : (s : List ℕ) (room at i e : ℕ) → SoFar s room at i e → length s ≤ at → Whole s i e
done s room at i e f h =
    record { at_most = omega (arith, f.room_is); ends = omega (arith, f.at_is, f.within); total_is = f.entries_are; each = f.each }

scan_from_lem : (room : ℕ) (s : List ℕ) (at i e : ℕ) → SoFar s room at i e → (scan_from room s at i e).number ≡ 0
    → Whole s (scan_from room s at i e).count (scan_from room s at i e).total
unfolding scan_from
scan_from_lem zero s at i e f h = by_test (ltb at (length s)) refl h
  where
    by_test : (b : Bool) → ltb at (length s) ≡ b → (cond b (scanned 21 i e) (scanned 0 i e)).number ≡ 0
        → Whole s (cond b (scanned 21 i e) (scanned 0 i e)).count (cond b (scanned 21 i e) (scanned 0 i e)).total
    by_test true eb z = absurd (omega arith)
    by_test false eb z = done s zero at i e f (ltb-false _ _ eb)
scan_from_lem (suc room) s at i e f h =
    by_test (ltb at (length s)) (eqb (check_of (drop at s)) 0) refl refl (λ g z. scan_from_lem room s (at + record_length (size_at s at) 0) (suc i) (e + size_at s at) g z) h
  where
    next : Scanned
    next = scan_from room s (at + record_length (size_at s at) 0) (suc i) (e + size_at s at)

    refused : Scanned
    refused = scanned (check_of (drop at s)) i e

    by_test : (b d : Bool) → ltb at (length s) ≡ b → eqb (check_of (drop at s)) 0 ≡ d
        → (SoFar s room (at + record_length (size_at s at) 0) (suc i) (e + size_at s at) → next.number ≡ 0 → Whole s next.count next.total)
        → (cond b (cond d next refused) (scanned 0 i e)).number ≡ 0
        → Whole s (cond b (cond d next refused) (scanned 0 i e)).count (cond b (cond d next refused) (scanned 0 i e)).total
    by_test false d eb ed rest z = done s (suc room) at i e f (ltb-false _ _ eb)
    by_test true false eb ed rest z = absurd (eqb-false _ _ ed z)
    by_test true true eb ed rest z = rest (more s room at i e f (ltb-true _ _ eb) (eqb-true _ _ ed)) z

-- what an accepting scan tells
pub whole : (s : List ℕ) → (scan_of s).number ≡ 0 → (0 < length s) × Whole s (scan_of s).count (scan_of s).total
unfolding scan_of start_of entries_in
whole s h = by_test (eqb (length s) 0) refl h
  where
    all : Scanned
    all = scan_from most_records s 0 0 0

    by_test : (b : Bool) → eqb (length s) 0 ≡ b → (cond b (scanned 21 0 0) all).number ≡ 0
        → (0 < length s) × Whole s (cond b (scanned 21 0 0) all).count (cond b (scanned 21 0 0) all).total
    by_test true eb z = absurd (omega arith)
    by_test false eb z = (
      omega (arith, eqb-false (length s) 0 eb),
      scan_from_lem most_records s 0 0 0
          (record { room_is = refl; at_is = refl; within = omega arith; entries_are = refl; each = λ j l. absurd (not-suc-le-zero l) }) z,
    )

-- records that are there: what is known of record i of c, of k entries, which starts at `at`, with q entries before it
pub record Lies (s : List ℕ) (i c at q k : ℕ) : Type 0 where
  pub header_there : at + header_length ≤ length s
  pub addresses_there : at + header_length + k ≤ length s
  pub values_there : at + header_length + k + value_length * k ≤ length s
  pub entries_there : q + k ≤ entries_in s c
  pub next : (start_of s (suc i) ≡ at + record_length k 0) × (entries_in s (suc i) ≡ q + k)
  pub all : start_of s c ≡ header_length * c + entry_length * entries_in s c

pub lies : (s : List ℕ) (i c : ℕ) {at q k : ℕ} → i < c → start_of s c ≤ length s → at ≡ start_of s i → q ≡ entries_in s i → k ≡ size_at s at → Lies s i c at q k
unfolding start_of entries_in
lies s i c l h ea eq ek =
    let k = ek ∙ ap (size_at s) ea in
    let w = ends_within s i c l in
    let v = entries_before s i c l in
    record {
      header_there = omega arith;
      addresses_there = omega arith;
      values_there = omega arith;
      entries_there = omega arith;
      next = (omega arith, omega arith);
      all = starts s c;
    }

-- accepted records have so many entries at most
pub few_entries : (s : List ℕ) (c : ℕ) → ((i : ℕ) → i < c → check_of (drop (start_of s i) s) ≡ 0) → entries_in s c ≤ 2 * most_entries * c
unfolding entries_in
few_entries s zero h = omega arith
few_entries s (suc c) h = omega (arith, few_entries s c (λ i l. h i (omega arith)), (checked s (start_of s c) (h c (omega arith))).size)
