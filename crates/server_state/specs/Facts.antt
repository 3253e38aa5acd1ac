-- What number 1 tells of a state that passes.
use Rattle.std.specs.Prelude.{ℕ, zero, suc, ◌+◌, ◌*◌, ◌-◌, ◌/◌, ◌%◌, ◌≤◌, ◌<◌, ◌≡◌, refl, List, ◌≢◌, Bool, false, not, ◌&&◌, ◌||◌, cond, length, get_or, ltb}
use Rattle.std.proofs.Common.{sym, ap, ◌∙◌, arith}
use Rattle.std.proofs.Math.Bool.{true}
use Rattle.std.proofs.Math.Dec.{eqb, leb}
use Rattle.std.specs.Int.Bits.{bit_or}
use borrow.Author.Tests.{eqb-true, eqb-false, ltb-true, leb-true, not-true, ltb-false, eq-eqb, ne_eqb}
use Rattle.le.specs.Le.{u64_at}
use Rattle.lists.specs.Tests.{all_to, all_to_at, all_to_of, and_l, and_r}
use Rattle.sets.specs.Laws.{by_b}
use Rattle.limits.specs.Limit.{limit}
use Rattle.kinds.specs.Kinds.{most_kind}
use Rattle.station_state.specs.Layout.{has_bit, count_in, none_in}
use Rattle.station_state.specs.Sets.{eight_bytes}
use Rattle.server_state.specs.Layout.{counter_limit, kind_from, want_from, called_from, unfinished_from, server_length, age_of, arrival_of, ages_of, arrivals_of, work_number, latest_of, asked_of, lock_from, lock_of, whole_of, read_set_from, written_set_from, kind_of, want_of, request_of, called_of_lem, pend_of, busy_of, unfinished_of, age_kept_from, age_kept_of, whole_for_of, locking_b, keeps_b}
use Rattle.server_state.specs.Valid.{most_at, most, ranges_ok, counters_ok, word_of, only_in, page_only, blank_ok_lem, few_ok, commit_ok, write_ok, request_ok, waiter_ok, entry_ok, owes_at, calls_ok, aged_ok, station_ok, holder_ok_lem, holder_at, beside_at, given_ok, whole_ok, page_ok, asked_at, apart_at, apart_ok, valid, kinds_ok, ageless}

-- TESTS

-- one of two passes, and not the first
pub or_else : (a b : Bool) → a ≡ false → a || b ≡ true → b ≡ true
or_else a b e h = rw e at h

pub all_3 : (a b c : Bool) → a && b && c ≡ true → (a ≡ true) × (b ≡ true) × (c ≡ true)
all_3 a b c h = let u = and_l (a && b) c h in (and_l a b u, and_r a b u, and_r (a && b) c h)

all_4 : (a b c d : Bool) → a && b && c && d ≡ true → (a ≡ true) × (b ≡ true) × (c ≡ true) × (d ≡ true)
all_4 a b c d h = let u = all_3 a b c (and_l (a && b && c) d h) in (u.0, u.1, u.2, and_r (a && b && c) d h)

-- the way that was taken
taken : (a b c : Bool) → a ≡ true → cond a b c ≡ true → b ≡ true
taken a b c e h = rw e at h

passed : (a b c : Bool) → a ≡ false → cond a b c ≡ true → c ≡ true
passed a b c e h = rw e at h

pub most_at_lem : (s : List ℕ) (at n m : ℕ) → most s at n m ≡ true → (k : ℕ) → k < m → get_or s (at + k) 0 ≤ n
unfolding most most_at
most_at_lem s at n m h k l = leb-true (get_or s (at + k) 0) n (all_to_at (most_at s at n) m h k l)

-- WHAT A STATE THAT PASSES HAS

-- the entry of a station that waits for nothing
pub record Blank (s : List ℕ) (i : ℕ) : Type 0 where
  pub arrival_is : arrival_of s i ≡ 0
  pub request_is : request_of s i ≡ 0
  pub nothing_read : none_in s (read_set_from i) ≡ true
  pub nothing_written : none_in s (written_set_from i) ≡ true

-- a read: one object
pub record One (s : List ℕ) (i : ℕ) : Type 0 where
  pub locks : locking_b s i ≡ true
  pub requested : only_in s (read_set_from i) (request_of s i) ≡ true
  pub nothing_else : none_in s (written_set_from i) ≡ true

-- a write: objects of one page
pub record OnPage (s : List ℕ) (i : ℕ) : Type 0 where
  pub locks : locking_b s i ≡ true
  pub stands : request_of s i % 8 ≡ 0
  pub page_only_lem : page_only s (written_set_from i) (request_of s i / 8) ≡ true
  pub nothing_else : none_in s (read_set_from i) ≡ true

pub record Work (s : List ℕ) (i : ℕ) : Type 0 where
  pub validates : kind_of s i ≡ 1
  pub request_is : request_of s i ≡ 0
  pub latest_is : work_number s i ≡ latest_of s i
  pub reads_few : count_in s (read_set_from i) ≤ limit
  pub writes_few : count_in s (written_set_from i) ≤ limit

-- the entry of one that waits
pub record Waiter (s : List ℕ) (i : ℕ) : Type 0 where
  pub unfinished : unfinished_of s i ≢ 0
  pub arrival_given : arrival_of s i < arrivals_of s
  pub read : want_of s i ≡ 1 → One s i
  pub write : want_of s i ≡ 2 → OnPage s i
  pub commit : want_of s i ≡ 3 → Work s i

-- its 20s
pub record Called (s : List ℕ) (i : ℕ) : Type 0 where
  pub wants : 2 ≤ want_of s i
  pub busy_owes : bit_or (busy_of s i) (pend_of s i) ≡ pend_of s i
  pub owes : (j : ℕ) → j < 8 → has_bit (pend_of s i) j ≡ true → (j ≢ i) × (locking_b s j ≡ true)

-- an object lock's holder
pub record Holder (s : List ℕ) (h : ℕ) : Type 0 where
  pub station : h < 8
  pub locks : locking_b s h ≡ true
  pub unfinished : unfinished_of s h ≢ 0

-- a whole lock's holder, and the transaction t that it was given to
pub record WholeHolder (s : List ℕ) (h t : ℕ) : Type 0 where
  pub station : h < 8
  pub locks : locking_b s h ≡ true
  pub named : t ≢ 0
  pub seen : t ≤ latest_of s h
  pub unfinished : keeps_b s h ≡ false → unfinished_of s h ≢ 0
  pub latest_is : keeps_b s h ≡ false → t ≡ latest_of s h

pub record Ranged (s : List ℕ) : Type 0 where
  pub size : length s ≡ server_length
  pub kind_fits : (i : ℕ) → i < 8 → kind_of s i ≤ most_kind
  pub want_fits : (i : ℕ) → i < 8 → want_of s i ≤ 3
  pub called_fits : (i : ℕ) → i < 8 → called_of_lem s i ≤ 1
  pub unfinished_fits : (i : ℕ) → i < 8 → unfinished_of s i ≤ 1
  pub age_kept_fits : (i : ℕ) → i < 8 → age_kept_of s i ≤ 1
  pub ages_fit : ages_of s < counter_limit
  pub arrivals_fit : arrivals_of s < counter_limit
  pub age_given : (i : ℕ) → i < 8 → age_of s i < ages_of s
  pub named : (i : ℕ) → i < 8 → unfinished_of s i ≢ 0 → latest_of s i ≢ 0
  pub blank : (i : ℕ) → i < 8 → want_of s i ≡ 0 → Blank s i
  pub waiter : (i : ℕ) → i < 8 → want_of s i ≢ 0 → Waiter s i
  pub uncalled : (i : ℕ) → i < 8 → called_of_lem s i ≡ 0 → (pend_of s i ≡ 0) × (busy_of s i ≡ 0)
  pub called : (i : ℕ) → i < 8 → called_of_lem s i ≢ 0 → Called s i
  pub lock_held : (p o h : ℕ) → p < 32 → o < 8 → lock_of s (p * 8 + o) ≡ h + 1 → Holder s h
  pub whole_held : (p h : ℕ) → p < 32 → whole_of s p ≡ h + 1 → WholeHolder s h (whole_for_of s p)
  pub none_given : (p : ℕ) → p < 32 → whole_of s p ≡ 0 → whole_for_of s p ≡ 0
  -- beside a whole lock there are only its holder's locks
  pub beside : (p o : ℕ) → p < 32 → o < 8 → whole_of s p ≢ 0 → lock_of s (p * 8 + o) ≢ 0 → lock_of s (p * 8 + o) ≡ whole_of s p
  pub asked_held : (p : ℕ) → p < 32 → has_bit (asked_of s) p ≡ true → whole_of s p ≢ 0
  pub ages_apart : (i j : ℕ) → i < 8 → j < 8 → i ≢ j → ageless s i ≡ false → ageless s j ≡ false → age_of s i ≢ age_of s j
  pub arrivals_apart : (i j : ℕ) → i < 8 → j < 8 → i ≢ j → want_of s i ≢ 0 → want_of s j ≢ 0 → arrival_of s i ≢ arrival_of s j

-- A STATION

module _ (s : List ℕ) (i : ℕ) where
  pub blank_of : blank_ok_lem s i ≡ true → Blank s i
  unfolding blank_ok_lem
  blank_of h =
      let u = all_4 (eqb (arrival_of s i) 0) (eqb (request_of s i) 0) (none_in s (read_set_from i)) (none_in s (written_set_from i)) h in
      record { arrival_is = eqb-true _ _ u.0; request_is = eqb-true _ _ u.1; nothing_read = u.2; nothing_written = u.3 }

  commit_of : commit_ok s i ≡ true → Work s i
  unfolding commit_ok few_ok
  commit_of h =
      let u = all_4 (eqb (kind_of s i) 1) (eqb (request_of s i) 0) (eqb (work_number s i) (latest_of s i)) (few_ok s i) h in
      let reads = leb (count_in s (read_set_from i)) limit in
      record {
        validates = eqb-true _ _ u.0;
        request_is = eqb-true _ _ u.1;
        latest_is = eqb-true _ _ u.2;
        reads_few = leb-true _ _ (and_l reads _ u.3);
        writes_few = leb-true _ _ (and_r reads _ u.3);
      }

  abbrev reads : Bool
  reads = only_in s (read_set_from i) (request_of s i) && none_in s (written_set_from i)

  read_of : request_ok s i ≡ true → want_of s i ≡ 1 → One s i
  unfolding request_ok
  read_of h e =
      let one : reads ≡ true = taken (eqb (want_of s i) 1) reads (write_ok s i) (eq-eqb _ _ e) (and_r (locking_b s i) _ h) in
      record { locks = and_l (locking_b s i) _ h; requested = and_l (only_in s (read_set_from i) (request_of s i)) _ one; nothing_else = and_r (only_in s (read_set_from i) (request_of s i)) _ one }

  write_of : request_ok s i ≡ true → want_of s i ≡ 2 → OnPage s i
  unfolding request_ok write_ok
  write_of h e =
      let u = all_3 (eqb (request_of s i % 8) 0) (page_only s (written_set_from i) (request_of s i / 8)) (none_in s (read_set_from i))
      (passed (eqb (want_of s i) 1) reads (write_ok s i) (ne_eqb (want_of s i) 1 (λ z. omega (arith, z, e))) (and_r (locking_b s i) _ h)) in
      record { locks = and_l (locking_b s i) _ h; stands = eqb-true _ _ u.0; page_only_lem = u.1; nothing_else = u.2 }

  waiter_of : waiter_ok s i ≡ true → Waiter s i
  unfolding waiter_ok
  waiter_of h =
      let u = all_3 (not (eqb (unfinished_of s i) 0)) (ltb (arrival_of s i) (arrivals_of s)) (cond (eqb (want_of s i) 3) (commit_ok s i) (request_ok s i)) h in
      let request : want_of s i ≢ 3 → request_ok s i ≡ true = λ n. passed (eqb (want_of s i) 3) (commit_ok s i) (request_ok s i) (ne_eqb _ _ n) u.2 in
      record {
        unfinished = eqb-false _ _ (not-true (eqb (unfinished_of s i) 0) u.0);
        arrival_given = ltb-true _ _ u.1;
        read = λ e. read_of (request (λ z. omega (arith, z, e))) e;
        write = λ e. write_of (request (λ z. omega (arith, z, e))) e;
        commit = λ e. commit_of (taken (eqb (want_of s i) 3) (commit_ok s i) (request_ok s i) (eq-eqb _ _ e) u.2);
      }

  called_of : calls_ok s i ≡ true → called_of_lem s i ≢ 0 → Called s i
  unfolding calls_ok owes_at
  called_of h n =
      let none = eqb (pend_of s i) 0 && eqb (busy_of s i) 0 in
      let some = leb 2 (want_of s i) && eqb (bit_or (busy_of s i) (pend_of s i)) (pend_of s i) && all_to (owes_at s i) 8 in
      let u = all_3 (leb 2 (want_of s i)) (eqb (bit_or (busy_of s i) (pend_of s i)) (pend_of s i)) (all_to (owes_at s i) 8) (passed (eqb (called_of_lem s i) 0) none some (ne_eqb _ _ n) h) in
      record {
        wants = leb-true _ _ u.0;
        busy_owes = eqb-true _ _ u.1;
        owes = λ j l e.
            let v = or_else (not (has_bit (pend_of s i) j)) (not (eqb j i) && locking_b s j) (rw e) (all_to_at (owes_at s i) 8 u.2 j l) in
            (eqb-false _ _ (not-true (eqb j i) (and_l (not (eqb j i)) _ v)), and_r (not (eqb j i)) _ v);
      }

  uncalled_of : calls_ok s i ≡ true → called_of_lem s i ≡ 0 → (pend_of s i ≡ 0) × (busy_of s i ≡ 0)
  unfolding calls_ok
  uncalled_of h e =
      let none = eqb (pend_of s i) 0 && eqb (busy_of s i) 0 in
      let u : none ≡ true = taken (eqb (called_of_lem s i) 0) none _ (eq-eqb _ _ e) h in
      (eqb-true _ _ (and_l (eqb (pend_of s i) 0) _ u), eqb-true _ _ (and_r (eqb (pend_of s i) 0) _ u))

  module _ (h : station_ok s i ≡ true) where
    parts : (aged_ok s i ≡ true) × (entry_ok s i ≡ true) × (calls_ok s i ≡ true)
    unfolding station_ok
    parts = all_3 (aged_ok s i) (entry_ok s i) (calls_ok s i) h

    station_age : age_of s i < ages_of s
    unfolding aged_ok
    station_age = ltb-true _ _ (and_l (ltb (age_of s i) (ages_of s)) _ parts.0)

    station_named : unfinished_of s i ≢ 0 → latest_of s i ≢ 0
    unfolding aged_ok
    station_named n =
        eqb-false _ _
        (not-true (eqb (latest_of s i) 0)
        (or_else (eqb (unfinished_of s i) 0) (not (eqb (latest_of s i) 0)) (ne_eqb _ _ n) (and_r (ltb (age_of s i) (ages_of s)) _ parts.0)))

    station_blank : want_of s i ≡ 0 → Blank s i
    unfolding entry_ok
    station_blank e = blank_of (taken (eqb (want_of s i) 0) (blank_ok_lem s i) (waiter_ok s i) (eq-eqb _ _ e) parts.1)

    station_waiter : want_of s i ≢ 0 → Waiter s i
    unfolding entry_ok
    station_waiter n = waiter_of (passed (eqb (want_of s i) 0) (blank_ok_lem s i) (waiter_ok s i) (ne_eqb _ _ n) parts.1)

-- LOCKS

holder_of : (s : List ℕ) (h : ℕ) → holder_ok_lem s (h + 1) ≡ true → Holder s h
unfolding holder_ok_lem
holder_of s h e =
    let one : h + 1 - 1 ≡ h = omega arith in
    let z : (leb (h + 1) 8 && locking_b s h && not (eqb (unfinished_of s h) 0)) ≡ true = rw (one, ne_eqb (h + 1) 0 (λ q. omega (arith, q))) at e in
    let u = all_3 (leb (h + 1) 8) (locking_b s h) (not (eqb (unfinished_of s h) 0)) z in
    record { station = omega (arith, leb-true (h + 1) 8 u.0); locks = u.1; unfinished = eqb-false _ _ (not-true (eqb (unfinished_of s h) 0) u.2) }

given_of : (s : List ℕ) (h t : ℕ) → h < 8 → locking_b s h ≡ true → given_ok s h t ≡ true → WholeHolder s h t
unfolding given_ok
given_of s h t l k e =
    let live = not (eqb (unfinished_of s h) 0) in
    let named = not (eqb t 0) in
    let rest = cond (keeps_b s h) (leb t (latest_of s h)) (live && eqb t (latest_of s h)) in
    let own : keeps_b s h ≡ false → live && eqb t (latest_of s h) ≡ true = λ n. passed (keeps_b s h) (leb t (latest_of s h)) (live && eqb t (latest_of s h)) n (and_r named rest e) in
    record {
      station = l;
      locks = k;
      named = eqb-false _ _ (not-true (eqb t 0) (and_l named rest e));
      seen =
          by_b (keeps_b s h) (λ y. leb-true _ _ (taken (keeps_b s h) (leb t (latest_of s h)) (live && eqb t (latest_of s h)) y (and_r named rest e)))
          (λ n. omega (arith, eqb-true t (latest_of s h) (and_r live (eqb t (latest_of s h)) (own n))));
      unfinished = λ n. eqb-false _ _ (not-true (eqb (unfinished_of s h) 0) (and_l live (eqb t (latest_of s h)) (own n)));
      latest_is = λ n. eqb-true t (latest_of s h) (and_r live (eqb t (latest_of s h)) (own n));
    }

module _ (s : List ℕ) (p : ℕ) (h : page_ok s p ≡ true) where
  whole_part : whole_ok s p ≡ true
  unfolding page_ok
  whole_part = and_l (whole_ok s p) (all_to (holder_at s p) 8) h

  page_none : whole_of s p ≡ 0 → whole_for_of s p ≡ 0
  unfolding whole_ok
  page_none e = let w = whole_part in eqb-true _ _ (rw e at w)

  page_held : whole_of s p ≢ 0 → (leb (whole_of s p) 8 ≡ true) × (locking_b s (whole_of s p - 1) ≡ true) × (given_ok s (whole_of s p - 1) (whole_for_of s p) ≡ true) × (all_to (beside_at s p) 8 ≡ true)
  unfolding whole_ok
  page_held n =
      let a = leb (whole_of s p) 8 in
      let b = locking_b s (whole_of s p - 1) in
      let c = given_ok s (whole_of s p - 1) (whole_for_of s p) in
      let d = all_to (beside_at s p) 8 in
      all_4 a b c d (passed (eqb (whole_of s p) 0) (eqb (whole_for_of s p) 0) (a && b && c && d) (ne_eqb _ _ n) whole_part)

  page_whole : (k : ℕ) → whole_of s p ≡ k + 1 → WholeHolder s k (whole_for_of s p)
  page_whole k e =
      let u = page_held (λ z. omega (arith, z, e)) in
      let one : whole_of s p - 1 ≡ k = omega (arith, e) in
      given_of s k (whole_for_of s p) (omega (arith, e, leb-true (whole_of s p) 8 u.0)) (rw one at u.1) (rw one at u.2)

  page_beside : (o : ℕ) → o < 8 → whole_of s p ≢ 0 → lock_of s (p * 8 + o) ≢ 0 → lock_of s (p * 8 + o) ≡ whole_of s p
  unfolding beside_at
  page_beside o l w n =
      let here = all_to_at (beside_at s p) 8 (page_held w).3 o l in
      eqb-true _ _ (or_else (eqb (lock_of s (p * 8 + o)) 0) (eqb (lock_of s (p * 8 + o)) (whole_of s p)) (ne_eqb _ _ n) here)

  page_lock : (o k : ℕ) → o < 8 → lock_of s (p * 8 + o) ≡ k + 1 → Holder s k
  unfolding page_ok holder_at
  page_lock o k l e = holder_of s k (rw e at (all_to_at (holder_at s p) 8 (and_r (whole_ok s p) (all_to (holder_at s p) 8) h) o l))

-- TWO STATIONS

module _ (s : List ℕ) (i j : ℕ) (h : apart_at s i j ≡ true) where
  abbrev ages : Bool
  ages = ageless s i || ageless s j || not (eqb (age_of s i) (age_of s j))

  abbrev arrivals : Bool
  arrivals = eqb (want_of s i) 0 || eqb (want_of s j) 0 || not (eqb (arrival_of s i) (arrival_of s j))

  ages_differ : ageless s i ≡ false → ageless s j ≡ false → age_of s i ≢ age_of s j
  unfolding apart_at
  ages_differ u v =
      eqb-false (age_of s i) (age_of s j)
      (not-true (eqb (age_of s i) (age_of s j)) (rw (u, v) at (and_l ages arrivals h)))

  arrivals_differ : want_of s i ≢ 0 → want_of s j ≢ 0 → arrival_of s i ≢ arrival_of s j
  unfolding apart_at
  arrivals_differ u v =
      eqb-false (arrival_of s i) (arrival_of s j)
      (not-true (eqb (arrival_of s i) (arrival_of s j)) (rw (ne_eqb (want_of s i) 0 u, ne_eqb (want_of s j) 0 v) at (and_r ages arrivals h)))

-- the later of the two looks at the earlier
pair : {G : Type 0} (s : List ℕ) → all_to (apart_ok s) 8 ≡ true → (i j : ℕ) → i < 8 → j < 8 → i ≢ j → (apart_at s i j ≡ true → G) → (apart_at s j i ≡ true → G) → G
unfolding apart_ok
pair s h i j li lj d f g =
    by_b (ltb j i) (λ e. f (all_to_at (apart_at s i) i (all_to_at (apart_ok s) 8 h i li) j (ltb-true j i e)))
    (λ e. g (all_to_at (apart_at s j) j (all_to_at (apart_ok s) 8 h j lj) i (omega (arith, ltb-false j i e, d))))

-- NUMBER 1

pub valid_ranged : (s : List ℕ) → valid s ≡ true → Ranged s
unfolding valid ranges_ok counters_ok asked_at
valid_ranged s h =
    let sized = eqb (length s) server_length in
    let stations = all_to (station_ok s) 8 in
    let pages = all_to (page_ok s) 32 in
    let asked = all_to (asked_at s) 32 in
    let apart = all_to (apart_ok s) 8 in
    let front = ranges_ok s && counters_ok s && stations in
    let u = all_4 front pages asked apart (and_r sized (front && pages && asked && apart) h) in
    let v = all_3 (ranges_ok s) (counters_ok s) stations u.0 in
    let flags = most s kind_from most_kind 8 && most s want_from 3 8 && most s called_from 1 8 && most s unfinished_from 1 8 in
    let r = all_4 (most s kind_from most_kind 8) (most s want_from 3 8) (most s called_from 1 8) (most s unfinished_from 1 8) (and_l flags (most s age_kept_from 1 8) v.0) in
    let station : (i : ℕ) → i < 8 → station_ok s i ≡ true = all_to_at (station_ok s) 8 v.2 in
    let page : (p : ℕ) → p < 32 → page_ok s p ≡ true = all_to_at (page_ok s) 32 u.1 in
    record {
      size = eqb-true (length s) server_length (and_l sized (front && pages && asked && apart) h);
      kind_fits = most_at_lem s kind_from most_kind 8 r.0;
      want_fits = most_at_lem s want_from 3 8 r.1;
      called_fits = most_at_lem s called_from 1 8 r.2;
      unfinished_fits = most_at_lem s unfinished_from 1 8 r.3;
      age_kept_fits = most_at_lem s age_kept_from 1 8 (and_r flags (most s age_kept_from 1 8) v.0);
      ages_fit = ltb-true (ages_of s) counter_limit (and_l (ltb (ages_of s) counter_limit) (ltb (arrivals_of s) counter_limit) v.1);
      arrivals_fit = ltb-true (arrivals_of s) counter_limit (and_r (ltb (ages_of s) counter_limit) (ltb (arrivals_of s) counter_limit) v.1);
      age_given = λ i l. station_age s i (station i l);
      named = λ i l. station_named s i (station i l);
      blank = λ i l. station_blank s i (station i l);
      waiter = λ i l. station_waiter s i (station i l);
      uncalled = λ i l. uncalled_of s i (parts s i (station i l)).2;
      called = λ i l. called_of s i (parts s i (station i l)).2;
      lock_held = λ p o k lp lo. page_lock s p (page p lp) o k lo;
      whole_held = λ p k l. page_whole s p (page p l) k;
      none_given = λ p l. page_none s p (page p l);
      beside = λ p o lp lo. page_beside s p (page p lp) o lo;
      asked_held = λ p l e.
          eqb-false _ _
          (not-true (eqb (whole_of s p) 0) (or_else (not (has_bit (asked_of s) p)) (not (eqb (whole_of s p) 0)) (rw e) (all_to_at (asked_at s) 32 u.2 p l)));
      ages_apart = λ i j li lj d ui uj e. pair s u.3 i j li lj d (λ q. ages_differ s i j q ui uj e) (λ q. ages_differ s j i q uj ui (sym e));
      arrivals_apart = λ i j li lj d wi wj e. pair s u.3 i j li lj d (λ q. arrivals_differ s i j q wi wj e) (λ q. arrivals_differ s j i q wj wi (sym e));
    }

pub kinds_length : (kinds : List ℕ) → kinds_ok kinds ≡ true → length kinds ≡ 8
unfolding kinds_ok
kinds_length kinds h = eqb-true (length kinds) 8 (and_l (eqb (length kinds) 8) (most kinds 0 most_kind 8) h)

-- eight bytes at once
pub zero_eight : (s : List ℕ) (at k : ℕ) → k < 8 → u64_at s at ≡ 0 → get_or s (at + k) 0 ≡ 0
zero_eight s at k l e = eight_bytes s at k l e

-- WHAT THE CODE PASSES OVER

pub no_holder : (s : List ℕ) → true ≡ holder_ok_lem s 0
unfolding holder_ok_lem
no_holder s = refl

-- a page without locks
object_unlocked : (s : List ℕ) (p o : ℕ) → o < 8 → u64_at s (lock_from + p * 8) ≡ 0 → lock_of s (p * 8 + o) ≡ 0
object_unlocked s p o l e =
    let at : lock_from + (p * 8 + o) ≡ lock_from + p * 8 + o = omega arith in
    rw at (zero_eight s (lock_from + p * 8) o l e)

pub page_unlocked : (s : List ℕ) (p : ℕ) → u64_at s (lock_from + p * 8) ≡ 0 → true ≡ all_to (holder_at s p) 8
unfolding holder_at
page_unlocked s p e = sym (all_to_of (holder_at s p) 8 (λ o l. rw (object_unlocked s p o l e) (sym (no_holder s))))

pub none_beside : (s : List ℕ) (p : ℕ) → u64_at s (lock_from + p * 8) ≡ 0 → true ≡ all_to (beside_at s p) 8
unfolding beside_at
none_beside s p e = sym (all_to_of (beside_at s p) 8 (λ o l. rw (object_unlocked s p o l e)))

no_bit : (k : ℕ) → has_bit 0 k ≡ false
unfolding has_bit
no_bit k = refl

-- no 19 out
pub none_asked : (s : List ℕ) → asked_of s ≡ 0 → true ≡ all_to (asked_at s) 32
unfolding asked_at
none_asked s e = sym (all_to_of (asked_at s) 32 (λ p l. rw (e, no_bit p)))

-- the last of four words, the others being as they should
pub only_last : (s : List ℕ) (at x : ℕ) {a b c d f g h k : ℕ} → a ≡ u64_at s at → b ≡ u64_at s (at + 8) → c ≡ u64_at s (at + 16) → d ≡ u64_at s (at + 24)
    → f ≡ word_of x 0 → g ≡ word_of x 1 → h ≡ word_of x 2 → k ≡ word_of x 3 → a ≡ f → b ≡ g → c ≡ h → eqb d k ≡ only_in s at x
unfolding only_in
only_last s at x {a} {b} {c} {d} {f} {g} {h} {k} ea eb ec ed ef eg eh ek za zb zc = rw (← ea, ← eb, ← ec, ← ed, ← ef, ← eg, ← eh, ← ek, eq-eqb a f za, eq-eqb b g zb, eq-eqb c h zc)
