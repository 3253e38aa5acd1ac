-- What number 1 tells of a state that passes.
use Rattle.std.specs.Prelude.{ℕ, ◌+◌, ◌/◌, ◌%◌, ◌≤◌, ◌<◌, ◌≡◌, refl, List, ◌≢◌, Bool, true, false, not, ◌&&◌, ◌||◌, cond, length, eqb, ltb, leb}
use Rattle.std.proofs.Common.{sym, ◌∙◌, ap, eqb-true, ltb-true, leb-true, le-leb, eq-eqb, ne_eqb, arith}
use Rattle.std.proofs.lemmas.Bool.{false≢true, eqb-false, not-true, not-false}
use Rattle.std.specs.Int.Bits.{bit_or, or_add_and, or_zero_r}
use Rattle.std.proofs.lemmas.Nat.{and_le_l}
use Rattle.limits.specs.Limit.{limit}
use Rattle.kinds.specs.Kinds.{most_kind}
use Rattle.sets.specs.Laws.{by_b}
use Rattle.lists.specs.Tests.{and_l, and_r, and_both}
use Rattle.station_state.specs.Layout.{kept_from, read_set_from, written_set_from, locks_from, state_length, kept_of, number, whole, station, kind, opened, wait, address, waiting_set, locking_b, passing_whole, member, count_in, written_with, none_in, station_from}
use Rattle.station_state.specs.Sets.{none_numbers, joined}
use Rattle.station_state.specs.Valid.{fields_ok, own_kept, closed_ok, first_ok, set_ok, out_ok, few_in, few_written, limited_ok, works_ok, lockless_ok, holds_ok, valid, rests_ok}
use Rattle.le.specs.Le.{u32_at, u64_at}

-- no transaction is open
pub record Closed (s : List ℕ) : Type 0 where
  pub nothing_out : wait s ≡ 0
  pub nothing_read : none_in s read_set_from ≡ true
  pub nothing_written : none_in s written_set_from ≡ true

-- no lock, and no callback kept
pub record Lockless (s : List ℕ) : Type 0 where
  pub no_page : passing_whole s ≡ 0
  pub no_object : none_in s locks_from ≡ true
  pub nothing_kept : none_in s kept_from ≡ true

-- a set within the limit, with what is out
pub record Few (s : List ℕ) (at : ℕ) (out : Bool) : Type 0 where
  pub most : count_in s at ≤ limit
  pub room : out ≡ true → member s at (address s) ≡ false → count_in s at + 1 ≤ limit

-- what is written within the limit, with all that a write that is out will write
pub record FewWritten (s : List ℕ) : Type 0 where
  pub most : count_in s written_set_from ≤ limit
  pub room : wait s ≡ 2 → written_with s (address s / 8) (waiting_set s) ≤ limit

pub record Ranged (s : List ℕ) : Type 0 where
  pub size : length s ≡ state_length
  pub station_fits : station s ≤ 7
  pub kind_fits : kind s ≤ most_kind
  pub open_fits : opened s ≤ 1
  pub wait_fits : wait s ≤ 3
  pub numbered : opened s ≢ 0 → number s ≢ 0
  pub not_own : kept_of s (station s) ≡ 0
  pub closed : opened s ≡ 0 → Closed s
  pub first : opened s ≢ 0 → wait s ≡ 1 → (member s read_set_from (address s) ≡ false) × (member s written_set_from (address s) ≡ false)
  pub asks : opened s ≢ 0 → wait s ≡ 2 → (address s % 8 ≡ 0) × (waiting_set s ≢ 0)
  pub reads_few : opened s ≢ 0 → Few s read_set_from (eqb (wait s) 1)
  pub writes_few : opened s ≢ 0 → FewWritten s
  pub lockless : (locking_b s && not (eqb (opened s) 0)) ≡ false → Lockless s

all_3 : (a b c : Bool) → a && b && c ≡ true → (a ≡ true) × (b ≡ true) × (c ≡ true)
all_3 a b c h = let u = and_l (a && b) c h in (and_l a b u, and_r a b u, and_r (a && b) c h)

all_4 : (a b c d : Bool) → a && b && c && d ≡ true → (a ≡ true) × (b ≡ true) × (c ≡ true) × (d ≡ true)
all_4 a b c d h = let u = all_3 a b c (and_l (a && b && c) d h) in (u.0, u.1, u.2, and_r (a && b && c) d h)

-- the way that was taken
taken : (a b c : Bool) → a ≡ true → cond a b c ≡ true → b ≡ true
taken a b c e h = rw e at h

passed : (a b c : Bool) → a ≡ false → cond a b c ≡ true → c ≡ true
passed a b c e h = rw e at h

or_else : (a b : Bool) → a ≡ false → a || b ≡ true → b ≡ true
or_else a b e h = rw e at h

closed_of : (s : List ℕ) → closed_ok s ≡ true → Closed s
unfolding closed_ok
closed_of s h =
    let u = all_3 (eqb (wait s) 0) (none_in s read_set_from) (none_in s written_set_from) h in
    record { nothing_out = eqb-true _ _ u.0; nothing_read = u.1; nothing_written = u.2 }

lockless_of : (s : List ℕ) → lockless_ok s ≡ true → Lockless s
unfolding lockless_ok
lockless_of s h =
    let u = all_3 (eqb (passing_whole s) 0) (none_in s locks_from) (none_in s kept_from) h in
    record { no_page = eqb-true _ _ u.0; no_object = u.1; nothing_kept = u.2 }

few_of : (s : List ℕ) (at : ℕ) (out : Bool) → few_in s at out ≡ true → Few s at out
unfolding few_in
few_of s at out h =
    by_b (out && not (member s at (address s)))
    (λ e.
    let l = ltb-true (count_in s at) limit (rw e at h) in
    record { most = omega (arith, l); room = λ o m. omega (arith, l) })
    (λ e.
    record {
      most = leb-true (count_in s at) limit (rw e at h);
      room = λ o m. absurd (false≢true (sym (rw (o, m) at e)));
    })

written_of : (s : List ℕ) → few_written s ≡ true → FewWritten s
unfolding few_written written_with
written_of s h =
    by_b (eqb (wait s) 2)
    (λ e.
    let l = leb-true (written_with s (address s / 8) (waiting_set s)) limit (rw e at h) in
    record { most = omega (arith, l); room = λ o. l })
    (λ e.
    record {
      most = leb-true (count_in s written_set_from) limit (rw e at h);
      room = λ o. absurd (false≢true (sym e ∙ eq-eqb (wait s) 2 o));
    })

out_first : (s : List ℕ) → out_ok s ≡ true → wait s ≡ 1 → first_ok s ≡ true
unfolding out_ok
out_first s h e = taken (eqb (wait s) 1) (first_ok s) (cond (eqb (wait s) 2) (set_ok s) true) (eq-eqb _ _ e) h

out_set : (s : List ℕ) → out_ok s ≡ true → wait s ≡ 2 → (address s % 8 ≡ 0) × (waiting_set s ≢ 0)
unfolding out_ok set_ok
out_set s h e =
    let one : set_ok s ≡ true = rw e at h in
    let a = eqb (address s % 8) 0 in
    (eqb-true _ _ (and_l a _ one), eqb-false _ _ (not-true (eqb (waiting_set s) 0) (and_r a _ one)))

pub valid_ranged : (s : List ℕ) → valid s ≡ true → Ranged s
unfolding valid fields_ok own_kept works_ok first_ok limited_ok holds_ok
valid_ranged s h =
    let sized = eqb (length s) state_length in
    let front = sized && leb (station s) 7 in
    let counted = eqb (opened s) 0 || not (eqb (number s) 0) in
    let fields = leb (kind s) most_kind && leb (opened s) 1 && leb (wait s) 3 && counted in
    let others = not (not (eqb (kept_of s (station s)) 0)) in
    let works = works_ok s in
    let holds = holds_ok s in
    let own_in = locking_b s && not (eqb (opened s) 0) in
    let hf : front ≡ true = and_l front (fields && others && works && holds) h in
    let u = all_4 fields others works holds (and_r front (fields && others && works && holds) h) in
    let f = all_4 (leb (kind s) most_kind) (leb (opened s) 1) (leb (wait s) 3) counted u.0 in
    let later = out_ok s && limited_ok s in
    let works-are : opened s ≢ 0 → later ≡ true = λ n. passed (eqb (opened s) 0) (closed_ok s) later (ne_eqb _ _ n) u.2 in
    let out : opened s ≢ 0 → out_ok s ≡ true = λ n. and_l (out_ok s) (limited_ok s) (works-are n) in
    let few : opened s ≢ 0 → limited_ok s ≡ true = λ n. and_r (out_ok s) (limited_ok s) (works-are n) in
    let reads = few_in s read_set_from (eqb (wait s) 1) in
    record {
      size = eqb-true _ _ (and_l sized (leb (station s) 7) hf);
      station_fits = leb-true _ _ (and_r sized (leb (station s) 7) hf);
      kind_fits = leb-true _ _ f.0;
      open_fits = leb-true _ _ f.1;
      wait_fits = leb-true _ _ f.2;
      numbered = λ n. eqb-false _ _ (not-true (eqb (number s) 0) (or_else (eqb (opened s) 0) (not (eqb (number s) 0)) (ne_eqb _ _ n) f.3));
      not_own = eqb-true _ _ (not-false (eqb (kept_of s (station s)) 0) (not-true (not (eqb (kept_of s (station s)) 0)) u.1));
      closed = λ e. closed_of s (taken (eqb (opened s) 0) (closed_ok s) later (eq-eqb _ _ e) u.2);
      first = λ n e.
          let one : first_ok s ≡ true = out_first s (out n) e in
          let a = not (member s read_set_from (address s)) in
          (not-true (member s read_set_from (address s)) (and_l a _ one), not-true (member s written_set_from (address s)) (and_r a _ one));
      asks = λ n e. out_set s (out n) e;
      reads_few = λ n. few_of s read_set_from (eqb (wait s) 1) (and_l reads (few_written s) (few n));
      writes_few = λ n. written_of s (and_r reads (few_written s) (few n));
      lockless = λ e. lockless_of s (passed own_in true (lockless_ok s) e u.3);
    }

-- WHAT THE CODE PASSES OVER

neither : (a : Bool) → a && false ≡ false
neither true = refl
neither false = refl

-- tests that pass at the same time
pub same : (a b : Bool) → (a ≡ true → b ≡ true) → (b ≡ true → a ≡ true) → a ≡ b
same true b f g = sym (f refl)
same false true f g = g refl
same false false f g = refl

closed_works : (s : List ℕ) → opened s ≡ 0 → works_ok s ≡ closed_ok s
unfolding works_ok
closed_works s e = rw (eq-eqb (opened s) 0 e)

closed_holds : (s : List ℕ) → opened s ≡ 0 → holds_ok s ≡ lockless_ok s
unfolding holds_ok
closed_holds s e = rw (eq-eqb (opened s) 0 e, neither (locking_b s))

-- nothing is out, so that the wait is in range, and nothing kept, its own neither
closed_rest : (s : List ℕ) → station s ≤ 7 → opened s ≡ 0 → leb (kind s) most_kind && closed_ok s && lockless_ok s ≡ fields_ok s && not (own_kept s) && works_ok s && holds_ok s
unfolding fields_ok own_kept
closed_rest s l e =
    let counted = eqb (opened s) 0 || not (eqb (number s) 0) in
    let fields = leb (kind s) most_kind && leb (opened s) 1 && leb (wait s) 3 && counted in
    let others = not (not (eqb (kept_of s (station s)) 0)) in
    rw (closed_works s e, closed_holds s e)
    (same (leb (kind s) most_kind && closed_ok s && lockless_ok s) (fields && others && closed_ok s && lockless_ok s)
    (λ h.
    let u = all_3 (leb (kind s) most_kind) (closed_ok s) (lockless_ok s) h in
    let out : wait s ≡ 0 = (closed_of s u.1).nothing_out in
    let kept : kept_of s (station s) ≡ 0 = none_numbers s kept_from (lockless_of s u.2).nothing_kept (station s) (omega (arith, l)) in
    rw (u.0, u.1, u.2, e, out, kept) refl)
    (λ h.
    let v = all_4 fields others (closed_ok s) (lockless_ok s) h in
    and_both (and_both (all_4 (leb (kind s) most_kind) (leb (opened s) 1) (leb (wait s) 3) counted v.0).0 v.2) v.3))

-- behind a test that both make
behind : (b : Bool) {x y : Bool} → (b ≡ true → x ≡ y) → b && x ≡ b && y
behind true f = f refl
behind false f = refl

-- no transaction is open
valid_closed : (s : List ℕ) → length s ≡ state_length → opened s ≡ 0 → leb (station s) 7 && (leb (kind s) most_kind && closed_ok s && lockless_ok s) ≡ valid s
unfolding valid
valid_closed s z e = rw (eq-eqb (length s) state_length z) (behind (leb (station s) 7) (λ t. closed_rest s (leb-true _ _ t) e))

pub valid_rests : (s : List ℕ) → opened s ≡ 0 → rests_ok s ≡ valid s
unfolding rests_ok
valid_rests s e = rw (eq-eqb (opened s) 0 e)

-- WORDS JOINED: one test for many

or_none : (x y : ℕ) → eqb (bit_or x y) 0 ≡ eqb x 0 && eqb y 0
or_none x y =
    same (eqb (bit_or x y) 0) (eqb x 0 && eqb y 0)
    (λ h.
    let none : bit_or x y ≡ 0 = eqb-true _ _ h in
    let right : y ≡ 0 = omega (arith, none, or_add_and x y, and_le_l x y) in
    let left : x ≡ 0 = sym (or_zero_r x) ∙ ap (bit_or x) (sym right) ∙ none in
    and_both (eq-eqb x 0 left) (eq-eqb y 0 right))
    (λ h.
    let left : x ≡ 0 = eqb-true _ _ (and_l (eqb x 0) (eqb y 0) h) in
    let right : y ≡ 0 = eqb-true _ _ (and_r (eqb x 0) (eqb y 0) h) in
    rw (left, right) refl)

pub none_joined : (s : List ℕ) (at : ℕ) → eqb (joined s at) 0 ≡ none_in s at
unfolding joined none_in
none_joined s at =
    let second = u64_at s (at + 8) in
    let third = u64_at s (at + 16) in
    let two = bit_or (u64_at s at) second in
    rw (or_none (bit_or two third) (u64_at s (at + 24)), or_none two third, or_none (u64_at s at) second) refl

-- five numbers as one, and the tests in the order of the definitions
five : (a b c d e : ℕ) → eqb (bit_or (bit_or (bit_or (bit_or a b) c) d) e) 0 ≡ eqb a 0 && eqb b 0 && eqb c 0 && eqb d 0 && eqb e 0
five a b c d e =
    let two = bit_or a b in
    let three = bit_or two c in
    rw (or_none (bit_or three d) e, or_none three d, or_none two c, or_none a b) refl

in_order : (t r x h l q : Bool) → t && (r && x && h && l && q) ≡ t && (r && x && (h && l && q))
in_order false r x h l q = refl
in_order true false x h l q = refl
in_order true true false h l q = refl
in_order true true true false l q = refl
in_order true true true true false q = refl
in_order true true true true true q = refl

not_so : (b : Bool) → (b ≡ true → false ≡ true) → false ≡ b
not_so true f = f refl
not_so false f = refl

pub rests_short : (s : List ℕ) → length s ≢ state_length → false ≡ rests_ok s
unfolding rests_ok
rests_short s h = not_so (eqb (opened s) 0 && valid s) (λ q. absurd (h (valid_ranged s (and_r (eqb (opened s) 0) (valid s) q)).size))

-- station, kind, open and wait as one number
pub rests_not : (s : List ℕ) → 768 ≤ u32_at s station_from → false ≡ rests_ok s
unfolding rests_ok u32_at
rests_not s h =
    not_so (eqb (opened s) 0 && valid s)
    (λ q.
    let e : opened s ≡ 0 = eqb-true _ _ (and_l (eqb (opened s) 0) (valid s) q) in
    let v = valid_ranged s (and_r (eqb (opened s) 0) (valid s) q) in
    absurd (omega (arith, h, e, v.station_fits, v.kind_fits, (v.closed e).nothing_out)))

pub rests_joined : (s : List ℕ) {r x h l q : ℕ} → length s ≡ state_length → u32_at s station_from < 768 → r ≡ joined s read_set_from → x ≡ joined s written_set_from → h ≡ passing_whole s → l ≡ joined s locks_from → q ≡ joined s kept_from → leb (station s) 7 && eqb (bit_or (bit_or (bit_or (bit_or r x) h) l) q) 0 ≡ rests_ok s
unfolding u32_at closed_ok lockless_ok
rests_joined s z small er ex eh el eq =
    let open-0 : opened s ≡ 0 = omega (arith, small) in
    let wait-0 : wait s ≡ 0 = omega (arith, small) in
    let kind_in : kind s ≤ most_kind = omega (arith, small) in
    let read = joined s read_set_from in
    let written = joined s written_set_from in
    let locked = joined s locks_from in
    let kept = joined s kept_from in
    let test : leb (station s) 7 && eqb (bit_or (bit_or (bit_or (bit_or read written) (passing_whole s)) locked) kept) 0 ≡ leb (station s) 7 && (leb (kind s) most_kind && closed_ok s && lockless_ok s) =
    rw (five read written (passing_whole s) locked kept, none_joined s read_set_from, none_joined s written_set_from, none_joined s locks_from, none_joined s kept_from, le-leb (kind s) most_kind kind_in, eq-eqb (wait s) 0 wait-0)
    (in_order (leb (station s) 7) (none_in s read_set_from) (none_in s written_set_from) (eqb (passing_whole s) 0) (none_in s locks_from) (none_in s kept_from)) in
    rw (er, ex, eh, el, eq) (test ∙ valid_closed s z open-0 ∙ sym (valid_rests s open-0))
