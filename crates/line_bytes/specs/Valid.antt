-- A server's state that means a server that fits passes number 1, if its flags are in range: the bytes tell more of a flag than its meaning.
use Prim.Native.Nat.{ℕ, zero, suc, ◌+◌, ◌*◌, ◌-◌, ◌/◌, ◌%◌, ◌≤◌, ◌<◌}
use Rattle.std.specs.Prelude.{◌≡◌, Bool, ◌&&◌, ◌||◌, cond, ◌≢◌, List, leb, length}
use Rattle.std.proofs.Math.Path.{refl, sym, ap}
use Rattle.std.proofs.Common.{◌∙◌}
use Rattle.std.proofs.Math.Bool.{true, false, not}
use Rattle.std.proofs.lemmas.Bool.{false≢true}
use native.Mathlib.Omega.{arith}
use Rattle.std.specs.Int.Bits.{bit_or}
use Rattle.std.proofs.lemmas.Nat.{or_lt}
use Rattle.std.proofs.Math.Dec.{eqb}
use borrow.Author.Tests.{eqb-false, eq-eqb, ne_eqb, lt-ltb, le-leb}
use Rattle.lists.specs.Tests.{all_to, all_to_of}
use Rattle.sets.specs.Base.{any}
use Rattle.sets.specs.Laws.{by_b, by_eq}
use Rattle.sets.proofs.Laws.{eqb_yes, eqb_no, not_no}
use Rattle.cells.specs.Bits.{tb}
use Rattle.cells.proofs.Bits.{tb_zero, tb_or, tb_tells}
use Rattle.cells.proofs.Loops.{any_same}
use Rattle.kinds.specs.Kinds.{most_kind}
use Rattle.line.specs.Messages.{locking, keeps}
use Rattle.line.specs.Server.{Server, Want, NoWant, WantRead, WantWrite, WantCommit, is_want, waits}
use Rattle.line.specs.Apart.{Holder, WholeHolder, GivenTo, age_counts, Entry}
use Rattle.line.specs.Fit.{calls, OnPage, Form, Fit}
use Rattle.limits.specs.Limit.{limit}
use Rattle.station_state.specs.Layout.{has_bit, member, count_in, none_in}
use Rattle.station_state.specs.Sets.{members_none}
use Rattle.server_state.specs.Layout.{counter_limit, kind_from, want_from, called_from, unfinished_from, pend_from, busy_from, server_length, age_of, arrival_of, ages_of, arrivals_of, work_number, latest_of, asked_of, whole_for_of, lock_of, whole_of, read_set_from, written_set_from, kind_of, want_of, request_of, called_of_lem, pend_of, busy_of, unfinished_of, age_kept_from, age_kept_of, locking_b, keeps_b}
use Rattle.server_state.specs.Valid.{most_at, most, ranges_ok, counters_ok, only_in, page_only, blank_ok_lem, few_ok, commit_ok, write_ok, request_ok, waiter_ok, entry_ok, owes_at, calls_ok, aged_ok, station_ok, holder_ok_lem, holder_at, beside_at, given_ok, whole_ok, page_ok, asked_at, apart_at, apart_ok, valid, ageless}
use Rattle.server_state.specs.Sets.{members_only}
use Rattle.server_state.specs.Pages.{members_page}
use Rattle.server_meaning.specs.Meant.{want_as, Is}
use Rattle.server_meaning.specs.Tests.{bit_is}
use Rattle.server_meaning.proofs.Tests.{kind_at, lock_at, whole_at, whole_for_at, latest_at, fin_at, age_at, ages_at, arrival_at, arrivals_at, request_at, called_at, want_at, waits_at, asked_at_lem, pend_at, busy_at, ageless_at}
use Rattle.line_bytes.specs.Fits.{want_number, read_member, written_member, number_at, reads_count, writes_count}
use Rattle.line_bytes.specs.Flags.{Flagged}

-- TESTS

or_l : (a b : Bool) → a ≡ true → (a || b) ≡ true
or_l a b e = rw e

or_r : (a b : Bool) → b ≡ true → (a || b) ≡ true
or_r true b e = refl
or_r false b e = e

both : (a b : Bool) → a ≡ true → b ≡ true → (a && b) ≡ true
both a b e f = rw (e, f)

-- whichever way is taken
either : (a b c : Bool) → (a ≡ true → b ≡ true) → (a ≡ false → c ≡ true) → cond a b c ≡ true
either true b c f g = f refl
either false b c f g = g refl

unless_0 : (x : ℕ) (b : Bool) → (x ≢ 0 → b ≡ true) → (eqb x 0 || b) ≡ true
unless_0 x b f = by_eq x 0 (λ e. or_l (eqb x 0) b e) (λ e. or_r (eqb x 0) b (f (eqb_no x 0 e)))

unless_not : (a b : Bool) → (a ≡ true → b ≡ true) → (not a || b) ≡ true
unless_not true b f = f refl
unless_not false b f = refl

not_0 : (x : ℕ) → x ≢ 0 → not (eqb x 0) ≡ true
not_0 x n = rw (ne_eqb x 0 n)

-- two numbers that differ, unless one of two tests passes
neither : (x y : Bool) (a b : ℕ) → (x ≡ false → y ≡ false → a ≡ b → ⊥) → (x || y || not (eqb a b)) ≡ true
neither x y a b f =
    by_b x (λ e. or_l _ _ (or_l x y e))
    (λ nx. by_b y (λ e. or_l _ _ (or_r x y e)) (λ ny. or_r (x || y) _ (rw (ne_eqb a b (f nx ny)))))

-- a byte without bits
no_bits : (x : ℕ) → x < 256 → ((k : ℕ) → k < 8 → has_bit x k ≡ false) → x ≡ 0
no_bits x l f = tb_tells 8 x 0 l (omega arith) (λ k q. sym (bit_is x k) ∙ f k q ∙ sym (tb_zero k))

-- .. whose bits are another's too
in_bits : (x y : ℕ) → x < 256 → y < 256 → ((k : ℕ) → k < 8 → has_bit x k ≡ true → has_bit y k ≡ true) → bit_or x y ≡ y
in_bits x y lx ly f =
    tb_tells 8 (bit_or x y) y (or_lt 8 x y lx ly) ly
    (λ k q. tb_or k x y ∙ part (tb x k) (tb y k) (λ e. sym (bit_is y k) ∙ f k q (bit_is x k ∙ e)))
  where
    part : (a b : Bool) → (a ≡ true → b ≡ true) → (a || b) ≡ b
    part true b g = sym (g refl)
    part false b g = refl

module _ {s : List ℕ} {m : Server} (h : Is s m) (k : Flagged s) (f : Fit m) where
  ranges : ranges_ok s ≡ true
  unfolding ranges_ok most most_at
  ranges =
      both _ _
      (both _ _
      (both _ _
      (both _ _
      (all_to_of (most_at s kind_from most_kind) 8 (λ i l. le-leb (kind_of s i) most_kind (rw (kind_at h i l) (f.forms.kinds i))))
      (all_to_of (most_at s want_from 3) 8 (λ i l. le-leb (want_of s i) 3 (k.wants i l))))
      (all_to_of (most_at s called_from 1) 8 (λ i l. le-leb (called_of_lem s i) 1 (k.calleds i l))))
      (all_to_of (most_at s unfinished_from 1) 8 (λ i l. le-leb (unfinished_of s i) 1 (k.unfinisheds i l))))
      (all_to_of (most_at s age_kept_from 1) 8 (λ i l. le-leb (age_kept_of s i) 1 (k.kepts i l)))

  waiting : (i : ℕ) → i < 8 → want_of s i ≢ 0 → waits m i ≡ true
  waiting i l n = sym (waits_at h i l (k.wants i l)) ∙ not_0 (want_of s i) n

  unfinished : (i : ℕ) → i < 8 → unfinished_of s i ≢ 0 → m.fin i ≡ false
  unfinished i l n = sym (fin_at h i l) ∙ ne_eqb (unfinished_of s i) 0 n

  counting : (i : ℕ) → i < 8 → ageless s i ≡ false → age_counts (m.fin i) (m.age_kept i) ≡ true
  counting i l e = not_no (age_counts (m.fin i) (m.age_kept i)) (sym (ageless_at h i l) ∙ e)

  working : (i : ℕ) → i < 8 → m.fin i ≡ false → unfinished_of s i ≢ 0
  working i l e = eqb-false (unfinished_of s i) 0 (fin_at h i l ∙ e)

  locks_at : (i : ℕ) → i < 8 → locking (m.kind i) ≡ true → locking_b s i ≡ true
  locks_at i l e = ap locking (kind_at h i l) ∙ e

  -- A STATION

  module _ (i : ℕ) (l : i < 8) where
    entry : Entry (m.kind i) (m.fin i) (m.queue i)
    entry = f.apart.waiting.entry i l

    form : Form m.kind i (m.latest i) (m.queue i)
    form = f.forms.form i l

    aged_ok_lem : aged_ok s i ≡ true
    unfolding aged_ok
    aged_ok_lem =
        both _ _ (lt-ltb (age_of s i) (ages_of s) (rw (age_at h i l, ages_at h) (f.apart.aged.ages_given i l)))
        (unless_0 (unfinished_of s i) _ (λ n. not_0 (latest_of s i) (λ z. f.forms.named i l (unfinished i l n) (sym (latest_at h i l) ∙ z))))

    -- sets with nothing, with the object requested alone, and with objects of the page requested alone
    none_read : ((a : ℕ) → (m.queue i).reads a ≡ false) → none_in s (read_set_from i) ≡ true
    none_read e = members_none s h.bytes (read_set_from i) (λ a la. read_member h i a l la ∙ e a)

    none_written : ((a : ℕ) → (m.queue i).writes a ≡ false) → none_in s (written_set_from i) ≡ true
    none_written e = members_none s h.bytes (written_set_from i) (λ a la. written_member h i a l la ∙ e a)

    only_read : ((a : ℕ) → (m.queue i).reads a ≡ eqb a (m.queue i).req) → only_in s (read_set_from i) (request_of s i) ≡ true
    only_read e = members_only s h.bytes (read_set_from i) (request_of s i) (λ a la. read_member h i a l la ∙ e a ∙ ap (eqb a) (sym (request_at h i l)))

    page_written : OnPage (m.queue i).req (m.queue i).writes (m.queue i).reads → page_only s (written_set_from i) (request_of s i / 8) ≡ true
    page_written o =
        let p = (m.queue i).req / 8 in
        let same : any 8 (λ c. member s (written_set_from i) (p * 8 + c)) ≡ any 8 (λ c. (m.queue i).writes (p * 8 + c)) =
        any_same _ _ 8 (λ c lc. written_member h i (p * 8 + c) l (omega (arith, o.in_range))) in
        rw (request_at h i l)
        (members_page s (written_set_from i) p h.bytes (same ∙ o.some_asked) (λ b lb e. o.page_only_lem b (sym (written_member h i b l lb) ∙ e)))

    write_ok_lem : OnPage (m.queue i).req (m.queue i).writes (m.queue i).reads → write_ok s i ≡ true
    unfolding write_ok
    write_ok_lem o =
        both _ _ (both _ _ (eq-eqb (request_of s i % 8) 0 (omega (arith, request_at h i l, o.stands))) (page_written o)) (none_read o.nothing_else)

    blank_ok : want_of s i ≡ 0 → blank_ok_lem s i ≡ true
    unfolding blank_ok_lem
    blank_ok e =
        let idle : is_want (m.queue i).want ≡ false = sym (waits_at h i l (k.wants i l)) ∙ ap not (eq-eqb (want_of s i) 0 e) in
        let b = form.blank idle in
        both _ _
        (both _ _ (both _ _ (eq-eqb (arrival_of s i) 0 (arrival_at h i l ∙ b.arrival_is)) (eq-eqb (request_of s i) 0 (request_at h i l ∙ b.req_is))) (none_read b.nothing_read))
        (none_written b.nothing_written)

    few_ok_lem : want_of s i ≡ 3 → few_ok s i ≡ true
    unfolding few_ok
    few_ok_lem e =
        let w : (m.queue i).want ≡ WantCommit = want_at h i l ∙ rw e refl in
        let o = (form.commit w).few in
        both _ _ (le-leb (count_in s (read_set_from i)) limit (rw (← reads_count h i l e) o.reads_few))
        (le-leb (count_in s (written_set_from i)) limit (rw (← writes_count h i l e) o.writes_few))

    commit_ok_lem : want_of s i ≡ 3 → commit_ok s i ≡ true
    unfolding commit_ok
    commit_ok_lem e =
        let w : (m.queue i).want ≡ WantCommit = want_at h i l ∙ rw e refl in
        let o = form.commit w in
        let kind : kind_of s i ≡ 1 = kind_at h i l ∙ eqb_yes (m.kind i) 1 (not_no (eqb (m.kind i) 1) (entry.commits_validate w)) in
        both _ _
        (both _ _ (both _ _ (eq-eqb (kind_of s i) 1 kind) (eq-eqb (request_of s i) 0 (request_at h i l ∙ o.req_is)))
        (eq-eqb (work_number s i) (latest_of s i) (number_at h i l e ∙ o.latest_is ∙ sym (latest_at h i l))))
        (few_ok_lem e)

    request_ok_lem : want_of s i ≢ 0 → want_of s i ≢ 3 → request_ok s i ≡ true
    unfolding request_ok
    request_ok_lem n0 n3 =
        by_eq (want_of s i) 1
        (λ e.
        let w : (m.queue i).want ≡ WantRead = want_at h i l ∙ rw (eqb_yes (want_of s i) 1 e) refl in
        let o = form.read w in
        both _ _ (locks_at i l (entry.reads_lock w)) (rw e (both _ _ (only_read o.asked_for) (none_written o.nothing_else))))
        (λ e.
        let two : want_of s i ≡ 2 = omega (arith, k.wants i l, n0, n3, eqb_no (want_of s i) 1 e) in
        let w : (m.queue i).want ≡ WantWrite = want_at h i l ∙ rw two refl in
        let o = form.write w in
        both _ _ (locks_at i l (entry.writes_lock w)) (rw e (write_ok_lem o)))

    waiter_ok_lem : want_of s i ≢ 0 → waiter_ok s i ≡ true
    unfolding waiter_ok
    waiter_ok_lem n =
        let w = waiting i l n in
        both _ _
        (both _ _ (not_0 (unfinished_of s i) (working i l (entry.waits_open w)))
        (lt-ltb (arrival_of s i) (arrivals_of s) (rw (arrival_at h i l, arrivals_at h) (f.apart.waiting.arrivals_given i l w))))
        (either (eqb (want_of s i) 3) (commit_ok s i) (request_ok s i) (λ e. commit_ok_lem (eqb_yes (want_of s i) 3 e)) (λ e. request_ok_lem n (eqb_no (want_of s i) 3 e)))

    entry_ok_lem : entry_ok s i ≡ true
    unfolding entry_ok
    entry_ok_lem = either (eqb (want_of s i) 0) (blank_ok_lem s i) (waiter_ok s i) (λ e. blank_ok (eqb_yes (want_of s i) 0 e)) (λ e. waiter_ok_lem (eqb_no (want_of s i) 0 e))

    -- the 20s
    pend_no : (m.queue i).called ≡ false → (j : ℕ) → (m.queue i).pend j ≡ false
    pend_no e j = by_b ((m.queue i).pend j) (λ t. absurd (false≢true (sym e ∙ form.pending j t))) (λ t. t)

    busy_no : (m.queue i).called ≡ false → (j : ℕ) → (m.queue i).busy j ≡ false
    busy_no e j = by_b ((m.queue i).busy j) (λ t. absurd (false≢true (sym (pend_no e j) ∙ form.busy j t))) (λ t. t)

    calls_number : (w : Want) → calls w ≡ true → 2 ≤ want_number w
    calls_number NoWant e = absurd (false≢true e)
    calls_number WantRead e = absurd (false≢true e)
    calls_number WantWrite e = omega arith
    calls_number WantCommit e = omega arith

    want_number_lem : (n : ℕ) → n ≤ 3 → want_number (want_as n) ≡ n
    want_number_lem zero l = refl
    want_number_lem (suc zero) l = refl
    want_number_lem (suc (suc zero)) l = refl
    want_number_lem (suc (suc (suc zero))) l = refl
    want_number_lem (suc (suc (suc (suc n)))) l = absurd (omega arith)

    owes_ok : (j : ℕ) → j < 8 → owes_at s i j ≡ true
    unfolding owes_at
    owes_ok j lj =
        unless_not (has_bit (pend_of s i) j) _
        (λ t. let o = form.owed j (sym (pend_at h i j l) ∙ t) in both (not (eqb j i)) (locking_b s j) (ap not o.another) (locks_at j lj o.locks))

    calls_ok_lem : calls_ok s i ≡ true
    unfolding calls_ok
    calls_ok_lem =
        by_eq (called_of_lem s i) 0
        (λ e.
        let no : (m.queue i).called ≡ false = sym (called_at h i l) ∙ ap not e in
        rw (
          e,
          eq-eqb (pend_of s i) 0 (no_bits (pend_of s i) (h.bytes (pend_from + i)) (λ j q. pend_at h i j l ∙ pend_no no j)),
          eq-eqb (busy_of s i) 0 (no_bits (busy_of s i) (h.bytes (busy_from + i)) (λ j q. busy_at h i j l ∙ busy_no no j)),
        ))
        (λ e.
        let yes : (m.queue i).called ≡ true = sym (called_at h i l) ∙ ap not e in
        let two : 2 ≤ want_of s i = rw (← want_number_lem (want_of s i) (k.wants i l), ← want_at h i l) (calls_number (m.queue i).want (form.called yes)) in
        let within : bit_or (busy_of s i) (pend_of s i) ≡ pend_of s i =
        in_bits (busy_of s i) (pend_of s i) (h.bytes (busy_from + i)) (h.bytes (pend_from + i)) (λ j q t. pend_at h i j l ∙ form.busy j (sym (busy_at h i j l) ∙ t)) in
        rw e (both _ _ (both _ _ (le-leb 2 (want_of s i) two) (eq-eqb (bit_or (busy_of s i) (pend_of s i)) (pend_of s i) within)) (all_to_of (owes_at s i) 8 owes_ok)))

    station_ok_lem : station_ok s i ≡ true
    unfolding station_ok
    station_ok_lem = both _ _ (both _ _ aged_ok_lem entry_ok_lem) calls_ok_lem

  -- LOCKS

  holder_ok : (x : ℕ) → ((g : ℕ) → x ≡ suc g → Holder m.kind m.fin g) → holder_ok_lem s x ≡ true
  unfolding holder_ok_lem
  holder_ok zero o = refl
  holder_ok (suc g) o =
      let z = o g refl in
      let one : suc g - 1 ≡ g = omega arith in
      or_r (eqb (suc g) 0) _
      (rw one (both _ _ (both _ _ (le-leb (suc g) 8 z.station) (locks_at g z.station z.locks)) (not_0 (unfinished_of s g) (working g z.station z.unfinished))))

  -- "a whole lock beside another's lock on that page"
  beside : (p o : ℕ) → p < 32 → o < 8 → whole_of s p ≢ 0 → lock_of s (p * 8 + o) ≢ 0 → lock_of s (p * 8 + o) ≡ whole_of s p
  beside p o lp lo w n = same (m.wl p) (m.ol (p * 8 + o)) (whole_at h p lp) (lock_at h (p * 8 + o) (omega arith)) refl refl
    where
      on : (p * 8 + o) / 8 ≡ p
      on = omega arith

      same : (x y : ℕ) → whole_of s p ≡ x → lock_of s (p * 8 + o) ≡ y → m.wl p ≡ x → m.ol (p * 8 + o) ≡ y → lock_of s (p * 8 + o) ≡ whole_of s p
      same zero y e f a b = absurd (w e)
      same (suc g) zero e f a b = absurd (n f)
      same (suc g) (suc j) e q a b =
          let z : j ≡ g = f.apart.locks.whole_alone j g (p * 8 + o) (omega arith) (rw on a) b in
          q ∙ ap suc z ∙ sym e

  -- the transaction that a whole lock of station g was given to
  given_ok_lem : (g t : ℕ) → WholeHolder m.kind m.fin g → GivenTo (m.kind g) (m.latest g) t → t ≢ 0 → given_ok s g t ≡ true
  unfolding given_ok
  given_ok_lem g t w d n =
      let l = w.station in
      both _ _ (not_0 t n)
      (either (keeps_b s g) (leb t (latest_of s g)) (not (eqb (unfinished_of s g) 0) && eqb t (latest_of s g)) (λ e. le-leb t (latest_of s g) (rw (latest_at h g l) d.seen))
      (λ e.
      let no : keeps (m.kind g) ≡ false = ap keeps (sym (kind_at h g l)) ∙ e in
      both _ _ (not_0 (unfinished_of s g) (working g l (w.unfinished no))) (eq-eqb t (latest_of s g) (d.latest_is no ∙ sym (latest_at h g l)))))

  besides : (p : ℕ) → p < 32 → whole_of s p ≢ 0 → all_to (beside_at s p) 8 ≡ true
  unfolding beside_at
  besides p l e =
      all_to_of (beside_at s p) 8
      (λ o lo. unless_0 (lock_of s (p * 8 + o)) _ (λ n. eq-eqb (lock_of s (p * 8 + o)) (whole_of s p) (beside p o l lo e n)))

  whole_ok_lem : (p : ℕ) → p < 32 → whole_ok s p ≡ true
  unfolding whole_ok
  whole_ok_lem p l =
      let g = whole_of s p - 1 in
      either (eqb (whole_of s p) 0) (eqb (whole_for_of s p) 0) (leb (whole_of s p) 8 && locking_b s g && given_ok s g (whole_for_of s p) && all_to (beside_at s p) 8)
      (λ e. eq-eqb (whole_for_of s p) 0 (whole_for_at h p l ∙ f.apart.locks.none_given p (sym (whole_at h p l) ∙ eqb_yes (whole_of s p) 0 e)))
      (λ e.
      let n = eqb_no (whole_of s p) 0 e in
      let q : m.wl p ≡ suc g = omega (arith, whole_at h p l, n) in
      let w = f.apart.locks.whole_open g p q in
      let d : GivenTo (m.kind g) (m.latest g) (whole_for_of s p) = rw (whole_for_at h p l) (f.apart.locks.given g p q) in
      both _ _
      (both _ _ (both _ _ (le-leb (whole_of s p) 8 (omega (arith, w.station, n))) (locks_at g w.station w.locks))
      (given_ok_lem g (whole_for_of s p) w d (λ z. f.given g p q (sym (whole_for_at h p l) ∙ z))))
      (besides p l n))

  page_ok_lem : (p : ℕ) → p < 32 → page_ok s p ≡ true
  unfolding page_ok holder_at
  page_ok_lem p l =
      both _ _ (whole_ok_lem p l)
      (all_to_of (holder_at s p) 8 (λ o lo. holder_ok (lock_of s (p * 8 + o)) (λ g q. f.apart.locks.object_open g (p * 8 + o) (sym (lock_at h (p * 8 + o) (omega arith)) ∙ q))))

  asked_ok : (p : ℕ) → p < 32 → asked_at s p ≡ true
  unfolding asked_at
  asked_ok p l = unless_not (has_bit (asked_of s) p) _ (λ t. not_0 (whole_of s p) (λ z. f.apart.locks.asked_held p (sym (asked_at_lem h p) ∙ t) (sym (whole_at h p l) ∙ z)))

  -- "equal ages or arrivals"
  ages_differ : (i j : ℕ) → i < 8 → j < 8 → i ≢ j → (ageless s i || ageless s j || not (eqb (age_of s i) (age_of s j))) ≡ true
  ages_differ i j li lj d =
      neither (ageless s i) (ageless s j) (age_of s i) (age_of s j)
      (λ ui uj e. d (f.apart.aged.ages_apart i j li lj (counting i li ui) (counting j lj uj) (sym (age_at h i li) ∙ e ∙ age_at h j lj)))

  arrivals_differ : (i j : ℕ) → i < 8 → j < 8 → i ≢ j → (eqb (want_of s i) 0 || eqb (want_of s j) 0 || not (eqb (arrival_of s i) (arrival_of s j))) ≡ true
  arrivals_differ i j li lj d =
      neither (eqb (want_of s i) 0) (eqb (want_of s j) 0) (arrival_of s i) (arrival_of s j)
      (λ wi wj e. d (f.apart.waiting.arrivals_apart i j li lj (waiting i li (eqb_no (want_of s i) 0 wi)) (waiting j lj (eqb_no (want_of s j) 0 wj)) (sym (arrival_at h i li) ∙ e ∙ arrival_at h j lj)))

  apart_ok_lem : (i : ℕ) → i < 8 → apart_ok s i ≡ true
  unfolding apart_ok apart_at
  apart_ok_lem i li =
      all_to_of (apart_at s i) i
      (λ j lj.
      let differ : i ≢ j = λ z. omega (arith, z) in
      both _ _ (ages_differ i j li (omega arith) differ) (arrivals_differ i j li (omega arith) differ))

  -- a state that means a server that fits
  pub valid_of : m.ages < counter_limit → m.arrivals < counter_limit → valid s ≡ true
  unfolding valid counters_ok
  valid_of la ln =
      both _ _ (eq-eqb (length s) server_length h.len)
      (both _ _
      (both _ _
      (both _ _
      (both _ _
      (both _ _ ranges
      (both _ _ (lt-ltb (ages_of s) counter_limit (omega (arith, ages_at h))) (lt-ltb (arrivals_of s) counter_limit (omega (arith, arrivals_at h)))))
      (all_to_of (station_ok s) 8 station_ok_lem))
      (all_to_of (page_ok s) 32 page_ok_lem))
      (all_to_of (asked_at s) 32 asked_ok))
      (all_to_of (apart_ok s) 8 apart_ok_lem))
