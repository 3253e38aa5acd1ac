-- Number 1 of a station's state: a state that passes means a station that fits, a state that means one passes; and a fresh one.
use Prim.Native.Nat.{ℕ, ◌+◌, ◌*◌, ◌≤◌, ◌<◌, ◌/◌, ◌%◌, ◌^◌}
use Rattle.std.specs.Prelude.{◌≡◌, Bool, cond, ◌&&◌, ◌||◌, List, ◌≢◌, ltb, length, set, replicate}
use Rattle.std.proofs.Math.Path.{refl, sym, ap, fun_ext}
use Rattle.std.proofs.Common.{subst, ◌∙◌, arith}
use Rattle.std.proofs.Math.Bool.{true, false, not, or-false}
use Rattle.std.proofs.lemmas.Bool.{false≢true}
use Rattle.std.proofs.Math.Dec.{eqb}
use Rattle.std.proofs.Math.ListN.{get_or}
use Rattle.std.proofs.lemmas.List.{length-replicate}
use borrow.Author.Tests.{eqb-true, eqb-false, eq-eqb, ne_eqb, lt-ltb, le-leb, not-false, not-true}
use Rattle.kinds.specs.Kinds.{most_kind}
use Rattle.lists.specs.Tests.{and_l, and_r}
use Rattle.sets.specs.Base.{Val, none, has, none_at, nowhere, zeros}
use Rattle.sets.specs.Laws.{by_b, by_eq}
use Rattle.sets.proofs.Laws.{eqb_same, eqb_yes, eqb_no, ltb_yes, ltb_no}
use Rattle.sets.specs.Size.{size}
use Rattle.sets.proofs.Size.{size_same, size_empty, size_joined, size_new, size_old}
use Rattle.limits.specs.Limit.{limit}
use Rattle.cells.specs.Num.{AllBytes}
use Rattle.cells.specs.Bits.{tb}
use Rattle.cells.proofs.Bits.{tb_zero, tb_test, tb_tells}
use Rattle.cells.proofs.Loops.{any_same}
use Rattle.cells.proofs.Pages.{any_byte}
use Rattle.cells.specs.Cells.{Cells, view, upd3, Holds}
use Rattle.cells.proofs.Cells.{view_zero, view_col, view_row, cell_lt, begin, put8, get8, get32}
use Rattle.line.specs.Messages.{locking, keeps}
use Rattle.line.specs.Apart.{keeps_locks}
use Rattle.line.specs.Station.{Station, Wait, ForRead, ForWrite, waiting, for_read, for_write, writes_to, of_page, Kept, NotKept, KeptCall, set_cached, set_unav, set_rd, set_wr, set_seen, set_ol, set_wl, fresh_station}
use Rattle.line.specs.Station as Model
use Rattle.line.specs.Asks.{Asks}
use Rattle.line.specs.Fit.{Works, Locked, KeptFits, Callbacks, LimitedStation, FitStation}
use Rattle.line.specs.FitCalls.{fit_new}
use Rattle.station_state.specs.Layout.{kept_from, whole_from, read_set_from, written_set_from, locks_from, station_from, kind_from, open_from, wait_from, address_from, kept_cell, whole_cell, locks_cell, station_cell, kind_cell, open_cell, wait_cell, address_cell, table, state_length, kept_of, number, whole, station, kind, opened, wait, address, waiting_set, locking_b, keeps_b, passing_whole, named_from, read_value, written_value, has_bit, member, count_in, written_with, none_in}
use Rattle.station_state.specs.Valid.{fields_ok, own_kept, closed_ok, first_ok, set_ok, out_ok, few_in, few_written, limited_ok, works_ok, lockless_ok, holds_ok, valid, fresh_state}
use Rattle.station_state.specs.Facts.{Lockless, Few, FewWritten, Ranged, valid_ranged}
use Rattle.station_state.specs.Changes.{waiting_values}
use Rattle.station_state.specs.Sets.{none_member, members_none, none_numbers, numbers_none}
use Rattle.station_callbacks.specs.Callbacks.{sets_at}
use Rattle.station_answer.specs.Did.{Did}
use Rattle.station_meaning.specs.Meant.{within, value_if, given, kept_if, meant_c, meant, Is}
use Rattle.station_meaning.proofs.Meant.{start}
use Rattle.station_meaning.specs.Named.{named}
use Rattle.station_meaning.proofs.Tests.{has_if, bit_of, some_given, station_at, kind_at, number_at, open_at, open_le, wait_le, stands_at, address_lt, waiting_set_lt, wait_is, waiting_at, for_read_at, writes_to_at, for_write_at, whole_at, lock_at, read_at, wrote_at, kept_at, read_high, wrote_high}
use Rattle.station_meaning.proofs.Counts.{written_with_at}
use Rattle.call_meaning.specs.Relation.{Sound, Means}
use Rattle.call_meaning.specs.Valid.{by_address, is_kept, no_cells, with_out, zeros_at}

valid_is : (s : List ℕ) → AllBytes s → Ranged s → Is (station s) s (meant s)
valid_is s b r =
    let h : Holds table 0 s s (view table 0 s) = begin table 0 s (omega (arith, r.size)) b in
    let flag : get_or s open_from 0 ≡ view table 0 s open_cell 0 0 = get8 h open_cell 0 0 open_from refl refl (omega arith) (omega arith) in
    let out : get_or s wait_from 0 ≡ view table 0 s wait_cell 0 0 = get8 h wait_cell 0 0 wait_from refl refl (omega arith) (omega arith) in
    let place : get_or s address_from 0 ≡ view table 0 s address_cell 0 0 = get8 h address_cell 0 0 address_from refl refl (omega arith) (omega arith) in
    record {
      len = r.size;
      bytes = b;
      own = sym (get8 h station_cell 0 0 station_from refl refl (omega arith) (omega arith));
      open_flag = rw (← flag) r.open_fits;
      wait_flag = rw (← out) r.wait_fits;
      stands = rw (← out, ← place) (λ w. (r.asks (λ z. omega (arith, (r.closed z).nothing_out, w)) w).0);
      is = refl;
    }

-- a value that is there stands in its set
value_none : (b : Bool) (v : ℕ) → b ≡ false → value_if b v ≡ none
value_none b v e = rw e refl

none_bit : (k : ℕ) → has_bit 0 k ≡ false
unfolding has_bit
none_bit k = refl

with_few : (s : List ℕ) (at : ℕ) (out : Bool) → Few s at out → size 256 (with_out s at out) ≤ limit
unfolding count_in
with_few s at true f =
    by_b (member s at (address s)) (λ e. omega (arith, size_old 256 (member s at) (address s) e, f.most))
    (λ e. omega (arith, size_joined 256 (member s at) (address s), f.room refl e))
with_few s at false f = omega (arith, size_same 256 (with_out s at false) (member s at) (λ a l. or-false (member s at a)), f.most)

few_with : (s : List ℕ) (at : ℕ) (out : Bool) → address s < 256 → size 256 (with_out s at out) ≤ limit → few_in s at out ≡ true
unfolding few_in count_in
few_with s at true l f =
    by_b (member s at (address s)) (λ e. rw e (le-leb (size 256 (member s at)) limit (omega (arith, size_old 256 (member s at) (address s) e, f))))
    (λ e. rw e (lt-ltb (size 256 (member s at)) limit (omega (arith, size_new 256 (member s at) (address s) l e, f))))
few_with s at false l f = le-leb (size 256 (member s at)) limit (omega (arith, size_same 256 (with_out s at false) (member s at) (λ a k. or-false (member s at a)), f))

-- what is written, with all that a write that is out will write
written_few : {s : List ℕ} → FewWritten s → cond (eqb (wait s) 2) (written_with s (address s / 8) (waiting_set s)) (count_in s written_set_from) ≤ limit
written_few {s} f = by_b (eqb (wait s) 2) (λ e. rw e (f.room (eqb-true (wait s) 2 e))) (λ e. rw e f.most)

few_written_lem : (s : List ℕ) → cond (eqb (wait s) 2) (written_with s (address s / 8) (waiting_set s)) (count_in s written_set_from) ≤ limit → few_written s ≡ true
unfolding few_written
few_written_lem s l =
    by_b (eqb (wait s) 2) (λ e. rw e (le-leb (written_with s (address s / 8) (waiting_set s)) limit (rw e at l))) (λ e. rw e (le-leb (count_in s written_set_from) limit (rw e at l)))

module _ {i : ℕ} {s : List ℕ} {m : Station} (h : Is i s m) where
  -- what the model counts is what the bytes have
  reads_with : size 256 (λ a. has (m.rd a) || for_read m.wait a) ≡ size 256 (with_out s read_set_from (eqb (wait s) 1))
  reads_with = size_same 256 _ _ (λ a l. rw (read_at h a l, has_if (member s read_set_from a) (read_value s a), ← for_read_at h a))

  writes_with : size 256 (λ a. has (m.wr a) || for_write m.wait a) ≡ cond (eqb (wait s) 2) (written_with s (address s / 8) (waiting_set s)) (count_in s written_set_from)
  unfolding count_in
  writes_with =
      by_b (eqb (wait s) 2)
      (λ e. rw e (size_same 256 _ _ (λ a l. rw (← for_write_at h a, e, bit_of (waiting_set s) (a % 8))) ∙ sym (written_with_at h (address s / 8) (waiting_set s) (omega (arith, address_lt h)) (waiting_set_lt h))))
      (λ e. rw e (size_same 256 _ _ (λ a l. rw (wrote_at h a l, has_if (member s written_set_from a) (written_value s a), ← for_write_at h a, e, or-false))))

  lock_high : (a : ℕ) → 256 ≤ a → m.ol a ≡ false
  lock_high a l = sym (ap (λ (n : Station). n.ol a) h.is) ∙ rw (view_col table 0 s locks_cell 0 (a / 8) (omega arith), tb_zero (a % 8))

  kept_high : (r : ℕ) → 8 ≤ r → m.kept r ≡ NotKept
  kept_high r l = sym (ap (λ (n : Station). n.kept r) h.is) ∙ rw (view_row table 0 s kept_cell r 0 (omega arith))

  whole_lt : whole s < 2 ^ 32
  whole_lt = rw (get32 (start h) whole_cell 0 0 whole_from refl refl (omega arith) (omega arith)) (cell_lt (start h) whole_cell 0 0)

  -- the two tests of the bytes are the model's
  closed_at : m.opened ≡ false → opened s ≡ 0
  closed_at e = eqb-true (opened s) 0 (not-false (eqb (opened s) 0) (open_at h ∙ e))

  open_not : m.opened ≡ true → opened s ≢ 0
  open_not e = eqb-false (opened s) 0 (not-true (eqb (opened s) 0) (open_at h ∙ e))

  holds_at : (locking_b s && not (eqb (opened s) 0)) ≡ (locking m.kind && m.opened)
  holds_at = rw (kind_at h, open_at h)

  module _ (r : Ranged s) where
    sound_of : Sound i m
    sound_of =
        record {
          own = omega (arith, r.station_fits, station_at h);
          kind_is = rw (← kind_at h) r.kind_fits;
          counted = λ e n. r.numbered (open_not e) (number_at h ∙ n);
          not_own = rw (← station_at h) (kept_at h (station s) (omega (arith, r.station_fits)) ∙ rw r.not_own);
        }

    -- a read that is out
    read_out : (a : ℕ) → m.wait ≡ ForRead a → (m.rd a ≡ none) × (m.wr a ≡ none)
    read_out a e =
        let both : (eqb (wait s) 1 && eqb a (address s)) ≡ true = for_read_at h a ∙ ap (λ (w : Wait). for_read w a) e ∙ eqb_same a in
        let out : wait s ≡ 1 = eqb-true (wait s) 1 (and_l (eqb (wait s) 1) _ both) in
        let here : a ≡ address s = eqb-true a (address s) (and_r (eqb (wait s) 1) _ both) in
        let first = r.first (λ z. omega (arith, (r.closed z).nothing_out, out)) out in
        let small : a < 256 = omega (arith, here, address_lt h) in
        (read_at h a small ∙ value_none (member s read_set_from a) (read_value s a) (rw here first.0), wrote_at h a small ∙ value_none (member s written_set_from a) (written_value s a) (rw here first.1))

    -- a write that is out
    write_out : (p : ℕ) (f : ℕ → Val) → m.wait ≡ ForWrite p f → Asks p f
    write_out p f e =
        let both : (eqb (wait s) 2 && eqb p (address s / 8)) ≡ true = writes_to_at h p ∙ ap (λ (w : Wait). writes_to w p) e ∙ eqb_same p in
        let out : wait s ≡ 2 = eqb-true (wait s) 2 (and_l (eqb (wait s) 2) _ both) in
        let page : p ≡ address s / 8 = eqb-true p (address s / 8) (and_r (eqb (wait s) 2) _ both) in
        let set = r.asks (λ z. omega (arith, (r.closed z).nothing_out, out)) out in
        let writes : (a : ℕ) → has (f a) ≡ (eqb (a / 8) p && tb (waiting_set s) (a % 8)) =
        λ a. sym (ap (λ (w : Wait). for_write w a) e) ∙ sym (for_write_at h a) ∙ rw (eq-eqb (wait s) 2 out, ← page, bit_of (waiting_set s) (a % 8)) in
        record {
          in_range = omega (arith, page, address_lt h);
          some_written =
              any_same (λ o. has (f (p * 8 + o))) (tb (waiting_set s)) 8 (λ o l. writes (p * 8 + o) ∙ on_page_lem p o l) ∙ sym (any_byte (waiting_set s) (waiting_set_lt h)) ∙ ap not (ne_eqb (waiting_set s) 0 set.1);
          page_only_lem = λ a t. eqb-true (a / 8) p (and_l (eqb (a / 8) p) _ (sym (writes a) ∙ t));
        }
      where
        on_page_lem : (p o : ℕ) → o < 8 → (eqb ((p * 8 + o) / 8) p && tb (waiting_set s) ((p * 8 + o) % 8)) ≡ tb (waiting_set s) o
        on_page_lem p o l =
            let d : (p * 8 + o) / 8 ≡ p = omega arith in
            let r : (p * 8 + o) % 8 ≡ o = omega arith in
            rw (d, r, eqb_same p)

    works_of : Works m.opened m.num m.rd m.wr m.wait
    works_of =
        record {
          numbered = sound_of.counted;
          idle = λ e. wait_is h ∙ rw (r.closed (closed_at e)).nothing_out refl;
          unread = λ e.
              by_address (λ a l. read_at h a l ∙ value_none _ _ (none_member s h.bytes read_set_from (r.closed (closed_at e)).nothing_read a l)) (read_high h);
          unwritten = λ e.
              by_address (λ a l. wrote_at h a l ∙ value_none _ _ (none_member s h.bytes written_set_from (r.closed (closed_at e)).nothing_written a l)) (wrote_high h);
          first = read_out;
          asks = write_out;
        }

    -- within the limit: an open transaction by its bytes, and of none there is nothing
    few_open : m.opened ≡ true → LimitedStation m.rd m.wr m.wait
    few_open e =
        record {
          reads_few = rw reads_with (with_few s read_set_from (eqb (wait s) 1) (r.reads_few (open_not e)));
          writes_few = rw writes_with (written_few (r.writes_few (open_not e)));
        }

    few_closed : m.opened ≡ false → LimitedStation m.rd m.wr m.wait
    few_closed e =
        record {
          reads_few = omega (arith, size_empty 256 (λ a. has (m.rd a) || for_read m.wait a) (λ a. rw (works_of.unread e a, works_of.idle e)));
          writes_few = omega (arith, size_empty 256 (λ a. has (m.wr a) || for_write m.wait a) (λ a. rw (works_of.unwritten e a, works_of.idle e)));
        }

    -- whoever holds something is an open locking station
    holding : {b : Bool} → ((locking m.kind && m.opened) ≡ false → b ≡ false) → b ≡ true → (locking m.kind && m.opened) ≡ true
    holding {b} f e = by_b (locking m.kind && m.opened) (λ t. t) (λ t. absurd (false≢true (sym (f t) ∙ e)))

    lockless_of : (locking m.kind && m.opened) ≡ false → Lockless s
    lockless_of e = r.lockless (holds_at ∙ e)

    object_free : (a : ℕ) → (locking m.kind && m.opened) ≡ false → m.ol a ≡ false
    object_free a e = by_address {G = λ a. m.ol a ≡ false} (λ a l. sym (lock_at h a l) ∙ none_member s h.bytes locks_from (lockless_of e).no_object a l) lock_high a

    page_free : (p : ℕ) → keeps m.kind ≡ false → (locking m.kind && m.opened) ≡ false → m.wl p ≡ false
    unfolding passing_whole
    page_free p k e =
        let passing = (lockless_of e).no_page in
        let none : whole s ≡ 0 = rw (kind_at h, k) at passing in
        sym (whole_at h p) ∙ rw none (none_bit p)

    locked_of : Locked m.kind m.opened m.ol m.wl
    locked_of =
        record {
          object_opened = λ a e. and_r (locking m.kind) _ (holding (object_free a) e);
          object_locks = λ a e. and_l (locking m.kind) _ (holding (object_free a) e);
          whole_opened = λ p e k. and_r (locking m.kind) _ (holding (page_free p k) e);
          whole_locks = λ p e. by_b (keeps m.kind) (keeps_locks m.kind) (λ k. and_l (locking m.kind) _ (holding (page_free p k) e));
        }

    -- a callback that is kept
    unkept : (q : ℕ) → q < 8 → (locking m.kind && m.opened) ≡ false → kept_of s q ≡ 0
    unkept q l e = none_numbers s kept_from (lockless_of e).nothing_kept q l

    kept_fits : (q : ℕ) → q < 8 → KeptFits m.kind (m.kept q)
    kept_fits q l =
        by_eq (kept_of s q) 0 (λ e. rw (kept_at h q l, e) tt)
        (λ e.
        let n : kept_of s q ≢ 0 = eqb_no (kept_of s q) 0 e in
        rw (kept_at h q l, e)
        (by_b (locking m.kind && m.opened) (λ t. (and_l (locking m.kind) _ t, n)) (λ t. absurd (n (unkept q l t)))))

    callbacks_of : Callbacks i m.kind m.opened m.kept
    callbacks_of =
        record {
          not_own = sound_of.not_own;
          done = λ e q l. kept_at h q l ∙ rw (unkept q l (rw e (and_false (locking m.kind))));
          fit = λ q. by_b (ltb q 8) (λ e. kept_fits q (ltb_yes q 8 e)) (λ e. rw (kept_high q (ltb_no q 8 e)) tt);
        }
      where
        and_false : (b : Bool) → (b && false) ≡ false
        and_false true = refl
        and_false false = refl

    fit_of : FitStation i m
    fit_of = record { works = works_of; few = by_b m.opened few_open few_closed; locked = locked_of; callbacks = callbacks_of }

pub valid_means : (s : List ℕ) → AllBytes s → valid s ≡ true → Is (station s) s (meant s) × Sound (station s) (meant s) × FitStation (station s) (meant s)
valid_means s b v =
    let r = valid_ranged s v in
    let h = valid_is s b r in
    (h, sound_of h r, fit_of h r)

is_kept_lem : (t : ℕ) (x : ℕ → Bool) → not (eqb t 0) ≡ is_kept (kept_if t x)
is_kept_lem t x = by_eq t 0 (λ e. rw e) (λ e. rw e)

member_of : (b : Bool) (v : ℕ) {x : Val} → x ≡ value_if b v → x ≡ none → b ≡ false
member_of b v e f = sym (has_if b v) ∙ ap has (sym e ∙ f)

not_kept : (k : Kept) (kind : ℕ) → KeptFits kind k → locking kind ≡ false → is_kept k ≡ false
not_kept NotKept kind f e = refl
not_kept (KeptCall t x) kind f e = absurd (false≢true (sym e ∙ f.0))

module _ {i : ℕ} {s : List ℕ} {m : Station} (h : Is i s m) (q : Sound i m) (f : FitStation i m) where
  unread_none : m.opened ≡ false → none_in s read_set_from ≡ true
  unread_none e = members_none s h.bytes read_set_from (λ a l. member_of _ _ (read_at h a l) (f.works.unread e a))

  unwritten_none : m.opened ≡ false → none_in s written_set_from ≡ true
  unwritten_none e = members_none s h.bytes written_set_from (λ a l. member_of _ _ (wrote_at h a l) (f.works.unwritten e a))

  limited_ok_lem : limited_ok s ≡ true
  unfolding limited_ok
  limited_ok_lem =
      rw (
        few_with s read_set_from (eqb (wait s) 1) (address_lt h) (rw (← reads_with h) f.few.reads_few),
        few_written_lem s (rw (← writes_with h) f.few.writes_few),
      )

  first_ok_lem : wait s ≡ 1 → first_ok s ≡ true
  unfolding first_ok
  first_ok_lem w =
      let out : m.wait ≡ ForRead (address s) = wait_is h ∙ rw w refl in
      let u = f.works.first (address s) out in
      let l = address_lt h in
      let read : member s read_set_from (address s) ≡ false = member_of _ _ (read_at h (address s) l) u.0 in
      let written : member s written_set_from (address s) ≡ false = member_of _ _ (wrote_at h (address s) l) u.1 in
      rw (read, written)

  -- what is asked for is in the set
  set_ok_lem : wait s ≡ 2 → set_ok s ≡ true
  unfolding set_ok
  set_ok_lem w =
      let p : ℕ = address s / 8 in
      let v : ℕ → ℕ = λ o. get_or (waiting_values s) o 0 in
      let asked = f.works.asks p (of_page p (given (waiting_set s) v)) (wait_is h ∙ rw w refl) in
      let some_asked : not (eqb (waiting_set s) 0) ≡ true = sym (some_given p (waiting_set s) v (waiting_set_lt h)) ∙ asked.some_written in
      rw (stands_at h w, some_asked)

  out_ok_lem : out_ok s ≡ true
  unfolding out_ok
  out_ok_lem =
      by_eq (wait s) 1 (λ w. rw w (first_ok_lem (eqb_yes (wait s) 1 w)))
      (λ w. rw w (by_eq (wait s) 2 (λ q. rw q (set_ok_lem (eqb_yes (wait s) 2 q))) (λ q. rw q)))

  works_ok_lem : works_ok s ≡ true
  unfolding works_ok closed_ok
  works_ok_lem =
      by_eq (opened s) 0
      (λ e.
      let shut : m.opened ≡ false = sym (open_at h) ∙ rw e refl in
      let idle : eqb (wait s) 0 ≡ true = not-false (eqb (wait s) 0) (waiting_at h ∙ ap waiting (f.works.idle shut)) in
      rw (e, idle, unread_none shut, unwritten_none shut))
      (λ e. rw (e, out_ok_lem, limited_ok_lem))

  module _ (e : (locking m.kind && m.opened) ≡ false) where
    neither : {b : Bool} → (b ≡ true → m.opened ≡ true) → (b ≡ true → locking m.kind ≡ true) → b ≡ false
    neither {b} o k = by_b b (λ t. absurd (false≢true (sym e ∙ rw (k t, o t) refl))) (λ t. t)

    no_page : passing_whole s ≡ 0
    unfolding has_bit passing_whole
    no_page =
        by_b (keeps_b s) (λ k. rw k)
        (λ k.
        let own : keeps m.kind ≡ false = rw (kind_at h) at k in
        rw k
        (tb_tells 32 (whole s) 0 (whole_lt h) (omega arith)
        (λ p l. sym (tb_test p (whole s)) ∙ whole_at h p ∙ neither (λ t. f.locked.whole_opened p t own) (f.locked.whole_locks p) ∙ sym (tb_zero p))))

    no_object : none_in s locks_from ≡ true
    no_object = members_none s h.bytes locks_from (λ a l. lock_at h a l ∙ neither (f.locked.object_opened a) (f.locked.object_locks a))

    no_kept : (r : ℕ) → r < 8 → is_kept (m.kept r) ≡ false
    no_kept r l =
        by_b m.opened (λ o. not_kept (m.kept r) m.kind (f.callbacks.fit r) (validates (locking m.kind) (rw o at e))) (λ o. ap is_kept (f.callbacks.done o r l))
      where
        validates : (b : Bool) → (b && true) ≡ false → b ≡ false
        validates true z = z
        validates false z = refl

    nothing_kept : none_in s kept_from ≡ true
    nothing_kept =
        numbers_none s kept_from
        (λ r l. eqb-true (kept_of s r) 0 (not-false (eqb (kept_of s r) 0) (is_kept_lem (kept_of s r) (named (sets_at s (named_from r))) ∙ ap is_kept (sym (kept_at h r l)) ∙ no_kept r l)))

  holds_ok_lem : holds_ok s ≡ true
  unfolding holds_ok lockless_ok
  holds_ok_lem =
      by_b (locking m.kind && m.opened) (λ e. rw (holds_at h, e))
      (λ e. rw (holds_at h, e, eq-eqb (passing_whole s) 0 (no_page e), no_object e, nothing_kept e))

  -- number 1 lets it pass
  pub valid_kept : valid s ≡ true
  unfolding valid fields_ok own_kept
  valid_kept =
      rw (
        eq-eqb (length s) state_length h.len,
        le-leb (station s) 7 (omega (arith, station_at h, q.own)),
        le-leb (kind s) most_kind (rw (kind_at h) q.kind_is),
        le-leb (opened s) 1 (open_le h),
        le-leb (wait s) 3 (wait_le h),
        counted,
        others,
        works_ok_lem,
        holds_ok_lem,
      )
    where
      counted : (eqb (opened s) 0 || not (eqb (number s) 0)) ≡ true
      counted =
          by_eq (opened s) 0 (λ e. rw e)
          (λ e. rw (e, ne_eqb (number s) 0 (λ z. q.counted (sym (open_at h) ∙ ap not e) (sym (number_at h) ∙ z))))

      others : not (eqb (kept_of s (station s)) 0) ≡ false
      others =
          rw (station_at h)
          (is_kept_lem (kept_of s i) (named (sets_at s (named_from i))) ∙ ap is_kept (sym (kept_at h i q.own)) ∙ ap is_kept q.not_own)

-- so validity is kept by every call that means one of the model's
pub means_valid : {i : ℕ} {b : Did} {d : Model.Did} → Means i b d → FitStation i d.station → valid b.state ≡ true
means_valid h f = valid_kept h.state h.sound f

-- all 0 but for station and kind
fresh_cells : (i k : ℕ) → meant_c (upd3 (upd3 no_cells station_cell 0 0 i) kind_cell 0 0 k) ≡ fresh_station k
fresh_cells i k =
    let pages : ◌≡◌ {A = ℕ → Bool} (tb 0) nowhere = fun_ext tb_zero in
    let objects : ◌≡◌ {A = ℕ → Bool} (within zeros) nowhere = fun_ext (λ a. tb_zero (a % 8)) in
    let values : ◌≡◌ {A = ℕ → Val} (λ a. value_if (within zeros a) 0) none_at = ap {B = ℕ → Val} (λ (f : ℕ → Bool) a. value_if (f a) 0) objects in
    let versions : ◌≡◌ {A = ℕ → ℕ} (λ a. cond (within zeros a || within zeros a) 0 0) zeros = ap {B = ℕ → ℕ} (λ (f : ℕ → Bool) a. cond (f a || f a) 0 0) objects in
    λ t.
    set_wl
    (set_ol (set_seen (set_wr (set_rd (set_unav (set_cached (fresh_station k) (pages t)) (objects t)) (values t)) (values t)) (versions t)) (objects t))
    (pages t)

-- n is the state's length: a variable, so that nothing computes the zeros
fresh_is : (n i k : ℕ) → n ≡ state_length → i < 8 → k ≤ most_kind → Is i (set (set (replicate n 0) station_from i) kind_from k) (fresh_station k)
fresh_is n i k e l q =
    let z : List ℕ = replicate n 0 in
    let size : length z ≡ state_length = length-replicate n 0 ∙ e in
    let blank : Holds table 0 z z no_cells =
    subst (Holds table 0 z z) (fun_ext (λ r. fun_ext (λ x. fun_ext (λ y. view_zero table 0 z (zeros_at n) r x y))))
    (begin table 0 z (omega (arith, size)) (λ j. rw (zeros_at n j) (omega arith))) in
    let h = put8 (put8 blank station_cell 0 0 i station_from refl refl (omega arith) (omega arith) (omega arith)) kind_cell 0 0 k kind_from refl refl (omega arith) (omega arith) (omega arith) in
    let cell : (r : ℕ) → view table 0 (set (set z station_from i) kind_from k) r 0 0 ≡ upd3 (upd3 no_cells station_cell 0 0 i) kind_cell 0 0 k r 0 0 = λ r. ap (λ (D : Cells). D r 0 0) h.is in
    record {
      len = h.len ∙ size;
      bytes = h.bytes;
      own = cell station_cell;
      open_flag = rw (cell open_cell) (omega arith);
      wait_flag = rw (cell wait_cell) (omega arith);
      stands = rw (cell wait_cell, cell address_cell) (λ w. absurd (omega arith));
      is = ap meant_c h.is ∙ fresh_cells i k;
    }

pub fresh_means : (i k : ℕ) → i < 8 → k ≤ most_kind → Is i (fresh_state i k) (fresh_station k)
unfolding fresh_state
fresh_means i k l q = fresh_is state_length i k refl l q

pub fresh_sound : (i k : ℕ) → i < 8 → k ≤ most_kind → Sound i (fresh_station k)
fresh_sound i k l q = record { own = l; kind_is = q; counted = λ e. absurd (false≢true e); not_own = refl }

pub fresh_valid : (i k : ℕ) → i < 8 → k ≤ most_kind → valid (fresh_state i k) ≡ true
fresh_valid i k l q = valid_kept (fresh_means i k l q) (fresh_sound i k l q) (fit_new i k)
