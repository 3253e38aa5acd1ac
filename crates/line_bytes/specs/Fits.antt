-- What number 1 tells of a server's state in the model's words: a state that passes means a server that fits (`fit_of`).
use Rattle.std.specs.Prelude.{ℕ, zero, suc, ◌+◌, ◌*◌, ◌/◌, ◌%◌, ◌≤◌, ◌<◌, ◌≡◌, refl, true, false, not, ◌≢◌, List, eqb, ltb}
use Rattle.std.proofs.Common.{sym, subst, ◌∙◌, add-one, eqb-true, ne_eqb}
use Rattle.std.proofs.Math.Path.{ap}
use Rattle.std.proofs.lemmas.Bool.{false≢true, eqb-false, not-true, not-false}
use native.Mathlib.Omega.{arith}
use Rattle.std.specs.Int.Bits.{bit_or}
use Rattle.sets.specs.Base.{has, any}
use Rattle.sets.specs.Laws.{by_b, by_eq}
use Rattle.sets.proofs.Laws.{eqb_yes, eqb_no, ltb_yes, ltb_no}
use Rattle.sets.specs.Size.{size}
use Rattle.sets.proofs.Size.{size_same}
use Rattle.cells.specs.Bits.{tb}
use Rattle.cells.proofs.Bits.{tb_or, tb_high}
use Rattle.cells.proofs.Loops.{any_same}
use Rattle.cells.specs.Cells.{view}
use Rattle.cells.proofs.Cells.{view_col, view_row, cell_lt, get32}
use Rattle.line.specs.Messages.{locking, keeps}
use Rattle.line.specs.Server.{Server, Want, NoWant, WantRead, WantWrite, WantCommit, is_want}
use Rattle.line.specs.Station.{some_on}
use Rattle.line.specs.Apart.{Holder, WholeHolder, GivenTo, Locks, Ages, Entry, Waiting, age_counts}
use Rattle.line.specs.Fit.{calls, Owes, OnPage, Form, Forms, Fit}
use Rattle.station_state.specs.Layout.{number_width, has_bit, member, count_in, none_in}
use Rattle.station_state.specs.Sets.{none_member}
use Rattle.station_meaning.specs.Meant.{within}
use Rattle.station_meaning.proofs.Tests.{has_if}
use Rattle.server_state.specs.Layout.{table, asked_cell, whole_for_cell, kind_cell, lock_cell, whole_cell, read_set_cell, written_set_cell, read_value_cell, written_value_cell, work_cell, work_from, pend_from, request_from, work_number, whole_for_of, lock_of, whole_of, read_set_from, written_set_from, want_of, request_of, called_of_lem, pend_of, busy_of, unfinished_of, locking_b}
use Rattle.server_state.specs.Valid.{ageless}
use Rattle.server_state.specs.Facts.{Ranged}
use Rattle.server_state.specs.Facts as Bytes
use Rattle.server_state.specs.Sets.{only_member}
use Rattle.server_state.specs.Pages.{page_some, page_member}
use Rattle.server_meaning.specs.Meant.{want_as, Is, start}
use Rattle.server_meaning.specs.Tests.{bit_is}
use Rattle.server_meaning.proofs.Tests.{age_at, arrival_at, ages_at, arrivals_at, latest_at, lock_at, whole_at, whole_for_at, kind_at, request_at, called_at, fin_at, ageless_at, want_at, waits_at, work_at, asked_at_lem, pend_at, busy_at, reads_at, writes_at, reads_high, writes_high}
use Rattle.step_meaning.specs.Relation.{Sound}

-- WHAT IS WAITED FOR, AS A NUMBER

abbrev pub want_number : Want → ℕ
want_number NoWant = 0
want_number WantRead = 1
want_number WantWrite = 2
want_number WantCommit = 3

want_of_lem : (k : ℕ) → k ≤ 3 → k ≡ want_number (want_as k)
want_of_lem zero l = refl
want_of_lem (suc zero) l = refl
want_of_lem (suc (suc zero)) l = refl
want_of_lem (suc (suc (suc zero))) l = refl
want_of_lem (suc (suc (suc (suc k)))) l = absurd (omega arith)

calls_of : (w : Want) → 2 ≤ want_number w → calls w ≡ true
calls_of NoWant l = absurd (omega arith)
calls_of WantRead l = absurd (omega arith)
calls_of WantWrite l = refl
calls_of WantCommit l = refl

-- below a bound by its bytes, from there on nothing
up_to : {G : ℕ → Type 0} (n : ℕ) → ((a : ℕ) → a < n → G a) → ((a : ℕ) → n ≤ a → G a) → (a : ℕ) → G a
up_to n f g a = by_b (ltb a n) (λ e. f a (ltb_yes a n e)) (λ e. g a (ltb_no a n e))

none_bit : (k : ℕ) → has_bit 0 k ≡ false
unfolding has_bit
none_bit k = refl

module _ {s : List ℕ} {m : Server} (h : Is s m) where
  -- PAST THE LAST

  kind_high : (i : ℕ) → 8 ≤ i → m.kind i ≡ 0
  kind_high i l = sym (ap (λ (n : Server). n.kind i) h.is) ∙ view_row table 0 s kind_cell i 0 (omega arith)

  lock_high : (a : ℕ) → 256 ≤ a → m.ol a ≡ 0
  lock_high a l = sym (ap (λ (n : Server). n.ol a) h.is) ∙ view_col table 0 s lock_cell 0 a (omega arith)

  whole_high : (p : ℕ) → 32 ≤ p → m.wl p ≡ 0
  whole_high p l = sym (ap (λ (n : Server). n.wl p) h.is) ∙ view_col table 0 s whole_cell 0 p (omega arith)

  whole_for_high : (p : ℕ) → 32 ≤ p → m.whole_for p ≡ 0
  whole_for_high p l = sym (ap (λ (n : Server). n.whole_for p) h.is) ∙ view_col table 0 s whole_for_cell 0 p (omega arith)

  asked_high : (p : ℕ) → 32 ≤ p → m.asked p ≡ false
  asked_high p l = sym (ap (λ (n : Server). n.asked p) h.is) ∙ tb_high 32 p (view table 0 s asked_cell 0 0) l (cell_lt (start h) asked_cell 0 0)

  pend_high : (i j : ℕ) → i < 8 → 8 ≤ j → (m.queue i).pend j ≡ false
  pend_high i j li l = sym (pend_at h i j li) ∙ bit_is (pend_of s i) j ∙ tb_high 8 j (pend_of s i) l (h.bytes (pend_from + i))

  -- MEMBERS

  pub read_member : (i a : ℕ) → i < 8 → a < 256 → member s (read_set_from i) a ≡ (m.queue i).reads a
  unfolding member
  read_member i a li la = let e : a / 8 * 8 + a % 8 ≡ a = omega arith in reads_at h i (a / 8) (a % 8) li (omega arith) (omega arith) ∙ ap (m.queue i).reads e

  pub written_member : (i a : ℕ) → i < 8 → a < 256 → member s (written_set_from i) a ≡ (m.queue i).writes a
  unfolding member
  written_member i a li la = let e : a / 8 * 8 + a % 8 ≡ a = omega arith in writes_at h i (a / 8) (a % 8) li (omega arith) (omega arith) ∙ ap (m.queue i).writes e

  pub number_at : (i : ℕ) → i < 8 → want_of s i ≡ 3 → work_number s i ≡ (m.queue i).work.transaction
  number_at i l k = rw (work_at h i l k) (get32 (start h) work_cell i 0 (work_from + i * number_width) refl (omega arith) l (omega arith))

  -- a waiting commit brings what its sets have, and as much
  work_reads : (i a : ℕ) → i < 8 → a < 256 → want_of s i ≡ 3 → has ((m.queue i).work.reads a) ≡ member s (read_set_from i) a
  work_reads i a li la k =
      rw (work_at h i li k) (has_if (within (view table 0 s read_set_cell i) a) (view table 0 s read_value_cell i a))
      ∙ ap (λ (n : Server). (n.queue i).reads a) h.is ∙ sym (read_member i a li la)

  work_writes : (i a : ℕ) → i < 8 → a < 256 → want_of s i ≡ 3 → has ((m.queue i).work.writes a) ≡ member s (written_set_from i) a
  work_writes i a li la k =
      rw (work_at h i li k) (has_if (within (view table 0 s written_set_cell i) a) (view table 0 s written_value_cell i a))
      ∙ ap (λ (n : Server). (n.queue i).writes a) h.is ∙ sym (written_member i a li la)

  pub reads_count : (i : ℕ) → i < 8 → want_of s i ≡ 3 → size 256 (λ a. has ((m.queue i).work.reads a)) ≡ count_in s (read_set_from i)
  unfolding count_in
  reads_count i l k = size_same 256 _ _ (λ a la. work_reads i a l la k)

  pub writes_count : (i : ℕ) → i < 8 → want_of s i ≡ 3 → size 256 (λ a. has ((m.queue i).work.writes a)) ≡ count_in s (written_set_from i)
  unfolding count_in
  writes_count i l k = size_same 256 _ _ (λ a la. work_writes i a l la k)

  module _ (r : Ranged s) where
    want_number_lem : (i : ℕ) → i < 8 → want_of s i ≡ want_number (m.queue i).want
    want_number_lem i l = want_of_lem (want_of s i) (r.want_fits i l) ∙ ap want_number (sym (want_at h i l))

    waiting : (i : ℕ) → i < 8 → is_want (m.queue i).want ≡ true → want_of s i ≢ 0
    waiting i l e = eqb-false (want_of s i) 0 (not-true (eqb (want_of s i) 0) (waits_at h i l (r.want_fits i l) ∙ e))

    idle : (i : ℕ) → i < 8 → is_want (m.queue i).want ≡ false → want_of s i ≡ 0
    idle i l e = eqb-true (want_of s i) 0 (not-false (eqb (want_of s i) 0) (waits_at h i l (r.want_fits i l) ∙ e))

    unfinished : (i : ℕ) → i < 8 → unfinished_of s i ≢ 0 → m.fin i ≡ false
    unfinished i l n = sym (fin_at h i l) ∙ ne_eqb (unfinished_of s i) 0 n

    working : (i : ℕ) → i < 8 → m.fin i ≡ false → unfinished_of s i ≢ 0
    working i l e = eqb-false (unfinished_of s i) 0 (fin_at h i l ∙ e)

    locks_at : (i : ℕ) → i < 8 → locking_b s i ≡ true → locking (m.kind i) ≡ true
    locks_at i l e = ap locking (sym (kind_at h i l)) ∙ e

    -- LOCKS

    holder_of : (k : ℕ) → Bytes.Holder s k → Holder m.kind m.fin k
    holder_of k o = record { station = o.station; unfinished = unfinished k o.station o.unfinished; locks = locks_at k o.station o.locks }

    at_page : (a : ℕ) → a / 8 * 8 + a % 8 ≡ a
    at_page a = omega arith

    object_held : (k a : ℕ) → m.ol a ≡ suc k → Holder m.kind m.fin k
    object_held k a =
        up_to {G = λ a. m.ol a ≡ suc k → Holder m.kind m.fin k} 256
        (λ a l e. holder_of k (r.lock_held (a / 8) (a % 8) k (omega arith) (omega arith) (ap (lock_of s) (at_page a) ∙ lock_at h a l ∙ e ∙ sym (add-one k))))
        (λ a l e. absurd (omega (arith, lock_high a l, e))) a

    -- a whole lock's holder, and the transaction that it was given to
    whole_bytes : (k p : ℕ) → p < 32 → m.wl p ≡ suc k → Bytes.WholeHolder s k (whole_for_of s p)
    whole_bytes k p l e = r.whole_held p k l (whole_at h p l ∙ e ∙ sym (add-one k))

    whole_held : (k p : ℕ) → m.wl p ≡ suc k → WholeHolder m.kind m.fin k
    whole_held k p =
        up_to {G = λ p. m.wl p ≡ suc k → WholeHolder m.kind m.fin k} 32
        (λ p l e.
        let o = whole_bytes k p l e in
        record {
          station = o.station;
          unfinished = λ n. unfinished k o.station (o.unfinished (ap keeps (kind_at h k o.station) ∙ n));
          locks = locks_at k o.station o.locks;
        })
        (λ p l e. absurd (omega (arith, whole_high p l, e))) p

    given_to : (k p : ℕ) → m.wl p ≡ suc k → GivenTo (m.kind k) (m.latest k) (m.whole_for p)
    given_to k p =
        up_to {G = λ p. m.wl p ≡ suc k → GivenTo (m.kind k) (m.latest k) (m.whole_for p)} 32
        (λ p l e.
        let o = whole_bytes k p l e in
        record {
          seen = rw (← whole_for_at h p l, ← latest_at h k o.station) o.seen;
          latest_is = λ n. sym (whole_for_at h p l) ∙ o.latest_is (ap keeps (kind_at h k o.station) ∙ n) ∙ latest_at h k o.station;
        })
        (λ p l e. absurd (omega (arith, whole_high p l, e))) p

    none_given : (p : ℕ) → m.wl p ≡ 0 → m.whole_for p ≡ 0
    none_given p =
        up_to {G = λ p. m.wl p ≡ 0 → m.whole_for p ≡ 0} 32 (λ p l e. sym (whole_for_at h p l) ∙ r.none_given p l (whole_at h p l ∙ e))
        (λ p l e. whole_for_high p l) p

    given_some : (k p : ℕ) → m.wl p ≡ suc k → m.whole_for p ≢ 0
    given_some k p =
        up_to {G = λ p. m.wl p ≡ suc k → m.whole_for p ≢ 0} 32 (λ p l e z. (whole_bytes k p l e).named (whole_for_at h p l ∙ z))
        (λ p l e. absurd (omega (arith, whole_high p l, e))) p

    alone : (g k a : ℕ) → a < 256 → m.wl (a / 8) ≡ suc k → m.ol a ≡ suc g → g ≡ k
    alone g k a l e f =
        let w : whole_of s (a / 8) ≡ suc k = whole_at h (a / 8) (omega arith) ∙ e in
        let o : lock_of s (a / 8 * 8 + a % 8) ≡ suc g = ap (lock_of s) (at_page a) ∙ lock_at h a l ∙ f in
        let same = r.beside (a / 8) (a % 8) (omega arith) (omega arith) (λ z. omega (arith, z, w)) (λ z. omega (arith, z, o)) in
        omega (arith, same, w, o)

    asked_held : (p : ℕ) → m.asked p ≡ true → m.wl p ≢ 0
    asked_held p =
        up_to {G = λ p. m.asked p ≡ true → m.wl p ≢ 0} 32 (λ p l e z. r.asked_held p l (asked_at_lem h p ∙ e) (whole_at h p l ∙ z))
        (λ p l e. absurd (false≢true (sym (asked_high p l) ∙ e))) p

    locks_of : Locks m.kind m.latest m.fin m.ol m.wl m.whole_for m.asked
    locks_of = record { whole_alone = alone; object_open = object_held; whole_open = whole_held; given = given_to; none_given = none_given; asked_held = asked_held }

    counting : (i : ℕ) → i < 8 → age_counts (m.fin i) (m.age_kept i) ≡ true → ageless s i ≡ false
    counting i l e = ageless_at h i l ∙ ap not e

    ages_of : Ages m.fin m.age_kept m.age m.ages
    ages_of =
        record {
          ages_apart = λ i j li lj fi fj e.
              by_eq i j (λ q. eqb_yes i j q)
              (λ q. absurd (r.ages_apart i j li lj (eqb_no i j q) (counting i li fi) (counting j lj fj) (age_at h i li ∙ e ∙ sym (age_at h j lj))));
          ages_given = λ i l. rw (← age_at h i l, ← ages_at h) (r.age_given i l);
        }

    -- THE WAITING LIST

    module _ (i : ℕ) (l : i < 8) where
      -- the entry of one that waits
      waiter : (w : Want) → (m.queue i).want ≡ w → is_want w ≡ true → Bytes.Waiter s i
      waiter w e t = r.waiter i l (waiting i l (ap is_want e ∙ t))

      number : (w : Want) → (m.queue i).want ≡ w → want_of s i ≡ want_number w
      number w e = want_number_lem i l ∙ ap want_number e

      read_bytes : (m.queue i).want ≡ WantRead → Bytes.One s i
      read_bytes e = (waiter WantRead e refl).read (number WantRead e)

      write_bytes : (m.queue i).want ≡ WantWrite → Bytes.OnPage s i
      write_bytes e = (waiter WantWrite e refl).write (number WantWrite e)

      commit_bytes : (m.queue i).want ≡ WantCommit → Bytes.Work s i
      commit_bytes e = (waiter WantCommit e refl).commit (number WantCommit e)

      request_lt : (m.queue i).req < 256
      request_lt = rw (← request_at h i l) (h.bytes (request_from + i))

      -- a set with the object requested alone, one with objects of the page requested alone, and one with nothing
      only_read : Bytes.One s i → (b : ℕ) → (m.queue i).reads b ≡ eqb b (m.queue i).req
      only_read o =
          up_to 256 (λ b lb. sym (read_member i b l lb) ∙ only_member s h.bytes (read_set_from i) (request_of s i) o.requested b lb ∙ ap (eqb b) (request_at h i l))
          (λ b lb. reads_high h i b lb ∙ sym (ne_eqb b (m.queue i).req (λ z. omega (arith, z, request_lt))))

      nothing_read : none_in s (read_set_from i) ≡ true → (a : ℕ) → (m.queue i).reads a ≡ false
      nothing_read e = up_to 256 (λ a la. sym (read_member i a l la) ∙ none_member s h.bytes (read_set_from i) e a la) (reads_high h i)

      nothing_written : none_in s (written_set_from i) ≡ true → (a : ℕ) → (m.queue i).writes a ≡ false
      nothing_written e = up_to 256 (λ a la. sym (written_member i a l la) ∙ none_member s h.bytes (written_set_from i) e a la) (writes_high h i)

      page_written : Bytes.OnPage s i → (b : ℕ) → (m.queue i).writes b ≡ true → b / 8 ≡ (m.queue i).req / 8
      page_written o =
          up_to {G = λ b. (m.queue i).writes b ≡ true → b / 8 ≡ (m.queue i).req / 8} 256
          (λ b lb e. page_member s (written_set_from i) (request_of s i / 8) o.page_only_lem b lb (written_member i b l lb ∙ e) ∙ rw (request_at h i l))
          (λ b lb e. absurd (false≢true (sym (writes_high h i b lb) ∙ e)))

      some_written : Bytes.OnPage s i → some_on ((m.queue i).req / 8) (m.queue i).writes ≡ true
      some_written o =
          let p = request_of s i / 8 in
          let lp : p < 32 = omega (arith, request_at h i l, request_lt) in
          let same : any 8 (λ c. member s (written_set_from i) (p * 8 + c)) ≡ any 8 (λ c. (m.queue i).writes (p * 8 + c)) =
          any_same _ _ 8 (λ c lc. written_member i (p * 8 + c) l (omega arith)) in
          subst (λ (q : ℕ). some_on (q / 8) (m.queue i).writes ≡ true) (request_at h i l) (sym same ∙ page_some s (written_set_from i) p h.bytes lp o.page_only_lem)

      on_page_lem : Bytes.OnPage s i → OnPage (m.queue i).req (m.queue i).writes (m.queue i).reads
      on_page_lem o =
          record {
            in_range = request_lt;
            stands = omega (arith, o.stands, request_at h i l);
            some_asked = some_written o;
            page_only_lem = page_written o;
            nothing_else = nothing_read o.nothing_else;
          }

      entry_of : Entry (m.kind i) (m.fin i) (m.queue i)
      entry_of =
          record {
            waits_open = λ e. unfinished i l (r.waiter i l (waiting i l e)).unfinished;
            reads_lock = λ e. locks_at i l (read_bytes e).locks;
            writes_lock = λ e. locks_at i l (write_bytes e).locks;
            commits_validate = λ e. ap locking (sym (kind_at h i l) ∙ (commit_bytes e).validates);
          }

      -- the 20s
      called_yes : (m.queue i).called ≡ true → called_of_lem s i ≢ 0
      called_yes e = eqb-false (called_of_lem s i) 0 (not-true (eqb (called_of_lem s i) 0) (called_at h i l ∙ e))

      pend_calls : (j : ℕ) → (m.queue i).pend j ≡ true → called_of_lem s i ≢ 0
      pend_calls j e z =
          let none : has_bit (pend_of s i) j ≡ false = rw (r.uncalled i l z).0 (none_bit j) in
          false≢true (sym none ∙ pend_at h i j l ∙ e)

      busy_calls : (j : ℕ) → (m.queue i).busy j ≡ true → called_of_lem s i ≢ 0
      busy_calls j e z =
          let none : has_bit (busy_of s i) j ≡ false = rw (r.uncalled i l z).1 (none_bit j) in
          false≢true (sym none ∙ busy_at h i j l ∙ e)

      owed_of : (j : ℕ) → (m.queue i).pend j ≡ true → Owes m.kind i j
      owed_of j e =
          by_b (ltb j 8)
          (λ q.
          let lj = ltb_yes j 8 q in
          let o = (r.called i l (pend_calls j e)).owes j lj (pend_at h i j l ∙ e) in
          record { station = lj; another = ne_eqb j i o.0; locks = locks_at j lj o.1 })
          (λ q. absurd (false≢true (sym (pend_high i j l (ltb_no j 8 q)) ∙ e)))

      busy_of_lem : (j : ℕ) → (m.queue i).busy j ≡ true → (m.queue i).pend j ≡ true
      busy_of_lem j e =
          let c = r.called i l (busy_calls j e) in
          let b : tb (busy_of s i) j ≡ true = sym (bit_is (busy_of s i) j) ∙ busy_at h i j l ∙ e in
          let both : tb (bit_or (busy_of s i) (pend_of s i)) j ≡ true = tb_or j (busy_of s i) (pend_of s i) ∙ rw b refl in
          sym (pend_at h i j l) ∙ bit_is (pend_of s i) j ∙ rw c.busy_owes at both

      form_of : Form m.kind i (m.latest i) (m.queue i)
      form_of =
          record {
            blank = λ e.
                let b = r.blank i l (idle i l e) in
                record {
                  arrival_is = sym (arrival_at h i l) ∙ b.arrival_is;
                  req_is = sym (request_at h i l) ∙ b.request_is;
                  nothing_read = nothing_read b.nothing_read;
                  nothing_written = nothing_written b.nothing_written;
                };
            read = λ e. let o = read_bytes e in record { in_range = request_lt; asked_for = only_read o; nothing_else = nothing_written o.nothing_else };
            write = λ e. on_page_lem (write_bytes e);
            commit = λ e.
                let o = commit_bytes e in
                let three = number WantCommit e in
                record {
                  req_is = sym (request_at h i l) ∙ o.request_is;
                  latest_is = sym (number_at i l three) ∙ o.latest_is ∙ latest_at h i l;
                  few = record { reads_few = rw (reads_count i l three) o.reads_few; writes_few = rw (writes_count i l three) o.writes_few };
                };
            called = λ e. calls_of (m.queue i).want (rw (← want_number_lem i l) (r.called i l (called_yes e)).wants);
            pending = λ j e. sym (called_at h i l) ∙ ap not (ne_eqb (called_of_lem s i) 0 (pend_calls j e));
            owed = owed_of;
            busy = busy_of_lem;
          }

    waiting_of : Waiting m.kind m.fin m.arrivals m.queue
    waiting_of =
        record {
          arrivals_apart = λ i j li lj wi wj e.
              by_eq i j (λ q. eqb_yes i j q)
              (λ q. absurd (r.arrivals_apart i j li lj (eqb_no i j q) (waiting i li wi) (waiting j lj wj) (arrival_at h i li ∙ e ∙ sym (arrival_at h j lj))));
          arrivals_given = λ i l e. rw (← arrival_at h i l, ← arrivals_at h) (r.waiter i l (waiting i l e)).arrival_given;
          entry = entry_of;
        }

    forms_of : Forms m.kind m.latest m.fin m.queue
    forms_of =
        record {
          kinds = up_to 8 (λ i l. rw (← kind_at h i l) (r.kind_fits i l)) (λ i l. rw (kind_high i l) (omega arith));
          named = λ i l e z. r.named i l (working i l e) (latest_at h i l ∙ z);
          form = form_of;
        }

    pub fit_of : Fit m
    fit_of = record { apart = record { locks = locks_of; aged = ages_of; waiting = waiting_of }; forms = forms_of; given = given_some }

-- what messages and records need of it
pub sound_fit : {m : Server} → Fit m → Sound m
sound_fit f =
    record {
      kinds = f.forms.kinds;
      numbered = λ i l w. f.forms.named i l ((f.apart.waiting.entry i l).waits_open w);
      worked = λ i l e z. f.forms.named i l ((f.apart.waiting.entry i l).waits_open (ap is_want e)) (sym ((f.forms.form i l).commit e).latest_is ∙ z);
      paged = λ i l e. let o = (f.forms.form i l).write e in record { stands = o.stands; page_only_lem = o.page_only_lem };
      holder = λ p g e. ((f.apart.locks.whole_open g p e).station, f.given g p e);
    }
