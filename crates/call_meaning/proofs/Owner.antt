-- The owner's operations over bytes mean those of document 01, for every argument: what is out of range both refuse.
use Prim.Native.Nat.{ℕ, zero, suc, ◌+◌, ◌-◌, ◌*◌, ◌≤◌, ◌<◌, ◌/◌, ◌%◌, ◌^◌}
use Rattle.std.specs.Prelude.{◌≡◌, Bool, ◌&&◌, ◌||◌, cond, List, [], ◌∷◌, ◌≢◌}
use Rattle.std.proofs.Math.Path.{refl, ap, fun_ext}
use Rattle.std.proofs.Common.{sym, ◌∙◌, add-zero, pow-suc}
use Rattle.std.proofs.Math.Bool.{true, false, not, or-true, or-false}
use Rattle.std.proofs.Math.Nat.{lt_of_le_of_lt}
use native.Mathlib.Omega.{arith}
use Rattle.std.proofs.lemmas.Nat.{and_le_l}
use Rattle.std.specs.Int.Count.{ones, count_trailing_zeros}
use Rattle.std.proofs.Math.Dec.{eqb, ltb}
use Rattle.std.proofs.Math.ListN.{get_or}
use Rattle.std.proofs.Math.Pow.{pow-lt}
use borrow.Author.Tests.{lt-ltb, le-ltb}
use Rattle.sets.specs.Base.{turned, Val, none, some, has}
use Rattle.sets.specs.Size.{size}
use Rattle.sets.proofs.Size.{size_same}
use Rattle.sets.specs.Laws.{by_b, by_eq}
use Rattle.sets.proofs.Laws.{eqb_yes, eqb_no, ltb_yes, ltb_no, not_no, or_no}
use Rattle.limits.specs.Limit.{limit}
use Rattle.cells.specs.Upd.{cond_rel, branch_rel}
use Rattle.cells.specs.Bits.{tb, tb_not}
use Rattle.cells.proofs.Bits.{tb_zero, tb_and, tb_pow}
use Rattle.cells.proofs.Loops.{any_same, ones_size}
use Rattle.cells.proofs.Pages.{any_byte}
use Rattle.line.specs.Messages.{locking, last_number, ReadRequest, WriteRequest, Abort}
use Rattle.line.specs.Messages as Line
use Rattle.line.specs.Station.{Station, ForRead, ForWrite, waiting, requested, used_page, shown, may_write, unless, check_begin, open_then, check_open, long_read, long_write, check_read, some_on, several_on, lowest_from, lowest_on, bad_set, check_write, check_purge, own_begin, read_local, read_ask, read_as, own_read, write_local, write_ask, write_set, of_page, own_write, own_abort, own_purge, kept_whole}
use Rattle.line.specs.Station as Model
use Rattle.message_meaning.specs.Meant.{objects_on}
use Rattle.message_meaning.proofs.Sent.{read_sent, write_sent, abort_sent, purge_sent}
use Rattle.station_state.specs.Layout.{number, cached, whole, locks, unavailable, member, has_bit, count_in, unavailable_from, locks_from, written_set_from, read_set_from, read_value, written_value, locking_b}
use Rattle.station_answer.specs.declared.Answer.TheVariants.{Aborted}
use Rattle.station_answer.specs.Did.{Did}
use Rattle.station_owner.specs.Owner.{unless_b, check_begin_b, open_then_b, check_open_b, long_read_b, long_write_b, check_read_b, bad_set_b, check_write_b, check_purge_b, own_begin_b, read_request_b, write_request_b, shown_b, read_local_b, read_ask_b, read_here_b, read_as_b, own_read_b, at_hand_b, named_b, ask_b, write_ask_b, write_as_b, own_write_set_b, aborts_b, own_abort_b, own_purge_b}
use Rattle.cells.proofs.Lowest.{low_lt}
use Rattle.station_meaning.specs.Meant.{given, Is}
use Rattle.station_meaning.proofs.Tests.{has_if, bit_of, given_has, given_at, some_given, station_at, kind_at, number_at, number_lt, open_at, waiting_at, requested_at, cached_at, whole_at, lock_at, kept_whole_at, unav_at, read_at, wrote_at, copy_at, used_page_at}
use Rattle.station_meaning.proofs.Counts.{written_with_at}
use Rattle.station_meaning.proofs.Changes.{begin_is, record_read_is, write_all_is, for_read_is, for_write_is}
use Rattle.station_meaning.proofs.Pages.{drop_as}
use Rattle.call_meaning.specs.Relation.{Sound, ReadAs, AllRead, Means}
use Rattle.call_meaning.proofs.Callbacks.{sound_drop, sound_read, sound_write, sound_wait, sound_undo, undo_means, ends_means}

-- A SET GIVEN ON A PAGE, by its bits

several_given : (p x : ℕ) (v : ℕ → ℕ) → x < 256 → several_on p (λ a. has (of_page p (given x v) a)) ≡ ltb 1 (ones x)
several_given p x v l = ap (ltb 1) (size_same 8 _ (tb x) (λ o q. given_at p x v o q) ∙ sym (ones_size 8 x l))

page_passed : (p : ℕ) (f : ℕ → Val) (m : Station) → bad_set p f m ≡ false → p < 32
page_passed p f m e =
    ltb_yes p 32 (not_no (ltb p 32) (or_no (not (ltb p 32)) _ (or_no (not (ltb p 32) || not (some_on p (λ a. has (f a)))) _ e).0).0)

-- CHECKS

module _ {i : ℕ} {s : List ℕ} {m : Station} (h : Is i s m) where
  pub check_begin_at : check_begin_b s ≡ check_begin m
  unfolding check_begin_b
  check_begin_at = rw (waiting_at h, open_at h, number_at h)

  open_then_at : (n : ℕ) → open_then_b s n ≡ open_then m n
  unfolding open_then_b
  open_then_at n = rw (waiting_at h, open_at h)

  pub check_open_at : check_open_b s ≡ check_open m
  check_open_at = open_then_at 0

  -- as much is recorded as the sets have
  reads_count : count_in s read_set_from ≡ size 256 (λ a. has (m.rd a))
  unfolding count_in
  reads_count = size_same 256 _ _ (λ a l. rw (read_at h a l) (sym (has_if (member s read_set_from a) (read_value s a))))

  long_read_at : (a : ℕ) → a < 256 → long_read_b a s ≡ long_read a m
  unfolding long_read_b
  long_read_at a l =
      rw (
        read_at h a l,
        wrote_at h a l,
        has_if (member s read_set_from a) (read_value s a),
        has_if (member s written_set_from a) (written_value s a),
        ← reads_count,
      )

  -- 4 comes before the others
  pub check_read_at : (a : ℕ) → check_read_b a s ≡ check_read a m
  unfolding check_read_b
  check_read_at a = by_b (ltb a 256) (λ l. rw (l, long_read_at a (ltb_yes a 256 l), open_then_at (turned (long_read a m) 15 0))) (λ l. rw l)

  module _ (p x : ℕ) (v : ℕ → ℕ) (lx : x < 256) where
    long_write_at : p < 32 → long_write_b p x s ≡ long_write (of_page p (given x v)) m
    unfolding long_write_b
    long_write_at l = ap (ltb limit) (written_with_at h p x l lx ∙ size_same 256 _ _ (λ a q. rw (given_has p x v a)))

    bad_set_at : bad_set_b p x s ≡ bad_set p (of_page p (given x v)) m
    unfolding bad_set_b
    bad_set_at = rw (some_given p x v lx, several_given p x v lx, kind_at h, le-ltb 255 x (omega arith)) (grouped (eqb x 0) (not (locking m.kind) && ltb 1 (ones x)))
      where
        grouped : (b c : Bool) → (ltb 31 p || b || false || c) ≡ (not (ltb p 32) || not (not b) || c)
        grouped b c = by_b (ltb p 32) (λ e. rw (e, le-ltb 31 p (omega (arith, ltb_yes p 32 e))) (small b)) (λ e. rw (e, lt-ltb 31 p (omega (arith, ltb_no p 32 e))))
          where
            small : (b : Bool) → (b || false || c) ≡ (not (not b) || c)
            small true = refl
            small false = refl

    pub check_write_at : check_write_b p x s ≡ check_write p (of_page p (given x v)) m
    unfolding check_write_b
    check_write_at =
        by_b (bad_set p (of_page p (given x v)) m) (λ e. rw (bad_set_at, e))
        (λ e. rw (bad_set_at, e, long_write_at (page_passed p (of_page p (given x v)) m e), open_then_at (turned (long_write (of_page p (given x v)) m) 15 0)))

  pub check_purge_at : (p : ℕ) → check_purge_b p s ≡ check_purge p m
  unfolding check_purge_b
  check_purge_at p =
      by_b (ltb p 32)
      (λ e. rw (e, requested_at h p, used_page_at h p (ltb_yes p 32 e), cached_at h p, kept_whole_at h p))
      (λ e. rw e)

-- the lowest of a set of n + 1 objects from a on is its number's lowest bit
lowest_is : (n y a : ℕ) (set : ℕ → Bool) → y < 2 ^ suc n → y ≢ 0 → ((o : ℕ) → o ≤ n → set (a + o) ≡ tb y o) → lowest_from n a set ≡ a + count_trailing_zeros (suc n) y
unfolding count_trailing_zeros tb
lowest_is zero y a set l n h = let one : y % 2 ≡ 1 = omega (arith, n) in rw one (omega arith)
lowest_is (suc n) y a set l z h =
    let here : set a ≡ eqb (y % 2) 1 = ap set (sym (add-zero a)) ∙ h 0 (omega arith) in
    by_eq (y % 2) 1
    (λ e. let one : y % 2 ≡ 1 = eqb_yes (y % 2) 1 e in rw (here, one) (omega arith))
    (λ e.
    let none : y % 2 ≡ 0 = omega (arith, eqb_no (y % 2) 1 e) in
    let rest : lowest_from n (suc a) set ≡ suc a + count_trailing_zeros (suc n) (y / 2) =
    lowest_is n (y / 2) (suc a) set (omega (arith, pow-suc 2 (suc n))) (λ q. z (omega arith)) (λ o q. let next : suc a + o ≡ a + suc o = omega arith in ap set next ∙ h (suc o) (omega arith)) in
    rw (here, none) (omega (arith, rest)))

-- what a check that passes has seen

turned_no : (b : Bool) (n r : ℕ) → n ≢ 0 → turned b n r ≡ 0 → (b ≡ false) × (r ≡ 0)
turned_no true n r l e = absurd (l e)
turned_no false n r l e = (refl, e)

module _ (m : Station) where
  then_passed : (n : ℕ) → open_then m n ≡ 0 → m.opened ≡ true
  then_passed n e =
      let w = turned_no (waiting m.wait) 7 (turned (not m.opened) 8 n) (omega arith) e in
      not_no m.opened (turned_no (not m.opened) 8 n (omega arith) w.1).0

  pub open_passed : check_open m ≡ 0 → m.opened ≡ true
  open_passed = then_passed 0

  read_passed : (a : ℕ) → check_read a m ≡ 0 → (a < 256) × (m.opened ≡ true)
  read_passed a e =
      let n = turned (long_read a m) 15 0 in
      let r = turned_no (not (ltb a 256)) 4 (open_then m n) (omega arith) e in
      (ltb_yes a 256 (not_no (ltb a 256) r.0), then_passed n r.1)

  write_passed : (p : ℕ) (f : ℕ → Val) → check_write p f m ≡ 0 → (p < 32) × (m.opened ≡ true)
  write_passed p f e =
      let n = turned (long_write f m) 15 0 in
      let r = turned_no (bad_set p f m) 4 (open_then m n) (omega arith) e in
      (page_passed p f m r.0, then_passed n r.1)

  begin_passed : check_begin m ≡ 0 → m.num ≢ last_number
  begin_passed e =
      let w = turned_no (waiting m.wait) 7 (turned m.opened 9 (turned (eqb m.num last_number) 11 0)) (omega arith) e in
      let o = turned_no m.opened 9 (turned (eqb m.num last_number) 11 0) (omega arith) w.1 in
      eqb_no m.num last_number (turned_no (eqb m.num last_number) 11 0 (omega arith) o.1).0

  purge_passed : (p : ℕ) → check_purge p m ≡ 0 → p < 32
  purge_passed p e =
      ltb_yes p 32 (not_no (ltb p 32) (turned_no (not (ltb p 32)) 4 (turned (requested m.wait p) 7 (turned (used_page m p || not (m.cached p) || kept_whole m p) 10 0)) (omega arith) e).0)

-- THE OPERATIONS

module _ {i : ℕ} {s : List ℕ} {m : Station} (h : Is i s m) (q : Sound i m) where
  -- what is done where the check passes, or a refusal
  pub unless_means : (n k : ℕ) (b : Did) (d : Model.Did) → n ≡ k → (k ≡ 0 → Means i b d) → Means i (unless_b n b s) (unless k d m)
  unless_means n k b d e f =
      rw e
      (branch_rel (Means i) (eqb k 0) (λ z. f (eqb_yes k 0 z)) (λ z. record { answer = refl; state = h; sound = q; sent = tt }))

  -- BEGIN

  pub begin_means : Means i (own_begin_b s) (own_begin m)
  unfolding own_begin_b own_begin
  begin_means =
      unless_means (check_begin_b s) (check_begin m) _ _ (check_begin_at h)
      (λ e.
      record {
        answer = ap (λ (n : ℕ). Line.Begun (n + 1)) (number_at h);
        state = begin_is h (omega (arith, number_lt h, number_at h, begin_passed m e));
        sound = record { own = q.own; kind_is = q.kind_is; counted = λ _. omega arith; not_own = q.not_own };
        sent = tt;
      })

  -- REQUESTS: a station sends for an open transaction, which has a number

  named_not_zero : m.opened ≡ true → number s ≢ 0
  named_not_zero o z = q.counted o (sym (number_at h) ∙ z)

  request_read : (a : ℕ) → a < 256 → m.opened ≡ true → ReadAs i (read_request_b a s) (ReadRequest a m.num)
  request_read a l o kinds ok =
      let there : a / 8 * 8 + a % 8 ≡ a = omega arith in
      rw (station_at h, ← number_at h)
      (rw there at (read_sent kinds ok i q.own (a / 8) (a % 8) (number s) (omega arith) (omega arith) (named_not_zero o) (number_lt h)))

  request_write : (p x : ℕ) → p < 32 → x ≢ 0 → x < 256 → m.opened ≡ true → ReadAs i (write_request_b p x s) (WriteRequest p m.num (objects_on p x))
  request_write p x l z lx o kinds ok =
      rw (station_at h, ← number_at h) (write_sent kinds ok i q.own p (number s) x l (named_not_zero o) (number_lt h) z lx)

  -- READ

  local_means : (a : ℕ) → a < 256 → Means i (read_local_b a s) (read_local a m)
  unfolding read_local_b read_local
  local_means a l = record { answer = ap Line.Value (copy_at h a l); state = record_read_is h a l; sound = sound_read a q; sent = tt }

  ask_means : (a : ℕ) → a < 256 → m.opened ≡ true → Means i (read_ask_b a s) (read_ask a m)
  unfolding read_ask_b read_ask
  ask_means a l o = record { answer = refl; state = for_read_is h a l; sound = sound_wait (ForRead a) q; sent = (request_read a l o, tt) }

  shown_at : (a : ℕ) → a < 256 → shown_b a s ≡ shown m a
  unfolding shown_b
  shown_at a l = rw (cached_at h (a / 8), unav_at h a l)

  -- "afterwards it sees that value or its own last write. Otherwise an available cached object is read locally."
  read_as_means : (a : ℕ) → a < 256 → m.opened ≡ true → Means i (read_as_b a s) (read_as a (m.wr a) (m.rd a) m)
  unfolding read_as_b read_here_b read_as
  read_as_means a l o =
      let here = cond_rel (Means i) (shown_b a s) (shown m a) (shown_at a l) (local_means a l) (ask_means a l o) in
      by_b (member s written_set_from a)
      (λ e.
      let w : m.wr a ≡ some (written_value s a) = wrote_at h a l ∙ rw e in
      rw (e, w) (record { answer = refl; state = h; sound = q; sent = tt }))
      (λ e.
      let w : m.wr a ≡ none = wrote_at h a l ∙ rw e in
      by_b (member s read_set_from a)
      (λ f.
      let r : m.rd a ≡ some (read_value s a) = read_at h a l ∙ rw f in
      rw (e, f, w, r) (record { answer = refl; state = h; sound = q; sent = tt }))
      (λ f.
      let r : m.rd a ≡ none = read_at h a l ∙ rw f in
      rw (e, f, w, r) here))

  pub read_means : (a : ℕ) → Means i (own_read_b a s) (own_read a m)
  unfolding own_read_b own_read
  read_means a =
      unless_means (check_read_b a s) (check_read a m) _ _ (check_read_at h a) (λ e. let p = read_passed m a e in read_as_means a p.0 p.1)

  -- WRITE

  -- what may be written at once on page p
  at_hand_lt : (p : ℕ) → at_hand_b p s < 256
  unfolding at_hand_b
  at_hand_lt p =
      by_b (locking_b s) (λ e. rw e (by_b (has_bit (whole s) p) (λ w. rw w (omega arith)) (λ w. rw w (h.bytes (locks_from + p)))))
      (λ e. rw e (by_b (has_bit (cached s) p) (λ w. rw w (omega arith)) (λ w. rw w (omega arith))))

  -- an object's bit in the sets from `at`
  set_bit : (at p o : ℕ) → o < 8 → has_bit (get_or s (at + p) 0) o ≡ member s at (p * 8 + o)
  unfolding member
  set_bit at p o l =
      let d : (p * 8 + o) / 8 ≡ p = omega arith in
      let r : (p * 8 + o) % 8 ≡ o = omega arith in
      rw (d, r)

  at_hand_at : (p o : ℕ) → p < 32 → o < 8 → tb (at_hand_b p s) o ≡ may_write (p * 8 + o) m
  unfolding at_hand_b
  at_hand_at p o l lo =
      rw (kind_at h, whole_at h p, cached_at h p)
      (by_b (locking m.kind) (λ e. rw (e, d) (by_b (m.wl p) (λ w. rw (w, tb_not 8 o 0 lo (omega arith), tb_zero o, or-true)) (λ w. rw (w, or-false) locked)))
      (λ e. rw (e, d) (by_b (m.cached p) (λ w. rw (w, tb_not 8 o (unavailable s p) lo (h.bytes (unavailable_from + p))) (ap not hidden)) (λ w. rw w (tb_zero o)))))
    where
      d : (p * 8 + o) / 8 ≡ p
      d = omega arith

      locked : tb (locks s p) o ≡ m.ol (p * 8 + o)
      locked = sym (bit_of (locks s p) o) ∙ set_bit locks_from p o lo ∙ lock_at h (p * 8 + o) (omega arith)

      hidden : tb (unavailable s p) o ≡ m.unav (p * 8 + o)
      hidden = sym (bit_of (unavailable s p) o) ∙ set_bit unavailable_from p o lo ∙ unav_at h (p * 8 + o) (omega arith)

  -- "the request names those under no lock yet"
  named_b_lt : (p x : ℕ) → x < 256 → named_b p x s < 256
  unfolding named_b
  named_b_lt p x l = lt_of_le_of_lt (and_le_l x (255 - at_hand_b p s)) l

  module _ (p x : ℕ) (v : ℕ → ℕ) (l : p < 32) where
    named_at : (o : ℕ) → o < 8 → tb (named_b p x s) o ≡ Model.named (of_page p (given x v)) m (p * 8 + o)
    unfolding named_b
    named_at o lo =
        rw (tb_and o x (255 - at_hand_b p s), tb_not 8 o (at_hand_b p s) lo (at_hand_lt p), at_hand_at p o l lo, given_at p x v o lo)

    named_is : objects_on p (named_b p x s) ≡ Model.named (of_page p (given x v)) m
    named_is =
        fun_ext
        (λ a.
        by_eq (a / 8) p
        (λ e.
        let there : p * 8 + a % 8 ≡ a = omega (arith, eqb_yes (a / 8) p e) in
        ap (λ (b : Bool). b && tb (named_b p x s) (a % 8)) e ∙ named_at (a % 8) (omega arith) ∙ ap (Model.named (of_page p (given x v)) m) there)
        (λ e. rw (given_has p x v a, e)))

    some_named : x < 256 → some_on p (Model.named (of_page p (given x v)) m) ≡ not (eqb (named_b p x s) 0)
    some_named lx = sym (any_byte (named_b p x s) (named_b_lt p x lx) ∙ any_same (tb (named_b p x s)) (λ o. Model.named (of_page p (given x v)) m (p * 8 + o)) 8 named_at)

    lowest_named : x < 256 → named_b p x s ≢ 0 → lowest_on p (Model.named (of_page p (given x v)) m) ≡ p * 8 + count_trailing_zeros 8 (named_b p x s)
    lowest_named lx z = lowest_is 7 (named_b p x s) (p * 8 + 0) (Model.named (of_page p (given x v)) m) (named_b_lt p x lx) z (λ o q. place o (named_at o (omega arith))) ∙ ap (λ (b : ℕ). b + count_trailing_zeros 8 (named_b p x s)) start
      where
        start : p * 8 + 0 ≡ p * 8
        start = omega arith

        place : (o : ℕ) → tb (named_b p x s) o ≡ Model.named (of_page p (given x v)) m (p * 8 + o) → Model.named (of_page p (given x v)) m (p * 8 + 0 + o) ≡ tb (named_b p x s) o
        place o e = let same : p * 8 + 0 + o ≡ p * 8 + o = omega arith in rw same (sym e)

    -- "else sends 2 .. else sends 1"
    asks_read : x < 256 → named_b p x s ≢ 0 → m.opened ≡ true
        → ReadAs i (ask_b p (named_b p x s) s) (cond (locking m.kind) (WriteRequest p m.num (Model.named (of_page p (given x v)) m)) (ReadRequest (lowest_on p (Model.named (of_page p (given x v)) m)) m.num))
    unfolding ask_b
    asks_read lx z o =
        let y : ℕ = named_b p x s in
        let low : count_trailing_zeros 8 y < 8 = low_lt 8 y (named_b_lt p x lx) z in
        rw (kind_at h, ← named_is, lowest_named lx z)
        (by_b (locking m.kind) (λ e. rw e (request_write p y l z (named_b_lt p x lx) o)) (λ e. rw e (request_read (p * 8 + count_trailing_zeros 8 y) (omega (arith, low)) o)))

  module _ (p x : ℕ) (f : List ℕ) (lx : x < 256) (lv : (o : ℕ) → o < 8 → get_or f o 0 < 2 ^ 64) where
    -- "all are written when the grant arrives, at once if none is named"
    write_here : p < 32 → m.opened ≡ true
        → (let g = of_page p (given x (λ o. get_or f o 0)) in Means i (write_as_b p x f s) (cond (some_on p (Model.named g m)) (write_ask p g m) (Model.does Line.Written (write_local g m) [])))
    unfolding write_as_b write_ask_b write_ask
    write_here l o =
        let v : ℕ → ℕ = λ o. get_or f o 0 in
        let g : ℕ → Val = of_page p (given x v) in
        by_eq (named_b p x s) 0
        (λ e. rw (some_named p x v l lx, e) (record { answer = refl; state = write_all_is h p x f l lv; sound = sound_write g q; sent = tt }))
        (λ e.
        let asked = asks_read p x v l lx (eqb_no (named_b p x s) 0 e) o in
        rw (some_named p x v l lx, e) (record { answer = refl; state = for_write_is h p x f l lx lv; sound = sound_wait (ForWrite p g) q; sent = (asked, tt) }))

    pub write_means : Means i (own_write_set_b p x f s) (own_write p (given x (λ o. get_or f o 0)) m)
    unfolding own_write_set_b own_write write_set
    write_means =
        let v : ℕ → ℕ = λ o. get_or f o 0 in
        unless_means (check_write_b p x s) (check_write p (of_page p (given x v)) m) _ _ (check_write_at h p x v lx)
        (λ e. let r = write_passed m p (of_page p (given x v)) e in write_here r.0 r.1)

  -- ABORT

  -- "a locking station sends 4"
  aborts_read : m.opened ≡ true → AllRead i (aborts_b s) (cond (locking m.kind) (Abort m.num ∷ []) [])
  unfolding aborts_b
  aborts_read o =
      cond_rel (AllRead i) (locking_b s) (locking m.kind) (ap locking (kind_at h))
      (λ kinds ok. rw (station_at h, ← number_at h) (abort_sent kinds ok i q.own (number s) (named_not_zero o) (number_lt h)), tt)
      tt

  pub abort_means : Means i (own_abort_b s) (own_abort m)
  unfolding own_abort_b own_abort
  abort_means =
      unless_means (check_open_b s) (check_open m) _ _ (check_open_at h)
      (λ e.
      rw (station_at h)
      (ends_means (Aborted 0)
      (record { state = undo_means h q; sound = sound_undo q; sent = aborts_read (open_passed m e) })
      refl))

  -- PURGE

  pub purge_means : (p : ℕ) → Means i (own_purge_b p s) (own_purge p m)
  unfolding own_purge_b own_purge
  purge_means p =
      unless_means (check_purge_b p s) (check_purge p m) _ _ (check_purge_at h p)
      (λ e.
      let l = purge_passed m p e in
      record {
        answer = refl;
        state = drop_as h (2 ^ p) (pow-lt l) (λ r. eqb r p) (λ r. tb_pow p r);
        sound = sound_drop (λ r. eqb r p) q;
        sent = (λ kinds ok. rw (station_at h) (purge_sent kinds ok i q.own p l), tt);
      })
