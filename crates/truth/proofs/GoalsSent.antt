-- What the server sends and archives: the clauses `Owned` of one owner, and the archive's, under each event of the server.
use Rattle.std.specs.Prelude.{◌≡◌, refl, Bool, true, false, ◌&&◌, List, [], ◌∷◌, ◌++◌, ℕ, ◌+◌, ◌<◌, eqb}
use Rattle.std.proofs.Common.{sym, ap, ◌∙◌, inl, inr, arith}
use Rattle.std.proofs.lemmas.Bool.{false≢true}
use Rattle.sets.specs.Base.{snoc, Val, some, val_or, zeros}
use Rattle.sets.specs.Laws.{by_b, by_eq}
use Rattle.sets.proofs.Laws.{eqb_same, eqb_yes, and_l, and_r}
use Rattle.line.specs.All.{All, all_append, all_map}
use Rattle.line.specs.Messages.{Down, Page, Deescalate, Callback, Committed, Aborted, Invalidate, Sent, To, Rec}
use Rattle.line.specs.Station.{Wait}
use Rattle.line.specs.Line.{Op, Told, sent_to}
use Rattle.line.specs.Truth.{In, here, there, count, of_transaction, of_number}
use Rattle.truth.specs.Clauses.{is_committed, RecordedDown, Owned, Archived}
use Rattle.truth.proofs.Frame.{all_snoc, count_snoc}
use Rattle.truth.specs.GoalsLists.{either}
use Rattle.truth.proofs.GoalsLists.{in_cons, in_none, in_append, in_snoc, in_last, in_left, in_all, all_in, in_count, none_in, in_none_count, eqb_apart, numbered_most, numbered_snoc, left_snoc, true_snoc, length_snoc}
use Rattle.truth.proofs.GoalsTold.{in_old, over_open, no_committed, unrecorded}
use Rattle.truth.specs.GoalsSent.{Quiet, is_answer, named, numbered, sent_aborted, sent_committed, sent_what, sent_where}

-- a line's new messages were sent
pub in_sent : (i : ℕ) (k : List Sent) (m : Down) → In m (sent_to i k) → In (To i m) k
in_sent i [] m h = absurd (in_none h)
in_sent i (To j n ∷ k) m h =
    let rest : In m (sent_to i k) → In (To i m) k = in_sent i k m in
    by_eq i j
    (λ e. either (in_cons (rw e at h)) (λ q. rw (eqb_yes i j e, q) here) (λ u. there (rest u)))
    (λ e. there (rest (rw e at h)))

pub quiet_line : (i : ℕ) (k : List Sent) → All Quiet k → (m : Down) → In m (sent_to i k) → is_answer m ≡ false
quiet_line i k q m h = in_all Quiet k q (in_sent i k m h)

pub quiet_recorded : (i : ℕ) (archive : List Rec) (rd wr : ℕ → Val) (m : Down) → is_answer m ≡ false → RecordedDown i archive rd wr m
quiet_recorded i archive rd wr (Page l a t v u x) e = tt
quiet_recorded i archive rd wr (Deescalate p t) e = tt
quiet_recorded i archive rd wr (Callback r t set) e = tt
quiet_recorded i archive rd wr (Committed t n) e = absurd (false≢true (sym e))
quiet_recorded i archive rd wr (Aborted t c) e = tt
quiet_recorded i archive rd wr (Invalidate d) e = tt

module _ {i num : ℕ} {opened : Bool} {rd wr : ℕ → Val} {w : Wait} {D : List Down} {archive : List Rec} {told : List Told} {sent_down : List Sent} {number : ℕ} {asked : Op}
    (o : Owned i num opened rd wr w D archive told sent_down number asked) where
  -- messages that answer nothing, to whomever
  pub sent_quiet : (k : List Sent) → All Quiet k → Owned i num opened rd wr w (D ++ sent_to i k) archive told (sent_down ++ k) number asked
  sent_quiet k q =
      record {
        note = o.note;
        note_wait = o.note_wait;
        told_below = o.told_below;
        T5_reads = o.T5_reads;
        T5_writes = o.T5_writes;
        T6 = all_append (RecordedDown i archive rd wr) D (sent_to i k) o.T6 (all_in (RecordedDown i archive rd wr) (sent_to i k) (λ m u. quiet_recorded i archive rd wr m (quiet_line i k q m u)));
        T6_untold = λ t n u y. either (in_append D (sent_to i k) u) (λ v. o.T6_untold t n v y) (λ v. absurd (false≢true (sym (quiet_line i k q (Committed t n) v))));
        T8 = λ r u e. either (o.T8 r u e) (λ v. inl (in_left D (sent_to i k) v)) (λ v. inr v);
        T8_sent = λ r u e. in_left sent_down k (o.T8_sent r u e);
        T8_recorded = λ t n u. either (in_append sent_down k u) (λ v. o.T8_recorded t n v) (λ v. absurd (false≢true (sym (in_all Quiet k q v))));
        T2 = o.T2;
        T2_told = λ t n u. in_left sent_down k (o.T2_told t n u);
        T2_again = o.T2_again;
        T9 = o.T9;
        T4 =
            λ t c u.
            either (in_append sent_down k u)
            (λ v. let d = o.T4 t c v in (either d.0 (λ x. inl (in_left D (sent_to i k) x)) (λ x. inr x), d.1))
            (λ v. absurd (false≢true (sym (in_all Quiet k q v))));
      }

  -- the 22 of the open transaction
  pub sent_abort : opened ≡ true → count is_committed D ≡ 0 → (t c : ℕ) → t ≡ num
      → Owned i num opened rd wr w (snoc D (Aborted t c)) archive told (snoc sent_down (To i (Aborted t c))) number asked
  sent_abort b z t c p =
      let e : Sent = To i (Aborted t c) in
      record {
        note = o.note;
        note_wait = o.note_wait;
        told_below = o.told_below;
        T5_reads = o.T5_reads;
        T5_writes = o.T5_writes;
        T6 = all_snoc (RecordedDown i archive rd wr) D (Aborted t c) o.T6 tt;
        T6_untold = λ s n u y. o.T6_untold s n (in_old is_committed D (Aborted t c) refl refl u) y;
        T8 = λ r u q. either (o.T8 r u q) (λ v. inl (in_left D _ v)) (λ v. inr v);
        T8_sent = λ r u q. in_left sent_down _ (o.T8_sent r u q);
        T8_recorded = λ s n u. o.T8_recorded s n (in_old sent_committed sent_down e refl refl u);
        T2 = o.T2;
        T2_told = λ s n u. in_left sent_down _ (o.T2_told s n u);
        T2_again = o.T2_again;
        T9 = o.T9;
        T4 =
            λ s d u.
            either (in_snoc sent_down e u)
            (λ v. let k = o.T4 s d v in (either k.0 (λ x. inl (in_left D _ x)) (λ x. inr x), k.1))
            (λ v.
            let x : s ≡ t = ap (λ g. named (sent_what g)) v in
            let y : d ≡ c = ap (λ g. numbered (sent_what g)) v in
            let f : count (of_transaction i s) archive ≡ 0 = rw (x, p) (unrecorded o b z) in
            (rw (x, y) (inl (in_last D (Aborted t c))), f));
      }

  -- a message to another station
  pub sent_other : (e : Sent) → eqb (sent_where e) i ≡ false → Owned i num opened rd wr w D archive told (snoc sent_down e) number asked
  sent_other e q =
      record {
        note = o.note;
        note_wait = o.note_wait;
        told_below = o.told_below;
        T5_reads = o.T5_reads;
        T5_writes = o.T5_writes;
        T6 = o.T6;
        T6_untold = o.T6_untold;
        T8 = o.T8;
        T8_sent = λ r u p. in_left sent_down _ (o.T8_sent r u p);
        T8_recorded = λ s n u. o.T8_recorded s n (in_old (λ g. eqb (sent_where g) i) sent_down e q (eqb_same i) u);
        T2 = o.T2;
        T2_told = λ s n u. in_left sent_down _ (o.T2_told s n u);
        T2_again = o.T2_again;
        T9 = o.T9;
        T4 = λ s c u. o.T4 s c (in_old (λ g. eqb (sent_where g) i) sent_down e q (eqb_same i) u);
      }

  -- a record of another station
  pub archived_other : (r : Rec) → eqb r.station i ≡ false → Owned i num opened rd wr w D (snoc archive r) told sent_down number asked
  archived_other r q =
      record {
        note = o.note;
        note_wait = o.note_wait;
        told_below = o.told_below;
        T5_reads = o.T5_reads;
        T5_writes = o.T5_writes;
        T6 = all_map (RecordedDown i archive rd wr) (RecordedDown i (snoc archive r) rd wr) recorded D o.T6;
        T6_untold = o.T6_untold;
        T8 = λ x u e. o.T8 x (old x u e) e;
        T8_sent = λ x u e. o.T8_sent x (old x u e) e;
        T8_recorded = λ t n u. one t n (o.T8_recorded t n u);
        T2 = λ x u e. o.T2 x (old x u e) e;
        T2_told = o.T2_told;
        T2_again = o.T2_again;
        T9 = λ t c u. let d = o.T9 t c u in (d.0, zero_more t d.1);
        T4 = λ t c u. let d = o.T4 t c u in (d.0, zero_more t d.1);
      }
    where
      old : (x : Rec) → In x (snoc archive r) → x.station ≡ i → In x archive
      old x u e = in_old (λ y. eqb y.station i) archive r q (rw e (eqb_same i)) u

      one : (t n : ℕ) → count (λ x. of_number n x && of_transaction i t x) archive ≡ 1 → count (λ x. of_number n x && of_transaction i t x) (snoc archive r) ≡ 1
      one t n h =
          let f : (of_number n r && of_transaction i t r) ≡ false = rw q (by_b (of_number n r) (λ e. rw e refl) (λ e. rw e refl)) in
          count_snoc (λ x. of_number n x && of_transaction i t x) archive r ∙ rw f (omega (arith, h))

      zero_more : (t : ℕ) → count (of_transaction i t) archive ≡ 0 → count (of_transaction i t) (snoc archive r) ≡ 0
      zero_more t h = count_snoc (of_transaction i t) archive r ∙ rw q (omega (arith, h))

      recorded : (m : Down) → RecordedDown i archive rd wr m → RecordedDown i (snoc archive r) rd wr m
      recorded (Page l a t v u x) h = tt
      recorded (Deescalate p t) h = tt
      recorded (Callback k t set) h = tt
      recorded (Committed t n) h = (one t n h.0, λ x u e. h.1 x (old x u (eqb_yes x.station i (and_l (eqb x.station i) _ e))) e)
      recorded (Aborted t c) h = tt
      recorded (Invalidate d) h = tt

  -- the open transaction is installed: record r, number above all others, and its 21
  pub sent_commit : opened ≡ true → count is_answer D ≡ 0 → count is_committed D ≡ 0 → (r : Rec) → r.station ≡ i → r.transaction ≡ num → r.reads ≡ rd → r.writes ≡ wr
      → ((x : Rec) → In x archive → x.number < r.number)
      → Owned i num opened rd wr w (snoc D (Committed r.transaction r.number)) (snoc archive r) told (snoc sent_down (To i (Committed r.transaction r.number))) number asked
  sent_commit b z c r p q f g l =
      let m : Down = Committed r.transaction r.number in
      let e : Sent = To i m in
      record {
        note = o.note;
        note_wait = o.note_wait;
        told_below = o.told_below;
        T5_reads = o.T5_reads;
        T5_writes = o.T5_writes;
        T6 = all_snoc (RecordedDown i (snoc archive r) rd wr) D m (no_committed i (snoc archive r) rd wr D c) (new_one, unique);
        T6_untold =
            λ t n u y.
            either (in_snoc D m u) (λ v. o.T6_untold t n v y)
            (λ v. absurd (new_number t n (ap numbered v) (o.T8_recorded t n (o.T2_told t n y))));
        T8 =
            λ x u s.
            either (in_snoc archive r u)
            (λ v. either (o.T8 x v s) (λ d. inl (in_left D _ d)) (λ d. inr d))
            (λ v. inl (rw v (in_last D m)));
        T8_sent = λ x u s. either (in_snoc archive r u) (λ v. in_left sent_down _ (o.T8_sent x v s)) (λ v. rw v (in_last sent_down e));
        T8_recorded =
            λ t n u.
            either (in_snoc sent_down e u)
            (λ v. old_one t n (o.T8_recorded t n v))
            (λ v.
            let x : t ≡ r.transaction = ap (λ h. named (sent_what h)) v in
            let y : n ≡ r.number = ap (λ h. numbered (sent_what h)) v in
            rw (x, y) new_one);
        T2 =
            λ x u s.
            either (in_snoc archive r u) (λ v. o.T2 x v s)
            (λ v.
            record {
              reads = λ a. rw (v, p, q, f) (o.T5_reads b a);
              writes = λ a. rw (v, p, q, g) (o.T5_writes b a);
            });
        T2_told = λ t n u. in_left sent_down _ (o.T2_told t n u);
        T2_again = o.T2_again;
        T9 = λ t k u. let d = o.T9 t k u in (d.0, zero_more t (over_open num t (rw b at d.0)) d.1);
        T4 =
            λ t k u.
            let d = o.T4 t k (in_old sent_aborted sent_down e refl refl u) in
            either d.0 (λ x. absurd (false≢true (sym (none_in is_answer D z x)))) (λ x. (inr x, zero_more t (over_open num t (rw b at x)) d.1));
      }
    where
      -- no record has the new number
      new_number : (t n : ℕ) → n ≡ r.number → count (λ x. of_number n x && of_transaction i t x) archive ≡ 1 → ⊥
      new_number t n y h =
          let k = in_count (λ x. of_number n x && of_transaction i t x) archive (omega (arith, h)) in
          let s : k.0.number ≡ n = eqb_yes k.0.number n (and_l (of_number n k.0) _ k.2) in
          let v = l k.0 k.1 in
          absurd (omega (arith, s, y, v))

      own : of_transaction i r.transaction r ≡ true
      own = rw (p, eqb_same i, eqb_same r.transaction) refl

      new_one : count (λ x. of_number r.number x && of_transaction i r.transaction x) (snoc archive r) ≡ 1
      new_one =
          let before : count (λ x. of_number r.number x && of_transaction i r.transaction x) archive ≡ 0 =
          in_none_count (λ x. of_number r.number x && of_transaction i r.transaction x) archive
          (λ x u. let v = l x u in rw (eqb_apart x.number r.number (λ y. absurd (omega (arith, y, v)))) refl) in
          count_snoc (λ x. of_number r.number x && of_transaction i r.transaction x) archive r ∙ rw (own, eqb_same r.number) (omega (arith, before))

      old_one : (t n : ℕ) → count (λ x. of_number n x && of_transaction i t x) archive ≡ 1 → count (λ x. of_number n x && of_transaction i t x) (snoc archive r) ≡ 1
      old_one t n h =
          let k : of_number n r ≡ false = eqb_apart r.number n (λ y. new_number t n (sym y) h) in
          count_snoc (λ x. of_number n x && of_transaction i t x) archive r ∙ rw k (omega (arith, h))

      unique : (x : Rec) → In x (snoc archive r) → of_transaction i r.transaction x ≡ true → (x.number ≡ r.number) × (x.reads ≡ rd) × (x.writes ≡ wr)
      unique x u s =
          either (in_snoc archive r u)
          (λ v. let k = none_in (of_transaction i num) archive (unrecorded o b c) v in absurd (false≢true (sym k ∙ (rw q at s))))
          (λ v. rw v (refl, f, g))

      zero_more : (t : ℕ) → t < num → count (of_transaction i t) archive ≡ 0 → count (of_transaction i t) (snoc archive r) ≡ 0
      zero_more t d h =
          let k : of_transaction i t r ≡ false = rw (eqb_apart r.transaction t (λ y. absurd (omega (arith, y, q, d)))) (by_b (eqb r.station i) (λ y. rw y refl) (λ y. rw y refl)) in
          count_snoc (of_transaction i t) archive r ∙ rw k (omega (arith, h))

-- the archive with one record more
pub archived_more : (archive : List Rec) (last : ℕ) (val : ℕ → ℕ) (r : Rec) → r.number ≡ last + 1 → ((a x : ℕ) → r.reads a ≡ some x → x ≡ val a)
    → count (of_transaction r.station r.transaction) archive ≡ 0 → Archived archive last val
    → Archived (snoc archive r) (last + 1) (λ a. val_or (r.writes a) (val a))
archived_more archive last val r n t z h =
    record {
      order = numbered_snoc 1 archive r h.order (omega (arith, n, h.all));
      all = length_snoc archive r ∙ ap (λ k. k + 1) h.all;
      T1 = true_snoc archive r zeros h.T1 (λ a x q. t a x q ∙ sym (h.T1_pages a));
      T1_pages = λ a. left_snoc archive r zeros a ∙ ap (λ k. val_or (r.writes a) k) (h.T1_pages a);
      T3 =
          λ j s.
          by_b (of_transaction j s r)
          (λ e.
          let x : r.station ≡ j = eqb_yes r.station j (and_l (eqb r.station j) _ e) in
          let y : r.transaction ≡ s = eqb_yes r.transaction s (and_r (eqb r.station j) _ e) in
          let none : count (of_transaction j s) archive ≡ 0 = rw (← x, ← y) z in
          let c = count_snoc (of_transaction j s) archive r in
          omega (arith, rw e at c, none))
          (λ e. let c = count_snoc (of_transaction j s) archive r in let k = h.T3 j s in omega (arith, rw e at c, k));
    }

pub archived_below : (archive : List Rec) (last : ℕ) (val : ℕ → ℕ) → Archived archive last val → (r : Rec) → In r archive → r.number < last + 1
archived_below archive last val h r u = let k = numbered_most 1 archive h.order r u in omega (arith, h.all)
