-- What an owner is told: the clauses `Owned` of one owner under each event of the owner and its station.
use Rattle.std.specs.Prelude.{◌≡◌, Bool, true, false, not, ◌&&◌, cond, ◌⊎◌, eqb, ltb}
use Rattle.std.proofs.Math.Path.{refl}
use Rattle.std.proofs.Common.{sym, ap, ◌∙◌, inl, inr, arith}
use Rattle.std.proofs.lemmas.Bool.{false≢true}
use mathlib.Core.List.{List, [], ◌∷◌}
use Prim.Native.Nat.{ℕ, zero, suc, ◌+◌, ◌≤◌, ◌<◌}
use Rattle.sets.specs.Base.{snoc, Val, none, some, has, val_or}
use Rattle.sets.specs.Laws.{by_b, by_eq, or_yes}
use Rattle.sets.proofs.Laws.{eqb_same, eqb_yes, eqb_no, ltb_yes, ltb_no, and_l, and_r}
use Rattle.line.specs.All.{All, all_map}
use Rattle.line.specs.Messages.{Down, Page, Deescalate, Callback, Committed, Aborted, Invalidate, Sent, To, Rec}
use Rattle.line.specs.Station.{Wait, Idle, or_val}
use Rattle.line.specs.Line.{Op, Told, ToldRead, ToldWrite, ToldCommit, ToldAbort, tell_write, tell_writes}
use Rattle.line.specs.Truth.{In, here, there, count, of_transaction, of_number, last_write, first_of, first_read, SameAsTold}
use Rattle.truth.specs.Clauses.{is_committed, over, NotedWait, RecordedDown, ToldBelow, Owned}
use Rattle.truth.proofs.Frame.{all_snoc}
use Rattle.truth.specs.GoalsLists.{either}
use Rattle.truth.proofs.GoalsLists.{in_cons, in_snoc, in_count, none_in, in_none_count, eqb_swap, eqb_apart, split_snoc, last_append, first_append, seen_again}
use Rattle.truth.specs.GoalsEight.{told_to}
use Rattle.truth.specs.GoalsTold.{Again, Passed, first_ones, tells_abort, tells_commit, tells_read, told_address, told_in, told_number, told_value}

pub over_le : (num : ℕ) (opened : Bool) (t : ℕ) → over num opened t ≡ true → t ≤ num
over_le num opened t e = or_yes (ltb t num) (eqb t num && not opened) e (λ q. omega (arith, ltb_yes t num q)) (λ q. omega (arith, eqb_yes t num (and_l (eqb t num) _ q)))

pub over_open : (num t : ℕ) → over num true t ≡ true → t < num
over_open num t e = or_yes (ltb t num) (eqb t num && false) e (λ q. ltb_yes t num q) (λ q. absurd (false≢true (and_r (eqb t num) false q)))

pub below_over : (num : ℕ) (opened : Bool) (t : ℕ) → t < num → over num opened t ≡ true
below_over num opened t h = by_b (ltb t num) (λ q. rw q refl) (λ q. absurd (omega (arith, ltb_no t num q)))

pub closed_over : (num t : ℕ) → t ≤ num → over num false t ≡ true
closed_over num t h =
    by_b (ltb t num) (λ q. rw q refl)
    (λ q. let e : t ≡ num = omega (arith, ltb_no t num q) in rw (q, e, eqb_same num) refl)

pub over_closes : (num : ℕ) (opened : Bool) (t : ℕ) → over num opened t ≡ true → over num false t ≡ true
over_closes num opened t e = closed_over num t (over_le num opened t e)

pub over_begins : (num : ℕ) (opened : Bool) (t : ℕ) → over num opened t ≡ true → over (num + 1) true t ≡ true
over_begins num opened t e = let b = over_le num opened t e in below_over (num + 1) true t (omega arith)

-- the new entry fails a test that x passes, so x is an old one
pub in_old : {A : Type 0} (f : A → Bool) {x : A} (l : List A) (e : A) → f e ≡ false → f x ≡ true → In x (snoc l e) → In x l
in_old f l e n y h = either (in_snoc l e h) (λ u. u) (λ q. absurd (false≢true (sym n ∙ (ap f (sym q) ∙ y))))

pub not_of : (x y : Bool) (z : Bool) → (x && y) ≡ false → (x && y && z) ≡ false
not_of true true z e = absurd (false≢true (sym e))
not_of true false z e = refl
not_of false y z e = refl

-- an entry of another transaction
one_first : (i t : ℕ) (e : Told) (a : ℕ) (w r : Val) → (eqb (told_to e) i && eqb (told_in e) t) ≡ false → first_read i t (e ∷ []) a w r ≡ r
one_first i t (ToldRead j u b v) a w r e = rw (not_of (eqb j i) (eqb u t) (eqb b a) e) refl
one_first i t (ToldWrite j u b v) a w r e = refl
one_first i t (ToldCommit j u n) a w r e = refl
one_first i t (ToldAbort j u c) a w r e = refl

one_last : (i t : ℕ) (e : Told) (a : ℕ) (w : Val) → (eqb (told_to e) i && eqb (told_in e) t) ≡ false → last_write i t (e ∷ []) a w ≡ w
one_last i t (ToldRead j u b v) a w e = refl
one_last i t (ToldWrite j u b v) a w e = rw (not_of (eqb j i) (eqb u t) (eqb b a) e) refl
one_last i t (ToldCommit j u n) a w e = refl
one_last i t (ToldAbort j u c) a w e = refl

module _ (i t : ℕ) (told : List Told) (e : Told) (q : (eqb (told_to e) i && eqb (told_in e) t) ≡ false) where
  pub first_apart : (a : ℕ) → first_read i t (snoc told e) a none none ≡ first_read i t told a none none
  first_apart a = first_append i t told (e ∷ []) a none none ∙ one_first i t e a _ _ q

  pub last_apart : (a : ℕ) → last_write i t (snoc told e) a none ≡ last_write i t told a none
  last_apart a = last_append i t told (e ∷ []) a none ∙ one_last i t e a _ q

pub same_apart : (told : List Told) (e : Told) (r : Rec) → (eqb (told_to e) r.station && eqb (told_in e) r.transaction) ≡ false → SameAsTold told r → SameAsTold (snoc told e) r
same_apart told e r q h =
    record {
      reads = λ a. h.reads a ∙ sym (first_apart r.station r.transaction told e q a);
      writes = λ a. h.writes a ∙ sym (last_apart r.station r.transaction told e q a);
    }

-- nothing told of a transaction, nothing read or written in it
pub first_none : (i num t : ℕ) (told : List Told) (a : ℕ) (w r : Val) → num < t → All (ToldBelow i num) told → first_read i t told a w r ≡ r
first_none i num t [] a w r b h = refl
first_none i num t (ToldRead j u c v ∷ l) a w r b h =
    rw (not_of (eqb j i) (eqb u t) (eqb c a) (by_eq j i (λ e. let k = h.0 (eqb_yes j i e) in rw e (eqb_apart u t (λ q. absurd (omega (arith, q, k))))) (λ e. rw e refl)))
    (first_none i num t l a w r b h.1)
first_none i num t (ToldWrite j u c v ∷ l) a w r b h = first_none i num t l a _ r b h.1
first_none i num t (ToldCommit j u n ∷ l) a w r b h = first_none i num t l a w r b h.1
first_none i num t (ToldAbort j u c ∷ l) a w r b h = first_none i num t l a w r b h.1

pub last_none : (i num t : ℕ) (told : List Told) (a : ℕ) (w : Val) → num < t → All (ToldBelow i num) told → last_write i t told a w ≡ w
last_none i num t [] a w b h = refl
last_none i num t (ToldRead j u c v ∷ l) a w b h = last_none i num t l a w b h.1
last_none i num t (ToldWrite j u c v ∷ l) a w b h =
    rw (not_of (eqb j i) (eqb u t) (eqb c a) (by_eq j i (λ e. let k = h.0 (eqb_yes j i e) in rw e (eqb_apart u t (λ q. absurd (omega (arith, q, k))))) (λ e. rw e refl)))
    (last_none i num t l a w b h.1)
last_none i num t (ToldCommit j u n ∷ l) a w b h = last_none i num t l a w b h.1
last_none i num t (ToldAbort j u c ∷ l) a w b h = last_none i num t l a w b h.1

below_more : (i n m : ℕ) → n ≤ m → (e : Told) → ToldBelow i n e → ToldBelow i m e
below_more i n m b (ToldRead j u c v) h = λ q. let k = h q in omega arith
below_more i n m b (ToldWrite j u c v) h = λ q. let k = h q in omega arith
below_more i n m b (ToldCommit j u k) h = λ q. let k' = h q in omega arith
below_more i n m b (ToldAbort j u c) h = λ q. let k = h q in omega arith

other_below : (i n : ℕ) (e : Told) → eqb (told_to e) i ≡ false → ToldBelow i n e
other_below i n (ToldRead j u c v) e = λ q. absurd (eqb_no j i e q)
other_below i n (ToldWrite j u c v) e = λ q. absurd (eqb_no j i e q)
other_below i n (ToldCommit j u k) e = λ q. absurd (eqb_no j i e q)
other_below i n (ToldAbort j u c) e = λ q. absurd (eqb_no j i e q)

-- .. with one entry more, which if it is a read was told rightly
pub again_more : (i : ℕ) (told : List Told) (e : Told) → Again i told
    → ((t a v : ℕ) → e ≡ ToldRead i t a v → v ≡ val_or (last_write i t told a none) (val_or (first_read i t (snoc told e) a none none) 0)) → Again i (snoc told e)
again_more i told e h k t a v before after q =
    either (split_snoc told e before (ToldRead i t a v) after q)
    (λ u. rw (← u.0) (k t a v u.1))
    (λ u. h t a v before u.rest u.old ∙ seen_again i t a v told (e ∷ []) before u.rest u.old)

pub again_no_read : (i : ℕ) (told : List Told) (e : Told) → (tells_read e && eqb (told_to e) i) ≡ false → Again i told → Again i (snoc told e)
again_no_read i told e n h =
    again_more i told e h (λ t a v q. absurd (false≢true (sym n ∙ rw (q, eqb_same i) refl)))

-- NO RECORD of the open transaction while no 21 is on its way
pub no_committed : (i : ℕ) (archive : List Rec) (rd wr : ℕ → Val) (D : List Down) → count is_committed D ≡ 0 → All (RecordedDown i archive rd wr) D
no_committed i archive rd wr [] e = tt
no_committed i archive rd wr (Page l a t v u x ∷ D) e = (tt, no_committed i archive rd wr D (omega (arith, e)))
no_committed i archive rd wr (Deescalate p t ∷ D) e = (tt, no_committed i archive rd wr D (omega (arith, e)))
no_committed i archive rd wr (Callback r t set ∷ D) e = (tt, no_committed i archive rd wr D (omega (arith, e)))
no_committed i archive rd wr (Committed t n ∷ D) e = absurd (omega (arith, e))
no_committed i archive rd wr (Aborted t c ∷ D) e = (tt, no_committed i archive rd wr D (omega (arith, e)))
no_committed i archive rd wr (Invalidate d ∷ D) e = (tt, no_committed i archive rd wr D (omega (arith, e)))

pub no_21 : (D : List Down) → count is_committed D ≡ 0 → (t n : ℕ) → In (Committed t n) D → ⊥
no_21 D e t n u = false≢true (sym (none_in is_committed D e u))

taken_21 : (num : ℕ) (opened : Bool) (m : Down) (l : List Down) (t n : ℕ) → Passed num opened m → In (Committed t n) (m ∷ l) → (In (Committed t n) l) ⊎ (over num opened t ≡ true)
taken_21 num opened (Page k a t v u x) l s n p (there h) = inl h
taken_21 num opened (Deescalate q t) l s n p (there h) = inl h
taken_21 num opened (Callback r t set) l s n p (there h) = inl h
taken_21 num opened (Committed t k) l s n p here = inr p
taken_21 num opened (Committed t k) l s n p (there h) = inl h
taken_21 num opened (Aborted t c) l s n p (there h) = inl h
taken_21 num opened (Invalidate d) l s n p (there h) = inl h

taken_22 : (num : ℕ) (opened : Bool) (m : Down) (l : List Down) (t c : ℕ) → Passed num opened m → In (Aborted t c) (m ∷ l) → (In (Aborted t c) l) ⊎ (over num opened t ≡ true)
taken_22 num opened (Page k a t v u x) l s c p (there h) = inl h
taken_22 num opened (Deescalate q t) l s c p (there h) = inl h
taken_22 num opened (Callback r t set) l s c p (there h) = inl h
taken_22 num opened (Committed t k) l s c p (there h) = inl h
taken_22 num opened (Aborted t k) l s c p here = inr p
taken_22 num opened (Aborted t k) l s c p (there h) = inl h
taken_22 num opened (Invalidate d) l s c p (there h) = inl h

-- a message leaves the down line
pub takes_next : {i num : ℕ} {opened : Bool} {rd wr : ℕ → Val} {w : Wait} {l : List Down} {archive : List Rec} {told : List Told} {sent_down : List Sent} {number : ℕ} {asked : Op} (m : Down)
    → Passed num opened m → Owned i num opened rd wr w (m ∷ l) archive told sent_down number asked → Owned i num opened rd wr w l archive told sent_down number asked
takes_next {i} {num} {opened} {l = l} m p o =
    record {
      note = o.note;
      note_wait = o.note_wait;
      told_below = o.told_below;
      T5_reads = o.T5_reads;
      T5_writes = o.T5_writes;
      T6 = o.T6.1;
      T6_untold = λ t n u. o.T6_untold t n (there u);
      T8 = λ r u e. either (o.T8 r u e) (λ c. taken_21 num opened m l r.transaction r.number p c) (λ c. inr c);
      T8_sent = o.T8_sent;
      T8_recorded = o.T8_recorded;
      T2 = o.T2;
      T2_told = o.T2_told;
      T2_again = o.T2_again;
      T9 = o.T9;
      T4 = λ t c u. let k = o.T4 t c u in (either k.0 (λ d. taken_22 num opened m l t c p d) (λ d. inr d), k.1);
    }

module _ {i num : ℕ} {opened : Bool} {rd wr : ℕ → Val} {w : Wait} {D : List Down} {archive : List Rec} {told : List Told} {sent_down : List Sent} {number : ℕ} {asked : Op}
    (o : Owned i num opened rd wr w D archive told sent_down number asked) where
  -- of the open transaction there is no record
  pub earlier_record : opened ≡ true → count is_committed D ≡ 0 → (r : Rec) → In r archive → r.station ≡ i → r.transaction < num
  earlier_record b z r u e =
      either (o.T8 r u e) (λ c. absurd (no_21 D z _ _ c)) (λ c. over_open num r.transaction (rw b at c))

  pub unrecorded : opened ≡ true → count is_committed D ≡ 0 → count (of_transaction i num) archive ≡ 0
  unrecorded b z =
      in_none_count (of_transaction i num) archive
      (λ r u.
      by_eq r.station i (λ e. let k = earlier_record b z r u (eqb_yes r.station i e) in rw e (eqb_apart r.transaction num (λ q. absurd (omega arith)))) (λ e. rw e refl))

  -- so an entry of the open transaction leaves every record as told
  own_same : (e : Told) → told_to e ≡ i → told_in e ≡ num → opened ≡ true → count is_committed D ≡ 0 → (r : Rec) → In r archive → r.station ≡ i → SameAsTold (snoc told e) r
  own_same e p q b z r u f =
      let k = earlier_record b z r u f in
      same_apart told e r
      (by_b (eqb (told_to e) r.station) (λ x. rw x (eqb_apart (told_in e) r.transaction (λ y. absurd (omega (arith, y, q, k))))) (λ x. rw x refl))
      (o.T2 r u f)

  pub begins : opened ≡ false → ((a : ℕ) → (rd a ≡ none) × (wr a ≡ none)) → Owned i (num + 1) true rd wr w D archive told sent_down (num + 1) asked
  begins c z =
      record {
        note = λ e. refl;
        note_wait = o.note_wait;
        told_below = all_map (ToldBelow i num) (ToldBelow i (num + 1)) (λ e h. below_more i num (num + 1) (omega arith) e h) told o.told_below;
        T5_reads = λ e a. (z a).0 ∙ sym (first_none i num (num + 1) told a none none (omega arith) o.told_below);
        T5_writes = λ e a. (z a).1 ∙ sym (last_none i num (num + 1) told a none (omega arith) o.told_below);
        T6 = o.T6;
        T6_untold = o.T6_untold;
        T8 = λ r u e. either (o.T8 r u e) (λ d. inl d) (λ d. inr (over_begins num opened r.transaction d));
        T8_sent = o.T8_sent;
        T8_recorded = o.T8_recorded;
        T2 = o.T2;
        T2_told = o.T2_told;
        T2_again = o.T2_again;
        T9 = λ t k u. let d = o.T9 t k u in (over_begins num opened t d.0, d.1);
        T4 = λ t k u. let d = o.T4 t k u in (either d.0 (λ x. inl x) (λ x. inr (over_begins num opened t x)), d.1);
      }

  pub waits_for : (v : Wait) (op : Op) → NotedWait v op → Owned i num opened rd wr v D archive told sent_down number op
  waits_for v op n =
      record {
        note = o.note;
        note_wait = n;
        told_below = o.told_below;
        T5_reads = o.T5_reads;
        T5_writes = o.T5_writes;
        T6 = o.T6;
        T6_untold = o.T6_untold;
        T8 = o.T8;
        T8_sent = o.T8_sent;
        T8_recorded = o.T8_recorded;
        T2 = o.T2;
        T2_told = o.T2_told;
        T2_again = o.T2_again;
        T9 = o.T9;
        T4 = o.T4;
      }

  -- told a value: its own last write, its first read, or a first read that is recorded
  pub told_read : opened ≡ true → count is_committed D ≡ 0 → (a v : ℕ) (rd' : ℕ → Val) → ((b : ℕ) → rd' b ≡ cond (eqb b a) (first_of (wr b) (rd b) v) (rd b))
      → v ≡ val_or (wr a) (val_or (rd a) v) → Owned i num opened rd' wr w D archive (snoc told (ToldRead i number a v)) sent_down number asked
  told_read b z a v rd' f g =
      let e : Told = ToldRead i number a v in
      let n : number ≡ num = o.note b in
      record {
        note = o.note;
        note_wait = o.note_wait;
        told_below = all_snoc (ToldBelow i num) told e o.told_below (λ q. omega (arith, n));
        T5_reads =
            λ x c. f c ∙ (rw (o.T5_reads x c, o.T5_writes x c, eqb_swap c a) (sym (first_append i num told (e ∷ []) c none none ∙ rw (n, eqb_same i, eqb_same num) refl)));
        T5_writes = λ x c. o.T5_writes x c ∙ sym (last_append i num told (e ∷ []) c none);
        T6 = no_committed i archive rd' wr D z;
        T6_untold = λ t k u y. no_21 D z t k u;
        T8 = o.T8;
        T8_sent = o.T8_sent;
        T8_recorded = o.T8_recorded;
        T2 = λ r u q. own_same e refl n b z r u q;
        T2_told = λ t k u. o.T2_told t k (in_old tells_commit told e refl refl u);
        T2_again = again_more i told e o.T2_again (λ t c x q. told_rightly t c x (sym (ap told_in q) ∙ n) (sym (ap told_address q)) (sym (ap told_value q)));
        T9 = λ t k u. o.T9 t k (in_old tells_abort told e refl refl u);
        T4 = o.T4;
      }
    where
      by_wr : (l r : Val) → v ≡ val_or l (val_or r v) → v ≡ val_or l (val_or (first_of l r v) 0)
      by_wr none none h = h
      by_wr none (some y) h = h
      by_wr (some x) r h = h

      told_rightly : (t c x : ℕ) → t ≡ num → c ≡ a → x ≡ v → x ≡ val_or (last_write i t told c none) (val_or (first_read i t (snoc told (ToldRead i number a v)) c none none) 0)
      told_rightly t c x p q y =
          let h : v ≡ val_or (last_write i num told a none) (val_or (first_read i num told a none none) v) = rw (← o.T5_reads b a, ← o.T5_writes b a) g in
          let first : first_read i num (snoc told (ToldRead i number a v)) a none none ≡ first_of (last_write i num told a none) (first_read i num told a none none) v =
          first_append i num told (ToldRead i number a v ∷ []) a none none ∙ rw (o.note b, eqb_same i, eqb_same num, eqb_same a) refl in
          rw (p, q, y, first) (by_wr (last_write i num told a none) (first_read i num told a none none) h)

  pub told_write : opened ≡ true → count is_committed D ≡ 0 → (a v : ℕ) (wr' : ℕ → Val) → ((b : ℕ) → wr' b ≡ cond (eqb b a) (some v) (wr b))
      → Owned i num opened rd wr' w D archive (snoc told (ToldWrite i number a v)) sent_down number asked
  told_write b z a v wr' f =
      let e : Told = ToldWrite i number a v in
      let n : number ≡ num = o.note b in
      record {
        note = o.note;
        note_wait = o.note_wait;
        told_below = all_snoc (ToldBelow i num) told e o.told_below (λ q. omega (arith, n));
        T5_reads = λ x c. o.T5_reads x c ∙ sym (first_append i num told (e ∷ []) c none none);
        T5_writes = λ x c. f c ∙ (rw (o.T5_writes x c, eqb_swap c a) (sym (last_append i num told (e ∷ []) c none ∙ rw (n, eqb_same i, eqb_same num) refl)));
        T6 = no_committed i archive rd wr' D z;
        T6_untold = λ t k u y. no_21 D z t k u;
        T8 = o.T8;
        T8_sent = o.T8_sent;
        T8_recorded = o.T8_recorded;
        T2 = λ r u q. own_same e refl n b z r u q;
        T2_told = λ t k u. o.T2_told t k (in_old tells_commit told e refl refl u);
        T2_again = again_no_read i told e refl o.T2_again;
        T9 = λ t k u. o.T9 t k (in_old tells_abort told e refl refl u);
        T4 = o.T4;
      }

  -- the same writes, said otherwise
  same_writes : count is_committed D ≡ 0 → (wr' : ℕ → Val) → ((b : ℕ) → wr' b ≡ wr b) → Owned i num opened rd wr' w D archive told sent_down number asked
  same_writes z wr' f =
      record {
        note = o.note;
        note_wait = o.note_wait;
        told_below = o.told_below;
        T5_reads = o.T5_reads;
        T5_writes = λ x c. f c ∙ o.T5_writes x c;
        T6 = no_committed i archive rd wr' D z;
        T6_untold = o.T6_untold;
        T8 = o.T8;
        T8_sent = o.T8_sent;
        T8_recorded = o.T8_recorded;
        T2 = o.T2;
        T2_told = o.T2_told;
        T2_again = o.T2_again;
        T9 = o.T9;
        T4 = o.T4;
      }

  -- told aborted: the transaction is over, with no record
  pub told_abort : opened ≡ true → count is_committed D ≡ 0 → (c : ℕ) (rd' wr' : ℕ → Val) → Owned i num false rd' wr' Idle D archive (snoc told (ToldAbort i number c)) sent_down number asked
  told_abort b z c rd' wr' =
      let e : Told = ToldAbort i number c in
      let n : number ≡ num = o.note b in
      record {
        note = λ x. absurd (false≢true x);
        note_wait = tt;
        told_below = all_snoc (ToldBelow i num) told e o.told_below (λ q. omega (arith, n));
        T5_reads = λ x. absurd (false≢true x);
        T5_writes = λ x. absurd (false≢true x);
        T6 = no_committed i archive rd' wr' D z;
        T6_untold = λ t k u y. no_21 D z t k u;
        T8 = λ r u q. either (o.T8 r u q) (λ d. inl d) (λ d. inr (over_closes num opened r.transaction d));
        T8_sent = o.T8_sent;
        T8_recorded = o.T8_recorded;
        T2 = λ r u q. own_same e refl n b z r u q;
        T2_told = λ t k u. o.T2_told t k (in_old tells_commit told e refl refl u);
        T2_again = again_no_read i told e refl o.T2_again;
        T9 =
            λ t k u.
            either (in_snoc told e u)
            (λ x. let d = o.T9 t k x in (over_closes num opened t d.0, d.1))
            (λ x. let p : t ≡ num = ap told_in x ∙ n in rw p (closed_over num num (omega arith), unrecorded b z));
        T4 = λ t k u. let d = o.T4 t k u in (either d.0 (λ x. inl x) (λ x. inr (over_closes num opened t x)), d.1);
      }

  -- another owner is told
  pub told_other : (e : Told) → eqb (told_to e) i ≡ false → Owned i num opened rd wr w D archive (snoc told e) sent_down number asked
  told_other e q =
      let far : (t : ℕ) → (eqb (told_to e) i && eqb (told_in e) t) ≡ false = λ t. rw q refl in
      record {
        note = o.note;
        note_wait = o.note_wait;
        told_below = all_snoc (ToldBelow i num) told e o.told_below (other_below i num e q);
        T5_reads = λ b a. o.T5_reads b a ∙ sym (first_apart i num told e (far num) a);
        T5_writes = λ b a. o.T5_writes b a ∙ sym (last_apart i num told e (far num) a);
        T6 = o.T6;
        T6_untold = λ t n u y. o.T6_untold t n u (in_old (λ x. eqb (told_to x) i) told e q (eqb_same i) y);
        T8 = o.T8;
        T8_sent = o.T8_sent;
        T8_recorded = o.T8_recorded;
        T2 = λ r u p. same_apart told e r (rw (p, q) refl) (o.T2 r u p);
        T2_told = λ t n u. o.T2_told t n (in_old (λ x. eqb (told_to x) i) told e q (eqb_same i) u);
        T2_again = again_no_read i told e (rw q (by_b (tells_read e) (λ x. rw x refl) (λ x. rw x refl))) o.T2_again;
        T9 = λ t c u. o.T9 t c (in_old (λ x. eqb (told_to x) i) told e q (eqb_same i) u);
        T4 = o.T4;
      }

one_further : (n : ℕ) (f wr : ℕ → Val) (b : ℕ) → first_ones (suc n) f wr b ≡ cond (eqb b n) (or_val (f n) (wr n)) (first_ones n f wr b)
one_further n f wr b =
    by_eq b n
    (λ e.
    let q : b ≡ n = eqb_yes b n e in
    by_b (ltb b (suc n)) (λ l. rw (e, l, q) refl) (λ l. absurd (omega (arith, ltb_no b (suc n) l))))
    (λ e.
    by_b (ltb b n) (λ l. by_b (ltb b (suc n)) (λ m. rw (e, l, m) refl) (λ m. absurd (omega (arith, ltb_yes b n l, ltb_no b (suc n) m))))
    (λ l. by_b (ltb b (suc n)) (λ m. absurd (omega (arith, ltb_no b n l, ltb_yes b (suc n) m, eqb_no b n e))) (λ m. rw (e, l, m) refl)))

none_further : (n : ℕ) (f wr : ℕ → Val) → f n ≡ none → (b : ℕ) → first_ones (suc n) f wr b ≡ first_ones n f wr b
none_further n f wr e b =
    one_further n f wr b
    ∙ by_eq b n
    (λ q. let r : b ≡ n = eqb_yes b n q in by_b (ltb b n) (λ l. absurd (omega (arith, ltb_yes b n l))) (λ l. rw (q, l, e, r) refl))
    (λ q. rw q refl)

some_further : (n : ℕ) (f wr : ℕ → Val) (v : ℕ) → f n ≡ some v → (b : ℕ) → first_ones (suc n) f wr b ≡ cond (eqb b n) (some v) (first_ones n f wr b)
some_further n f wr v e b = one_further n f wr b ∙ rw e refl

module _ {i num : ℕ} {opened : Bool} {rd wr : ℕ → Val} {w : Wait} {D : List Down} {archive : List Rec} {told : List Told} {sent_down : List Sent} {number : ℕ} {asked : Op}
    (b : opened ≡ true) (z : count is_committed D ≡ 0) (f : ℕ → Val) (o : Owned i num opened rd wr w D archive told sent_down number asked) where
  writes_below : (n : ℕ) → Owned i num opened rd (first_ones n f wr) w D archive (tell_writes i number n f told) sent_down number asked
  unfolding tell_writes
  writes_below zero = same_writes o z (first_ones 0 f wr) (λ c. by_b (ltb c 0) (λ l. absurd (omega (arith, ltb_yes c 0 l))) (λ l. rw l refl))
  writes_below (suc n) = one (tell_writes i number n f told) (f n) refl (writes_below n)
    where
      one : (l : List Told) (v : Val) → f n ≡ v → Owned i num opened rd (first_ones n f wr) w D archive l sent_down number asked
          → Owned i num opened rd (first_ones (suc n) f wr) w D archive (tell_write i number n v l) sent_down number asked
      one l none e k = same_writes k z (first_ones (suc n) f wr) (none_further n f wr e)
      one l (some v) e k = told_write k b z n v (first_ones (suc n) f wr) (some_further n f wr v e)

  -- told of all
  pub told_writes : ((a : ℕ) → has (f a) ≡ true → a < 256) → (wr' : ℕ → Val) → ((a : ℕ) → wr' a ≡ or_val (f a) (wr a))
      → Owned i num opened rd wr' w D archive (tell_writes i number 256 f told) sent_down number asked
  told_writes r wr' g = same_writes (writes_below 256) z wr' (λ a. g a ∙ by_b (ltb a 256) (λ l. rw l refl) (λ l. rw l (beyond a (ltb_no a 256 l) (f a) refl)))
    where
      beyond : (a : ℕ) → 256 ≤ a → (v : Val) → f a ≡ v → or_val v (wr a) ≡ wr a
      beyond a l none e = refl
      beyond a l (some x) e = let m = r a (ap has e) in absurd (omega arith)

-- another owner is told of a set
pub told_others : {i num : ℕ} {opened : Bool} {rd wr : ℕ → Val} {w : Wait} {D : List Down} {archive : List Rec} {told : List Told} {sent_down : List Sent} {number : ℕ} {asked : Op} (j t n : ℕ) (f : ℕ → Val) → eqb j i ≡ false
    → Owned i num opened rd wr w D archive told sent_down number asked → Owned i num opened rd wr w D archive (tell_writes j t n f told) sent_down number asked
unfolding tell_writes
told_others j t zero f e o = o
told_others {i} {num} {opened} {rd} {wr} {w} {D} {archive} {told} {sent_down} {number} {asked} j t (suc n) f e o = one (tell_writes j t n f told) (f n) (told_others j t n f e o)
  where
    one : (l : List Told) (v : Val) → Owned i num opened rd wr w D archive l sent_down number asked → Owned i num opened rd wr w D archive (tell_write j t n v l) sent_down number asked
    one l none k = k
    one l (some v) k = told_other k (ToldWrite j t n v) e

-- told committed: the 21 is taken, its record is the transaction's
pub told_commit : {i num : ℕ} {opened : Bool} {rd wr : ℕ → Val} {w : Wait} {l : List Down} {archive : List Rec} {told : List Told} {sent_down : List Sent} {number : ℕ} {asked : Op} (t n : ℕ) (rd' wr' : ℕ → Val)
    → opened ≡ true → t ≡ num → count is_committed l ≡ 0 → Owned i num opened rd wr w (Committed t n ∷ l) archive told sent_down number asked
    → Owned i num false rd' wr' Idle l archive (snoc told (ToldCommit i number n)) sent_down number asked
told_commit {i} {num} {opened} {rd} {wr} {w} {l} {archive} {told} {sent_down} {number} {asked} t n rd' wr' b p z o =
    let e : Told = ToldCommit i number n in
    let m : number ≡ num = o.note b in
    record {
      note = λ x. absurd (false≢true x);
      note_wait = tt;
      told_below = all_snoc (ToldBelow i num) told e o.told_below (λ q. omega (arith, m));
      T5_reads = λ x. absurd (false≢true x);
      T5_writes = λ x. absurd (false≢true x);
      T6 = no_committed i archive rd' wr' l z;
      T6_untold = λ s k u y. no_21 l z s k u;
      T8 =
          λ r u q.
          either (o.T8 r u q)
          (λ d. inr (ended r.transaction r.number d))
          (λ d. inr (over_closes num opened r.transaction d));
      T8_sent = o.T8_sent;
      T8_recorded = o.T8_recorded;
      T2 = λ r u q. same r u q (same_before r u q);
      T2_told =
          λ s k u.
          either (in_snoc told e u) (λ x. o.T2_told s k x)
          (λ x. let y : s ≡ t = ap told_in x ∙ (m ∙ sym p) in let v : k ≡ n = ap told_number x in rw (y, v) sent);
      T2_again = again_no_read i told e refl o.T2_again;
      T9 = λ s k u. let d = o.T9 s k (in_old tells_abort told e refl refl u) in (over_closes num opened s d.0, d.1);
      T4 =
          λ s k u.
          let d = o.T4 s k u in
          (either d.0 (λ x. either (in_cons x) (λ y. absurd (never s k y)) (λ y. inl y)) (λ x. inr (over_closes num opened s x)), d.1);
    }
  where
    is_aborted : Down → Bool
    is_aborted (Page k a s v u x) = false
    is_aborted (Deescalate q s) = false
    is_aborted (Callback r s set) = false
    is_aborted (Committed s k) = false
    is_aborted (Aborted s c) = true
    is_aborted (Invalidate d) = false

    never : (s k : ℕ) → Aborted s k ≡ Committed t n → ⊥
    never s k y = false≢true (sym (ap is_aborted y))

    ended : (s k : ℕ) → In (Committed s k) (Committed t n ∷ l) → over num false s ≡ true
    ended s k here = rw p (closed_over num num (omega arith))
    ended s k (there u) = absurd (no_21 l z s k u)

    -- the record is in the archive, so its 21 was sent
    sent : In (To i (Committed t n)) sent_down
    sent =
        let k = in_count (λ r. of_number n r && of_transaction i t r) archive (omega (arith, o.T6.0.0)) in
        let r = k.0 in
        let h = and_r (of_number n r) _ k.2 in
        let x : r.number ≡ n = eqb_yes r.number n (and_l (of_number n r) _ k.2) in
        let y : r.station ≡ i = eqb_yes r.station i (and_l (eqb r.station i) _ h) in
        let v : r.transaction ≡ t = eqb_yes r.transaction t (and_r (eqb r.station i) _ h) in
        rw (x, v) at (o.T8_sent r k.1 y)

    same_before : (r : Rec) → In r archive → r.station ≡ i → SameAsTold told r
    same_before r u q = o.T2 r u q

    -- a commit told is no read and no write
    same : (r : Rec) → In r archive → r.station ≡ i → SameAsTold told r → SameAsTold (snoc told (ToldCommit i number n)) r
    same r u q h =
        record {
          reads = λ a. h.reads a ∙ sym (first_append r.station r.transaction told (ToldCommit i number n ∷ []) a none none);
          writes = λ a. h.writes a ∙ sym (last_append r.station r.transaction told (ToldCommit i number n ∷ []) a none);
        }
