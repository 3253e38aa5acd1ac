-- Exclusion under the moves of owner and station.
use Rattle.std.specs.Prelude.{◌≡◌, Bool, not, ◌&&◌, List, [], ◌∷◌, ◌++◌, ℕ, zero, suc, ◌+◌, ◌≤◌, ◌<◌, ◌⊎◌}
use Rattle.std.proofs.Math.Path.{refl, ap}
use Rattle.std.proofs.Common.{sym, ◌∙◌, arith}
use Rattle.std.proofs.Math.Bool.{true, false, cond, false≢true}
use Rattle.std.proofs.Math.Dec.{eqb}
use Rattle.sets.specs.Base.{upd, snoc, has, any, Val}
use Rattle.sets.specs.Laws.{by_b, by_eq}
use Rattle.sets.proofs.Laws.{eqb_same, eqb_yes, any_no, and_l, and_r, or_no}
use Rattle.line.specs.Messages.{page_of, locking, Up, ReadRequest, WriteRequest, Abort, Done, Lock, NoLock, ObjectLock, WholeLock, Down, Page, Deescalate, Callback, Answer, Nothing, Begun, Value, Waits, Written, CommittedAs, AbortedFor, Purged, Refused, Empty}
use Rattle.line.specs.Station.{Station, Did, does, did_station, set_kept, NotKept, KeptCall, used_at, shown, drops, drop_pages, mark, record_read, write_local, do_callback, closed, close, undo, wrote_page, read_local, read_ask, write_ask, arrive, take_lock, loosen, on_deescalate, on_committed, on_aborted, station_step, gives_up}
use Rattle.line.specs.Server.{Server, other}
use Rattle.line.specs.Line.{World, world_down, Op, perform, tell, carry_up, is_refused}
use Rattle.line.specs.Truth.{count}
use Rattle.truth.specs.Clauses.{KeptNames, stale, token_down, done_of, shows, Hidden, NoShowBehind}
use Rattle.truth.specs.Frame.{Owns, arrived, Takes}
use Rattle.truth.proofs.Frame.{count_append, count_snoc, append_nil, performs, closes, takes}
use Rattle.truth.specs.Inv.{Inv, ExclusionOf, after_owner, after_station}
use Rattle.truth.specs.Exclusion.{ExclusiveIn, Known, KnownApart}
use Rattle.truth.proofs.Exclusion.{behind_none, hidden_less, locked_less, shown_free, called_less, not_cleared, idle_none, token_none, known}
use Rattle.std.proofs.Math.Logic.{inl, inr}
use Rattle.truth.specs.GoalsLists.{either}
use Rattle.truth.specs.ExclusionStation.{Answering, Ending, Fine, Less, NoDone}

-- what a callback does to it: a named address is no longer shown, no other comes to be shown
module _ (set : ℕ → Bool) (s : Station) (a : ℕ) where
  pub done_less : shown (drop_pages (drops set s) (mark set s)) a ≡ true → shown s a ≡ true
  unfolding drop_pages mark
  done_less e =
      by_b (drops set s (page_of a)) (λ q. absurd (false≢true (rw q at e)))
      (λ q.
      by_b (s.cached (page_of a)) (λ c. by_b (s.unav a) (λ v. absurd (false≢true (rw (q, c, v) at e))) (λ v. rw (c, v) refl))
      (λ c. absurd (false≢true (rw (q, c) at e))))

  pub done_named : set a ≡ true → shown (drop_pages (drops set s) (mark set s)) a ≡ false
  unfolding drop_pages mark
  done_named n =
      by_b (drops set s (page_of a)) (λ q. rw q refl)
      (λ q.
      by_b (s.cached (page_of a)) (λ c. by_b (s.unav a) (λ v. rw (q, c, v) refl) (λ v. rw (q, c, v, n) refl))
      (λ c. rw (q, c) refl))

pub dropped_less : (d : ℕ → Bool) (s : Station) (a : ℕ) → shown (drop_pages d s) a ≡ true → shown s a ≡ true
unfolding drop_pages
dropped_less d s a e =
    by_b (d (page_of a)) (λ q. absurd (false≢true (rw q at e)))
    (λ q. rw q at e)

pub marked_less : (set : ℕ → Bool) (s : Station) (a : ℕ) → shown (mark set s) a ≡ true → shown s a ≡ true
unfolding mark
marked_less set s a e =
    by_b (s.cached (page_of a)) (λ c. by_b (s.unav a) (λ v. absurd (false≢true (rw (c, v) at e))) (λ v. rw (c, v) refl))
    (λ c. absurd (false≢true (rw c at e)))

pub undone_less : (s : Station) (a : ℕ) → shown (undo s) a ≡ true → shown s a ≡ true
unfolding undo
undone_less s a e =
    by_b (locking s.kind) (λ q. marked_less _ s a (rw q at e)) (λ q. dropped_less (wrote_page s) s a (rw q at e))

pub undone_kind : (s : Station) → (undo s).kind ≡ s.kind
unfolding undo mark drop_pages
undone_kind s = by_b (locking s.kind) (λ q. rw q refl) (λ q. rw q refl)

pub undone_kept : (s : Station) → (undo s).kept ≡ s.kept
unfolding undo mark drop_pages
undone_kept s = by_b (locking s.kind) (λ q. rw q refl) (λ q. rw q refl)

pub same_less : (s : Station) → Less s s
same_less s = record { kind = refl; shows = λ a e. e; rd = λ a e. e }

pub drop_less : (d : ℕ → Bool) (s : Station) → Less s (drop_pages d s)
unfolding drop_pages
drop_less d s = record { kind = refl; shows = dropped_less d s; rd = λ a e. e }

mark_less : (d : ℕ → Bool) (s : Station) → Less s (mark d s)
unfolding mark
mark_less d s = record { kind = refl; shows = marked_less d s; rd = λ a e. e }

mark_kept : (d : ℕ → Bool) (s : Station) → (mark d s).kept ≡ s.kept
unfolding mark
mark_kept d s = refl

module _ (kind a : ℕ) (before : Bool) where
  ending_call : (q v : ℕ) (set : ℕ → Bool) (d : Did) → d.station.kept q ≡ KeptCall v set → Ending kind a before d
      → Ending kind a before (do_callback q v set (did_station d (set_kept d.station (upd d.station.kept q NotKept))))
  unfolding do_callback drop_pages mark
  ending_call q v set d e h =
      record {
        same = done_kind h.same;
        unread = done_rd h.unread;
        less = λ z. h.less (done_less set (set_kept d.station (upd d.station.kept q NotKept)) a z);
      }
    where
      s' : Station
      s' = set_kept d.station (upd d.station.kept q NotKept)

      done_kind : d.station.kind ≡ kind → (drop_pages (drops set s') (mark set s')).kind ≡ kind
      done_kind z = z

      done_rd : has (d.station.rd a) ≡ false → has ((drop_pages (drops set s') (mark set s')).rd a) ≡ false
      done_rd z = z

  closes_ending : (d : Did) → d.station.kind ≡ kind → (shown d.station a ≡ true → before ≡ true) → Ending kind a before (close d)
  unfolding closed
  closes_ending d e f = closes (Ending kind a before) ending_call d (start e f)
    where
      start : d.station.kind ≡ kind → (shown d.station a ≡ true → before ≡ true) → Ending kind a before (did_station d (closed d.station))
      start e f = record { same = e; unread = refl; less = f }

  module _ (r t : ℕ) (W : ℕ → Bool) (n : W a ≡ true) where
    answering_call : (q v : ℕ) (set : ℕ → Bool) (d : Did) → d.station.kept q ≡ KeptCall v set → Answering r t W kind a before d
        → Answering r t W kind a before (do_callback q v set (did_station d (set_kept d.station (upd d.station.kept q NotKept))))
    unfolding do_callback drop_pages mark
    answering_call q v set d e h =
        record {
          ending = ending_call q v set d e h.ending;
          kept = left;
          done = λ z.
              by_b (eqb q r && eqb v t) (λ c. done_named set s' a (named c))
              (λ c.
              let y : count (done_of r t) (snoc d.sent (Done q v (drops set s'))) ≡ count (done_of r t) d.sent + cond (eqb q r && eqb v t) 1 0 = count_snoc (done_of r t) d.sent (Done q v (drops set s')) in
              let x : 1 ≤ count (done_of r t) d.sent = omega (arith, rw c at y) in
              off x);
        }
      where
        s' : Station
        s' = set_kept d.station (upd d.station.kept q NotKept)

        left : KeptNames t W ((drop_pages (drops set s') (mark set s')).kept r)
        left = by_eq r q (λ c. rw c tt) (λ c. rw c h.kept)

        named : (eqb q r && eqb v t) ≡ true → set a ≡ true
        named c =
            let p : q ≡ r = eqb_yes q r (and_l (eqb q r) _ c) in
            let k : KeptNames t W (d.station.kept q) = rw p h.kept in
            let m : v ≡ t → set ≡ W = rw e at k in
            ap (λ f. f a) (m (eqb_yes v t (and_r (eqb q r) _ c))) ∙ n

        off : 1 ≤ count (done_of r t) d.sent → shown (drop_pages (drops set s') (mark set s')) a ≡ false
        off x = by_b (shown (drop_pages (drops set s') (mark set s')) a) (λ c. absurd (false≢true (sym (h.done x) ∙ done_less set s' a c))) (λ c. c)

    closes_answering : (d : Did) → d.station.kind ≡ kind → (shown d.station a ≡ true → before ≡ true) → KeptNames t W (d.station.kept r) → count (done_of r t) d.sent ≡ 0 → Answering r t W kind a before (close d)
    unfolding closed
    closes_answering d e f k z = closes (Answering r t W kind a before) answering_call d (start e f k z)
      where
        start : d.station.kind ≡ kind → (shown d.station a ≡ true → before ≡ true) → KeptNames t W (d.station.kept r) → count (done_of r t) d.sent ≡ 0 → Answering r t W kind a before (did_station d (closed d.station))
        start e f k z = record { ending = record { same = e; unread = refl; less = f }; kept = k; done = λ c. absurd (omega arith) }

module _ (s : Server) (t : ℕ → Station) (u : ℕ → List Up) (d : ℕ → List Down) (i : ℕ) (b : i < 8) (h : Known s t u d) where
  -- shows and reads no more, answers no callback
  pub fine_less : (k : Did) (D : List Down) → Less (t i) k.station → NoDone k.sent
      → ((a : ℕ) → count (shows a) (d i) ≡ 0 → count (shows a) D ≡ 0) → ((r n a : ℕ) → NoShowBehind r n a (d i) → NoShowBehind r n a D)
      → Fine s i (u i) D k
  fine_less k D m n z y =
      record {
        locked = λ a c q.
            locked_less (h.exclusive.locked i a b c (rw m.kind at q)) (k.station.cached (page_of a)) (k.station.unav a) (k.station.rd a) D (m.shows a) (m.rd a) (λ o. z a);
        called = λ r a c f q v p g w.
            let l = h.exclusive.called r i a c b f (rw m.kind at q) v p g w in
            called_less l (k.station.cached (page_of a)) (k.station.unav a) (k.station.rd a) (u i ++ k.sent) D (m.shows a) (m.rd a)
            (omega (arith, count_append (done_of r (s.latest r)) (u i) k.sent, n r (s.latest r))) (z a) (y r (s.latest r) a l.G2a);
      }

  -- the transaction ends, with no page message left on the way
  pub fine_end : (k : Did) (D : List Down) → k.station.kind ≡ (t i).kind → ((a : ℕ) → shown k.station a ≡ true → shown (t i) a ≡ true) → k.station.kept ≡ (t i).kept → NoDone k.sent
      → (locking (t i).kind ≡ true → (a : ℕ) → count (shows a) D ≡ 0)
      → Fine s i (u i) D (close k)
  fine_end k D e f g n z =
      record {
        locked = λ a c q.
            let m = closes_ending (t i).kind a (shown (t i) a) k e (f a) in
            let q' : locking (t i).kind ≡ true = rw m.same at q in
            locked_less (h.exclusive.locked i a b c q') ((close k).station.cached (page_of a)) ((close k).station.unav a) ((close k).station.rd a) D m.less (λ x. absurd (false≢true (sym m.unread ∙ x))) (λ o x. z q' a);
        called = λ r a c v q y p x w.
            let j = closes_ending (t i).kind a (shown (t i) a) k e (f a) in
            let q' : locking (t i).kind ≡ true = rw j.same at q in
            let names : KeptNames (s.latest r) (s.queue r).writes ((t i).kept r) = (h.callbacks r i c b).G5_kept p x in
            let m = closes_answering (t i).kind a (shown (t i) a) r (s.latest r) (s.queue r).writes w k e (f a) (rw g names) (n r (s.latest r)) in
            let l = h.exclusive.called r i a c b v q' y p x w in
            let sum : count (done_of r (s.latest r)) (u i ++ (close k).sent) ≡ count (done_of r (s.latest r)) (u i) + count (done_of r (s.latest r)) (close k).sent = count_append (done_of r (s.latest r)) (u i) (close k).sent in
            record {
              F3b = λ o. absurd (false≢true (sym j.unread ∙ o));
              G2a = behind_none r (s.latest r) a D (z q' a);
              G2c = λ o.
                  either (count (done_of r (s.latest r)) (u i)) (count (done_of r (s.latest r)) (close k).sent) (omega arith)
                  (λ one. hidden_less ((close k).station.cached (page_of a)) ((close k).station.unav a) D j.less (λ x. z q' a) (l.G2c one))
                  (λ one. record { copy = m.done one; under_way = z q' a });
              G2d = λ o. hidden_less ((close k).station.cached (page_of a)) ((close k).station.unav a) D j.less (λ x. z q' a) (l.G2d o);
            };
      }
    where
      either : {G : Type 0} (x y : ℕ) → 1 ≤ x + y → (1 ≤ x → G) → (1 ≤ y → G) → G
      either zero y e p q = q (omega arith)
      either (suc x) y e p q = p (omega arith)

  -- a shown address is read here
  fine_read : (a : ℕ) → shown (t i) a ≡ true → Fine s i (u i) (d i) (read_local a (t i))
  unfolding read_local record_read
  fine_read a e =
      record {
        locked = λ c f q.
            let l = h.exclusive.locked i c b f q in
            record {
              F1 = l.F1;
              F2a = l.F2a;
              F3a = λ o. by_eq c a (λ z. shown_free l (rw (eqb_yes c a z) e)) (λ z. l.F3a (rw z at o));
            };
        called = λ r c f g q v p y w.
            let l = h.exclusive.called r i c f b g q v p y w in
            rw (append_nil (u i))
            (record {
              F3b = λ o. by_eq c a (λ z. not_cleared l (λ hid. false≢true (sym hid.copy ∙ rw (eqb_yes c a z) e))) (λ z. l.F3b (rw z at o));
              G2a = l.G2a;
              G2c = l.G2c;
              G2d = l.G2d;
            });
      }

  pub owner_fine : (op : Op) → Fine s i (u i) (d i) (perform op (t i))
  unfolding read_ask write_ask write_local
  owner_fine op = performs (t i) (λ o k. Fine s i (u i) (d i) k) moves op
    where
      still : (k : Did) → Less (t i) k.station → NoDone k.sent → Fine s i (u i) (d i) k
      still k m n = fine_less k (d i) m n (λ a z. z) (λ r c a z. z)

      asks : (p a : ℕ) (set : ℕ → Bool) → NoDone (cond (locking (t i).kind) (WriteRequest p (t i).num set) (ReadRequest a (t i).num) ∷ [])
      asks p a set r n = by_b (locking (t i).kind) (λ e. rw e refl) (λ e. rw e refl)

      leaves : NoDone (cond (locking (t i).kind) (Abort (t i).num ∷ []) [])
      leaves r n = by_b (locking (t i).kind) (λ e. rw e refl) (λ e. rw e refl)

      moves : Owns (t i) (λ o k. Fine s i (u i) (d i) k)
      moves =
          record {
            refused = λ o n. still _ (same_less (t i)) (λ r c. refl);
            begins = λ e f. still _ (record { kind = refl; shows = λ a z. z; rd = λ a z. z }) (λ r c. refl);
            reads_own = λ a v c e f. still _ (same_less (t i)) (λ r n. refl);
            reads_again = λ a v c e f g. still _ (same_less (t i)) (λ r n. refl);
            reads_here = λ a c e f g z. fine_read a z;
            reads_ask = λ a c e f g z. still _ (record { kind = refl; shows = λ q y. y; rd = λ q y. y }) (λ r n. refl);
            writes_here = λ p v c e f. still _ (record { kind = refl; shows = λ q y. y; rd = λ q y. y }) (λ r n. refl);
            writes_ask = λ p v c e f. still _ (record { kind = refl; shows = λ q y. y; rd = λ q y. y }) (asks p _ _);
            commits = λ e. still _ (record { kind = refl; shows = λ q y. y; rd = λ q y. y }) (λ r n. refl);
            aborts = λ e.
                fine_end _ (d i) (undone_kind (t i)) (undone_less (t i)) (undone_kept (t i)) leaves
                (λ q a. idle_none (t i).kind (t i).num (t i).opened (t i).wait q e.idle a (d i) (h.tokens i b).S1b_down);
            purges = λ p c e f g k. still _ (drop_less (λ q. eqb q p) (t i)) (λ r n. refl);
          }

  module _ (l : List Down) where
    -- the line without its head
    tail_none : (m : Down) → d i ≡ m ∷ l → (a : ℕ) → count (shows a) (d i) ≡ 0 → count (shows a) l ≡ 0
    tail_none m q a z = let y : cond (shows a m) 1 0 + count (shows a) l ≡ 0 = rw q at z in omega arith

    tail_behind : (m : Down) → d i ≡ m ∷ l → (r n a : ℕ) → NoShowBehind r n a (d i) → NoShowBehind r n a l
    tail_behind m q r n a z = let y : NoShowBehind r n a (m ∷ l) = rw q at z in y.1

    fine_tail : (m : Down) → d i ≡ m ∷ l → (k : Did) → Less (t i) k.station → NoDone k.sent → Fine s i (u i) l k
    fine_tail m q k c n = fine_less k l c n (tail_none m q) (tail_behind m q)

    -- a page arrives for address a: what the message hides the copy hides; what is read of it was not hidden [B2]
    module _ (o : Lock) (a n : ℕ) (v : ℕ → ℕ) (x : ℕ → Bool) (y : ℕ → ℕ) (q : d i ≡ Page o a n v x y ∷ l) where
      arrive_hidden : (c : ℕ) {cached unav : Bool} → Hidden c cached unav (Page o a n v x y ∷ l)
          → Hidden c (cond (eqb (page_of c) (page_of a)) true cached) (cond (eqb (page_of c) (page_of a)) (x c) unav) l
      arrive_hidden c hid =
          let z = hid.under_way in
          record {
            copy =
                by_eq (page_of c) (page_of a)
                (λ e. rw e (by_b (x c) (λ f. rw f refl) (λ f. let w : 1 + count (shows c) l ≡ 0 = rw (e, f) at z in absurd (omega arith))))
                (λ e. rw e hid.copy);
            under_way = omega arith;
          }

      -- the message shows a
      arrive_shown : {c : ℕ} {cached unav : Bool} → eqb c a ≡ true → x a ≡ false → Hidden c cached unav (Page o a n v x y ∷ l) → ⊥
      arrive_shown {c} e f hid =
          let p : c ≡ a = eqb_yes c a e in
          let z : cond (eqb (page_of c) (page_of a) && not (x c)) 1 0 + count (shows c) l ≡ 0 = hid.under_way in
          let w : 1 + count (shows a) l ≡ 0 = rw (p, eqb_same (page_of a), f) at z in
          absurd (omega arith)

      fine_arrives : (k : Did) → k.station.kind ≡ (t i).kind
          → ((p : ℕ) → k.station.cached p ≡ cond (eqb p (page_of a)) true ((t i).cached p))
          → ((c : ℕ) → k.station.unav c ≡ cond (eqb (page_of c) (page_of a)) (x c) ((t i).unav c))
          → (locking (t i).kind ≡ true → (c : ℕ) → has (k.station.rd c) ≡ true → (has ((t i).rd c) ≡ true) ⊎ ((eqb c a ≡ true) × (x a ≡ false)))
          → k.sent ≡ []
          → Fine s i (u i) l k
      fine_arrives k kind cached unav rd sent =
          record {
            locked = λ c f p.
                let p' : locking (t i).kind ≡ true = rw kind at p in
                let m = rw q at (h.exclusive.locked i c b f p') in
                rw (cached (page_of c), unav c)
                (record {
                  F1 = λ w. arrive_hidden c (m.F1 w);
                  F2a = m.F2a;
                  F3a = λ w. either (rd p' c w) (λ e. m.F3a e) (λ e. by_b (other (s.ol c) i) (λ g. absurd (arrive_shown e.0 e.1 (m.F1 g))) (λ g. g));
                });
            called = λ r c f g p w z j e.
                let p' : locking (t i).kind ≡ true = rw kind at p in
                let m = rw q at (h.exclusive.called r i c f b g p' w z j e) in
                rw (cached (page_of c), unav c, sent, append_nil (u i))
                (record {
                  F3b = λ w. either (rd p' c w) (λ e. m.F3b e) (λ e. not_cleared m (arrive_shown e.0 e.1));
                  G2a = m.G2a.1;
                  G2c = λ w. arrive_hidden c (m.G2c w);
                  G2d = λ w. arrive_hidden c (m.G2d w);
                });
          }

    -- a callback is done
    fine_done : (r n : ℕ) (set : ℕ → Bool) → d i ≡ Callback r n set ∷ l → any 256 (λ a. set a && used_at (t i) a) ≡ false → Fine s i (u i) l (do_callback r n set (does Nothing (t i) []))
    unfolding do_callback drop_pages mark
    fine_done r n set q e =
        record {
          locked = λ a c p. locked_less (h.exclusive.locked i a b c p) _ _ ((t i).rd a) l (done_less set (t i) a) (λ z. z) (λ o. tail_none (Callback r n set) q a);
          called = λ v a c f p g w z y.
              let m = h.exclusive.called v i a c b f p g w z y in
              by_b (eqb r v && eqb n (s.latest v))
              (λ o.
              let same : set ≡ (s.queue v).writes = (rw q at ((h.callbacks v i c b).G5_down w z)).0 (eqb_yes r v (and_l (eqb r v) _ o)) (eqb_yes n (s.latest v) (and_r (eqb r v) _ o)) in
              let named : set a ≡ true = ap (λ j. j a) same ∙ y in
              let hid : Hidden a _ _ l = record { copy = done_named set (t i) a named; under_way = (rw q at m.G2a).0 o } in
              let used : used_at (t i) a ≡ false = rw named at (any_no 256 (λ j. set j && used_at (t i) j) e a f) in
              record {
                F3b = λ j. absurd (false≢true (sym (or_no (has ((t i).rd a)) (has ((t i).wr a)) used).0 ∙ j));
                G2a = tail_behind (Callback r n set) q v (s.latest v) a m.G2a;
                G2c = λ j. hid;
                G2d = λ j. hid;
              })
              (λ o.
              let sum : count (done_of v (s.latest v)) (u i ++ (Done r n (drops set (t i)) ∷ [])) ≡ count (done_of v (s.latest v)) (u i) + cond (eqb r v && eqb n (s.latest v)) 1 0 = count_snoc (done_of v (s.latest v)) (u i) (Done r n (drops set (t i))) in
              called_less m _ _ ((t i).rd a) _ l (done_less set (t i) a) (λ j. j) (omega (arith, rw o at sum)) (tail_none (Callback r n set) q a) (tail_behind (Callback r n set) q v (s.latest v) a m.G2a));
        }

    -- behind a token there is no page message [S1a]
    behind_token : (m : Down) → d i ≡ m ∷ l → token_down (stale (t i).kind (t i).num (t i).opened) m ≡ true → locking (t i).kind ≡ true → (a : ℕ) → count (shows a) l ≡ 0
    behind_token m q e k a =
        let old : ℕ → Bool = stale (t i).kind (t i).num (t i).opened in
        let z : count (token_down old) (d i) ≤ 1 = omega (arith, (h.tokens i b).S1a) in
        token_none (t i).kind (t i).num (t i).opened k a m l e (rw q at z)

    page_write : (o : Lock) (a n : ℕ) (v : ℕ → ℕ) (x : ℕ → Bool) (y : ℕ → ℕ) (z : ℕ → Val) → d i ≡ Page o a n v x y ∷ l → Fine s i (u i) l (does Written (write_local z (arrived o a v x y (t i))) [])
    unfolding arrive take_lock write_local
    page_write NoLock a n v x y z q = fine_arrives NoLock a n v x y q _ refl (λ p. refl) (λ c. refl) (λ p c f. inl f) refl
    page_write ObjectLock a n v x y z q = fine_arrives ObjectLock a n v x y q _ refl (λ p. refl) (λ c. refl) (λ p c f. inl f) refl
    page_write WholeLock a n v x y z q = fine_arrives WholeLock a n v x y q _ refl (λ p. refl) (λ c. refl) (λ p c f. inl f) refl

    page_read : (a n : ℕ) (v : ℕ → ℕ) (x : ℕ → Bool) (y : ℕ → ℕ) → d i ≡ Page NoLock a n v x y ∷ l
        → Fine s i (u i) l (does (Value ((arrived NoLock a v x y (t i)).copy a)) (record_read a (arrived NoLock a v x y (t i))) [])
    unfolding arrive take_lock record_read
    page_read a n v x y q =
        fine_arrives NoLock a n v x y q _ refl (λ p. refl) (λ c. refl)
        (λ p c f. by_eq c a (λ e. inr (e, (rw q at (h.values i 0 b (omega arith) p).B2).0)) (λ e. inl (rw e at f))) refl

    deescalates : (p n : ℕ) → d i ≡ Deescalate p n ∷ l → Fine s i (u i) l (on_deescalate p n (t i))
    unfolding on_deescalate loosen
    deescalates p n q =
        fine_tail (Deescalate p n) q _
        (by_b (gives_up p n (t i)) (λ e. rw e (record { kind = refl; shows = λ a z. z; rd = λ a z. z })) (λ e. rw e (same_less (t i))))
        (λ r c. refl)

    pub station_fine : (m : Down) → d i ≡ m ∷ l → is_refused (station_step m (t i)).answer ≡ false → Fine s i (u i) l (station_step m (t i))
    unfolding on_committed on_aborted
    station_fine m = takes (t i) (λ n k. d i ≡ n ∷ l → is_refused k.answer ≡ false → Fine s i (u i) l k) moves m
      where
        moves : Takes (t i) (λ n k. d i ≡ n ∷ l → is_refused k.answer ≡ false → Fine s i (u i) l k)
        moves =
            record {
              refused = λ n e q f. absurd (false≢true (sym f));
              old_page = λ a n v x y e q f. fine_tail _ q _ (record { kind = refl; shows = λ a z. z; rd = λ a z. z }) (λ r c. refl);
              page_read = λ a n v x y e w q f. page_read a n v x y q;
              page_write = λ o a n v x y p z e w k c q f. page_write o a n v x y z q;
              deescalates = λ p n k q f. deescalates p n q;
              keeps = λ r n set k e q f. fine_tail _ q _ (record { kind = refl; shows = λ a z. z; rd = λ a z. z }) (λ c g. refl);
              dones = λ r n set k e q f. fine_done r n set q e;
              commits = λ n c e w q f. fine_end _ l refl (λ a z. z) refl (λ r g. refl) (behind_token _ q refl);
              aborts = λ n c e w q f. fine_end _ l (undone_kind (t i)) (undone_less (t i)) (undone_kept (t i)) (λ r g. refl) (behind_token _ q refl);
              invalid_ends = λ p k e w q f.
                  fine_end _ l (undone_kind (mark p (t i)) ∙ (mark_less p (t i)).kind) (λ a z. marked_less p (t i) a (undone_less (mark p (t i)) a z))
                  (undone_kept (mark p (t i)) ∙ mark_kept p (t i)) (λ r g. refl) (λ y. absurd (false≢true (sym k ∙ y)));
              invalid = λ p k e q f. fine_tail _ q _ (mark_less p (t i)) (λ r g. refl);
            }

module _ (s : Server) (t : ℕ → Station) (u : ℕ → List Up) (d d' : ℕ → List Down) (i : ℕ) (D : List Down) (k : Did) where
  pub moved : ((j : ℕ) → d' j ≡ upd d i D j) → ExclusiveIn t u s d → Fine s i (u i) D k
      → ExclusiveIn (upd t i k.station) (upd u i (u i ++ k.sent)) s d'
  moved e h f =
      record {
        locked = λ j a b c.
            by_eq j i (λ q. rw (e j, q, eqb_yes j i q) (f.locked a c)) (λ q. rw (e j, q) (h.locked j a b c));
        called = λ r j a b c g.
            by_eq j i (λ q. rw (e j, q, eqb_yes j i q) (f.called r a b g)) (λ q. rw (e j, q) (h.called r j a b c g));
      }

-- what owners are told is in no clause
told : (i : ℕ) (op : Op) (a : Answer) (w : World) → ExclusionOf w → ExclusionOf (tell i op a w)
unfolding tell
told i op Nothing w h = h
told i op (Begun n) w h = record { locked = h.locked; called = h.called }
told i op (Value v) w h = record { locked = h.locked; called = h.called }
told i op Waits w h = record { locked = h.locked; called = h.called }
told i op Written w h = record { locked = h.locked; called = h.called }
told i op (CommittedAs n) w h = record { locked = h.locked; called = h.called }
told i op (AbortedFor c) w h = record { locked = h.locked; called = h.called }
told i op Purged w h = h
told i op (Refused n) w h = h
told i op Empty w h = h

module _ (apart : KnownApart) where
  pub exclusion_owner : (i : ℕ) (op : Op) (w : World) → i < 8 → Inv w → ExclusionOf (after_owner i op w)
  unfolding carry_up
  exclusion_owner i op w b h =
      let g = known apart w h in
      let k : Did = perform op (w.station i) in
      let f = owner_fine w.server w.station w.up w.down i b g op in
      let m = moved w.server w.station w.up w.down w.down i (w.down i) k (λ j. by_eq j i (λ q. rw (q, eqb_yes j i q) refl) (λ q. rw q refl)) g.exclusive f in
      told i op k.answer (carry_up i k w) (record { locked = m.locked; called = m.called })

  pub exclusion_station : (i : ℕ) (m : Down) (l : List Down) (w : World) → i < 8 → w.down i ≡ m ∷ l → is_refused (station_step m (w.station i)).answer ≡ false → Inv w → ExclusionOf (after_station i m l w)
  unfolding carry_up
  exclusion_station i m l w b q e h =
      let g = known apart w h in
      let k : Did = station_step m (w.station i) in
      let f = station_fine w.server w.station w.up w.down i b g l m q e in
      let z = moved w.server w.station w.up w.down (upd w.down i l) i l k (λ j. refl) g.exclusive f in
      told i (w.asked i) k.answer (carry_up i k (world_down w (upd w.down i l))) (record { locked = z.locked; called = z.called })
