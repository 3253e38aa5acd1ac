-- The layer of keeping: every move from an orderly world leads to a world where stations of kind 2 keep their pages in order.
use Rattle.std.specs.Prelude.{◌≡◌, Bool, false, List, ◌∷◌, ◌≢◌, eqb}
use Rattle.std.proofs.Math.Path.{refl}
use Rattle.std.proofs.Common.{sym, ap, ◌∙◌, arith}
use Rattle.std.proofs.Math.Bool.{true, false≢true}
use Prim.Native.Nat.{ℕ, zero, suc, ◌≤◌, ◌<◌}
use Rattle.sets.specs.Base.{upd, nowhere}
use Rattle.sets.specs.Laws.{by_eq}
use Rattle.sets.proofs.Laws.{eqb_same, eqb_yes}
use Rattle.line.specs.Messages.{page_of, locking, keeps, Up, ReadRequest, WriteRequest, Commit, Abort, Purge, Busy, Done, WrittenSet, NoLock, Down}
use Rattle.line.specs.Station.{Station, Did, station_step}
use Rattle.line.specs.Server.{ByMessage, Server, Serving, WantWrite, Waiter, bad_number, unexpected, notice, finish, join, send_page, serve_now, join_read, join_write, join_commit, read_waiter, write_waiter, commit_waiter, commit_now, unlist, mark_busy, answered, open_ask, heeded, accept, install_waiter, start}
use Rattle.line.specs.Apart.{asked_of}
use Rattle.line.specs.Runs.{tell_keeps}
use Rattle.line.specs.Line.{World, world_down, Op, perform, carry_up, carry_down, is_refused, fresh}
use Rattle.line.specs.Truth.{count}
use Rattle.truth.specs.Clauses.{dropped}
use Rattle.truth.specs.Inv.{after_owner, after_station, taken, Acts, Over}
use Rattle.truth.proofs.Inv.{heard_good}
use Rattle.truth.specs.Frame.{Accepts}
use Rattle.truth.proofs.Frame.{append_nil, accepts, noticed_kind, noticed_wl}
use Rattle.truth.specs.GoalsLists.{either}
use Rattle.truth.specs.Exclusion.{lines}
use Rattle.truth.proofs.Exclusion.{known_in}
use Rattle.truth.proofs.ExclusionPass.{write_page}
use Rattle.truth.specs.Tokens.{both}
use Rattle.truth.proofs.Tokens.{of_page_lem}
use Rattle.truth.proofs.ValidatedMoves.{perform_kind, step_kind}
use Rattle.jams.specs.Clauses.{numbered, named, set_for, KeepingAt, KeepingOf, Orderly}
use Rattle.jams.specs.NumbersAccept.{below}
use Rattle.jams.specs.Deescalation.{is_write}
use Rattle.jams.specs.DeescalationLayer.{known, asked_once, one_page, grant_free}
use Rattle.jams.specs.KeepingStation.{owner_ke, station_ke}
use Rattle.jams.specs.KeepingServer.{KeIn, abort_ke, install_ke, commit_ke, join_ke, notice_ke, over_ke, taken_ke, page_ke, read_ke, object_ke, whole_ke, ask_ke, call_ke, busy_ke, answered_ke, loosen_ke}

-- THE START

ke_fresh : (kinds : ℕ → ℕ) → KeepingOf (fresh kinds)
ke_fresh kinds =
    λ i p b v.
    record {
      K1 = λ w. absurd (omega arith);
      K4 = λ o n w. absurd (false≢true o);
      K4b = λ o. absurd (false≢true o);
      K6b = λ n. absurd (omega arith);
      K6c = omega arith;
      K6d_up = λ n. absurd (omega arith);
      K6d_down = tt;
      K10 = λ q r. absurd (false≢true (ap is_write q));
      K10_up = λ w. tt;
      N9 = λ w. tt;
      N12 = tt;
    }

-- OWNER AND STATION

abbrev KeAll : Server → (ℕ → Station) → (ℕ → List Up) → (ℕ → List Down) → Type 0
KeAll s t u d = (i p : ℕ) → i < 8 → keeps (t i).kind ≡ true → KeepingAt s t u d i p

ke_owner : (i : ℕ) (op : Op) (w : World) → i < 8 → Orderly w → KeepingOf (after_owner i op w)
unfolding carry_up
ke_owner i op w b h =
    let d : Did = perform op (w.station i) in
    tell_keeps KeAll i op d.answer (carry_up i d w)
    (λ j p c.
    by_eq j i
    (λ e.
    rw (e, eqb_yes j i e)
    (λ v.
    let y : keeps (w.station i).kind ≡ true = rw (perform_kind op (w.station i)) at v in
    owner_ke w.server i p (w.up i) (w.down i) (w.station i) y (known w h i b) (h.keeping i p b y) op))
    (λ e. rw e (h.keeping j p c)))

ke_station : (i : ℕ) (m : Down) (l : List Down) (w : World) → i < 8 → w.down i ≡ m ∷ l → is_refused (station_step m (w.station i)).answer ≡ false → Orderly w → KeepingOf (after_station i m l w)
unfolding carry_up
ke_station i m l w b q n h =
    let d : Did = station_step m (w.station i) in
    tell_keeps KeAll i (w.asked i) d.answer (carry_up i d (world_down w (upd w.down i l)))
    (λ j p c.
    by_eq j i
    (λ e.
    rw (e, eqb_yes j i e)
    (λ v.
    let y : keeps (w.station i).kind ≡ true = rw (step_kind m (w.station i)) at v in
    station_ke w.server i p (w.up i) l (w.station i) y m (rw q at (known w h i b)) (rw q at (h.keeping i p b y)) n))
    (λ e. rw e (h.keeping j p c)))

-- THE PASS

module _ (w : World) (x : Serving) (h : Orderly (carry_down x w)) where
  kept : (j : ℕ) → keeps (w.station j).kind ≡ true → keeps (x.server.kind j) ≡ true
  unfolding carry_down
  kept j v = rw (h.inv.tokens j).kinds v

  -- no drop of the page asked for is on its way up [C2r]
  undropped : (i : ℕ) → i < 8 → (x.server.queue i).want ≡ WantWrite → (p : ℕ) → page_of (x.server.queue i).req ≡ p → count (dropped p) (w.up i) ≡ 0
  unfolding carry_down
  undropped i b e p q =
      let k : locking (w.station i).kind ≡ true = rw (h.inv.tokens i).kinds at ((h.inv.apart.waiting.entry i b).writes_lock e) in
      none (count (dropped p) (w.up i)) (λ n. false≢true (sym (rw e at (((h.inv.coverage i k).page p).C2r_waiter n)) ∙ rw q (eqb_same p)))
    where
      none : (n : ℕ) → (1 ≤ n → ⊥) → n ≡ 0
      none zero f = refl
      none (suc n) f = absurd (f (omega arith))

  -- a page that is asked for
  in_page_of : (i : ℕ) → i < 8 → (x.server.queue i).want ≡ WantWrite → (p : ℕ) → page_of (x.server.queue i).req ≡ p → p < 32
  in_page_of i b e p q = rw (← q) (write_page x.server w.station w.up (lines w.down x) i b (known_in (λ v k. k.apart) w x h.inv) e)

ke_acts : (w : World) → Acts (λ x. Orderly (carry_down x w)) (λ x. KeepingOf (carry_down x w))
unfolding carry_down install_waiter
ke_acts w =
    let t = w.station in
    let u = w.up in
    let d = w.down in
    record {
      aborts = λ i c x b e h j p k v. abort_ke t u d j p i c x (kept w x h j v) (h.keeping j p k v);
      asks = λ i g q x b e f h j p k v. ask_ke t u d j p g q x e.held f (h.keeping j p k v);
      reads = λ i x b e c h j p k v. read_ke t u d j p i x (h.keeping j p k v);
      calls = λ i x b e f n c h j p k v. call_ke t u d j p i x (h.keeping j p k v);
      objects = λ i x b e c h j p k v. object_ke t u d j p i x (λ n q. grant_free w i x b e h c.clear p (in_page_of w x h i b e p q) q j) (one_page w i x b e h) (h.keeping j p k v);
      pages = λ i x b e c f h j p k v.
          whole_ke t u d j p i x (λ q. grant_free w i x b e h c.clear p (in_page_of w x h i b e p q) q j) (λ q. rw (eqb_yes j i q) (asked_once w i x b e h p)) (λ q r. rw (eqb_yes j i q) (undropped w x h i b e p r)) (h.keeping j p k v);
      installs = λ i x b e f c h j p k v. install_ke t u d j p i (x.server.queue i).work x (kept w x h j v) (h.keeping j p k v);
    }

-- ACCEPT of m, the head of up line i
module _ (i : ℕ) (l : List Up) (w : World) (b : i < 8) (h : Orderly w) where
  abbrev Accepted : Up → Serving → Type 0
  Accepted m x = w.up i ≡ m ∷ l → (j p : ℕ) → j < 8 → keeps (w.station j).kind ≡ true → KeIn w.station (upd w.up i l) w.down j p x

  -- before the message is taken
  first : (j p : ℕ) → j < 8 → keeps (w.station j).kind ≡ true → KeIn w.station w.up w.down j p (start w.server)
  first j p c v = rw (append_nil (w.down j)) (h.keeping j p c v)

  served_kept : (j : ℕ) → keeps (w.station j).kind ≡ true → keeps (w.server.kind j) ≡ true
  served_kept j v = rw (h.inv.tokens j).kinds v

  noted_kept : (T j : ℕ) → keeps (w.station j).kind ≡ true → keeps ((notice i T (start w.server)).server.kind j) ≡ true
  noted_kept T j v = rw (noticed_kind i T (start w.server)) (served_kept j v)

  noted : (T j p : ℕ) → bad_number w.server i T ≡ false → T ≤ (w.station i).num → j < 8 → keeps (w.station j).kind ≡ true → KeIn w.station w.up w.down j p (notice i T (start w.server))
  noted T j p n s c v = notice_ke w.station w.up w.down j p i T (start w.server) n (λ e. rw (eqb_yes j i e) s) (first j p c v)

  -- a message that is no 8 is taken
  took : (m : Up) (x : Serving) → ((p : ℕ) → set_for p m ≡ false) → ((j p : ℕ) → j < 8 → keeps (w.station j).kind ≡ true → KeIn w.station w.up w.down j p x) → Accepted m x
  took m x n g q j p c v = taken_ke w.station w.up w.down j p i m l x q (λ e. n p) (g j p c v)

  -- who asks for a lock on a page has not got it whole [K10]
  asked_free : (a T j p : ℕ) (set : ℕ → Bool) → bad_number w.server i T ≡ false → T ≤ (w.station i).num → w.up i ≡ WriteRequest a T set ∷ l → j < 8 → keeps (w.station j).kind ≡ true → eqb j i ≡ true → a ≡ p → (notice i T (start w.server)).server.wl p ≢ suc j
  asked_free a T j p set n s q c v e f z =
      let head : w.up j ≡ WriteRequest a T set ∷ l = rw (eqb_yes j i e) q in
      let g = ((rw head at (noted T j p n s c v)).K10_up z).0 in
      false≢true (sym g ∙ (rw f (eqb_same p)))

  -- every 8 for a page answers [K6b]
  late : (q T : ℕ) (set : ℕ → Bool) (j p : ℕ) → open_ask w.server i q T ≡ false → w.up i ≡ WrittenSet q T set ∷ l → j < 8 → keeps (w.station j).kind ≡ true → eqb j i ≡ true → set_for p (WrittenSet q T set) ≡ false
  late q T set j p o y c v e =
      let s : Server = w.server in
      let same : j ≡ i = eqb_yes j i e in
      let head : w.up j ≡ WrittenSet q T set ∷ l = rw same y in
      by_eq q p
      (λ g.
      let z = (rw head at (h.keeping j p c v)).K6b (rw g (omega arith)) in
      let answers : open_ask s i q T ≡ true = rw (eqb_yes q p g, ← same, z.0, eqb_same (suc j), z.1, served_kept j v) refl in
      absurd (false≢true (sym o ∙ answers)))
      (λ g. g)

  accepts_ke : Accepts i (start w.server) Accepted
  unfolding join_read join_write join_commit serve_now unlist
  accepts_ke =
      let s : Server = w.server in
      let x : Serving = start s in
      let t = w.station in
      let u = w.up in
      let d = w.down in
      let low : (m : Up) → numbered m ≡ true → w.up i ≡ m ∷ l → named m ≤ (w.station i).num = below i l w b h in
      record {
        read_waits = λ a T n e q.
            let y : Serving = notice i T x in
            let r : Waiter = read_waiter y.server a in
            took (ReadRequest a T) (join i r y) (λ p. refl) (λ j p c v. join_ke t u d j p i r y (λ f z. absurd (false≢true (ap is_write z))) (noted T j p n (low (ReadRequest a T) refl q) c v)) q;
        read_now = λ a T n e q.
            let y : Serving = notice i T x in
            took (ReadRequest a T) (send_page NoLock i a nowhere y) (λ p. refl) (λ j p c v. page_ke t u d j p NoLock i a nowhere y (λ f g r z. refl) (noted T j p n (low (ReadRequest a T) refl q) c v)) q;
        write_waits = λ a T set n e q.
            let y : Serving = notice i T x in
            let r : Waiter = write_waiter y.server a set in
            let m = low (WriteRequest a T set) refl q in
            took (WriteRequest a T set) (join i r y) (λ p. refl) (λ j p c v. join_ke t u d j p i r y (λ f z g. asked_free a T j p set n m q c v f (sym (of_page_lem a 0 (omega arith)) ∙ g)) (noted T j p n m c v)) q;
        commit_now_lem = λ r n f e q.
            let y : Serving = notice i r.transaction x in
            took (Commit r) (commit_now i r y) (λ p. refl) (λ j p c v. commit_ke t u d j p i r y (noted_kept r.transaction j v) (noted r.transaction j p n (low (Commit r) refl q) c v)) q;
        commit_waits = λ r n e q.
            let y : Serving = notice i r.transaction x in
            let z : Waiter = commit_waiter y.server r in
            took (Commit r) (join i z y) (λ p. refl) (λ j p c v. join_ke t u d j p i z y (λ f g. absurd (false≢true (ap is_write g))) (noted r.transaction j p n (low (Commit r) refl q) c v)) q;
        aborts = λ T n e q.
            took (Abort T) (finish i ByMessage (notice i T x)) (λ p. refl)
            (λ j p c v. over_ke t u d j p i T x n (λ f o. rw (eqb_yes j i f) (ended T q (rw (eqb_yes j i f) at o))) (served_kept j v) (first j p c v)) q;
        purges = λ r e. took (Purge r) x (λ p. refl) first;
        busy = λ r T e. took (Busy r T) (mark_busy i r x) (λ p. refl) (λ j p c v. busy_ke t u d j p i r x (first j p c v));
        busy_late = λ r T e. took (Busy r T) x (λ p. refl) first;
        dones = λ r T g e. took (Done r T g) (answered i r (unlist i g x)) (λ p. refl) (λ j p c v. answered_ke t u d j p i r (unlist i g x) (first j p c v));
        done_late = λ r T g e. took (Done r T g) x (λ p. refl) first;
        loosens = λ r T set o a q j p c v. loosen_ke t u d j p i r T set (heeded s i T set) l x q (asked_of s i r T o) (first j p c v);
        loosens_new = λ r T set o a z q j p c v.
            let y : Serving = notice i T x in
            loosen_ke t u d j p i r T set (heeded y.server i T set) l y q (rw (noticed_wl i T x) (asked_of s i r T o))
            (noted T j p (heard_good w h.inv i b T a z) (rw q at (h.numbers i b).N10a).0 c v);
        loosens_late = λ r T set o q j p c v. taken_ke t u d j p i (WrittenSet r T set) l x q (λ f. late r T set j p o q c v f) (first j p c v);
      }
    where
      -- a 4 names a transaction that is over [N7]
      ended : (T : ℕ) → w.up i ≡ Abort T ∷ l → (w.station i).opened ≡ true → T < (w.station i).num
      ended T q o = either (rw q at (h.numbers i b).N7).0 (λ y. y) (λ y. both (w.station i).opened o y.1)

ke_accepted : (i : ℕ) (m : Up) (l : List Up) (w : World) → i < 8 → w.up i ≡ m ∷ l → unexpected i m w.server ≡ false → Orderly w → KeepingOf (carry_down (accept i m (start w.server)) (taken i l w))
unfolding carry_down
ke_accepted i m l w b q n h = accepts i (start w.server) (Accepted i l w b h) (accepts_ke i l w b h) m n q

-- THE LAYER
pub keeping_layer : Over Orderly KeepingOf
keeping_layer = record { begins = ke_fresh; owner = ke_owner; station = ke_station; accepted = ke_accepted; acts = ke_acts }
