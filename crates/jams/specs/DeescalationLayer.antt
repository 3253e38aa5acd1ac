-- The layer of de-escalation: every move from an orderly world leads to a world with K4, K6 and K10.
use Rattle.std.specs.Prelude.{◌≡◌, refl, true, false, ◌&&◌, List, ◌∷◌, ◌++◌, ◌≢◌, eqb}
use Rattle.std.proofs.Common.{sym, ◌∙◌, arith}
use Rattle.std.proofs.Math.Path.{ap}
use Rattle.std.proofs.Math.Bool.{Bool}
use Rattle.std.proofs.lemmas.Bool.{false≢true}
use Prim.Native.Nat.{ℕ, suc, ◌≤◌, ◌<◌}
use Rattle.sets.specs.Base.{upd, nowhere}
use Rattle.sets.specs.Laws.{by_b, by_eq}
use Rattle.sets.proofs.Laws.{eqb_same, eqb_yes, and_l, and_r, any_some}
use Rattle.line.specs.Messages.{page_of, keeps, Up, ReadRequest, WriteRequest, Commit, Abort, Purge, Busy, Done, WrittenSet, NoLock, Down, address}
use Rattle.line.specs.Station.{Station, Did, station_step}
use Rattle.line.specs.Server.{ByMessage, Server, Serving, WantWrite, Waiter, bad_number, unexpected, notice, finish, join, send_page, serve_now, join_read, join_write, join_commit, read_waiter, write_waiter, commit_waiter, commit_now, unlist, mark_busy, answered, open_ask, heeded, accept, install_waiter, start}
use Rattle.line.specs.Pass.{Clear}
use Rattle.line.specs.Apart.{passed, asked_of}
use Rattle.line.specs.Runs.{tell_keeps}
use Rattle.line.specs.Line.{World, world_down, Op, perform, carry_up, carry_down, sent_to, is_refused, fresh}
use Rattle.line.specs.Truth.{count}
use Rattle.truth.specs.Clauses.{stale, token_up, tokens, Shape}
use Rattle.truth.specs.Inv.{after_owner, after_station, taken, Acts, Over}
use Rattle.truth.proofs.Inv.{heard_good}
use Rattle.truth.specs.Frame.{Accepts}
use Rattle.truth.proofs.Frame.{append_nil, count_less, accepts, noticed_kind, noticed_wl}
use Rattle.truth.proofs.ValidatedMoves.{perform_kind, step_kind}
use Rattle.jams.specs.Clauses.{asks_lock, gives_up, DeescalationAt, DeescalationOf, Orderly}
use Rattle.jams.specs.Freed.{answers_open}
use Rattle.jams.specs.Deescalation.{is_write}
use Rattle.jams.specs.DeescalationStation.{Known, owner_de, station_de}
use Rattle.jams.specs.DeescalationServer.{DeIn, finished_free, finish_de, join_de, notice_de, taken_de, abort_de, install_de, commit_de, page_de, read_de, object_de, whole_de, ask_de, call_de, busy_de, answered_de, loosen_de}
use Rattle.truth.proofs.Tokens.{of_page_lem, in_page}

-- THE START

de_fresh : (kinds : ℕ → ℕ) → DeescalationOf (fresh kinds)
de_fresh kinds =
    λ i p b c v.
    record {
      K4 = λ o f n w. absurd (false≢true o);
      K4b = λ o f n. absurd (false≢true o);
      K6a_down = tt;
      K6a_up = tt;
      K6b = λ f n. absurd (false≢true (sym f));
      K6c = λ f. omega arith;
      K6d_up = λ f n. absurd (false≢true (sym f));
      K6d_down = λ f. tt;
      K10 = λ q r. absurd (false≢true (ap is_write q));
      K10_up = λ w. absurd (omega arith);
    }

-- OWNER AND STATION

abbrev DeAll : Server → (ℕ → Station) → (ℕ → List Up) → (ℕ → List Down) → Type 0
DeAll s t u d = (i p : ℕ) → i < 8 → p < 32 → keeps (t i).kind ≡ false → DeescalationAt s t u d i p

pub known : (w : World) → Orderly w → (i : ℕ) → i < 8 → Known w.server i (w.station i) (w.up i) (w.down i)
known w h i b = record { numbers = h.numbers i b; locks = h.locks i b; sets = h.sets i b; tokens = h.inv.tokens i }

de_owner : (i : ℕ) (op : Op) (w : World) → i < 8 → Orderly w → DeescalationOf (after_owner i op w)
unfolding carry_up
de_owner i op w b h =
    let d : Did = perform op (w.station i) in
    tell_keeps DeAll i op d.answer (carry_up i d w)
    (λ j p c k.
    by_eq j i
    (λ e.
    rw (e, eqb_yes j i e)
    (λ v.
    let y : keeps (w.station i).kind ≡ false = rw (perform_kind op (w.station i)) at v in
    owner_de w.server i p (w.up i) (w.down i) (w.station i) y (known w h i b) (h.deescalation i p b k y) op))
    (λ e. rw e (h.deescalation j p c k)))

de_station : (i : ℕ) (m : Down) (l : List Down) (w : World) → i < 8 → w.down i ≡ m ∷ l → is_refused (station_step m (w.station i)).answer ≡ false → Orderly w → DeescalationOf (after_station i m l w)
unfolding carry_up
de_station i m l w b q n h =
    let d : Did = station_step m (w.station i) in
    tell_keeps DeAll i (w.asked i) d.answer (carry_up i d (world_down w (upd w.down i l)))
    (λ j p c k.
    by_eq j i
    (λ e.
    rw (e, eqb_yes j i e)
    (λ v.
    let y : keeps (w.station i).kind ≡ false = rw (step_kind m (w.station i)) at v in
    station_de w.server i p (w.up i) l (w.station i) y m (rw q at (known w h i b)) (rw q at (h.deescalation i p b k y))))
    (λ e. rw e (h.deescalation j p c k)))

-- THE PASS

-- a 2 is a token
pub asks_token : (old : ℕ → Bool) (p : ℕ) (m : Up) → asks_lock p m ≡ true → token_up old m ≡ true
asks_token old p (ReadRequest a t) e = absurd (false≢true e)
asks_token old p (WriteRequest q t set) e = refl
asks_token old p (Commit w) e = absurd (false≢true e)
asks_token old p (Abort t) e = absurd (false≢true e)
asks_token old p (Purge q) e = absurd (false≢true e)
asks_token old p (Busy r t) e = absurd (false≢true e)
asks_token old p (Done r t d) e = absurd (false≢true e)
asks_token old p (WrittenSet q t set) e = absurd (false≢true e)

module _ (w : World) (i : ℕ) (x : Serving) (b : i < 8) (e : (x.server.queue i).want ≡ WantWrite) (h : Orderly (carry_down x w)) where
  -- who waits has no other request under way [S1a]
  pub asked_once : (p : ℕ) → count (asks_lock p) (w.up i) ≡ 0
  unfolding carry_down
  asked_once p =
      let s : Station = w.station i in
      let old : ℕ → Bool = stale s.kind s.num s.opened in
      let one : tokens old (x.server.queue i).want (w.up i) (w.down i ++ sent_to i x.sent) ≤ 1 = (h.inv.tokens i).S1a in
      let less = count_less (asks_lock p) (token_up old) (asks_token old p) (w.up i) in
      omega (arith, rw e at one)

  -- who passed the gates is shut out by no other, and has not got the page whole [K10]
  pub granted_free : Clear i x → (p : ℕ) → p < 32 → page_of (x.server.queue i).req ≡ p → (j : ℕ) → x.server.wl p ≡ suc j → eqb j i ≡ true
  unfolding carry_down
  granted_free c p k q j held =
      let r : ℕ = page_of (x.server.queue i).req in
      let z : Shape WantWrite (x.server.queue i) = rw e at (h.inv.tokens i).S7 in
      let y = any_some 8 (λ o. (x.server.queue i).writes (address r o)) z.2 in
      let page : page_of (address r y.0) ≡ p = of_page_lem r y.0 y.1 ∙ q in
      let same : j ≡ i = passed i x b h.inv.apart c (address r y.0) y.2 (in_page k page) j (rw page held) in
      rw same (eqb_same i)

  -- its objects are of one page [S7]
  pub one_page : (a : ℕ) → (x.server.queue i).writes a ≡ true → page_of a ≡ page_of (x.server.queue i).req
  unfolding carry_down
  one_page a v = let z : Shape WantWrite (x.server.queue i) = rw e at (h.inv.tokens i).S7 in z.1 a v

  pub grant_free : Clear i x → (p : ℕ) → p < 32 → page_of (x.server.queue i).req ≡ p → (j : ℕ) → x.server.wl p ≢ suc j
  unfolding carry_down
  grant_free c p k q j z =
      let own : x.server.wl p ≡ suc i = z ∙ ap suc (eqb_yes j i (granted_free c p k q j z)) in
      by_b (keeps (w.station i).kind) (λ v. (h.keeping i p b v).K10 e q own) (λ v. (h.deescalation i p b k v).K10 e q own)

module _ (w : World) (x : Serving) (h : Orderly (carry_down x w)) where
  -- the server's word on a station's kind
  plain : (j : ℕ) → keeps (w.station j).kind ≡ false → keeps (x.server.kind j) ≡ false
  unfolding carry_down
  plain j v = rw (h.inv.tokens j).kinds v

  -- a whole lock that is not kept is the latest transaction's
  named_latest : (g q : ℕ) → x.server.wl q ≡ suc g → keeps (x.server.kind g) ≡ false → x.server.whole_for q ≡ x.server.latest g
  unfolding carry_down
  named_latest g q e v = (h.inv.apart.locks.given g q e).latest_is v

de_acts : (w : World) → Acts (λ x. Orderly (carry_down x w)) (λ x. DeescalationOf (carry_down x w))
unfolding carry_down install_waiter
de_acts w =
    let t = w.station in
    let u = w.up in
    let d = w.down in
    record {
      aborts = λ i c x b e h j p k l v. abort_de t u d j p i c x (plain w x h j v) (h.deescalation j p k l v);
      asks = λ i g q x b e f h j p k l v. ask_de t u d j p g q x e.held f (λ z. named_latest w x h g q e.held (rw (← eqb_yes j g z) (plain w x h j v))) (h.deescalation j p k l v);
      reads = λ i x b e c h j p k l v. read_de t u d j p i x (h.deescalation j p k l v);
      calls = λ i x b e f n c h j p k l v. call_de t u d j p i x (h.deescalation j p k l v);
      objects = λ i x b e c h j p k l v. object_de t u d j p i x (λ n q. grant_free w i x b e h c.clear p l q j) (one_page w i x b e h) (h.deescalation j p k l v);
      pages = λ i x b e c f h j p k l v.
          whole_de t u d j p i x (λ q. grant_free w i x b e h c.clear p l q j) (λ q. rw (eqb_yes j i q) (asked_once w i x b e h p)) (h.deescalation j p k l v);
      installs = λ i x b e f c h j p k l v. install_de t u d j p i (x.server.queue i).work x (plain w x h j v) (h.deescalation j p k l v);
    }

-- ACCEPT of m, the head of up line i
module _ (i : ℕ) (l : List Up) (w : World) (b : i < 8) (h : Orderly w) where
  abbrev Accepted : Up → Serving → Type 0
  Accepted m x = w.up i ≡ m ∷ l → (j p : ℕ) → j < 8 → p < 32 → keeps (w.station j).kind ≡ false → DeIn w.station (upd w.up i l) w.down j p x

  -- before the message is taken
  first : (j p : ℕ) → j < 8 → p < 32 → keeps (w.station j).kind ≡ false → DeIn w.station w.up w.down j p (start w.server)
  first j p c k v = rw (append_nil (w.down j)) (h.deescalation j p c k v)

  served_plain : (j : ℕ) → keeps (w.station j).kind ≡ false → keeps (w.server.kind j) ≡ false
  served_plain j v = rw (h.inv.tokens j).kinds v

  noted : (T j p : ℕ) → bad_number w.server i T ≡ false → j < 8 → p < 32 → keeps (w.station j).kind ≡ false → DeIn w.station w.up w.down j p (notice i T (start w.server))
  noted T j p n c k v = notice_de w.station w.up w.down j p i T (start w.server) n h.inv.apart (served_plain j v) (first j p c k v)

  noted_plain : (T j : ℕ) → keeps (w.station j).kind ≡ false → keeps ((notice i T (start w.server)).server.kind j) ≡ false
  noted_plain T j v = rw (noticed_kind i T (start w.server)) (served_plain j v)

  -- who asks for a lock on a page has not got it whole [K10]
  asked_free : (a T j p : ℕ) (set : ℕ → Bool) → bad_number w.server i T ≡ false → w.up i ≡ WriteRequest a T set ∷ l → j < 8 → p < 32 → keeps (w.station j).kind ≡ false → eqb j i ≡ true → a ≡ p → (notice i T (start w.server)).server.wl p ≢ suc j
  asked_free a T j p set n q c k v e f z =
      let head : w.up j ≡ WriteRequest a T set ∷ l = rw (eqb_yes j i e) q in
      let g = ((rw head at (noted T j p n c k v)).K10_up z).0 in
      false≢true (sym g ∙ (rw f (eqb_same p)))

  -- an 8 that answers no open 19 gives up nothing [K6b, Apart]
  pub late : (q T : ℕ) (set : ℕ → Bool) (j p : ℕ) → open_ask w.server i q T ≡ false → w.up i ≡ WrittenSet q T set ∷ l → j < 8 → p < 32 → keeps (w.station j).kind ≡ false → eqb j i ≡ true → w.server.wl p ≡ suc j → gives_up p (w.server.latest j) (WrittenSet q T set) ≡ false
  late q T set j p o y c k v e z =
      let s : Server = w.server in
      let same : j ≡ i = eqb_yes j i e in
      let head : w.up j ≡ WrittenSet q T set ∷ l = rw same y in
      by_b (eqb q p && eqb T (s.latest j))
      (λ g.
      let f : s.fin j ≡ false = (h.inv.apart.locks.whole_open j p z).unfinished (served_plain j v) in
      let asked : s.asked p ≡ true = ((rw head at (h.deescalation j p c k v)).K6b f (rw g (omega arith))).1 in
      let page : q ≡ p = eqb_yes q p (and_l (eqb q p) _ g) in
      let answers : open_ask s i q T ≡ true = rw (page, ← same, z, eqb_same (suc j), asked, served_plain j v, f, and_r (eqb q p) (eqb T (s.latest j)) g) refl in
      absurd (false≢true (sym o ∙ answers)))
      (λ g. rw g refl)

  -- a message that gives up nothing is taken
  took : (m : Up) (x : Serving) → ((p n : ℕ) → gives_up p n m ≡ false) → ((j p : ℕ) → j < 8 → p < 32 → keeps (w.station j).kind ≡ false → DeIn w.station w.up w.down j p x) → Accepted m x
  took m x n g q j p c k v = taken_de w.station w.up w.down j p i m l x q (λ e z. n p (x.server.latest j)) (g j p c k v)

  accepts_de : Accepts i (start w.server) Accepted
  unfolding join_read join_write join_commit serve_now unlist
  accepts_de =
      let s : Server = w.server in
      let x : Serving = start s in
      let t = w.station in
      let u = w.up in
      let d = w.down in
      record {
        read_waits = λ a T n e.
            let y : Serving = notice i T x in
            let v : Waiter = read_waiter y.server a in
            took (ReadRequest a T) (join i v y) (λ p o. refl) (λ j p c k z'. join_de t u d j p i v y (λ f z. absurd (false≢true (ap is_write z))) (noted T j p n c k z'));
        read_now = λ a T n e.
            let y : Serving = notice i T x in
            took (ReadRequest a T) (send_page NoLock i a nowhere y) (λ p o. refl) (λ j p c k z'. page_de t u d j p NoLock i a nowhere y (λ f g r z. refl) (noted T j p n c k z'));
        write_waits = λ a T set n e q.
            let y : Serving = notice i T x in
            let v : Waiter = write_waiter y.server a set in
            took (WriteRequest a T set) (join i v y) (λ p o. refl) (λ j p c k z'. join_de t u d j p i v y (λ f z g. asked_free a T j p set n q c k z' f (sym (of_page_lem a 0 (omega arith)) ∙ g)) (noted T j p n c k z')) q;
        commit_now_lem = λ v n f e.
            let y : Serving = notice i v.transaction x in
            took (Commit v) (commit_now i v y) (λ p o. refl) (λ j p c k z'. commit_de t u d j p i v y (noted_plain v.transaction j z') (noted v.transaction j p n c k z'));
        commit_waits = λ v n e.
            let y : Serving = notice i v.transaction x in
            let r : Waiter = commit_waiter y.server v in
            took (Commit v) (join i r y) (λ p o. refl) (λ j p c k z'. join_de t u d j p i r y (λ f z. absurd (false≢true (ap is_write z))) (noted v.transaction j p n c k z'));
        aborts = λ T n e q j p c k z'.
            let y : Serving = notice i T x in
            let v = noted_plain T j z' in
            taken_de t u d j p i (Abort T) l (finish i ByMessage y) q (λ f z. absurd (finished_free i j p ByMessage y v f z)) (finish_de t u d j p i ByMessage y v (noted T j p n c k z'));
        purges = λ r e. took (Purge r) x (λ p o. refl) first;
        busy = λ r T e. took (Busy r T) (mark_busy i r x) (λ p o. refl) (λ j p c k z'. busy_de t u d j p i r x (first j p c k z'));
        busy_late = λ r T e. took (Busy r T) x (λ p o. refl) first;
        dones = λ r T v e. took (Done r T v) (answered i r (unlist i v x)) (λ p o. refl) (λ j p c k z'. answered_de t u d j p i r (unlist i v x) (first j p c k z'));
        done_late = λ r T v e. took (Done r T v) x (λ p o. refl) first;
        loosens = λ r T set o a q j p c k z'.
            loosen_de t u d j p i r T set (heeded s i T set) l x q (asked_of s i r T o) (λ e. (answers_open s i r T (rw (eqb_yes j i e) at (served_plain j z')) o).2) (first j p c k z');
        loosens_new = λ r T set o a v q j p c k z'.
            let y : Serving = notice i T x in
            loosen_de t u d j p i r T set (heeded y.server i T set) l y q (rw (noticed_wl i T x) (asked_of s i r T o))
            (λ e. absurd (false≢true (sym (served_plain j z') ∙ (rw (eqb_yes j i e) a)))) (noted T j p (heard_good w h.inv i b T a v) c k z');
        loosens_late = λ r T set o q j p c k z'. taken_de t u d j p i (WrittenSet r T set) l x q (λ f z. late r T set j p o q c k z' f z) (first j p c k z');
      }

de_accepted : (i : ℕ) (m : Up) (l : List Up) (w : World) → i < 8 → w.up i ≡ m ∷ l → unexpected i m w.server ≡ false → Orderly w → DeescalationOf (carry_down (accept i m (start w.server)) (taken i l w))
unfolding carry_down
de_accepted i m l w b q n h = accepts i (start w.server) (Accepted i l w b h) (accepts_de i l w b h) m n q

-- THE LAYER
pub deescalation_layer : Over Orderly DeescalationOf
deescalation_layer = record { begins = de_fresh; owner = de_owner; station = de_station; accepted = de_accepted; acts = de_acts }
