-- The server's actions, and who owes a 7; then the whole layer: P2, P3, P4 and P7 are kept by every move.
use Rattle.std.specs.Prelude.{◌≡◌, Bool, not, ◌&&◌, List, [], ◌∷◌, ◌++◌, ℕ, ◌+◌, ◌<◌}
use Rattle.std.proofs.Math.Path.{refl}
use Rattle.std.proofs.Common.{sym, ◌∙◌, arith}
use Rattle.std.proofs.Math.Bool.{true, false, cond, false≢true}
use Rattle.std.proofs.Math.Dec.{eqb, ltb}
use Rattle.sets.specs.Base.{upd, snoc, has}
use Rattle.sets.specs.Laws.{by_b, by_eq}
use Rattle.sets.proofs.Laws.{eqb_same, eqb_yes, eqb_no, and_l, and_r, not_yes}
use Rattle.line.specs.Messages.{last_number, locking, Work, Up, ReadRequest, WriteRequest, Commit, Abort, Purge, Busy, Done, WrittenSet, NoLock, ObjectLock, WholeLock, Down, Page, Deescalate, Committed, Aborted, Invalidate, Sent, To, keeps}
use Rattle.line.specs.Station.{Station}
use Rattle.line.specs.Server.{Server, Serving, Waiter, no_waiter, waiter_pend, waiter_busy, waits, bad_number, notice, finish, join, leave, send_page, abort, write, archive, install, serve_now, join_read, join_write, join_commit, commit_now, unlist, open_call, mark_busy, answered, loosen, ask, serve_read, concerned, call, grant_page, grant_object, install_waiter, start}
use Rattle.line.specs.Line.{World, carry_up, carry_down, sent_to}
use Rattle.line.specs.Apart.{good_number, Renews}
use Rattle.line.specs.Runs.{Of, tell_keeps}
use Rattle.truth.specs.Clauses.{kept_of, done_of, call_tokens, CallbacksAt}
use Rattle.truth.specs.Inv.{Over}
use Rattle.truth.proofs.Inv.{heard_good}
use Rattle.truth.specs.Frame.{Accepts}
use Rattle.truth.proofs.Frame.{append_nil, send_own, send_far, call_own, call_far, if_serving, noticed_latest, noticed_queue, noticed_sent, accepts, installs}
use Rattle.truth.proofs.Callbacks.{no_token}
use Rattle.truth.proofs.Tokens.{no_entry}
use Rattle.progress.specs.Clauses.{busy_of, Owed, OwedAt, OwedOf, Moving}
use Rattle.progress.specs.Owed.{from, push_down, pop_up, pop_free, free, alike, busy_taken, called_far, called_near}
use Rattle.progress.specs.OwedStation.{owner_owed, station_owed}

-- in a step from stations t, up lines u and down lines d
module _ (t : ℕ → Station) (u : ℕ → List Up) (d : ℕ → List Down) (r j : ℕ) where
  abbrev OwedIn : Serving → Type 0
  OwedIn x = OwedAt x.server t u (λ k. d k ++ sent_to k x.sent) r j

  abbrev With : ℕ → Waiter → List Sent → Type 0
  With n q l = Owed r j n q (t j).kind (t j).opened ((t j).kept r) (u j) (d j ++ sent_to j l)

  -- something is sent that is no 20
  further : (n : ℕ) (q : Waiter) (l : List Sent) (i : ℕ) (m : Down) → ((k : ℕ) → from k m ≡ false) → With n q l → With n q (snoc l (To i m))
  further n q l i m e h =
      by_eq j i
      (λ f. rw (← eqb_yes j i f, send_own j (d j) l m) (push_down m (e r) h))
      (λ f. rw (send_far i j (d j) l m f) h)

  -- i's entry goes
  gone : (i n : ℕ) (q : ℕ → Waiter) (l : List Sent) → With n (q r) l → With n (upd q i no_waiter r) l
  gone i n q l h = by_eq r i (λ e. rw e (free n no_waiter refl refl h)) (λ e. rw e h)

  -- THE PASS

  abort_owed : (i c : ℕ) (x : Serving) → OwedIn x → OwedIn (abort i c x)
  unfolding abort finish leave
  abort_owed i c x h =
      let s : Server = x.server in
      further (s.latest r) (upd s.queue i no_waiter r) x.sent i (Aborted (s.latest i) c) (λ k. refl) (gone i (s.latest r) s.queue x.sent h)

  install_owed : (i : ℕ) (w : Work) (x : Serving) → OwedIn x → OwedIn (install i w x)
  unfolding finish archive write leave
  install_owed i w x h =
      let s : Server = x.server in
      installs OwedIn i w (λ k z e. further (z.server.latest r) (z.server.queue r) z.sent k (Invalidate (λ a. has (w.writes a))) (λ g. refl)) x
      (further (s.latest r) (upd s.queue i no_waiter r) x.sent i (Committed w.transaction (s.last + 1)) (λ k. refl) (gone i (s.latest r) s.queue x.sent h))

  commit_owed : (i : ℕ) (w : Work) (x : Serving) → OwedIn x → OwedIn (commit_now i w x)
  unfolding commit_now
  commit_owed i w x h = if_serving OwedIn (eqb x.server.last last_number) (λ e. abort_owed i 4 x h) (λ e. install_owed i w x h)

  ask_owed : (k p : ℕ) (x : Serving) → OwedIn x → OwedIn (ask k p x)
  unfolding ask
  ask_owed k p x h = further (x.server.latest r) (x.server.queue r) x.sent k (Deescalate p (x.server.whole_for p)) (λ g. refl) h

  read_owed : (i : ℕ) (x : Serving) → OwedIn x → OwedIn (serve_read i x)
  unfolding serve_read send_page leave
  read_owed i x h =
      let s : Server = x.server in
      further (s.latest r) (upd s.queue i no_waiter r) x.sent i (Page NoLock _ _ _ _ _) (λ k. refl) (gone i (s.latest r) s.queue x.sent h)

  object_owed : (i : ℕ) (x : Serving) → OwedIn x → OwedIn (grant_object i x)
  unfolding grant_object send_page leave
  object_owed i x h =
      let s : Server = x.server in
      further (s.latest r) (upd s.queue i no_waiter r) x.sent i (Page ObjectLock _ _ _ _ _) (λ k. refl) (gone i (s.latest r) s.queue x.sent h)

  whole_owed : (i : ℕ) (x : Serving) → OwedIn x → OwedIn (grant_page i x)
  unfolding grant_page send_page leave
  whole_owed i x h =
      let s : Server = x.server in
      further (s.latest r) (upd s.queue i no_waiter r) x.sent i (Page WholeLock _ _ _ _ _) (λ k. refl) (gone i (s.latest r) s.queue x.sent h)

  -- P.call: of r itself ..
  own_owed : (x : Serving) → (x.server.queue r).called ≡ false → x.server.fin r ≡ false → CallbacksAt x.server t u (λ k. d k ++ sent_to k x.sent) r j → OwedIn x → OwedIn (call r x)
  unfolding call
  own_owed x c f g h =
      let s : Server = x.server in
      let z : call_tokens r (s.latest r) ((t j).kept r) (u j) (d j ++ sent_to j x.sent) ≡ 0 = no_token g f (λ a b p. false≢true (sym c ∙ b)) in
      by_b (concerned s r j)
      (λ e.
      let n : eqb j r ≡ false = not_yes (eqb j r) (and_l (not (eqb j r)) _ (and_l (not (eqb j r) && ltb j 8) _ (and_l (not (eqb j r) && ltb j 8 && locking (s.kind j)) _ e))) in
      rw (eqb_same r, call_own s r j (d j) x.sent e) (called_near (concerned s r) (s.queue r).writes c n (unkept (kept_of (s.latest r) ((t j).kept r)) (omega (arith, z))) g.G1a_kept g.G1a_down h))
      (λ e. rw (eqb_same r, call_far s r j (d j) x.sent e) (called_far (concerned s r) c e h))
    where
      unkept : (b : Bool) → cond {A = ℕ} b 1 0 ≡ 0 → b ≡ false
      unkept true e = absurd (omega arith)
      unkept false e = refl

  -- .. and of another
  others_owed : (i : ℕ) (x : Serving) → eqb r i ≡ false → OwedIn x → OwedIn (call i x)
  unfolding call
  others_owed i x n h =
      let s : Server = x.server in
      let far : eqb i r ≡ false = by_eq i r (λ e. absurd (eqb_no r i n (sym (eqb_yes i r e)))) (λ e. e) in
      by_b (concerned s i j)
      (λ e. rw (n, call_own s i j (d j) x.sent e) (push_down _ far h))
      (λ e. rw (n, call_far s i j (d j) x.sent e) h)

  call_owed : (i : ℕ) (x : Serving) → (x.server.queue i).called ≡ false → x.server.fin i ≡ false → CallbacksAt x.server t u (λ k. d k ++ sent_to k x.sent) r j → OwedIn x → OwedIn (call i x)
  call_owed i x c f g h =
      by_eq r i
      (λ e. rw (← eqb_yes r i e) (own_owed x (rw (eqb_yes r i e) c) (rw (eqb_yes r i e) f) g h))
      (λ e. others_owed i x e h)

  -- ACCEPT

  notice_owed : (i T : ℕ) (x : Serving) → x.server.queue i ≡ no_waiter → OwedIn x → OwedIn (notice i T x)
  notice_owed i T x e h =
      rw (noticed_latest i T x r, noticed_queue i T x, noticed_sent i T x)
      (by_eq r i
      (λ f. let z : x.server.queue r ≡ no_waiter = rw (eqb_yes r i f) e in rw f (free T (x.server.queue r) (rw z refl) (rw z refl) h))
      (λ f. rw f h))

  join_owed : (i : ℕ) (v : Waiter) (x : Serving) → v.busy j ≡ false → v.pend j ≡ false → OwedIn x → OwedIn (join i v x)
  unfolding join
  join_owed i v x b p h = by_eq r i (λ f. rw f (free (x.server.latest r) v b p h)) (λ f. rw f h)

-- m, the head of up line i
module _ (i : ℕ) (l : List Up) (w : World) (b : i < 8) (h : Of OwedOf w) (none : (k : ℕ) → waits w.server k ≡ false → w.server.queue k ≡ no_waiter) (good : (T : ℕ) → keeps (w.server.kind i) ≡ true → Renews (w.server.kind i) (w.server.latest i) T (w.server.fin i) → bad_number w.server i T ≡ false) where
  abbrev In : ℕ → ℕ → Serving → Type 0
  In r j x = OwedIn w.station (upd w.up i l) w.down r j x

  abbrev Accepted : Up → Serving → Type 0
  Accepted m x = w.up i ≡ m ∷ l → (r j : ℕ) → r < 8 → j < 8 → In r j x

  -- of requester r at station i, before and after m is taken
  abbrev At : ℕ → Waiter → List Up → Type 0
  At r q U = Owed r i (w.server.latest r) q (w.station i).kind (w.station i).opened ((w.station i).kept r) U (w.down i)

  abbrev Lost : ℕ → Up → Type 0
  Lost r m = At r (w.server.queue r) (m ∷ l) → At r (w.server.queue r) l

  start_far : (r j : ℕ) → r < 8 → j < 8 → eqb j i ≡ false → In r j (start w.server)
  start_far r j a c e = rw (e, append_nil (w.down j)) (h r j a c)

  lost : (m : Up) → w.up i ≡ m ∷ l → (r j : ℕ) → r < 8 → j < 8 → Lost r m → In r j (start w.server)
  lost m q r j a c n =
      by_eq j i
      (λ e. rw (eqb_yes j i e, eqb_same i, append_nil (w.down i)) (n (rw q at (h r i a b))))
      (λ e. start_far r j a c e)

  -- neither 6 nor 7
  lost_head : (m : Up) → ((r t : ℕ) → busy_of r t m ≡ false) → ((r t : ℕ) → done_of r t m ≡ false) → Accepted m (start w.server)
  lost_head m e f q r j a c = lost m q r j a c (pop_up m (e r (w.server.latest r)) (f r (w.server.latest r)))

  noticed : (m : Up) (T : ℕ) → ((r t : ℕ) → busy_of r t m ≡ false) → ((r t : ℕ) → done_of r t m ≡ false) → bad_number w.server i T ≡ false → Accepted m (notice i T (start w.server))
  noticed m T e f n q r j a c =
      notice_owed w.station (upd w.up i l) w.down r j i T (start w.server) (none i (good_number w.server i T n).idle) (lost_head m e f q r j a c)

  -- a 6 or 7 of (k, T)
  abbrev Names : ℕ → ℕ → Up → Type 0
  Names k T m = (r t : ℕ) → (eqb k r && eqb T t) ≡ false → (busy_of r t m ≡ false) × (done_of r t m ≡ false)

  -- of another requester it is none of r's
  other : (k T : ℕ) (m : Up) → Names k T m → (r : ℕ) → eqb r k ≡ false → Lost r m
  other k T m n r e =
      let z : eqb k r ≡ false = by_eq k r (λ f. absurd (eqb_no r k e (sym (eqb_yes k r f)))) (λ f. f) in
      let y = n r (w.server.latest r) (rw z refl) in
      pop_up m y.0 y.1

  -- where it answers no open call it is no token
  closed_call : (k T : ℕ) → open_call w.server i k T ≡ false → (w.server.queue k).pend i ≡ true → (eqb k k && eqb T (w.server.latest k)) ≡ false
  closed_call k T e p =
      by_b (waits w.server k)
      (λ f. by_b (eqb T (w.server.latest k)) (λ g. absurd (false≢true (sym (rw (f, g, p) at e)))) (λ g. rw (g, eqb_same k) refl))
      (λ f. absurd (false≢true (rw (none k f) at p)))

  late : (k T : ℕ) (m : Up) → Names k T m → open_call w.server i k T ≡ false → Accepted m (start w.server)
  late k T m n e q r j a c =
      lost m q r j a c
      (by_eq r k
      (λ f. rw (eqb_yes r k f)
      (by_b ((w.server.queue k).pend i)
      (λ p. let y = n k (w.server.latest k) (closed_call k T e p) in pop_up m y.0 y.1)
      (λ p. pop_free m p)))
      (λ f. other k T m n r f))

  -- an open call: i's answer marks or clears its place, and leaves the others'
  marked : (k T : ℕ) (m : Up) (v : Waiter) → Names k T m → v.called ≡ (w.server.queue k).called → ((j : ℕ) → eqb j i ≡ false → (v.busy j ≡ (w.server.queue k).busy j) × (v.pend j ≡ (w.server.queue k).pend j))
      → (At k (w.server.queue k) (m ∷ l) → At k v l) → w.up i ≡ m ∷ l → (r j : ℕ) → r < 8 → j < 8 → With w.station (upd w.up i l) w.down r j (w.server.latest r) (upd w.server.queue k v r) []
  marked k T m v n e f g q r j a c =
      by_eq r k
      (λ y. rw (y, eqb_yes r k y)
      (by_eq j i
      (λ z. rw (eqb_yes j i z, eqb_same i, append_nil (w.down i)) (g (rw q at (h k i (rw (eqb_yes r k y) at a) b))))
      (λ z. alike v e (f j z).0 (f j z).1 (start_far k j (rw (eqb_yes r k y) at a) c z))))
      (λ y. rw y (lost m q r j a c (other k T m n r y)))

  open_owes : (k T : ℕ) → open_call w.server i k T ≡ true → (w.server.queue k).pend i ≡ true
  open_owes k T e = and_r (waits w.server k && eqb T (w.server.latest k)) _ e

  busy_owed : (k T : ℕ) → open_call w.server i k T ≡ true → Accepted (Busy k T) (mark_busy i k (start w.server))
  unfolding mark_busy
  busy_owed k T e =
      let v : Waiter = w.server.queue k in
      marked k T (Busy k T) (waiter_busy v (upd v.busy i true)) (λ r t z. (z, refl)) refl (λ j z. (rw z refl, refl)) (busy_taken T (upd v.busy i true) (open_owes k T e) (rw (eqb_same i) refl))

  done_owed : (k T : ℕ) (p : ℕ → Bool) → Accepted (Done k T p) (answered i k (unlist i p (start w.server)))
  unfolding answered unlist
  done_owed k T p =
      let v : Waiter = w.server.queue k in
      let x : Waiter = waiter_pend (waiter_busy v (upd v.busy i false)) (upd v.pend i false) in
      marked k T (Done k T p) x (λ r t z. (refl, z)) refl (λ j z. (rw z refl, rw z refl)) (λ g. pop_free (Done k T p) (rw (eqb_same i) refl) (free (w.server.latest k) x (rw (eqb_same i) refl) (rw (eqb_same i) refl) g))

  joined : (m : Up) (T : ℕ) (v : Waiter) → ((r t : ℕ) → busy_of r t m ≡ false) → ((r t : ℕ) → done_of r t m ≡ false) → bad_number w.server i T ≡ false → ((j : ℕ) → v.busy j ≡ false) → ((j : ℕ) → v.pend j ≡ false) → Accepted m (join i v (notice i T (start w.server)))
  joined m T v e f n y z q r j a c = join_owed w.station (upd w.up i l) w.down r j i v (notice i T (start w.server)) (y j) (z j) (noticed m T e f n q r j a c)

  accepts_owed : Accepts i (start w.server) Accepted
  unfolding join_read join_write join_commit serve_now send_page finish unlist loosen
  accepts_owed =
      let x : Serving = start w.server in
      let t = w.station in
      let u = upd w.up i l in
      let d = w.down in
      record {
        read_waits = λ a T n e. joined (ReadRequest a T) T _ (λ r t. refl) (λ r t. refl) n (λ j. refl) (λ j. refl);
        read_now = λ a T n e q r j b c.
            let y : Serving = notice i T x in
            further t u d r j (y.server.latest r) (y.server.queue r) y.sent i (Page NoLock _ _ _ _ _) (λ k. refl) (noticed (ReadRequest a T) T (λ r t. refl) (λ r t. refl) n q r j b c);
        write_waits = λ p T set n e. joined (WriteRequest p T set) T _ (λ r t. refl) (λ r t. refl) n (λ j. refl) (λ j. refl);
        commit_now_lem = λ k n f e q r j b c. commit_owed t u d r j i k (notice i k.transaction x) (noticed (Commit k) k.transaction (λ r t. refl) (λ r t. refl) n q r j b c);
        commit_waits = λ k n e. joined (Commit k) k.transaction _ (λ r t. refl) (λ r t. refl) n (λ j. refl) (λ j. refl);
        aborts = λ T n e. noticed (Abort T) T (λ r t. refl) (λ r t. refl) n;
        purges = λ p e. lost_head (Purge p) (λ r t. refl) (λ r t. refl);
        busy = λ k T e. busy_owed k T e;
        busy_late = λ k T e. late k T (Busy k T) (λ r t z. (z, refl)) e;
        dones = λ k T p e. done_owed k T p;
        done_late = λ k T p e. late k T (Done k T p) (λ r t z. (refl, z)) e;
        loosens = λ p T set e c. lost_head (WrittenSet p T set) (λ r t. refl) (λ r t. refl);
        loosens_new = λ p T set e k v. noticed (WrittenSet p T set) T (λ r t. refl) (λ r t. refl) (good T k v);
        loosens_late = λ p T set e. lost_head (WrittenSet p T set) (λ r t. refl) (λ r t. refl);
      }

-- THE LAYER
pub owed_layer : Over Moving (Of OwedOf)
unfolding carry_up carry_down install_waiter
owed_layer =
    record {
      begins = λ kinds r j b c.
          record { P2a = λ e. absurd (false≢true e); P2b = λ e. refl; P2c = λ e. absurd (false≢true e); P3 = λ e. absurd (false≢true e); P4 = λ e. absurd (false≢true e); P7 = tt };
      owner = λ i op w b h.
          tell_keeps OwedOf i op _ _
          (λ r j a c.
          by_eq j i
          (λ e. rw (e, eqb_yes j i e) (owner_owed r i (w.server.latest r) (w.server.queue r) (w.up i) (w.down i) a op (w.station i) (h.owed r i a b)))
          (λ e. rw e (h.owed r j a c)));
      station = λ i m l w b q n h.
          tell_keeps OwedOf i (w.asked i) _ _
          (λ r j a c.
          by_eq j i
          (λ e.
          let g = rw q at (h.inv.calls.callbacks r i a b).G1a_down in
          rw (e, eqb_yes j i e)
          (station_owed r i (w.server.latest r) (w.server.queue r) (w.up i) l a m (w.station i) (λ o. ((h.inv.tokens i).S6 o).0) n g.0 (rw q at (h.owed r i a b))))
          (λ e. rw e (h.owed r j a c)));
      accepted = λ i m l w b q n h.
          let none : (k : ℕ) → waits w.server k ≡ false → w.server.queue k ≡ no_waiter = λ k e. no_entry (w.server.queue k).want (w.server.queue k) e (h.inv.tokens k).S7 in
          accepts i (start w.server) (Accepted i l w b h.owed none (heard_good w h.inv i b)) (accepts_owed i l w b h.owed none (heard_good w h.inv i b)) m n q;
      acts = λ w.
          let t = w.station in
          let u = w.up in
          let d = w.down in
          record {
            aborts = λ i c x b e h r j f g. abort_owed t u d r j i c x (h.owed r j f g);
            asks = λ i k p x b e n h r j f g. ask_owed t u d r j k p x (h.owed r j f g);
            reads = λ i x b e c h r j f g. read_owed t u d r j i x (h.owed r j f g);
            calls = λ i x b e a n c h r j f g. call_owed t u d r j i x a ((h.inv.tokens i).S4 e) (h.inv.calls.callbacks r j f g) (h.owed r j f g);
            objects = λ i x b e c h r j f g. object_owed t u d r j i x (h.owed r j f g);
            pages = λ i x b e c a h r j f g. whole_owed t u d r j i x (h.owed r j f g);
            installs = λ i x b e a c h r j f g. install_owed t u d r j i (x.server.queue i).work x (h.owed r j f g);
          };
    }
