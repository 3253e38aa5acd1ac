-- The layer of values: A2 for both kinds of stations; A, B, B2 and E for locking ones.
use Rattle.std.specs.Prelude.{◌≡◌, not, ◌&&◌, List, [], ◌∷◌, ◌++◌, ℕ, suc, ◌<◌, eqb}
use Rattle.std.proofs.Math.Path.{refl}
use Rattle.std.proofs.Common.{sym, ap, ◌∙◌}
use Rattle.std.proofs.Math.Bool.{true, false}
use Rattle.std.proofs.lemmas.Bool.{false≢true}
use Rattle.sets.specs.Base.{upd, any, has}
use Rattle.sets.specs.Laws.{by_b, by_eq}
use Rattle.sets.proofs.Laws.{eqb_same, eqb_yes, any_no, and_l, not_yes}
use Rattle.line.specs.Messages.{page_of, last_number, locking, Work, Up, Commit, NoLock, ObjectLock, WholeLock, Down, Deescalate, Callback, Answer, Nothing, Begun, Value, Waits, Written, CommittedAs, AbortedFor, Purged, Refused, Empty}
use Rattle.line.specs.Station.{Did, station_step}
use Rattle.line.specs.Server.{Server, Serving, WantCommit, is_want, unlocked, notice, finish, join, leave, send_page, serve_now, join_read, join_write, join_commit, commit_now, unlist, mark_busy, answered, loosen, accept, start, unexpected, ask, serve_read, concerned, call, grant_page, grant_object, install_waiter, WantRead, wants}
use Rattle.line.specs.Pass.{Ready}
use Rattle.line.specs.Line.{World, world_down, Op, perform, tell, carry_up, carry_down, is_refused, fresh, sent_to}
use Rattle.line.specs.Truth.{count}
use Rattle.truth.specs.Clauses.{token_down, TokensAt, A2At, A2, ValuesAt, Shape}
use Rattle.truth.specs.Frame.{Accepts}
use Rattle.truth.proofs.Frame.{append_nil, call_own, call_far, noticed_val, noticed_sent, accepts, if_serving}
use Rattle.truth.specs.Inv.{ValuesOf, Inv, after_owner, after_station, taken, Acts, Layer}
use Rattle.truth.specs.ValuesEvents.{Gone}
use Rattle.truth.proofs.ValuesEvents.{A2_none, values_sent}
use Rattle.truth.specs.ValuesStation.{Own, Known}
use Rattle.truth.proofs.ValuesStation.{owner_own, delivery_own}
use Rattle.truth.specs.ValuesServer.{Served}
use Rattle.truth.proofs.ValuesServer.{served_sent, served_page, served_install, served_abort, available, gone_object, gone_page, gone_called, only_token}
use Rattle.truth.specs.Values.{locked_or}

-- THE START
values_begin : (kinds : ℕ → ℕ) → ValuesOf (fresh kinds)
values_begin kinds =
    record {
      A2 = λ i a b c. A2_none;
      values = λ i a b c k.
          record { A = λ s e. refl; A_installed = λ s n. refl; B = tt; B2 = tt; E = λ z v e. absurd (false≢true (ap has e)) };
    }

-- what an owner is told is not in these clauses
told_values : (i : ℕ) (op : Op) (a : Answer) (w : World) → ValuesOf w → ValuesOf (tell i op a w)
unfolding tell
told_values i op Nothing w h = h
told_values i op (Begun t) w h = record { A2 = h.A2; values = h.values }
told_values i op (Value v) w h = record { A2 = h.A2; values = h.values }
told_values i op Waits w h = record { A2 = h.A2; values = h.values }
told_values i op Written w h = record { A2 = h.A2; values = h.values }
told_values i op (CommittedAs n) w h = record { A2 = h.A2; values = h.values }
told_values i op (AbortedFor c) w h = record { A2 = h.A2; values = h.values }
told_values i op Purged w h = h
told_values i op (Refused n) w h = h
told_values i op Empty w h = h

-- station i has acted, the others stand
carried_values : (i : ℕ) (d : Did) (v : World) → Own v.server.val d.station (v.down i)
    → ((j a : ℕ) → j < 8 → a < 256 → eqb j i ≡ false → A2At v.station j a)
    → ((j a : ℕ) → j < 8 → a < 256 → eqb j i ≡ false → ValuesAt v.server v.station v.down j a) → ValuesOf (carry_up i d v)
unfolding carry_up
carried_values i d v o f g =
    record {
      A2 = λ j a b c. by_eq j i (λ e. rw e (o.written a c)) (λ e. rw e (f j a b c e));
      values = λ j a b c. by_eq j i (λ e. rw (e, eqb_yes j i e) (o.values a c)) (λ e. rw e (g j a b c e));
    }

module _ (i : ℕ) (w : World) (b : i < 8) (h : Inv w) where
  own_values : Own w.server.val (w.station i) (w.down i)
  own_values = record { written = λ a c. h.values.A2 i a b c; values = λ a c. h.values.values i a b c }

  known_values : Known (w.station i) (w.down i)
  known_values =
      record {
        fit = (h.tokens i).S1b_down;
        unwritten = λ a e. ((h.tokens i).S5 a (rw e (eqb_same a))).1;
      }

  owner_values : (op : Op) → ValuesOf (after_owner i op w)
  owner_values op =
      told_values i op _ _
      (carried_values i (perform op (w.station i)) w (owner_own w.server.val (w.station i) (w.down i) known_values own_values op)
      (λ j a c d e. h.values.A2 j a c d) (λ j a c d e. h.values.values j a c d))

  station_values : (m : Down) (l : List Down) → w.down i ≡ m ∷ l → is_refused (station_step m (w.station i)).answer ≡ false → ValuesOf (after_station i m l w)
  station_values m l q r =
      let o : Own w.server.val (station_step m (w.station i)).station l = delivery_own w.server.val (w.station i) l m (rw q at known_values) (rw q at own_values) r in
      told_values i (w.asked i) _ _
      (carried_values i (station_step m (w.station i)) (world_down w (upd w.down i l)) (rw (eqb_same i) o)
      (λ j a c d e. h.values.A2 j a c d) (λ j a c d e. rw e (h.values.values j a c d)))

module _ (i : ℕ) (l : List Up) (w : World) (b : i < 8) (h : Inv w) where
  served_start : Served w.server.val w.station w.down []
  served_start j a c d k = rw (append_nil (w.down j)) (h.values.values j a c d k)

  abbrev Accepted : Up → Serving → Type 0
  Accepted m y = w.up i ≡ m ∷ l → Served y.server.val w.station w.down y.sent

  noticed_served : (t : ℕ) → (let y = notice i t (start w.server) in Served y.server.val w.station w.down y.sent)
  noticed_served t = rw (noticed_val i t (start w.server), noticed_sent i t (start w.server)) served_start

  noticed_line : (t j : ℕ) → w.down j ++ sent_to j (notice i t (start w.server)).sent ≡ w.down j
  noticed_line t j = rw (noticed_sent i t (start w.server)) (append_nil (w.down j))

  -- a locking commit: nobody else has anything of what it writes
  locked_gone : (k : Work) → locking (w.server.kind i) ≡ true → unlocked w.server i k ≡ false
      → (j a : ℕ) → j < 8 → a < 256 → eqb j i ≡ false → locking (w.station j).kind ≡ true → has (k.writes a) ≡ true
      → Gone a ((w.station j).cached (page_of a)) ((w.station j).unav a) ((w.station j).rd a) (w.down j)
  locked_gone k o u j a c d e q p =
      let s : Server = w.server in
      let at : (has (k.writes a) && not (eqb (s.ol a) (suc i)) && not (eqb (s.wl (page_of a)) (suc i))) ≡ false =
      any_no 256 (λ r. has (k.writes r) && not (eqb (s.ol r) (suc i)) && not (eqb (s.wl (page_of r)) (suc i))) (rw o at u) a d in
      locked_or (has (k.writes a)) (eqb (s.ol a) (suc i)) (eqb (s.wl (page_of a)) (suc i)) p at
      (λ f. gone_object i j a e f (h.exclusion.locked j a c d q))
      (λ f. gone_page i j a e f (h.exclusion.locked j a c d q) (h.coverage j q))

  -- .. and its own line has no token
  locked_own : (k : Work) → w.up i ≡ Commit k ∷ l → locking (w.station i).kind ≡ true
      → (count (token_down (λ r. false)) (w.down i) ≡ 0) × (k.writes ≡ (w.station i).wr) × ((a : ℕ) → a < 256 → A2 ((w.station i).cached (page_of a)) ((w.station i).copy a) ((w.station i).wr a))
  locked_own k q o =
      let t : TokensAt w.server w.station w.up w.down i = h.tokens i in (
        only_token (w.station i).kind (w.station i).num (w.station i).opened (w.server.queue i).want k l (w.down i) o (rw q at t.S1a),
        (rw q at t.S3_up).0.1,
        λ a c. h.values.A2 i a b c,
      )

  commit_served : (k : Work) → locking (w.server.kind i) ≡ true → unlocked w.server i k ≡ false → Accepted (Commit k) (commit_now i k (notice i k.transaction (start w.server)))
  unfolding commit_now
  commit_served k o u q =
      let x : Serving = notice i k.transaction (start w.server) in
      if_serving (λ y. Served y.server.val w.station w.down y.sent) (eqb x.server.last last_number)
      (λ e. served_abort w.station w.down i 4 x (noticed_served k.transaction))
      (λ e.
      served_install w.station w.down i k x
      (λ j a c d f g p. rw (noticed_line k.transaction j) (locked_gone k o u j a c d f g p))
      (λ c g. rw (noticed_line k.transaction i) (locked_own k q g))
      (noticed_served k.transaction))

  accepts_values : Accepts i (start w.server) Accepted
  unfolding join_read join_write join_commit join serve_now send_page finish unlist mark_busy answered loosen
  accepts_values =
      record {
        read_waits = λ a t n k q. noticed_served t;
        read_now = λ a t n k q. let x : Serving = notice i t (start w.server) in served_page w.station w.down x.server.val x.sent i NoLock a _ _ _ refl (noticed_served t);
        write_waits = λ p t set n k q. noticed_served t;
        commit_now_lem = λ k n u o q. commit_served k o u q;
        commit_waits = λ k n o q. noticed_served k.transaction;
        aborts = λ t n k q. noticed_served t;
        purges = λ p o q. served_start;
        busy = λ r t o q. served_start;
        busy_late = λ r t o q. served_start;
        dones = λ r t d o q. served_start;
        done_late = λ r t d o q. served_start;
        loosens = λ p t set o c q. served_start;
        loosens_new = λ p t set o k r q. noticed_served t;
        loosens_late = λ p t set o q. served_start;
      }

  accepted_values : (m : Up) → w.up i ≡ m ∷ l → unexpected i m w.server ≡ false → ValuesOf (carry_down (accept i m (start w.server)) (taken i l w))
  unfolding carry_down
  accepted_values m q u = record { A2 = h.values.A2; values = accepts i (start w.server) Accepted accepts_values m u q }

-- THE PASS
module _ (w : World) where
  abbrev Sending : Serving → Type 0
  Sending y = Served y.server.val w.station w.down y.sent

  served_of : (x : Serving) → Inv (carry_down x w) → Sending x
  unfolding carry_down
  served_of x h = h.values.values

  A2_of : (x : Serving) → Inv (carry_down x w) → (i a : ℕ) → i < 8 → a < 256 → A2At w.station i a
  unfolding carry_down
  A2_of x h = h.values.A2

  -- the world after an action
  values_of : (x y : Serving) → Inv (carry_down x w) → Sending y → ValuesOf (carry_down y w)
  unfolding carry_down
  values_of x y h g = record { A2 = A2_of x h; values = g }

  called_served : (i : ℕ) (x : Serving) → Sending x → Sending (call i x)
  unfolding call
  called_served i x g j a b c k =
      let s : Server = x.server in
      by_b (concerned s i j)
      (λ e. rw (call_own s i j (w.down j) x.sent e) (values_sent (Callback i (s.latest i) (s.queue i).writes) refl tt tt (g j a b c k)))
      (λ e. rw (call_far s i j (w.down j) x.sent e) (g j a b c k))

  -- a validating commit: each other locking station has answered
  answered_gone : (i : ℕ) (x : Serving) → i < 8 → (x.server.queue i).want ≡ WantCommit → Ready i x → Inv (carry_down x w)
      → (j a : ℕ) → j < 8 → a < 256 → eqb j i ≡ false → locking (w.station j).kind ≡ true → has ((x.server.queue i).work.writes a) ≡ true
      → Gone a ((w.station j).cached (page_of a)) ((w.station j).unav a) ((w.station j).rd a) (w.down j ++ sent_to j x.sent)
  unfolding carry_down
  answered_gone i x b v r h j a c d e k p =
      let s : Server = x.server in
      let writes : (s.queue i).writes a ≡ true = (rw v at (h.tokens i).S7).1 a ∙ p in
      let pend : (s.queue i).pend j ≡ false = any_no 8 (s.queue i).pend (not_yes (any 8 (s.queue i).pend) r.answered) j c in
      gone_called pend (h.exclusion.called i j a b c d k e (ap is_want v) r.called writes)

  -- .. and the committer is not locking
  validates : (i : ℕ) (x : Serving) → i < 8 → (x.server.queue i).want ≡ WantCommit → Inv (carry_down x w) → locking (w.station i).kind ≡ false
  unfolding carry_down
  validates i x b v h = not_yes (locking (w.station i).kind) (and_l (not (locking (w.station i).kind)) _ ((rw v at (h.tokens i).S1b_waiter).waits refl))

  -- what a read wants is the address requested
  read_wanted : (i : ℕ) (x : Serving) → (x.server.queue i).want ≡ WantRead → Inv (carry_down x w) → wants x.server i (x.server.queue i).req ≡ true
  unfolding carry_down
  read_wanted i x v h = let z : Shape WantRead (x.server.queue i) = rw v at (h.tokens i).S7 in rw (z.0 (x.server.queue i).req, eqb_same (x.server.queue i).req) refl

  acts_values : Acts (λ x. Inv (carry_down x w)) (λ x. ValuesOf (carry_down x w))
  unfolding ask serve_read send_page leave grant_object grant_page install_waiter
  acts_values =
      record {
        aborts = λ i c x b t h. values_of x _ h (served_abort w.station w.down i c x (served_of x h));
        asks = λ i g p x b t u h. values_of x _ h (served_sent w.station w.down x.server.val x.sent g (Deescalate p (x.server.whole_for p)) refl (λ a. tt) tt (served_of x h));
        reads = λ i x b v c h. values_of x _ h (served_page w.station w.down x.server.val x.sent i NoLock (x.server.queue i).req _ _ _ (available x.server i (x.server.queue i).req (read_wanted i x v h)) (served_of x h));
        calls = λ i x b t u v c h. values_of x _ h (called_served i x (served_of x h));
        objects = λ i x b v r h. values_of x _ h (served_page w.station w.down x.server.val x.sent i ObjectLock (x.server.queue i).req _ _ _ tt (served_of x h));
        pages = λ i x b v r e h. values_of x _ h (served_page w.station w.down x.server.val x.sent i WholeLock (x.server.queue i).req _ _ _ tt (served_of x h));
        installs = λ i x b v f r h.
            values_of x _ h
            (served_install w.station w.down i (x.server.queue i).work x (answered_gone i x b v r h)
            (λ c k. absurd (false≢true (sym (validates i x b v h) ∙ k)))
            (served_of x h));
      }

pub values_layer : Layer ValuesOf
values_layer =
    record {
      begins = values_begin;
      owner = λ i op w b h. owner_values i w b h op;
      station = λ i m l w b q r h. station_values i w b h m l q r;
      accepted = λ i m l w b q u h. accepted_values i l w b h m q u;
      acts = acts_values;
    }
