-- The layer of callbacks: every move from a world with the whole invariant leads to a world with G1a, G1b, G1c, G5 and G4.
-- Beyond the invariant one fact is used, where a waiter joins: arrivals given are below the counter (line's Apart).
use Rattle.std.specs.Prelude.{◌≡◌, Bool, true, ◌&&◌, List, [], ◌∷◌, ◌++◌, ℕ, ◌<◌}
use Rattle.std.proofs.Math.Path.{refl}
use Rattle.std.proofs.Common.{sym, arith}
use Rattle.std.proofs.Math.Bool.{false}
use Rattle.std.proofs.lemmas.Bool.{false≢true}
use Rattle.std.proofs.Math.Dec.{eqb}
use Rattle.sets.specs.Base.{upd}
use Rattle.sets.specs.Laws.{by_eq}
use Rattle.sets.proofs.Laws.{eqb_same, eqb_yes, and_l, and_r}
use Rattle.line.specs.Messages.{Work, Up, ReadRequest, WriteRequest, Commit, Abort, Purge, Busy, Done, WrittenSet, Lock, NoLock, Down, Answer, Nothing, Begun, Value, Waits, Written, CommittedAs, AbortedFor, Purged, Refused, Empty}
use Rattle.line.specs.Station.{Station, Did, station_step}
use Rattle.line.specs.Server.{End, ByMessage, Server, Serving, WantRead, Waiter, waits, bad_number, unexpected, notice, finish, join, send_page, abort, ask, serve_read, serve_now, join_read, join_write, join_commit, read_waiter, write_waiter, commit_waiter, commit_now, unlist, open_call, mark_busy, answered, loosen, accept, call, grant_object, grant_page, install, install_waiter, start}
use Rattle.line.specs.Pass.{Clear, Ready}
use Rattle.line.specs.Apart.{good_number}
use Rattle.line.specs.Line.{World, world_down, Op, perform, tell, carry_up, carry_down, sent_to, is_refused, fresh}
use Rattle.truth.specs.Clauses.{call_tokens, Shape}
use Rattle.truth.specs.Inv.{CallsOf, Inv, after_owner, after_station, taken, Acts, Layer}
use Rattle.truth.proofs.Inv.{heard_good}
use Rattle.truth.specs.Frame.{Accepts}
use Rattle.truth.proofs.Frame.{append_nil, accepts, noticed_queue}
use Rattle.truth.proofs.Callbacks.{pop_up, answered_none}
use Rattle.truth.proofs.CallbacksServer.{finish_calls, join_calls, notice_calls, abort_calls, install_calls, commit_calls, page_calls, ask_calls, read_calls, object_calls, whole_calls, call_calls, busy_calls, answered_calls}
use Rattle.truth.proofs.CallbacksStation.{owner_calls, station_calls}
use Rattle.truth.specs.CallbacksWaiters.{Arrived}
use Rattle.truth.proofs.CallbacksWaiters.{leave_G4, notice_G4, notice_arrived, join_G4, abort_G4, install_G4, commit_G4, busy_G4, answered_G4, call_G4}
use Rattle.truth.specs.CallbacksLayer.{Leaves, Under}

pub calls_fresh : (kinds : ℕ → ℕ) → CallsOf (fresh kinds)
calls_fresh kinds =
    record {
      callbacks = λ r j b c.
          record {
            G1a_down = tt;
            G1a_kept = tt;
            G1a_up = tt;
            G1b = λ f n. absurd (false≢true (sym f));
            G1c = λ f. omega arith;
            G5_down = λ x y. tt;
            G5_kept = λ x y. tt;
          };
      G4 = λ i j b c x y z l n m w. absurd (false≢true x);
    }

-- to tell an owner changes nothing here
tell_calls : (i : ℕ) (op : Op) (n : Answer) (w : World) → CallsOf w → CallsOf (tell i op n w)
unfolding tell
tell_calls i op Nothing w h = record { callbacks = h.callbacks; G4 = h.G4 }
tell_calls i op (Begun t) w h = record { callbacks = h.callbacks; G4 = h.G4 }
tell_calls i op (Value v) w h = record { callbacks = h.callbacks; G4 = h.G4 }
tell_calls i op Waits w h = record { callbacks = h.callbacks; G4 = h.G4 }
tell_calls i op Written w h = record { callbacks = h.callbacks; G4 = h.G4 }
tell_calls i op (CommittedAs n) w h = record { callbacks = h.callbacks; G4 = h.G4 }
tell_calls i op (AbortedFor c) w h = record { callbacks = h.callbacks; G4 = h.G4 }
tell_calls i op Purged w h = record { callbacks = h.callbacks; G4 = h.G4 }
tell_calls i op (Refused n) w h = record { callbacks = h.callbacks; G4 = h.G4 }
tell_calls i op Empty w h = record { callbacks = h.callbacks; G4 = h.G4 }

carried : (i : ℕ) (d : Did) (w : World) → CallsOf w → Leaves w i (w.down i) d → CallsOf (carry_up i d w)
unfolding carry_up
carried i d w h g =
    record {
      callbacks = λ r j b c. by_eq j i (λ e. rw (e, eqb_yes j i e) (g r b)) (λ e. rw e (h.callbacks r j b c));
      G4 = h.G4;
    }

delivered : (i : ℕ) (d : Did) (l : List Down) (w : World) → CallsOf w → Leaves w i l d → CallsOf (carry_up i d (world_down w (upd w.down i l)))
unfolding carry_up
delivered i d l w h g =
    record {
      callbacks = λ r j b c. by_eq j i (λ e. rw (e, eqb_yes j i e) (g r b)) (λ e. rw e (h.callbacks r j b c));
      G4 = h.G4;
    }

pub calls_owner : (i : ℕ) (op : Op) (w : World) → i < 8 → Inv w → CallsOf (after_owner i op w)
calls_owner i op w b h =
    let d : Did = perform op (w.station i) in
    tell_calls i op d.answer (carry_up i d w)
    (carried i d w h.calls
    (λ r c. owner_calls r (w.server.latest r) (w.server.fin r) (w.server.queue r) ((w.server.queue r).pend i) (w.up i) (w.down i) (w.station i) (h.calls.callbacks r i c b) op))

pub calls_station : (i : ℕ) (m : Down) (l : List Down) (w : World) → i < 8 → w.down i ≡ m ∷ l → is_refused (station_step m (w.station i)).answer ≡ false → Inv w → CallsOf (after_station i m l w)
calls_station i m l w b e n h =
    let d : Did = station_step m (w.station i) in
    tell_calls i (w.asked i) d.answer (carry_up i d (world_down w (upd w.down i l)))
    (delivered i d l w h.calls
    (λ r c. station_calls r (w.server.latest r) (w.server.fin r) (w.server.queue r) ((w.server.queue r).pend i) (w.up i) l (w.station i) m (rw e at (h.calls.callbacks r i c b))))

carry_calls : (w : World) (x : Serving) → Under w.station w.up w.down x → CallsOf (carry_down x w)
unfolding carry_down
carry_calls w x h = record { callbacks = h.callbacks; G4 = h.waiters }

under_calls : (w : World) (x : Serving) → CallsOf (carry_down x w) → Under w.station w.up w.down x
unfolding carry_down
under_calls w x h = record { callbacks = h.callbacks; waiters = h.G4 }

-- of the tokens: a waiter is unfinished, a read is not called
waits_open : (w : World) (x : Serving) (i : ℕ) → i < 8 → Inv (carry_down x w) → waits x.server i ≡ true → x.server.fin i ≡ false
unfolding carry_down
waits_open w x i b h e = (h.tokens i).S4 e

read_uncalled : (w : World) (x : Serving) (i : ℕ) → i < 8 → Inv (carry_down x w) → (x.server.queue i).want ≡ WantRead → (x.server.queue i).called ≡ false
unfolding carry_down
read_uncalled w x i b h e =
    let z : Shape WantRead (x.server.queue i) = rw e at (h.tokens i).S7 in
    z.2

module _ (t : ℕ → Station) (u : ℕ → List Up) (d : ℕ → List Down) where
  -- THE PASS

  under_abort : (i c : ℕ) (x : Serving) → Under t u d x → Under t u d (abort i c x)
  under_abort i c x h = record { callbacks = λ r j a b. abort_calls t u d r j i c x (h.callbacks r j a b); waiters = abort_G4 i c x h.waiters }

  under_ask : (k p : ℕ) (x : Serving) → Under t u d x → Under t u d (ask k p x)
  unfolding ask
  under_ask k p x h = record { callbacks = λ r j a b. ask_calls t u d r j k p x (h.callbacks r j a b); waiters = h.waiters }

  under_read : (i : ℕ) (x : Serving) → (x.server.queue i).called ≡ false → Under t u d x → Under t u d (serve_read i x)
  unfolding serve_read send_page
  under_read i x c h = record { callbacks = λ r j a b. read_calls t u d r j i x c (h.callbacks r j a b); waiters = leave_G4 i x h.waiters }

  under_call : (i : ℕ) (x : Serving) → waits x.server i ≡ true → (x.server.queue i).called ≡ false → x.server.fin i ≡ false → Clear i x → Under t u d x → Under t u d (call i x)
  under_call i x e c f k h = record { callbacks = λ r j a b. call_calls t u d r j i x e c f (h.callbacks r j a b); waiters = call_G4 i x k h.waiters }

  under_object : (i : ℕ) (x : Serving) → Ready i x → Under t u d x → Under t u d (grant_object i x)
  unfolding grant_object send_page
  under_object i x k h = record { callbacks = λ r j a b. object_calls t u d r j i x b k.answered (h.callbacks r j a b); waiters = leave_G4 i x h.waiters }

  under_whole : (i : ℕ) (x : Serving) → Ready i x → Under t u d x → Under t u d (grant_page i x)
  unfolding grant_page send_page
  under_whole i x k h = record { callbacks = λ r j a b. whole_calls t u d r j i x b k.answered (h.callbacks r j a b); waiters = leave_G4 i x h.waiters }

  under_install : (i : ℕ) (w : Work) (x : Serving) → Under t u d x → Under t u d (install i w x)
  under_install i w x h = record { callbacks = λ r j a b. install_calls t u d r j i w x (h.callbacks r j a b); waiters = install_G4 i w x h.waiters }

  -- ACCEPT

  under_notice : (i T : ℕ) (x : Serving) → bad_number x.server i T ≡ false → Under t u d x → Under t u d (notice i T x)
  under_notice i T x n h = record { callbacks = λ r j a b. notice_calls t u d r j i T x n (h.callbacks r j a b); waiters = notice_G4 i T x h.waiters }

  -- who is noticed does not wait
  noticed_idle : (i T : ℕ) (x : Serving) → bad_number x.server i T ≡ false → waits (notice i T x).server i ≡ false
  noticed_idle i T x n = rw (noticed_queue i T x) (good_number x.server i T n).idle

  under_join : (i : ℕ) (q : Waiter) (x : Serving) → waits x.server i ≡ false → q.called ≡ false → q.arrival ≡ x.server.arrivals → Arrived x.server → Under t u d x → Under t u d (join i q x)
  under_join i q x n c a g h = record { callbacks = λ r j b e. join_calls t u d r j i q x n c (h.callbacks r j b e); waiters = join_G4 i q x c a g h.waiters }

  under_page : (l : Lock) (i a : ℕ) (v : ℕ → Bool) (x : Serving) → Under t u d x → Under t u d (send_page l i a v x)
  unfolding send_page
  under_page l i a v x h = record { callbacks = λ r j b c. page_calls t u d r j l i a v x (h.callbacks r j b c); waiters = h.waiters }

  under_commit : (i : ℕ) (w : Work) (x : Serving) → Under t u d x → Under t u d (commit_now i w x)
  under_commit i w x h = record { callbacks = λ r j a b. commit_calls t u d r j i w x (h.callbacks r j a b); waiters = commit_G4 i w x h.waiters }

  under_finish : (i : ℕ) (e : End) (x : Serving) → waits x.server i ≡ false → Under t u d x → Under t u d (finish i e x)
  unfolding finish
  under_finish i e x n h = record { callbacks = λ r j a b. finish_calls t u d r j i e x n (h.callbacks r j a b); waiters = h.waiters }

  under_unlist : (i : ℕ) (p : ℕ → Bool) (x : Serving) → Under t u d x → Under t u d (unlist i p x)
  unfolding unlist
  under_unlist i p x h = record { callbacks = h.callbacks; waiters = h.waiters }

  under_busy : (i k : ℕ) (x : Serving) → Under t u d x → Under t u d (mark_busy i k x)
  under_busy i k x h = record { callbacks = λ r j a b. busy_calls t u d r j i k x (h.callbacks r j a b); waiters = busy_G4 i k x h.waiters }

  under_answered : (i k : ℕ) (x : Serving) → (k < 8 → x.server.fin k ≡ false → call_tokens k (x.server.latest k) ((t i).kept k) (u i) (d i ++ sent_to i x.sent) ≡ 0) → Under t u d x → Under t u d (answered i k x)
  under_answered i k x z h =
      record {
        callbacks = λ r j a b. answered_calls t u d r j i k x (λ e f. rw (eqb_yes r k e, eqb_yes j i f) (z (rw (eqb_yes r k e) at a))) (h.callbacks r j a b);
        waiters = answered_G4 i k x h.waiters;
      }

  under_loosen : (i p : ℕ) (set : ℕ → Bool) (x : Serving) → Under t u d x → Under t u d (loosen i p set x)
  unfolding loosen
  under_loosen i p set x h = record { callbacks = h.callbacks; waiters = h.waiters }

pub calls_acts : (w : World) → Acts (λ x. Inv (carry_down x w)) (λ x. CallsOf (carry_down x w))
unfolding install_waiter
calls_acts w =
    let t = w.station in
    let u = w.up in
    let d = w.down in
    record {
      aborts = λ i c x b e h. carry_calls w _ (under_abort t u d i c x (under_calls w x h.calls));
      asks = λ i k p x b e f h. carry_calls w _ (under_ask t u d k p x (under_calls w x h.calls));
      reads = λ i x b e c h. carry_calls w _ (under_read t u d i x (read_uncalled w x i b h e) (under_calls w x h.calls));
      calls = λ i x b e f n c h. carry_calls w _ (under_call t u d i x e f (waits_open w x i b h e) c (under_calls w x h.calls));
      objects = λ i x b e c h. carry_calls w _ (under_object t u d i x c (under_calls w x h.calls));
      pages = λ i x b e c f h. carry_calls w _ (under_whole t u d i x c (under_calls w x h.calls));
      installs = λ i x b e f c h. carry_calls w _ (under_install t u d i (x.server.queue i).work x (under_calls w x h.calls));
    }

-- accept of m, the head of up line i
module _ (i : ℕ) (l : List Up) (w : World) (b : i < 8) (h : Inv w) (g : Arrived w.server) where
  abbrev Accepted : Up → Serving → Type 0
  Accepted m x = w.up i ≡ m ∷ l → Under w.station (upd w.up i l) w.down x

  -- the message is taken from its line
  lost_head : (m : Up) → Accepted m (start w.server)
  lost_head m q =
      record {
        callbacks = λ r j a c.
            let z = h.calls.callbacks r j a c in
            rw (append_nil (w.down j))
            (by_eq j i
            (λ e. let y : w.up j ≡ m ∷ l = rw (eqb_yes j i e) q in rw e (pop_up m (rw y at z)))
            (λ e. rw e z));
        waiters = h.calls.G4;
      }

  -- a 7 that answers an open call was its only token
  answer_last : (k T : ℕ) (p : ℕ → Bool) → w.up i ≡ Done k T p ∷ l → open_call w.server i k T ≡ true → k < 8 → w.server.fin k ≡ false
      → call_tokens k (w.server.latest k) ((w.station i).kept k) (upd w.up i l i) (w.down i ++ []) ≡ 0
  answer_last k T p q o a f =
      let s : Server = w.server in
      let z = h.calls.callbacks k i a b in
      let e : eqb T (s.latest k) ≡ true = and_r (waits s k) _ (and_l (waits s k && eqb T (s.latest k)) _ o) in
      rw (append_nil (w.down i), eqb_same i) (answered_none T p e f (rw q at z))

  accepts_calls : Accepts i (start w.server) Accepted
  unfolding join_read join_write join_commit serve_now unlist
  accepts_calls =
      let s : Server = w.server in
      let x : Serving = start s in
      let t = w.station in
      let u = upd w.up i l in
      let d = w.down in
      let noted : (m : Up) (T : ℕ) → bad_number s i T ≡ false → Accepted m (notice i T x) = λ m T n q. under_notice t u d i T x n (lost_head m q) in
      let joined : (m : Up) (T : ℕ) (v : Waiter) → bad_number s i T ≡ false → v.called ≡ false → v.arrival ≡ (notice i T x).server.arrivals → Accepted m (join i v (notice i T x)) =
      λ m T v n c a q. under_join t u d i v (notice i T x) (noticed_idle t u d i T x n) c a (notice_arrived i T x g) (noted m T n q) in
      record {
        read_waits = λ a T n e q. joined (ReadRequest a T) T (read_waiter (notice i T x).server a) n refl refl q;
        read_now = λ a T n e q. under_page t u d NoLock i a _ (notice i T x) (noted (ReadRequest a T) T n q);
        write_waits = λ p T set n e q. joined (WriteRequest p T set) T (write_waiter (notice i T x).server p set) n refl refl q;
        commit_now_lem = λ k n f e q. under_commit t u d i k (notice i k.transaction x) (noted (Commit k) k.transaction n q);
        commit_waits = λ k n e q. joined (Commit k) k.transaction (commit_waiter (notice i k.transaction x).server k) n refl refl q;
        aborts = λ T n e q. under_finish t u d i ByMessage (notice i T x) (noticed_idle t u d i T x n) (noted (Abort T) T n q);
        purges = λ p e q. under_unlist t u d i (λ k. eqb k p) x (lost_head (Purge p) q);
        busy = λ k T e q. under_busy t u d i k x (lost_head (Busy k T) q);
        busy_late = λ k T e q. lost_head (Busy k T) q;
        dones = λ k T p e q. under_answered t u d i k (unlist i p x) (answer_last k T p q e) (under_unlist t u d i p x (lost_head (Done k T p) q));
        done_late = λ k T p e q. under_unlist t u d i p x (lost_head (Done k T p) q);
        loosens = λ p T set e c q. under_loosen t u d i p _ x (lost_head (WrittenSet p T set) q);
        loosens_new = λ p T set e k r q. under_loosen t u d i p _ (notice i T x) (noted (WrittenSet p T set) T (heard_good w h i b T k r) q);
        loosens_late = λ p T set e q. lost_head (WrittenSet p T set) q;
      }

pub calls_accepted : (i : ℕ) (m : Up) (l : List Up) (w : World) → i < 8 → w.up i ≡ m ∷ l → unexpected i m w.server ≡ false → Inv w → Arrived w.server → CallsOf (carry_down (accept i m (start w.server)) (taken i l w))
calls_accepted i m l w b q n h g = carry_calls (taken i l w) _ (accepts i (start w.server) (Accepted i l w b h g) (accepts_calls i l w b h g) m n q)

-- THE LAYER
pub calls_layer : ((w : World) → Inv w → Arrived w.server) → Layer CallsOf
calls_layer given =
    record {
      begins = calls_fresh;
      owner = calls_owner;
      station = calls_station;
      accepted = λ i m l w b q n h. calls_accepted i m l w b q n h (given w h);
      acts = calls_acts;
    }
