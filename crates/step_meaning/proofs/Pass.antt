-- The pass over bytes means document 01's: one waiter's turn, the list in order, cycles, until nothing changes.
use Prim.Native.Nat.{ℕ, zero, suc, ◌+◌, ◌-◌, ◌*◌, ◌/◌, ◌%◌, ◌≤◌, ◌<◌}
use Rattle.std.specs.Prelude.{◌≡◌, Bool, ◌&&◌, ◌≢◌, eqb, length}
use Rattle.std.proofs.Math.Path.{refl, sym, ap, subst, fun_ext}
use Rattle.std.proofs.Common.{◌∙◌}
use Rattle.std.proofs.Math.Bool.{true, false, not, cond}
use Rattle.std.proofs.lemmas.Bool.{false≢true}
use mathlib.Core.List.{List, [], ◌∷◌, ◌++◌, append-nil, append_assoc}
use native.Mathlib.Omega.{arith}
use Rattle.sets.specs.Base.{upd, any, turned, snoc}
use Rattle.sets.specs.Laws.{by_b, by_eq}
use Rattle.sets.proofs.Laws.{eqb_same, eqb_yes, eqb_no, and_l, and_r}
use Rattle.cells.specs.Upd.{cond_rel, branch_rel}
use Rattle.cells.specs.Bits.{tb}
use Rattle.line.specs.Messages.{last_number, Lock, NoLock, ObjectLock, WholeLock, Callback, Sent, To}
use Rattle.line.specs.Server.{Server, Want, WantWrite, WantCommit, is_want, other, wants_page, waiter_called, waiter_pend, set_ol, set_wl, set_whole_for, set_asked, set_queue, on_server, leave, shut, ask, ask_from, ask_keepers, shut_kept, holder, unavailable, send_page, serve_read, concerned, calls_from, call, call_once, hinders, grant_page, grant_object, grant, install_waiter, all_answered, after_calls, proceed, blocked, gates, fault, stale, locked, abort, out_of_time, judge, visit, first_from, order, pass, victim, moved, settle, accept, start, server_step}
use Rattle.line.specs.Server as Model
use Rattle.line.specs.Fit.{Object}
use Rattle.line.specs.Pass.{if_keeps, All8, order_8, victim_waits}
use Rattle.message_meaning.specs.Meant.{up_of}
use Rattle.station_state.specs.Layout.{has_bit}
use Rattle.server_state.specs.Layout.{request_from, whole_of, written_set, want_of, called_of_lem, pend_of}
use Rattle.server_tests.specs.Tests.{blocked_b, shut_out_b, out_of_time_b, concerned_set, hindered_b, unavailable_b}
use Rattle.server_order.specs.Order.{victim_b}
use Rattle.server_changes.specs.Changes.{leave_b, called_b, lock_to}
use Rattle.server_actions.specs.Actions.{Serving, serving, on_state, send_page_b, abort_b, install_b, accept_b}
use Rattle.server_actions.specs.Pass.{ask_b, ask_to, serve_read_b, call_one_b, call_to, call_b, call_once_b, grant_page_b, grant_object_b, grant_b, after_calls_b, proceed_b, gates_b, judge_b, ask_keepers_b, visit_b, order_b, pass_b, moved_b, settle_b, server_step_b}
use Rattle.server_meaning.specs.Meant.{want_as, Is}
use Rattle.server_meaning.specs.Tests.{Wanting, bit_is, due_of}
use Rattle.server_meaning.proofs.Tests.{arrival_at, last_at, last_lt, whole_at, request_at, called_at, want_at, work_at, writes_at, fault_at, out_of_time_at, held, due_at, shut_out_at, concerned_set_lt, concerned_set_at, hindered_at, all_answered_at, unavailable_lt, unavailable_at_lem, blocked_at_lem}
use Rattle.server_meaning.proofs.Order.{first_at, victim_at}
use Rattle.server_meaning.specs.Waiting.{is_commit}
use Rattle.server_meaning.proofs.Waiting.{commit_want, leave_is, called_is}
use Rattle.server_meaning.specs.Changes.{lock_is}
use Rattle.server_meaning.proofs.Changes.{asked_is, lock_page_is}
use Rattle.step_meaning.specs.Relation.{Sound, AllSent, Serves}
use Rattle.step_meaning.proofs.Relation.{sent_snoc}
use Rattle.step_meaning.specs.Posts.{kind_for}
use Rattle.step_meaning.proofs.Posts.{deescalate_post, callback_post}
use Rattle.step_meaning.proofs.Keeps.{wanting_leave, wanting_asked, wanting_called, wanting_lock_page, wanting_lock, sound_same, sound_entry, sound_leave}
use Rattle.step_meaning.proofs.Actions.{send_page_means, abort_means, install_means}
use Rattle.step_meaning.specs.Pass.{round, round_b}

module _ {m : Server} (h : Sound m) where
  pub sound_asked : (f : ℕ → Bool) → Sound (set_asked m f)
  sound_asked f = sound_same (set_asked m f) refl refl refl refl refl h

  pub sound_called : (i : ℕ) (f : ℕ → Bool) → i < 8 → Sound (set_queue m (upd m.queue i (waiter_pend (waiter_called (m.queue i) true) f)))
  sound_called i f l = sound_entry h i (waiter_pend (waiter_called (m.queue i) true) f) (h.numbered i l) (h.worked i l) (h.paged i l)

  pub sound_lock_object : (f : ℕ → ℕ) → Sound (set_ol m f)
  sound_lock_object f = sound_same (set_ol m f) refl refl refl refl refl h

  -- the page's new holder has a transaction
  pub sound_lock_page : (i p : ℕ) (f : ℕ → Bool) → i < 8 → m.latest i ≢ 0 → Sound (set_wl (set_whole_for (set_asked m f) (upd m.whole_for p (m.latest i))) (upd m.wl p (suc i)))
  sound_lock_page i p f l n =
      record {
        kinds = h.kinds;
        numbered = h.numbered;
        worked = h.worked;
        paged = h.paged;
        holder =
            λ q j.
            by_eq q p
            (λ e. rw e (λ w. let same : i ≡ j = omega arith in rw (← same) (l, n)))
            (λ e. rw e (h.holder q j));
      }

module _ {b : Serving} {x : Model.Serving} (h : Serves b x) where
  -- another state, the same messages and records
  on_state_lem : {s : List ℕ} {m : Server} → Is s m → Wanting s → Sound m → Serves (on_state b s) (on_server x m)
  on_state_lem k w q = record { state = k; wanting = w; sound = q; sent = h.sent; recs = h.recs }

  pub leave_means : (i : ℕ) → i < 8 → Serves (on_state b (leave_b i b.state)) (leave i x)
  unfolding leave
  leave_means i l = on_state_lem (leave_is h.state i l) (wanting_leave b.state h.wanting i l) (sound_leave h.sound i)

-- a page that a 19 is due for is another's
due_other : (k : Bool) (m : Server) (i p : ℕ) → due_of k m i p ≡ true → other (m.wl p) i ≡ true
due_other false m i p e = and_r (wants_page m i p) (other (m.wl p) i) e
due_other true m i p e = and_r (wants_page m i p) (other (m.wl p) i) (and_l (shut m i p) _ e)

-- "send 19, once for each 18"
pub ask_means : {b : Serving} {x : Model.Serving} → Serves b x → (k : Bool) (i p : ℕ) → i < 8 → p < 32
    → Serves (ask_b k i b p) (cond (due_of k x.server i p && not (x.server.asked p)) (ask (holder (x.server.wl p)) p x) x)
unfolding ask_b ask
ask_means {b} {x} h k i p li lp =
    let s = b.state in
    let m = x.server in
    rw (due_at h.state k i p li lp (λ g e. (h.sound.holder p g e).0))
    (branch_rel Serves (due_of k m i p && not (m.asked p))
    (λ e.
    let w : m.wl p ≡ suc (holder (m.wl p)) = held (m.wl p) i (due_other k m i p (and_l (due_of k m i p) (not (m.asked p)) e)) in
    let a = h.sound.holder p (holder (m.wl p)) w in
    let one : whole_of s p - 1 ≡ holder (m.wl p) = omega (arith, whole_at h.state p lp, w) in
    record {
      state = asked_is h.state p lp;
      wanting = wanting_asked s h.wanting p;
      sound = sound_asked h.sound (upd m.asked p true);
      sent = rw one (sent_snoc b.sent x.sent _ _ h.sent (deescalate_post h.state (holder (m.wl p)) p a.0 lp a.1));
      recs = h.recs;
    })
    (λ e. h))

-- "pages rising": the model asks for n from p on, the bytes for all below j
asks_from : (k : Bool) (i : ℕ) (b : Serving) {x : Model.Serving} (n p j : ℕ) → i < 8 → p + n ≡ j → j ≤ 32 → Serves (ask_to k i b p) x → Serves (ask_to k i b j) (ask_from (due_of k) n p i x)
unfolding ask_to ask_from
asks_from k i b {x} zero p j li e l h = let same : p ≡ j = omega arith in subst (λ (q : ℕ). Serves (ask_to k i b q) x) same h
asks_from k i b {x = x} (suc n) p j li e l h = asks_from k i b {x = cond (due_of k x.server i p && not (x.server.asked p)) (ask (holder (x.server.wl p)) p x) x} n (suc p) j li (omega arith) l (ask_means h k i p li (omega arith))

pub asks_means : {b : Serving} {x : Model.Serving} → Serves b x → (k : Bool) (i : ℕ) → i < 8 → Serves (ask_to k i b 32) (ask_from (due_of k) 32 0 i x)
unfolding ask_to
asks_means {b} h k i l = asks_from k i b 32 0 32 l refl (omega arith) h

-- ".. as soon as another's waiting request or commit wants the page"
pub keepers_means : {b : Serving} {x : Model.Serving} → Serves b x → (i : ℕ) → i < 8 → Serves (ask_keepers_b i b) (ask_keepers i x)
unfolding ask_keepers_b ask_keepers
keepers_means h i l = asks_means h true i l

-- 16, 17 and 18 for address a, with the unavailable set as it was before i's entry went
page_means : {b c : Serving} {x y : Model.Serving} → Serves b x → Serves c y → (lock : Lock) (i a : ℕ) → i < 8 → a < 256 → Object lock a → y.server.latest i ≢ 0
    → Serves (send_page_b (kind_for lock) i a (unavailable_b b.state i a) c) (send_page lock i a (unavailable x.server i a) y)
page_means {b} {c} {x} {y} h k lock i a l la o n =
    let u = unavailable_b b.state i a in
    subst (λ (f : ℕ → Bool). Serves (send_page_b (kind_for lock) i a u c) (send_page lock i a f y)) (unavailable_at_lem h.state i a l la)
    (send_page_means k lock i a u l la (unavailable_lt b.state i a) o n)

-- a station does not call itself
not_own : (m : Server) (i j : ℕ) → concerned m i j ≡ true → i ≢ j
not_own m i j t = by_eq j i (λ e. absurd (false≢true (rw e at t))) (λ e q. eqb_no j i e (sym q))

-- the stations' messages 20: the model's are a list, the bytes go one by one
module _ {b : Serving} {x : Model.Serving} (h : Serves b x) (i : ℕ) (l : i < 8) (n : x.server.latest i ≢ 0) where
  call_one : (c : Serving) (xs : List Sent) (j : ℕ) → j < 8 → AllSent c.sent xs
      → AllSent (call_one_b i (concerned_set b.state i) b.state c j).sent
      (cond (concerned x.server i j) (snoc xs (To j (Callback i (x.server.latest i) (x.server.queue i).writes))) xs)
  unfolding call_one_b
  call_one c xs j lj k =
      let m = x.server in
      let e : has_bit (concerned_set b.state i) j ≡ concerned m i j = bit_is (concerned_set b.state i) j ∙ ap (λ (f : ℕ → Bool). f j) (concerned_set_at h.state i l) in
      rw e
      (by_b (concerned m i j)
      (λ t. rw t (sent_snoc c.sent xs _ _ k (callback_post h.state j i lj l (not_own m i j t) n)))
      (λ t. rw t k))

  -- the model calls n stations from j on, the bytes all below k
  calls_from_lem : (xs : List Sent) (n j k : ℕ) → j + n ≡ k → k ≤ 8 → AllSent (call_to i (concerned_set b.state i) b.state b j).sent xs
      → AllSent (call_to i (concerned_set b.state i) b.state b k).sent (xs ++ calls_from n j x.server i)
  unfolding call_to
  calls_from_lem xs zero j k e lk q =
      let same : j ≡ k = omega arith in
      rw (← same, append-nil xs) q
  calls_from_lem xs (suc n) j k e lk q =
      let m = x.server in
      let s = b.state in
      let d = concerned_set s i in
      let c : Sent = To j (Callback i (m.latest i) (m.queue i).writes) in
      let rest = calls_from_lem (cond (concerned m i j) (snoc xs c) xs) n (suc j) k (omega arith) lk (call_one (call_to i d s b j) xs j (omega arith) q) in
      subst (AllSent (call_to i d s b k).sent)
      (by_b (concerned m i j) (λ t. rw t (append_assoc xs (c ∷ []) (calls_from n (suc j) m i))) (λ t. rw t)) rest

  -- .. and archive nothing
  calls_recs : (k : ℕ) → (call_to i (concerned_set b.state i) b.state b k).recs ≡ b.recs
  unfolding call_to call_one_b
  calls_recs zero = refl
  calls_recs (suc k) =
      by_b (has_bit (concerned_set b.state i) k) (λ t. rw t (calls_recs k)) (λ t. rw t (calls_recs k))

  -- "Write: once, send 20 .. to each other locking station listed for a page of theirs, stations rising"
  pub call_means : Serves (call_b i b) (call i x)
  unfolding call_b call call_to
  call_means =
      let s = b.state in
      let m = x.server in
      let d = concerned_set s i in
      record {
        state =
            subst (λ (f : ℕ → Bool). Is (called_b i d s) (set_queue m (upd m.queue i (waiter_pend (waiter_called (m.queue i) true) f)))) (concerned_set_at h.state i l)
            (called_is h.state i d l (concerned_set_lt s i));
        wanting = wanting_called s h.wanting i d;
        sound = sound_called h.sound i (concerned m i) l;
        sent = calls_from_lem x.sent 8 0 8 refl (omega arith) h.sent;
        recs = rw (calls_recs 8) h.recs;
      }

  pub call_once_means : Serves (call_once_b i b) (call_once i x)
  unfolding call_once_b call_once
  call_once_means =
      let c = called_at h.state i l in
      by_eq (called_of_lem b.state i) 0
      (λ e. let f : (x.server.queue i).called ≡ false = sym c ∙ rw e in rw (e, f) call_means)
      (λ e. let f : (x.server.queue i).called ≡ true = sym c ∙ rw e in rw (e, f) h)

  request_lt : (x.server.queue i).req < 256
  request_lt = rw (← request_at h.state i l) (h.state.bytes (request_from + i))

  -- "Read: send 16."
  pub serve_read_means : Serves (serve_read_b i b) (serve_read i x)
  unfolding serve_read_b serve_read leave
  serve_read_means = rw (request_at h.state i l) (page_means h (leave_means h i l) NoLock i (x.server.queue i).req l request_lt tt n)

  -- 18
  pub grant_page_means : (x.server.queue i).want ≡ WantWrite → Serves (grant_page_b i b) (grant_page i x)
  unfolding grant_page_b grant_page leave
  grant_page_means w =
      let a = (x.server.queue i).req in
      let la : a < 256 = request_lt in
      let k = leave_means h i l in
      rw (request_at h.state i l)
      (page_means h
      (on_state_lem k (lock_page_is k.state i (a / 8) l (omega arith)) (wanting_lock_page _ k.wanting i (a / 8) (omega arith))
      (sound_lock_page k.sound i (a / 8) _ l n))
      WholeLock i a l la (h.sound.paged i l w).stands n)

  -- the objects that it writes are those of its page in the bytes
  written_on : (x.server.queue i).want ≡ WantWrite → (c : ℕ)
      → let p = (x.server.queue i).req / 8 in (eqb (c / 8) p && tb (written_set b.state i p) (c % 8)) ≡ (x.server.queue i).writes c
  written_on w c =
      let m = x.server in
      let p = (m.queue i).req / 8 in
      by_eq (c / 8) p
      (λ e.
      let whole : p * 8 + c % 8 ≡ c = omega (arith, eqb_yes (c / 8) p e) in
      rw (e, ← bit_is (written_set b.state i p) (c % 8)) (writes_at h.state i p (c % 8) l (omega (arith, request_lt)) (omega arith) ∙ ap (m.queue i).writes whole))
      (λ e.
      rw e
      (by_b ((m.queue i).writes c) (λ t. absurd (eqb_no (c / 8) p e ((h.sound.paged i l w).page_only_lem c t))) sym))

  -- 17: "takes them in one step"
  pub grant_object_means : (x.server.queue i).want ≡ WantWrite → Serves (grant_object_b i b) (grant_object i x)
  unfolding grant_object_b grant_object leave
  grant_object_means w =
      let m = x.server in
      let a = (m.queue i).req in
      let la : a < 256 = request_lt in
      let k = leave_means h i l in
      let set = written_set b.state i (a / 8) in
      let locked = subst (λ (f : ℕ → Bool). Is (lock_to i (a / 8) set (leave_b i b.state) 8) (set_ol (leave i x).server (λ c. cond (f c) (suc i) (m.ol c)))) (fun_ext (written_on w))
      (lock_is k.state i (a / 8) set l (omega arith)) in
      rw (request_at h.state i l)
      (page_means h (on_state_lem k locked (wanting_lock _ k.wanting i (a / 8) set (omega arith)) (sound_lock_object k.sound _)) ObjectLock i a l la (h.sound.paged i l w).stands n)

  pub grant_means : (x.server.queue i).want ≡ WantWrite → Serves (grant_b i b) (grant i x)
  unfolding grant_b grant
  grant_means w =
      let m = x.server in
      let a = (m.queue i).req in
      let la : a < 256 = request_lt in
      rw (request_at h.state i l)
      (cond_rel Serves (hindered_b b.state i (a / 8)) (any 8 (hinders m i (a / 8))) (hindered_at h.state i (a / 8) (omega arith)) (grant_object_means w) (grant_page_means w))

module _ {b : Serving} {x : Model.Serving} (h : Serves b x) (i : ℕ) (l : i < 8) where
  -- a commit that waits is installed as it stands in its row
  pub install_waiter_means : (x.server.queue i).want ≡ WantCommit → x.server.last ≢ last_number → Serves (install_b i b) (install_waiter i x)
  unfolding install_waiter
  install_waiter_means e n =
      let w : want_of b.state i ≡ 3 = eqb_yes (want_of b.state i) 3 (commit_want (want_of b.state i) ∙ ap is_commit (sym (want_at h.state i l) ∙ e)) in
      install_means h i (x.server.queue i).work l (sym (work_at h.state i l w)) (h.sound.worked i l e)
      (omega (arith, last_at h.state, last_lt h.state))

module _ {b : Serving} {x : Model.Serving} (h : Serves b x) (i : ℕ) (l : i < 8) (n : x.server.latest i ≢ 0) where
  -- "When each has answered 7, lock or install."
  pub after_calls_means : (k : ℕ) → 2 ≤ k → k ≤ 3 → (x.server.queue i).want ≡ want_as k → (k ≡ 3 → x.server.last ≢ last_number)
      → Serves (after_calls_b k i b) (after_calls (want_as k) i x)
  unfolding after_calls_b after_calls
  after_calls_means zero l2 l3 e f = absurd (omega arith)
  after_calls_means (suc zero) l2 l3 e f = absurd (omega arith)
  after_calls_means (suc (suc zero)) l2 l3 e f =
      cond_rel Serves (eqb (pend_of b.state i) 0) (all_answered x.server i) (all_answered_at h.state i l) (grant_means h i l n e) h
  after_calls_means (suc (suc (suc zero))) l2 l3 e f =
      cond_rel Serves (eqb (pend_of b.state i) 0) (all_answered x.server i) (all_answered_at h.state i l) (install_waiter_means h i l e (f refl)) h
  after_calls_means (suc (suc (suc (suc k)))) l2 l3 e f = absurd (omega arith)

  -- what a call leaves, call_once leaves
  once_keeps : (P : Model.Serving → Type 0) → P x → P (call i x) → P (call_once i x)
  unfolding call_once
  once_keeps P p q = if_keeps P (x.server.queue i).called (λ _. p) (λ _. q)

  once_latest : (call_once i x).server.latest i ≢ 0
  unfolding call
  once_latest = once_keeps (λ y. y.server.latest i ≢ 0) n n

  once_last : x.server.last ≢ last_number → (call_once i x).server.last ≢ last_number
  unfolding call
  once_last e = once_keeps (λ y. y.server.last ≢ last_number) e e

  once_want : (w : Want) → (x.server.queue i).want ≡ w → ((call_once i x).server.queue i).want ≡ w
  unfolding call
  once_want w e = once_keeps (λ y. (y.server.queue i).want ≡ w) e (rw (eqb_same i) e)

-- a waiter's turn, behind its gates: k is its byte
module _ {b : Serving} {x : Model.Serving} (h : Serves b x) (i : ℕ) (l : i < 8) (n : x.server.latest i ≢ 0) where
  pub proceed_means : (k : ℕ) → 1 ≤ k → k ≤ 3 → (x.server.queue i).want ≡ want_as k → (k ≡ 3 → x.server.last ≢ last_number)
      → Serves (proceed_b k i b) (proceed (want_as k) i x)
  unfolding proceed_b proceed
  proceed_means zero l1 l3 e f = absurd (omega arith)
  proceed_means (suc zero) l1 l3 e f = serve_read_means h i l n
  proceed_means (suc (suc zero)) l1 l3 e f =
      after_calls_means (call_once_means h i l n) i l (once_latest h i l n) 2 (omega arith) (omega arith) (once_want h i l n WantWrite e) (λ q. absurd (omega arith))
  proceed_means (suc (suc (suc zero))) l1 l3 e f =
      after_calls_means (call_once_means h i l n) i l (once_latest h i l n) 3 (omega arith) (omega arith) (once_want h i l n WantCommit e) (λ q. once_last h i l n (f refl))
  proceed_means (suc (suc (suc (suc k)))) l1 l3 e f = absurd (omega arith)

  pub gates_means : (k : ℕ) → 1 ≤ k → k ≤ 3 → (x.server.queue i).want ≡ want_as k → (k ≡ 3 → x.server.last ≢ last_number)
      → Serves (gates_b k i b) (gates (want_as k) i x)
  unfolding gates_b gates
  gates_means k l1 l3 e f =
      cond_rel Serves (blocked_b b.state i) (blocked x.server i) (blocked_at_lem h.state h.wanting i l) h
      (cond_rel Serves (shut_out_b b.state i) (any 32 (shut x.server i)) (shut_out_at h.state i l) (asks_means h false i l) (proceed_means k l1 l3 e f))

-- a fault is a cause; without one there is a number left
cause_le : (a b c : Bool) → turned a 4 (turned b 2 (turned c 3 0)) ≤ 4
cause_le true b c = omega arith
cause_le false true c = omega arith
cause_le false false true = omega arith
cause_le false false false = omega arith

cause_none : (a b c : Bool) → turned a 4 (turned b 2 (turned c 3 0)) ≡ 0 → a ≡ false
cause_none true b c e = absurd (omega arith)
cause_none false b c e = refl

fault_le : (m : Server) (i : ℕ) → fault m i ≤ 4
fault_le m i = cause_le (eqb m.last last_number) (stale m (m.queue i).work) (locked m i)

fault_none : (m : Server) (i : ℕ) → fault m i ≡ 0 → m.last ≢ last_number
fault_none m i e = eqb_no m.last last_number (cause_none (eqb m.last last_number) (stale m (m.queue i).work) (locked m i) e)

module _ (P : Server → Type 0) (keeps : (m : Server) (f : ℕ → Bool) → P m → P (set_asked m f)) where
  asks_keep : (d : Server → ℕ → ℕ → Bool) (n p i : ℕ) (x : Model.Serving) → P x.server → P (ask_from d n p i x).server
  unfolding ask_from ask
  asks_keep d zero p i x h = h
  asks_keep d (suc n) p i x h =
      asks_keep d n (suc p) i _ (if_keeps (λ (y : Model.Serving). P y.server) (d x.server i p && not (x.server.asked p)) (λ _. keeps x.server _ h) (λ _. h))

  keepers_keep : (i : ℕ) (x : Model.Serving) → P x.server → P (ask_keepers i x).server
  unfolding ask_keepers
  keepers_keep i x h = asks_keep shut_kept 32 0 i x h

module _ {b : Serving} {x : Model.Serving} (h : Serves b x) (i : ℕ) (l : i < 8) where
  -- whoever waits has a transaction
  waiting : (k : ℕ) → (x.server.queue i).want ≡ want_as k → is_want (want_as k) ≡ true → x.server.latest i ≢ 0
  waiting k e w = h.sound.numbered i l (rw e w)

  -- a waiter's turn, behind the 19s to keeping holders
  gates_turn : (k : ℕ) → 1 ≤ k → k ≤ 2 → is_want (want_as k) ≡ true → (x.server.queue i).want ≡ want_as k → Serves (gates_b k i (ask_keepers_b i b)) (gates (want_as k) i (ask_keepers i x))
  gates_turn k l1 l2 w e =
      let g = keepers_means h i l in
      let want = keepers_keep (λ (m : Server). (m.queue i).want ≡ want_as k) (λ m f q. q) i x e in
      gates_means g i l (keepers_keep (λ (m : Server). m.latest i ≢ 0) (λ m f q. q) i x (waiting k e w)) k l1 (omega arith) want (λ f. absurd (omega arith))

  -- a commit that is looked at
  pub judge_means : (x.server.queue i).want ≡ WantCommit → Serves (judge_b i b) (judge i x)
  unfolding judge_b judge
  judge_means e =
      let m = x.server in
      rw (fault_at h.state i l (commit_byte e))
      (branch_rel Serves (eqb (fault m i) 0)
      (λ f. gates_means h i l (waiting 3 e refl) 3 (omega arith) (omega arith) e (λ _. fault_none m i (eqb_yes (fault m i) 0 f)))
      (λ f. abort_means h i (fault m i) l (omega (arith, eqb_no (fault m i) 0 f)) (fault_le m i) (waiting 3 e refl)))
    where
      commit_byte : (x.server.queue i).want ≡ WantCommit → want_of b.state i ≡ 3
      commit_byte e = eqb_yes (want_of b.state i) 3 (commit_want (want_of b.state i) ∙ ap is_commit (sym (want_at h.state i l) ∙ e))

module _ {b : Serving} {x : Model.Serving} (h : Serves b x) (i : ℕ) (l : i < 8) where
  -- "even one .. given cause 3 (19 goes first), not 2 or 4"
  commit_turn : want_of b.state i ≡ 3 → (x.server.queue i).want ≡ WantCommit
      → Serves (judge_b i (cond (out_of_time_b b.state i) b (ask_keepers_b i b))) (judge i (cond (out_of_time x.server i) x (ask_keepers i x)))
  commit_turn k e =
      rw (out_of_time_at h.state i l k)
      (by_b (out_of_time x.server i) (λ o. rw o (judge_means h i l e))
      (λ o. rw o (judge_means (keepers_means h i l) i l (keepers_keep (λ (m : Server). (m.queue i).want ≡ WantCommit) (λ m f q. q) i x e))))

  visit_as : (k : ℕ) → want_of b.state i ≡ k → k ≤ 3
      → Serves (cond (eqb k 0) b (cond (eqb k 3) (judge_b i (cond (out_of_time_b b.state i) b (ask_keepers_b i b))) (gates_b k i (ask_keepers_b i b))))
      (visit (want_as k) i x)
  unfolding visit
  visit_as zero e q = h
  visit_as (suc zero) e q = gates_turn h i l 1 (omega arith) (omega arith) refl (want_at h.state i l ∙ rw e)
  visit_as (suc (suc zero)) e q = gates_turn h i l 2 (omega arith) (omega arith) refl (want_at h.state i l ∙ rw e)
  visit_as (suc (suc (suc zero))) e q = commit_turn e (want_at h.state i l ∙ rw e)
  visit_as (suc (suc (suc (suc k)))) e q = absurd (omega arith)

  pub visit_means : Serves (visit_b i b) (visit (x.server.queue i).want i x)
  unfolding visit_b
  visit_means = rw (want_at h.state i l) (visit_as (want_of b.state i) refl (h.wanting i l))

module _ {s : List ℕ} {m : Server} (h : Is s m) (k : Wanting s) where
  order_from : (n q : ℕ) → order_b s n q ≡ order n q m
  unfolding order_b
  order_from zero q = refl
  order_from (suc n) q =
      let i = first_from 8 q m in
      let rest : order_b s n ((m.queue i).arrival + 1) ≡ order n ((m.queue i).arrival + 1) m = order_from n ((m.queue i).arrival + 1) in
      rw (first_at h k q)
      (by_eq i 8
      (λ e. rw e)
      (λ e. let a : All8 (i ∷ order n ((m.queue i).arrival + 1) m) = rw e at (order_8 (suc n) q m) in rw (e, arrival_at h i a.0, rest)))

  pub order_at : order_b s 8 0 ≡ order 8 0 m
  order_at = order_from 8 0

-- "the list is passed in order"
pub pass_means : {b : Serving} {x : Model.Serving} (js : List ℕ) → All8 js → Serves b x → Serves (pass_b js b) (pass js x)
unfolding pass_b pass
pass_means [] a h = h
pass_means {b = b} {x = x} (i ∷ js) a h = pass_means {b = visit_b i b} {x = visit (x.server.queue i).want i x} js a.1 (visit_means h i a.0)

-- as many messages over bytes as in the model
pub sent_length : (ms : List (List ℕ)) (xs : List Sent) → AllSent ms xs → length ms ≡ length xs
sent_length [] [] h = refl
sent_length [] (x ∷ xs) h = absurd h
sent_length (m ∷ ms) [] h = absurd h
sent_length (m ∷ ms) (x ∷ xs) h = ap suc (sent_length ms xs h.1)

pub moved_at : {b c : Serving} {x y : Model.Serving} → Serves b x → Serves c y → moved_b b c ≡ moved x y
moved_at {b} {c} {x} {y} h k = rw (sent_length b.sent x.sent h.sent, sent_length c.sent y.sent k.sent)

-- "the youngest in any cycle gets 22, cause 1"
pub victim_means : {b : Serving} {x : Model.Serving} → Serves b x → eqb (victim x.server) 8 ≡ false → Serves (abort_b (victim x.server) 1 b) (abort (victim x.server) 1 x)
victim_means {b} {x} h e =
    let v = victim_waits x.server e in
    abort_means h (victim x.server) 1 v.0 (omega arith) (omega arith) (h.sound.numbered (victim x.server) v.0 v.1)

-- after a pass: p and q whether it moved, v and u the victim, or 8
turn_means : {c : Serving} {y : Model.Serving} (n v u : ℕ) (p q : Bool) → p ≡ q → v ≡ u → Serves c y → Serves (settle_b n c) (settle n y)
    → (eqb u 8 ≡ false → Serves (settle_b n (abort_b u 1 c)) (settle n (abort u 1 y)))
    → Serves (cond p (settle_b n c) (cond (eqb v 8) c (settle_b n (abort_b v 1 c)))) (cond q (settle n y) (cond (eqb u 8) y (settle n (abort u 1 y))))
turn_means n v u p q e f h k g = rw f (cond_rel Serves p q e k (branch_rel Serves (eqb u 8) (λ _. h) g))

round_means : {b : Serving} {x : Model.Serving} (n : ℕ) (js : List ℕ) → All8 js
    → ((c : Serving) (y : Model.Serving) → Serves c y → Serves (settle_b n c) (settle n y)) → Serves b x → Serves (round_b n js b) (round n js x)
round_means {b} {x} n js a again h =
    let k = pass_means js a h in
    turn_means n (victim_b (pass_b js b).state) (victim (pass js x).server) (moved_b b (pass_b js b)) (moved x (pass js x)) (moved_at h k) (victim_at k.state k.wanting) k (again _ _ k)
    (λ e. again _ _ (victim_means k e))

-- "repeated until nothing changes"
pub settle_means : {b : Serving} {x : Model.Serving} (n : ℕ) → Serves b x → Serves (settle_b n b) (settle n x)
unfolding settle_b settle
settle_means zero h = h
settle_means {b} {x} (suc n) h =
    subst (λ (js : List ℕ). Serves (round_b n js b) (round n (order 8 0 x.server) x)) (sym (order_at h.state h.wanting))
    (round_means n (order 8 0 x.server) (order_8 8 0 x.server) (λ c y k. settle_means n k) h)

-- the step, when the message's own effect is known
pub step_means : (m₀ s : List ℕ) (i : ℕ) (m : Server) → Serves (accept_b m₀ (serving s [] [])) (accept i (up_of m₀) (start m))
    → Serves (server_step_b m₀ s) (server_step i (up_of m₀) m)
unfolding server_step_b server_step
step_means m₀ s i m h = settle_means 64 h
