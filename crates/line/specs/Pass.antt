-- The pass is made of its atomic actions: what each of them keeps, with its own guard and for any waiter, the pass and the step keep.
-- So nothing about the order of passes, ages, edges or cycles enters an invariant's proof.
use Rattle.std.proofs.Math.Path.{◌≡◌, refl}
use Rattle.std.proofs.Common.{sym, ap, ◌∙◌, arith}
use Rattle.std.specs.Prelude.{Bool, true, false, ◌&&◌, ◌||◌, cond, ◌≢◌, eqb, ltb}
use Rattle.std.proofs.Math.Bool.{not}
use Rattle.std.proofs.lemmas.Bool.{false≢true}
use mathlib.Core.List.{List, [], ◌∷◌}
use Prim.Native.Nat.{ℕ, zero, suc, ◌+◌, ◌≤◌, ◌<◌}
use Rattle.sets.specs.Base.{any, turned, upd}
use Rattle.line.specs.Messages.{Up}
use Rattle.line.specs.Server.{is_want, first_from, youngest, edges, locked_at, locked, stale, blocked_at, other, wants, wants_page, waits, blocks, Server, Serving, Want, NoWant, WantRead, WantWrite, WantCommit, abort, ask, ask_from, holder, call, call_once, serve_read, grant_object, grant_page, grant, hinders, install_waiter, blocked, shut, shut_kept, set_asked, fault, all_answered, after_calls, proceed, gates, judge, ask_keepers, out_of_time, visit, pass, order, victim, moved, settle, fuel, accept, start, server_step, stale_at, notice, meet}
use Rattle.line.specs.Messages.{page_of, address, last_number}
use Rattle.sets.specs.Laws.{by_b, by_eq}
use Rattle.sets.proofs.Laws.{eqb_same, eqb_yes, any_ext, not_yes, and_l, and_r}
use Rattle.sets.specs.Reach.{on_cycle}

-- the gates that a waiter has passed
pub record Clear (i : ℕ) (x : Serving) : Type 0 where
  pub unblocked : blocked x.server i ≡ false
  pub unshut : any 32 (shut x.server i) ≡ false

-- .. its 20s are out and each is answered 7
pub record Ready (i : ℕ) (x : Serving) : Type 0 where
  pub clear : Clear i x
  pub called : (x.server.queue i).called ≡ true
  pub answered : all_answered x.server i ≡ true

-- a page that it wants is locked whole by another, station h
pub record Shut (i h p : ℕ) (x : Serving) : Type 0 where
  pub page : shut x.server i p ≡ true
  pub held : x.server.wl p ≡ suc h

-- P is kept by an action of the pass, with its own guard

abbrev pub KeptByAsks : (Serving → Type 0) → Type 0
KeptByAsks P = (i h p : ℕ) (x : Serving) → p < 32 → Shut i h p x → x.server.asked p ≡ false → P x → P (ask h p x)

abbrev pub KeptByReads : (Serving → Type 0) → Type 0
KeptByReads P = (i : ℕ) (x : Serving) → i < 8 → (x.server.queue i).want ≡ WantRead → Clear i x → P x → P (serve_read i x)

abbrev pub KeptByCalls : (Serving → Type 0) → Type 0
KeptByCalls P = (i : ℕ) (x : Serving) → i < 8 → waits x.server i ≡ true → (x.server.queue i).called ≡ false → ((x.server.queue i).want ≡ WantRead → ⊥) → Clear i x → P x → P (call i x)

abbrev pub KeptByObjects : (Serving → Type 0) → Type 0
KeptByObjects P = (i : ℕ) (x : Serving) → i < 8 → (x.server.queue i).want ≡ WantWrite → Ready i x → P x → P (grant_object i x)

abbrev pub KeptByPages : (Serving → Type 0) → Type 0
KeptByPages P = (i : ℕ) (x : Serving) → i < 8 → (x.server.queue i).want ≡ WantWrite → Ready i x → any 8 (hinders x.server i (page_of (x.server.queue i).req)) ≡ false → P x → P (grant_page i x)

abbrev pub KeptByInstalls : (Serving → Type 0) → Type 0
KeptByInstalls P = (i : ℕ) (x : Serving) → i < 8 → (x.server.queue i).want ≡ WantCommit → fault x.server i ≡ 0 → Ready i x → P x → P (install_waiter i x)

-- P is kept by every action of the pass
pub record Atomic (P : Serving → Type 0) : Type 0 where
  pub aborts : (i c : ℕ) (x : Serving) → i < 8 → waits x.server i ≡ true → P x → P (abort i c x)
  pub asks : KeptByAsks P
  pub reads : KeptByReads P
  pub calls : KeptByCalls P
  pub objects : KeptByObjects P
  pub pages : KeptByPages P
  pub installs : KeptByInstalls P

-- the same for a P that depends on whose the aborts are: a waiter's own fault is never cause 1, and cause 1 is the victim's
pub record Causal (P : Serving → Type 0) : Type 0 where
  pub faults : (i c : ℕ) (x : Serving) → i < 8 → waits x.server i ≡ true → c ≢ 1 → P x → P (abort i c x)
  pub victims : (v : ℕ) (x : Serving) → v < 8 → waits x.server v ≡ true → victim x.server ≡ v → P x → P (abort v 1 x)
  pub asks : KeptByAsks P
  pub reads : KeptByReads P
  pub calls : KeptByCalls P
  pub objects : KeptByObjects P
  pub pages : KeptByPages P
  pub installs : KeptByInstalls P

whichever : (P : Serving → Type 0) → Atomic P → Causal P
whichever P k =
    record {
      faults = λ i c x b t n h. k.aborts i c x b t h;
      victims = λ v x b t e h. k.aborts v 1 x b t h;
      asks = k.asks;
      reads = k.reads;
      calls = k.calls;
      objects = k.objects;
      pages = k.pages;
      installs = k.installs;
    }

-- two at once
pub beside : {P Q : Serving → Type 0} → Atomic P → Atomic Q → Atomic (λ x. P x × Q x)
beside p q =
    record {
      aborts = λ i c x b t k. (p.aborts i c x b t k.0, q.aborts i c x b t k.1);
      asks = λ i h g x b t u k. (p.asks i h g x b t u k.0, q.asks i h g x b t u k.1);
      reads = λ i x b w c k. (p.reads i x b w c k.0, q.reads i x b w c k.1);
      calls = λ i x b t u w c k. (p.calls i x b t u w c k.0, q.calls i x b t u w c k.1);
      objects = λ i x b w r k. (p.objects i x b w r k.0, q.objects i x b w r k.1);
      pages = λ i x b w r e k. (p.pages i x b w r e k.0, q.pages i x b w r e k.1);
      installs = λ i x b w f r k. (p.installs i x b w f r k.0, q.installs i x b w f r k.1);
    }

-- a waiter's own fault: causes 4, 2 and 3
fault_not_1 : (a b c : Bool) → turned a 4 (turned b 2 (turned c 3 0)) ≢ 1
fault_not_1 true b c e = absurd (omega arith)
fault_not_1 false true c e = absurd (omega arith)
fault_not_1 false false true e = absurd (omega arith)
fault_not_1 false false false e = absurd (omega arith)

pub if_keeps : (P : Serving → Type 0) (b : Bool) {x y : Serving} → (b ≡ true → P x) → (b ≡ false → P y) → P (cond b x y)
if_keeps P true t f = t refl
if_keeps P false t f = f refl

-- an 8 may bring a transaction that the server has not met
pub met_keeps : (P : Serving → Type 0) (i t : ℕ) (x : Serving) → P (notice i t x) → P x → P (meet i t x)
unfolding meet
met_keeps P i t x n h = if_keeps P (ltb (x.server.latest i) t) (λ e. n) (λ e. h)

-- `call` leaves what the gates look at
module _ (i : ℕ) (x : Serving) where
  call_called : ((call i x).server.queue i).called ≡ true
  unfolding call
  call_called = rw (eqb_same i)

  call_want : (j : ℕ) → ((call i x).server.queue j).want ≡ (x.server.queue j).want
  unfolding call
  call_want j = by_eq j i (λ e. rw (e, ← eqb_yes j i e) refl) (λ e. rw e refl)

  call_arrival : (j : ℕ) → ((call i x).server.queue j).arrival ≡ (x.server.queue j).arrival
  unfolding call
  call_arrival j = by_eq j i (λ e. rw (e, ← eqb_yes j i e) refl) (λ e. rw e refl)

  call_reads : (j a : ℕ) → ((call i x).server.queue j).reads a ≡ (x.server.queue j).reads a
  unfolding call
  call_reads j a = by_eq j i (λ e. rw (e, ← eqb_yes j i e) refl) (λ e. rw e refl)

  call_writes : (j a : ℕ) → ((call i x).server.queue j).writes a ≡ (x.server.queue j).writes a
  unfolding call
  call_writes j a = by_eq j i (λ e. rw (e, ← eqb_yes j i e) refl) (λ e. rw e refl)

  call_ol : (a : ℕ) → (call i x).server.ol a ≡ x.server.ol a
  unfolding call
  call_ol a = refl

  call_wl : (p : ℕ) → (call i x).server.wl p ≡ x.server.wl p
  unfolding call
  call_wl p = refl

  call_blocks : (a j : ℕ) → blocks (call i x).server i a j ≡ blocks x.server i a j
  call_blocks a j = rw (call_ol a, call_want j, call_arrival j, call_arrival i, call_reads j a, call_writes j a, call_writes i a) refl

  call_blocked : blocked (call i x).server i ≡ blocked x.server i
  call_blocked = any_ext 256 (blocked_at (call i x).server i) (blocked_at x.server i) (λ a. rw (call_reads i a, call_writes i a, any_ext 8 (blocks (call i x).server i a) (blocks x.server i a) (call_blocks a)) refl)

  call_shut : any 32 (shut (call i x).server i) ≡ any 32 (shut x.server i)
  call_shut = any_ext 32 (shut (call i x).server i) (shut x.server i) (λ p. rw (call_wl p, any_ext 8 (λ o. wants (call i x).server i (address p o)) (λ o. wants x.server i (address p o)) (λ o. rw (call_reads i (address p o), call_writes i (address p o)) refl)) refl)

  call_work : (j : ℕ) → ((call i x).server.queue j).work ≡ (x.server.queue j).work
  unfolding call
  call_work j = by_eq j i (λ e. rw (e, ← eqb_yes j i e) refl) (λ e. rw e refl)

  call_ver : (call i x).server.ver ≡ x.server.ver
  unfolding call
  call_ver = refl

  call_last : (call i x).server.last ≡ x.server.last
  unfolding call
  call_last = refl

  call_locked : locked (call i x).server i ≡ locked x.server i
  call_locked = any_ext 256 (locked_at (call i x).server i) (locked_at x.server i) (λ a. rw (call_writes i a, call_ol a) refl)

  call_stale : stale (call i x).server ((call i x).server.queue i).work ≡ stale x.server (x.server.queue i).work
  call_stale =
      rw (call_work i)
      (any_ext 256 (stale_at (call i x).server (x.server.queue i).work) (stale_at x.server (x.server.queue i).work) (λ a. rw call_ver refl))

  call_fault : fault (call i x).server i ≡ fault x.server i
  call_fault = rw (call_last, call_stale, call_locked) refl

-- whoever is shut out is so by a holder
held_by : (x i : ℕ) → other x i ≡ true → x ≡ suc (holder x)
held_by zero i e = absurd (false≢true e)
held_by (suc h) i e = refl

pub shut_by : (i p : ℕ) (x : Serving) → shut x.server i p ≡ true → Shut i (holder (x.server.wl p)) p x
shut_by i p x e = record { page = e; held = held_by (x.server.wl p) i (and_r (wants_page x.server i p) _ e) }

-- whatever pages 19 is sent for, it changes only who is asked
pub asks_leave : {A : Type 0} (f : Server → A) → ((s : Server) (u : ℕ → Bool) → f (set_asked s u) ≡ f s) → (d : Server → ℕ → ℕ → Bool) (n p i : ℕ) (x : Serving) → f (ask_from d n p i x).server ≡ f x.server
unfolding ask_from ask
asks_leave f e d zero p i x = refl
asks_leave f e d (suc n) p i x =
    let y : Serving = cond (d x.server i p && not (x.server.asked p)) (ask (holder (x.server.wl p)) p x) x in
    asks_leave f e d n (suc p) i y
    ∙ by_b (d x.server i p && not (x.server.asked p)) (λ t. rw t (e x.server (upd x.server.asked p true))) (λ t. rw t refl)

pub keepers_leave : {A : Type 0} (f : Server → A) → ((s : Server) (u : ℕ → Bool) → f (set_asked s u) ≡ f s) → (i : ℕ) (x : Serving) → f (ask_keepers i x).server ≡ f x.server
unfolding ask_keepers
keepers_leave f e i x = asks_leave f e shut_kept 32 0 i x

-- a page that is asked for is shut
abbrev pub Shuts : (Server → ℕ → ℕ → Bool) → Type 0
Shuts d = (s : Server) (i p : ℕ) → d s i p ≡ true → shut s i p ≡ true

pub shut_shuts : Shuts shut
shut_shuts s i p e = e

pub kept_shuts : Shuts shut_kept
kept_shuts s i p e = and_l (shut s i p) _ e

-- the list holds stations
abbrev pub All8 : List ℕ → Type 0
All8 [] = Unit {0}
All8 (i ∷ l) = (i < 8) × All8 l

first_8 : (n b : ℕ) (s : Server) → n ≤ 8 → eqb (first_from n b s) 8 ≡ false → first_from n b s < 8
first_8 zero b s h e = absurd (false≢true (sym e))
first_8 (suc n) b s h e =
    let rest : eqb (first_from n b s) 8 ≡ false → first_from n b s < 8 = first_8 n b s (omega arith) in
    by_b (waits s n && not (ltb (s.queue n).arrival b) && (eqb (first_from n b s) 8 || ltb (s.queue n).arrival (s.queue (first_from n b s)).arrival))
    (λ t. rw t (omega arith)) (λ t. rw t (rest (rw t at e)))

pub order_8 : (n b : ℕ) (s : Server) → All8 (order n b s)
order_8 zero b s = tt
order_8 (suc n) b s =
    let i : ℕ = first_from 8 b s in
    let rest : All8 (order n ((s.queue i).arrival + 1) s) = order_8 n ((s.queue i).arrival + 1) s in
    by_b (eqb i 8) (λ t. rw t tt) (λ t. rw t (first_8 8 b s (omega arith) t, rest))

pub young_8 : (n : ℕ) (c : ℕ → Bool) (age : ℕ → ℕ) → n ≤ 8 → eqb (youngest n c age) 8 ≡ false → (youngest n c age < 8) × (c (youngest n c age) ≡ true)
young_8 zero c age h e = absurd (false≢true (sym e))
young_8 (suc n) c age h e =
    let rest : eqb (youngest n c age) 8 ≡ false → (youngest n c age < 8) × (c (youngest n c age) ≡ true) = young_8 n c age (omega arith) in
    by_b (c n && (eqb (youngest n c age) 8 || ltb (age (youngest n c age)) (age n)))
    (λ t. rw t (omega arith, and_l (c n) _ t)) (λ t. rw t (rest (rw t at e)))

-- a victim is a station that waits
pub victim_waits : (s : Server) → eqb (victim s) 8 ≡ false → (victim s < 8) × (waits s (victim s) ≡ true)
victim_waits s e =
    let u = young_8 8 (λ i. waits s i && on_cycle 8 (edges s) i) s.age (omega arith) e in
    (u.0, and_l (waits s (victim s)) _ u.1)

-- the loops, the gates, the pass, the step
module _ (P : Serving → Type 0) (k : Causal P) where
  asks_keeps : (d : Server → ℕ → ℕ → Bool) → Shuts d → (n p i : ℕ) (x : Serving) → p + n ≤ 32 → P x → P (ask_from d n p i x)
  unfolding ask_from
  asks_keeps d q zero p i x b h = h
  asks_keeps d q (suc n) p i x b h =
      asks_keeps d q n (suc p) i _ (omega arith)
      (if_keeps P (d x.server i p && not (x.server.asked p))
      (λ e. k.asks i (holder (x.server.wl p)) p x (omega arith) (shut_by i p x (q x.server i p (and_l (d x.server i p) _ e))) (not_yes (x.server.asked p) (and_r (d x.server i p) _ e)) h)
      (λ e. h))

  pub keepers_keep : (i : ℕ) (x : Serving) → P x → P (ask_keepers i x)
  unfolding ask_keepers
  keepers_keep i x h = asks_keeps shut_kept kept_shuts 32 0 i x (omega arith) h

  grant_keeps : (i : ℕ) (x : Serving) → i < 8 → (x.server.queue i).want ≡ WantWrite → Ready i x → P x → P (grant i x)
  unfolding grant
  grant_keeps i x b w r h = if_keeps P (any 8 (hinders x.server i (page_of (x.server.queue i).req))) (λ e. k.objects i x b w r h) (λ e. k.pages i x b w r e h)

  -- a property of x that also says what else is known of it: called, and the gates passed
  called_keeps : (i : ℕ) (x : Serving) → i < 8 → waits x.server i ≡ true → ((x.server.queue i).want ≡ WantRead → ⊥) → Clear i x → P x → P (call_once i x)
  unfolding call_once
  called_keeps i x b t w c h = if_keeps P (x.server.queue i).called (λ e. h) (λ e. k.calls i x b t e w c h)

  once_want : (i : ℕ) (x : Serving) → ((call_once i x).server.queue i).want ≡ (x.server.queue i).want
  unfolding call_once
  once_want i x = by_b (x.server.queue i).called (λ e. rw e refl) (λ e. rw e (call_want i x i))

  once_called : (i : ℕ) (x : Serving) → ((call_once i x).server.queue i).called ≡ true
  unfolding call_once
  once_called i x = by_b (x.server.queue i).called (λ e. rw (e, e) refl) (λ e. rw e (call_called i x))

  once_clear : (i : ℕ) (x : Serving) → Clear i x → Clear i (call_once i x)
  unfolding call_once
  once_clear i x c =
      by_b (x.server.queue i).called (λ e. rw e c)
      (λ e. rw e (record { unblocked = call_blocked i x ∙ c.unblocked; unshut = call_shut i x ∙ c.unshut }))

  once_fault : (i : ℕ) (x : Serving) → fault x.server i ≡ 0 → fault (call_once i x).server i ≡ 0
  unfolding call_once
  once_fault i x f = by_b (x.server.queue i).called (λ e. rw e f) (λ e. rw e (call_fault i x ∙ f))

  write_keeps : (i : ℕ) (x : Serving) → i < 8 → (x.server.queue i).want ≡ WantWrite → Clear i x → P x → P (after_calls WantWrite i (call_once i x))
  unfolding after_calls
  write_keeps i x b w c h =
      let y : Serving = call_once i x in
      let g : P y = called_keeps i x b (ap is_want w) (λ e. never (sym w ∙ e)) c h in
      if_keeps P (all_answered y.server i)
      (λ e. grant_keeps i y b (once_want i x ∙ w) (record { clear = once_clear i x c; called = once_called i x; answered = e }) g)
      (λ e. g)
    where
      never : WantWrite ≡ WantRead → ⊥
      never e = let z : ◌≡◌ {A = ℕ} 0 1 = cc in absurd (omega arith)

  commit_keeps : (i : ℕ) (x : Serving) → i < 8 → (x.server.queue i).want ≡ WantCommit → fault x.server i ≡ 0 → Clear i x → P x → P (after_calls WantCommit i (call_once i x))
  unfolding after_calls
  commit_keeps i x b w f c h =
      let y : Serving = call_once i x in
      let g : P y = called_keeps i x b (ap is_want w) (λ e. never (sym w ∙ e)) c h in
      if_keeps P (all_answered y.server i)
      (λ e. k.installs i y b (once_want i x ∙ w) (once_fault i x f) (record { clear = once_clear i x c; called = once_called i x; answered = e }) g)
      (λ e. g)
    where
      never : WantCommit ≡ WantRead → ⊥
      never e = let z : ◌≡◌ {A = ℕ} 0 1 = cc in absurd (omega arith)

  gates_keeps : (v : Want) (i : ℕ) (x : Serving) → (Clear i x → P (proceed v i x)) → P x → P (gates v i x)
  unfolding gates
  gates_keeps v i x g h =
      if_keeps P (blocked x.server i) (λ e. h)
      (λ e. if_keeps P (any 32 (shut x.server i)) (λ f. asks_keeps shut shut_shuts 32 0 i x (omega arith) h) (λ f. g (record { unblocked = e; unshut = f })))

  judge_keeps : (i : ℕ) (x : Serving) → i < 8 → (x.server.queue i).want ≡ WantCommit → P x → P (judge i x)
  unfolding judge proceed
  judge_keeps i x b w h =
      if_keeps P (eqb (fault x.server i) 0)
      (λ e. gates_keeps WantCommit i x (λ c. commit_keeps i x b w (eqb_yes (fault x.server i) 0 e) c h) h)
      (λ e. k.faults i (fault x.server i) x b (ap is_want w) (fault_not_1 (eqb x.server.last last_number) (stale x.server (x.server.queue i).work) (locked x.server i)) h)

  visit_keeps : (v : Want) (i : ℕ) (x : Serving) → i < 8 → (x.server.queue i).want ≡ v → P x → P (visit v i x)
  unfolding visit proceed
  visit_keeps NoWant i x b w h = h
  visit_keeps WantRead i x b w h =
      let y : Serving = ask_keepers i x in
      let g : P y = keepers_keep i x h in
      gates_keeps WantRead i y (λ c. k.reads i y b (keepers_leave (λ s. (s.queue i).want) (λ s u. refl) i x ∙ w) c g) g
  visit_keeps WantWrite i x b w h =
      let y : Serving = ask_keepers i x in
      let g : P y = keepers_keep i x h in
      gates_keeps WantWrite i y (λ c. write_keeps i y b (keepers_leave (λ s. (s.queue i).want) (λ s u. refl) i x ∙ w) c g) g
  visit_keeps WantCommit i x b w h =
      if_keeps (λ z. P (judge i z)) (out_of_time x.server i) (λ e. judge_keeps i x b w h)
      (λ e. judge_keeps i (ask_keepers i x) b (keepers_leave (λ s. (s.queue i).want) (λ s u. refl) i x ∙ w) (keepers_keep i x h))

  pass_causal : (l : List ℕ) (x : Serving) → All8 l → P x → P (pass l x)
  unfolding pass
  pass_causal [] x a h = h
  pass_causal (i ∷ l) x a h = pass_causal l (visit (x.server.queue i).want i x) a.1 (visit_keeps (x.server.queue i).want i x a.0 refl h)

  settle_keeps : (n : ℕ) (x : Serving) → P x → P (settle n x)
  unfolding settle
  settle_keeps zero x h = h
  settle_keeps (suc n) x h =
      let y : Serving = pass (order 8 0 x.server) x in
      let g : P y = pass_causal (order 8 0 x.server) x (order_8 8 0 x.server) h in
      let v : ℕ = victim y.server in
      if_keeps P (moved x y) (λ e. settle_keeps n y g)
      (λ e. if_keeps P (eqb v 8) (λ f. g) (λ f. settle_keeps n (abort v 1 y) (let u = victim_waits y.server f in k.victims v y u.0 u.1 refl g)))

  -- the server's step: what accept establishes, the step keeps
  pub step_causal : (i : ℕ) (m : Up) (s : Server) → P (accept i m (start s)) → P (server_step i m s)
  unfolding server_step
  step_causal i m s h = settle_keeps fuel (accept i m (start s)) h

module _ (P : Serving → Type 0) (k : Atomic P) where
  pub pass_keeps : (l : List ℕ) (x : Serving) → All8 l → P x → P (pass l x)
  pass_keeps = pass_causal P (whichever P k)

  pub step_keeps : (i : ℕ) (m : Up) (s : Server) → P (accept i m (start s)) → P (server_step i m s)
  step_keeps = step_causal P (whichever P k)
