-- To a locking station j one step sends at most 40 messages, in every state: an answer, a 20 from each of seven others, a 19 for each of 32
-- pages. An 18 that is asked for in the same step is no 41st: a station that has all pages whole is sent no 20.
use Rattle.std.specs.Prelude.{◌≡◌, Bool, true, not, ◌&&◌, ◌||◌, cond, ◌⊎◌, eqb}
use Rattle.std.proofs.Math.Path.{refl, ap}
use Rattle.std.proofs.Common.{sym, ◌∙◌, arith}
use Rattle.std.proofs.Math.Bool.{false}
use Rattle.std.proofs.lemmas.Bool.{false≢true}
use Rattle.std.proofs.Math.Logic.{inl, inr}
use Prim.Native.Nat.{ℕ, suc, ◌+◌, ◌≤◌, ◌<◌}
use Rattle.std.proofs.Math.Dec.{ltb}
use Rattle.sets.specs.Base.{upd, any}
use Rattle.sets.specs.Laws.{by_b, by_eq}
use Rattle.sets.proofs.Laws.{eqb_same, eqb_yes, eqb_no, and_l, and_r, not_yes, not_no, any_no, any_yes, any_some}
use Rattle.line.specs.Messages.{page_of, address, locking, Work}
use Rattle.line.specs.Server.{Server, Serving, Waiter, no_waiter, is_want, waits, wants_page, writes_page, wants, other, shut, concerned, finish, leave, send_page, abort, install, install_waiter, ask, serve_read, call, grant_object, grant_page, unlocks}
use Rattle.line.specs.Pass.{Atomic, Shut}
use Rattle.line.specs.Fuel.{nb, nb_1}
use Rattle.queues.specs.Count.{sent_at, one_to, both_to, calls_one}
use Rattle.queues.specs.Left.{own, callers, wholes, callers_7, callers_6, wholes_32, wholes_31, own_goes, callers_go, own_called, callers_called, wholes_freed, wholes_asked, wholes_up}
use Rattle.queues.specs.Leaves.{abort_kind, ask_kind, read_kind, call_kind, object_kind, page_kind, install_kind, install_sends, install_own, install_callers, install_wholes, install_wl}

-- what was sent to j, its answer twice (an 18 may be asked for again), and its pages
abbrev pub owed : ℕ → Serving → ℕ
owed j x = sent_at j x + own j x.server + own j x.server + wholes j x.server

-- every page is locked whole by j
abbrev pub Full : ℕ → Server → Type 0
Full j s = (p : ℕ) → p < 32 → s.wl p ≡ suc j

abbrev pub Safe : ℕ → Serving → Type 0
Safe j x = (owed j x + callers j x.server ≤ 40) ⊎ (Full j x.server × (owed j x ≤ 34))

other_sure : (j i : ℕ) → eqb j i ≡ false → other (suc j) i ≡ true
other_sure j i e =
    by_eq (suc j) 0 (λ f. absurd (omega (arith, eqb_yes (suc j) 0 f)))
    (λ f. by_eq (suc j) (suc i) (λ g. absurd (eqb_no j i e (let z = eqb_yes (suc j) (suc i) g in omega arith))) (λ g. rw (f, g) refl))

freed_full : (k j i h : ℕ) → eqb j i ≡ false → h ≡ suc j → cond (unlocks k i h) 0 h ≡ suc j
freed_full k j i h e f =
    by_eq h (suc i) (λ g. absurd (eqb_no j i e (let z = eqb_yes h (suc i) g in omega arith))) (λ g. rw g f)

turn : (j i : ℕ) → not (eqb j i) ≡ true → not (eqb i j) ≡ true
turn j i e = by_eq i j (λ f. absurd (false≢true (rw (eqb_yes i j f, eqb_same j) at e))) (λ f. rw f refl)

-- who writes on a page wants it
writes_wants : (s : Server) (i p : ℕ) → writes_page s i p ≡ true → wants_page s i p ≡ true
writes_wants s i p e =
    let u = any_some 8 (λ o. (s.queue i).writes (address p o)) e in
    any_yes 8 (λ o. wants s i (address p o)) u.0 u.1 (or_r ((s.queue i).reads (address p u.0)) u.2)
  where
    or_r : (a : Bool) {b : Bool} → b ≡ true → (a || b) ≡ true
    or_r true e = refl
    or_r false e = e

-- what holds of the step under way
pub record Held (j : ℕ) (x : Serving) : Type 0 where
  pub kind : locking (x.server.kind j) ≡ true
  pub safe : Safe j x

module _ (j : ℕ) (b8 : j < 8) where
  -- a station that has all pages is sent no 20: the others are shut out
  full_uncalled : (i : ℕ) (x : Serving) → Full j x.server → any 32 (shut x.server i) ≡ false → concerned x.server i j ≡ false
  full_uncalled i x f c = by_b (concerned x.server i j) (λ e. absurd (called e)) (λ e. e)
    where
      called : concerned x.server i j ≡ true → ⊥
      called e =
          let s : Server = x.server in
          let away : not (eqb j i) ≡ true = and_l (not (eqb j i)) _ (and_l (not (eqb j i) && ltb j 8) _ (and_l (not (eqb j i) && ltb j 8 && locking (s.kind j)) _ e)) in
          let u = any_some 32 (λ p. s.listed j p && writes_page s i p) (and_r (not (eqb j i) && ltb j 8 && locking (s.kind j)) _ e) in
          let p : ℕ = u.0 in
          let w : wants_page s i p ≡ true = writes_wants s i p (and_r (s.listed j p) _ u.2) in
          let o : other (s.wl p) i ≡ true = rw (f p u.1) (other_sure j i (not_yes (eqb j i) away)) in
          let t : shut s i p ≡ true = rw (w, o) refl in
          false≢true (sym (any_no 32 (shut s i) c p u.1) ∙ t)

  -- the actions

  abort_safe : (i c : ℕ) (x : Serving) → i < 8 → waits x.server i ≡ true → Safe j x → Safe j (abort i c x)
  unfolding abort finish leave
  abort_safe i c x b t (inl h) =
      inl (rw (one_to j i) (omega (arith, own_goes j i x.server.queue t, callers_go j i x.server.kind x.server.queue b, wholes_freed (x.server.kind i) j i x.server.wl x.server.asked)))
  abort_safe i c x b t (inr h) =
      let n = own_goes j i x.server.queue t in
      let g = callers_7 j x.server.kind (upd x.server.queue i no_waiter) b8 in
      let w = wholes_freed (x.server.kind i) j i x.server.wl x.server.asked in
      let l = h.1 in
      by_eq j i
      (λ e. inl (rw (one_to j i) (omega (arith, ap nb e))))
      (λ e. inr ((λ p q. freed_full (x.server.kind i) j i (x.server.wl p) e (h.0 p q)), rw (one_to j i) (omega (arith, ap nb e))))

  ask_safe : (i h p : ℕ) (x : Serving) → p < 32 → Shut i h p x → x.server.asked p ≡ false → Safe j x → Safe j (ask h p x)
  unfolding ask
  ask_safe i h p x b t u (inl k) = inl (rw (one_to j h) (omega (arith, wholes_asked j h p x.server.wl x.server.asked b t.held u)))
  ask_safe i h p x b t u (inr k) =
      let l = k.1 in
      inr (k.0, rw (one_to j h) (omega (arith, wholes_asked j h p x.server.wl x.server.asked b t.held u)))

  read_safe : (i : ℕ) (x : Serving) → i < 8 → waits x.server i ≡ true → Safe j x → Safe j (serve_read i x)
  unfolding serve_read send_page leave
  read_safe i x b t (inl h) = inl (rw (one_to j i) (omega (arith, own_goes j i x.server.queue t, callers_go j i x.server.kind x.server.queue b)))
  read_safe i x b t (inr h) = let l = h.1 in inr (h.0, rw (one_to j i) (omega (arith, own_goes j i x.server.queue t)))

  object_safe : (i : ℕ) (x : Serving) → i < 8 → waits x.server i ≡ true → Safe j x → Safe j (grant_object i x)
  unfolding grant_object send_page leave
  object_safe i x b t (inl h) = inl (rw (one_to j i) (omega (arith, own_goes j i x.server.queue t, callers_go j i x.server.kind x.server.queue b)))
  object_safe i x b t (inr h) = let l = h.1 in inr (h.0, rw (one_to j i) (omega (arith, own_goes j i x.server.queue t)))

  page_safe : (i : ℕ) (x : Serving) → i < 8 → waits x.server i ≡ true → Safe j x → Safe j (grant_page i x)
  unfolding grant_page send_page leave
  page_safe i x b t (inl h) =
      inl (rw (one_to j i) (omega (arith, own_goes j i x.server.queue t, callers_go j i x.server.kind x.server.queue b, wholes_up j i (page_of (x.server.queue i).req) x.server.wl x.server.asked)))
  page_safe i x b t (inr h) =
      let q : ℕ → Waiter = x.server.queue in
      let n = own_goes j i q t in
      let w = wholes_up j i (page_of (q i).req) x.server.wl x.server.asked in
      let l = h.1 in
      let gone : is_want (upd q i no_waiter i).want ≡ false = rw (eqb_same i) refl in
      by_eq j i
      (λ e. inr ((λ p c. by_eq p (page_of (q i).req) (λ f. rw (f, eqb_yes j i e) refl) (λ f. rw f (h.0 p c))), rw (one_to j i) (omega (arith, ap nb e))))
      (λ e. inl (rw (one_to j i) (omega (arith, ap nb e, callers_6 j i x.server.kind (upd q i no_waiter) b8 b e gone))))

  call_safe : (i : ℕ) (x : Serving) → i < 8 → waits x.server i ≡ true → (x.server.queue i).called ≡ false → any 32 (shut x.server i) ≡ false → Safe j x → Safe j (call i x)
  unfolding call
  call_safe i x b t c u (inl h) =
      let s : Server = x.server in
      inl (rw (both_to j x.sent) (omega (arith, calls_one j i s 8 0, own_called j i s.queue (concerned s i), callers_called j i s.kind s.queue (concerned s i) b t c, named s)))
    where
      named : (s : Server) → nb (concerned s i j) ≤ nb (not (eqb i j) && locking (s.kind j))
      named s =
          by_b (concerned s i j)
          (λ e. let z = and_l (not (eqb j i) && ltb j 8 && locking (s.kind j)) _ e in
          rw (e, turn j i (and_l (not (eqb j i)) _ (and_l (not (eqb j i) && ltb j 8) _ z)), and_r (not (eqb j i) && ltb j 8) _ z) (omega arith))
          (λ e. rw e (omega arith))
  call_safe i x b t c u (inr h) =
      let s : Server = x.server in
      let l = h.1 in
      inr (h.0, rw (both_to j x.sent) (omega (arith, calls_one j i s 8 0, own_called j i s.queue (concerned s i), ap nb (full_uncalled i x h.0 u))))

  install_to : (i : ℕ) (w : Work) (x : Serving) → locking (x.server.kind j) ≡ true → sent_at j (install i w x) ≤ sent_at j x + nb (eqb j i)
  install_to i w x k =
      let z : nb (not (eqb j i) && not (locking (x.server.kind j))) ≡ 0 = rw k (by_b (eqb j i) (λ e. rw e refl) (λ e. rw e refl)) in
      omega (arith, install_sends j i w x)

  install_safe : (i : ℕ) (w : Work) (x : Serving) → i < 8 → waits x.server i ≡ true → locking (x.server.kind j) ≡ true → Safe j x → Safe j (install i w x)
  install_safe i w x b t k (inl h) =
      inl (omega (arith, install_to i w x k, install_own j i w x, install_callers j i w x, install_wholes j i w x, own_goes j i x.server.queue t, callers_go j i x.server.kind x.server.queue b))
  install_safe i w x b t k (inr h) =
      let l = h.1 in
      let m = install_to i w x k in
      let n = own_goes j i x.server.queue t in
      let o = install_own j i w x in
      let p = install_wholes j i w x in
      by_eq j i
      (λ e. inl (omega (arith, ap nb e, callers_7 j (install i w x).server.kind (install i w x).server.queue b8)))
      (λ e. inr ((λ p q. install_wl i w x p ∙ freed_full (x.server.kind i) j i (x.server.wl p) e (h.0 p q)), omega (arith, ap nb e)))

  pub atomic_held : Atomic (Held j)
  unfolding install_waiter
  atomic_held =
      record {
        aborts = λ i c x b t h. record { kind = abort_kind j i x c ∙ h.kind; safe = abort_safe i c x b t h.safe };
        asks = λ i g p x b t u h. record { kind = ask_kind j g x p ∙ h.kind; safe = ask_safe i g p x b t u h.safe };
        reads = λ i x b w c h. record { kind = read_kind j i x ∙ h.kind; safe = read_safe i x b (ap is_want w) h.safe };
        calls = λ i x b t u w c h. record { kind = call_kind j i x ∙ h.kind; safe = call_safe i x b t u c.unshut h.safe };
        objects = λ i x b w r h. record { kind = object_kind j i x ∙ h.kind; safe = object_safe i x b (ap is_want w) h.safe };
        pages = λ i x b w r e h. record { kind = page_kind j i x ∙ h.kind; safe = page_safe i x b (ap is_want w) h.safe };
        installs = λ i x b w f r h. record { kind = install_kind j i x (x.server.queue i).work ∙ h.kind; safe = install_safe i (x.server.queue i).work x b (ap is_want w) h.kind h.safe };
      }

  -- the start: nothing sent to j, or its own answer alone, which it then no longer waits for
  pub quiet_held : (x : Serving) → locking (x.server.kind j) ≡ true → sent_at j x ≡ 0 → Held j x
  quiet_held x k e =
      let s : Server = x.server in
      let o = nb_1 (waits s j) in
      by_b (any 32 (λ p. not (eqb (s.wl p) (suc j))))
      (λ t. let u = any_some 32 (λ p. not (eqb (s.wl p) (suc j))) t in
      let w = wholes_31 j u.0 s.wl s.asked u.1 (not_yes (eqb (s.wl u.0) (suc j)) u.2) in
      record { kind = k; safe = inl (omega (arith, callers_7 j s.kind s.queue b8)) })
      (λ t. record { kind = k; safe = inr ((λ p b. eqb_yes (s.wl p) (suc j) (not_no (eqb (s.wl p) (suc j)) (any_no 32 (λ p. not (eqb (s.wl p) (suc j))) t p b))), omega (arith, wholes_32 j s.wl s.asked)) })

  pub told_held : (x : Serving) → locking (x.server.kind j) ≡ true → sent_at j x ≤ 1 → waits x.server j ≡ false → Held j x
  told_held x k e t =
      let s : Server = x.server in
      record { kind = k; safe = inl (omega (arith, ap nb t, callers_7 j s.kind s.queue b8, wholes_32 j s.wl s.asked)) }

  pub held_40 : (x : Serving) → Held j x → sent_at j x ≤ 40
  held_40 x h = sum h.safe
    where
      sum : Safe j x → sent_at j x ≤ 40
      sum (inl l) = omega arith
      sum (inr l) = let m = l.1 in omega arith
