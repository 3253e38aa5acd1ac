-- One step adds at most 40 messages to the line of one station, and at most 8 to that of a validating one.
use Rattle.std.specs.Prelude.{◌≡◌, Bool, true, false, not, ◌&&◌, cond, List, ◌∷◌, ◌⊎◌, eqb, length}
use Rattle.std.proofs.Math.Path.{refl}
use Rattle.std.proofs.Common.{ap, ◌∙◌, inr, arith, length-append}
use Rattle.std.proofs.Math.Logic.{inl}
use Prim.Native.Nat.{ℕ, ◌+◌, ◌≤◌, ◌<◌}
use Rattle.sets.specs.Laws.{by_b, by_eq}
use Rattle.sets.proofs.Laws.{eqb_same, eqb_yes}
use Rattle.line.specs.Messages.{last_number, locking, Work, Up, Down, ReadRequest, WriteRequest, Commit, Abort, Purge, Busy, Done, WrittenSet}
use Rattle.line.specs.Server.{Server, Serving, waits, unexpected, notice, finish, join, leave, send_page, abort, install, serve_now, join_read, join_write, join_commit, commit_now, unlist, open_call, mark_busy, answered, open_ask, loosen, accept, start, server_step, heeded, heed}
use Rattle.line.specs.Station.{Station}
use Rattle.line.specs.Line.{World, Call, sent_to, act}
use Rattle.line.specs.Runs.{Moves, act_moves}
use Rattle.line.specs.Pass.{step_keeps, met_keeps}
use Rattle.line.specs.Apart.{Apart, good_number, noticed_kind, noticed_queue, accept_apart}
use Rattle.line.specs.Fuel.{nb, nb_1}
use Rattle.queues.specs.Count.{sent_at, one_to}
use Rattle.queues.specs.Left.{own, callers, callers_6, callers_7}
use Rattle.queues.specs.Leaves.{abort_kind, install_kind, install_sends, install_own}
use Rattle.queues.specs.Locking.{Held, atomic_held, quiet_held, told_held, held_40}
use Rattle.queues.specs.Validating.{HeldFew, atomic_few}

-- what a message's own effect sends to station j: nothing, or its answer or a 23, and then the sender i waits for nothing
abbrev Said : ℕ → ℕ → Serving → Type 0
Said j i y = (sent_at j y ≡ 0) ⊎ ((sent_at j y ≤ nb (eqb j i) + nb (not (eqb j i) && not (locking (y.server.kind j)))) × (waits y.server i ≡ false))

pub record Accepted (j i : ℕ) (s : Server) (y : Serving) : Type 0 where
  pub kind : locking (y.server.kind j) ≡ locking (s.kind j)
  pub said : Said j i y

notice_to : (j i t : ℕ) (x : Serving) → sent_at j (notice i t x) ≡ sent_at j x
unfolding notice
notice_to j i t x = by_eq t (x.server.latest i) (λ e. rw e refl) (λ e. rw e refl)

notice_locks : (j i t : ℕ) (x : Serving) → locking ((notice i t x).server.kind j) ≡ locking (x.server.kind j)
notice_locks j i t x = ap (λ k. locking (k j)) (noticed_kind i t x)

either : (j i : ℕ) (s : Server) (b : Bool) {x y : Serving} → (b ≡ true → Accepted j i s x) → (b ≡ false → Accepted j i s y) → Accepted j i s (cond b x y)
either j i s true t f = t refl
either j i s false t f = f refl

abort_waits : (i c : ℕ) (x : Serving) → waits (abort i c x).server i ≡ false
unfolding abort finish leave
abort_waits i c x = rw (eqb_same i) refl

abort_to : (j i c : ℕ) (x : Serving) → sent_at j (abort i c x) ≡ sent_at j x + nb (eqb j i)
unfolding abort finish leave
abort_to j i c x = one_to j i _ x.sent

zero_no : (b : Bool) → nb b ≡ 0 → b ≡ false
zero_no true e = absurd (omega arith)
zero_no false e = refl

install_waits : (i : ℕ) (w : Work) (x : Serving) → waits (install i w x).server i ≡ false
install_waits i w x = zero_no (waits (install i w x).server i) (install_own i i w x ∙ rw (eqb_same i) refl)

commit_said : (j i : ℕ) (w : Work) (s : Server) (x : Serving) → sent_at j x ≡ 0 → locking (x.server.kind j) ≡ locking (s.kind j) → Accepted j i s (commit_now i w x)
unfolding commit_now
commit_said j i w s x z k =
    either j i s (eqb x.server.last last_number)
    (λ e. record { kind = abort_kind j i x 4 ∙ k; said = inr (omega (arith, abort_to j i 4 x), abort_waits i 4 x) })
    (λ e. record { kind = install_kind j i x w ∙ k; said = inr (rw (install_kind j i x w) (omega (arith, install_sends j i w x)), install_waits i w x) })

now_said : (j i a : ℕ) (s : Server) (x : Serving) → sent_at j x ≡ 0 → locking (x.server.kind j) ≡ locking (s.kind j) → waits x.server i ≡ false → Accepted j i s (serve_now i a x)
unfolding serve_now send_page
now_said j i a s x z k n = record { kind = k; said = inr (rw (one_to j i) (omega arith), n) }

module _ (j i : ℕ) (s : Server) where
  still : (t : ℕ) → sent_at j (notice i t (start s)) ≡ 0
  still t = notice_to j i t (start s)

  locks_still : (t : ℕ) → locking ((notice i t (start s)).server.kind j) ≡ locking (s.kind j)
  locks_still t = notice_locks j i t (start s)

  accepted : (m : Up) → unexpected i m s ≡ false → Accepted j i s (accept i m (start s))
  unfolding accept join_read join_write join_commit join finish unlist mark_busy answered loosen heed
  accepted (ReadRequest a t) u =
      either j i s (locking (s.kind i))
      (λ e. record { kind = locks_still t; said = inl (still t) })
      (λ e. now_said j i a s (notice i t (start s)) (still t) (locks_still t) (rw (noticed_queue i t (start s)) (good_number s i t u).idle))
  accepted (WriteRequest p t set) u = record { kind = locks_still t; said = inl (still t) }
  accepted (Commit w) u =
      let t : ℕ = w.transaction in
      either j i s (locking (s.kind i))
      (λ e. commit_said j i w s (notice i t (start s)) (still t) (locks_still t))
      (λ e. record { kind = locks_still t; said = inl (still t) })
  accepted (Abort t) u = record { kind = locks_still t; said = inl (still t) }
  accepted (Purge p) u = record { kind = refl; said = inl refl }
  accepted (Busy r t) u = either j i s (open_call s i r t) (λ e. record { kind = refl; said = inl refl }) (λ e. record { kind = refl; said = inl refl })
  accepted (Done r t d) u = either j i s (open_call s i r t) (λ e. record { kind = refl; said = inl refl }) (λ e. record { kind = refl; said = inl refl })
  accepted (WrittenSet p t set) u =
      either j i s (open_ask s i p t)
      (λ e. met_keeps (λ y. Accepted j i s (loosen i p (heeded y.server i t set) y)) i t (start s) (record { kind = locks_still t; said = inl (still t) }) (record { kind = refl; said = inl refl }))
      (λ e. record { kind = refl; said = inl refl })

-- A LOCKING STATION

locking_start : (j i : ℕ) (s : Server) (y : Serving) → j < 8 → locking (s.kind j) ≡ true → Accepted j i s y → Held j y
locking_start j i s y b k h = start_by h.said
  where
    kind : locking (y.server.kind j) ≡ true
    kind = h.kind ∙ k

    start_by : Said j i y → Held j y
    start_by (inl e) = quiet_held j b y kind e
    start_by (inr e) =
        let l : sent_at j y ≤ nb (eqb j i) + nb (not (eqb j i) && false) = rw kind at e.0 in
        by_eq j i
        (λ f. told_held j b y kind (rw f at l) (rw (eqb_yes j i f) e.1))
        (λ f. quiet_held j b y kind (let m = rw f at l in omega arith))

-- every state, also one that no run reaches; every accepted message, of any station
pub locking_40 : (j i : ℕ) (m : Up) (s : Server) → j < 8 → locking (s.kind j) ≡ true → unexpected i m s ≡ false → length (sent_to j (server_step i m s).sent) ≤ 40
locking_40 j i m s b k u =
    held_40 j b (server_step i m s) (step_keeps (Held j) (atomic_held j b) i m s (locking_start j i s (accept i m (start s)) b k (accepted j i s m u)))

-- A VALIDATING STATION

validating_start : (j i : ℕ) (s : Server) (y : Serving) → j < 8 → i < 8 → locking (s.kind j) ≡ false → Apart y.server → Accepted j i s y → HeldFew j y
validating_start j i s y b c k a h = record { apart = a; kind = h.kind ∙ k; most = most h.said }
  where
    most : Said j i y → sent_at j y + own j y.server + callers j y.server ≤ 8
    most (inl e) = omega (arith, nb_1 (waits y.server j), callers_7 j y.server.kind y.server.queue b)
    most (inr e) =
        let l = e.0 in
        by_eq j i
        (λ f. let o : waits y.server j ≡ false = rw (eqb_yes j i f) e.1 in
        omega (arith, ap nb o, (rw f at l), callers_7 j y.server.kind y.server.queue b))
        (λ f. omega (arith, nb_1 (waits y.server j), (rw f at l), nb_1 (not (locking (y.server.kind j))), callers_6 j i y.server.kind y.server.queue b c f e.1))

-- every state that number 1 takes
pub validating_8 : (j i : ℕ) (m : Up) (s : Server) → j < 8 → i < 8 → locking (s.kind j) ≡ false → Apart s → unexpected i m s ≡ false → length (sent_to j (server_step i m s).sent) ≤ 8
validating_8 j i m s b c k a u =
    let h : HeldFew j (server_step i m s) = step_keeps (HeldFew j) (atomic_few j) i m s (validating_start j i s (accept i m (start s)) b c k (accept_apart i m (start s) c u a) (accepted j i s m u)) in
    let l = h.most in
    omega arith

-- any state that number 1 takes
pub step_adds : (j i : ℕ) (m : Up) (s : Server) → j < 8 → i < 8 → Apart s → unexpected i m s ≡ false
    → length (sent_to j (server_step i m s).sent) ≤ cond (locking (s.kind j)) 40 8
step_adds j i m s b c a u = by_b (locking (s.kind j)) (λ e. rw e (locking_40 j i m s b e u)) (λ e. rw e (validating_8 j i m s b c e a u))

-- EVERY CALL of a line, whoever makes it: how much longer the line down to station j is behind it

module _ (w : World) (j : ℕ) where
  abbrev Before : Server → (ℕ → Station) → (ℕ → List Up) → (ℕ → List Down) → Type 0
  Before s t u d = Apart s × (d j ≡ w.down j) × (s.kind j ≡ w.server.kind j)

  abbrev Behind : Server → (ℕ → Station) → (ℕ → List Up) → (ℕ → List Down) → Type 0
  Behind s t u d = length (d j) ≤ length (w.down j) + cond (locking (w.server.kind j)) 40 8

  same_line : (d : List Down) → d ≡ w.down j → length d ≤ length (w.down j) + cond (locking (w.server.kind j)) 40 8
  same_line d e = omega (arith, ap length e)

  adds : j < 8 → Moves Before Behind
  adds b =
      record {
        rests = λ s t u d h. same_line (d j) h.1;
        owner = λ i op s t u d h. same_line (d j) h.1;
        server = λ i m l s t u d c e n h.
            let more : length (sent_to j (server_step i m s).sent) ≤ cond (locking (w.server.kind j)) 40 8 = rw (← h.2) (step_adds j i m s b c h.0 n) in
            omega (arith, length-append (d j) (sent_to j (server_step i m s).sent), ap length h.1);
        station = λ i m l s t u d e h.
            by_eq j i (λ f. let z : d j ≡ m ∷ l = rw (eqb_yes j i f) e in rw f (omega (arith, ap length z, ap length h.1))) (λ f. rw f (same_line (d j) h.1));
      }

  pub call_adds : (c : Call) → j < 8 → Apart w.server → length ((act c w).world.down j) ≤ length (w.down j) + cond (locking (w.server.kind j)) 40 8
  call_adds c b a = act_moves Before Behind (adds b) c w (a, refl, refl)
