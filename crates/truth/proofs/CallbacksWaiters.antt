-- G4 of all pairs of waiters: what joining, leaving, calls and their answers do to it. Over the waiting list only.
use Rattle.std.specs.Prelude.{◌≡◌, refl, Bool, true, false, not, ◌&&◌, ◌||◌, ℕ, suc, ◌<◌, eqb}
use Rattle.std.proofs.Common.{sym, ◌∙◌, arith}
use Rattle.std.proofs.lemmas.Bool.{false≢true}
use Rattle.sets.specs.Base.{upd, any}
use Rattle.sets.specs.Laws.{by_b, by_eq}
use Rattle.sets.proofs.Laws.{eqb_yes, ltb_yes, any_no, or_no}
use Rattle.line.specs.Messages.{last_number, Work}
use Rattle.line.specs.Server.{Server, Serving, Waiter, is_want, no_waiter, waiter_pend, waiter_called, wants, blocks, blocked_at, blocked, notice, finish, join, leave, abort, write, archive, install, commit_now, mark_busy, answered, concerned, call}
use Rattle.line.specs.Pass.{Clear}
use Rattle.truth.specs.Clauses.{G4}
use Rattle.truth.proofs.Frame.{if_serving, installs}
use Rattle.truth.specs.CallbacksWaiters.{Arrived, G4In, G4Of, Same}

same_G4 : (v w e f : Waiter) → Same v w → Same e f → (v.called ≡ true → w.called ≡ true) → G4 w f → G4 v e
same_G4 v w e f a b c h =
    λ x y z l n m k.
    rw (b.reads, b.writes) (h (rw a.want at x) (c y) (rw b.want at z) (rw (a.arrival, b.arrival) at l) n m (rw a.writes at k))

module _ (q : ℕ → Waiter) where
  same_entry : (k : ℕ) (v : Waiter) → Same v (q k) → (i : ℕ) → Same (upd q k v i) (q i)
  same_entry k v s i = by_eq i k (λ e. rw (e, eqb_yes i k e) s) (λ e. rw e (record { want = refl; arrival = refl; reads = refl; writes = refl }))

module _ (q : ℕ → Waiter) (h : G4Of q) where
  left_G4 : (k : ℕ) → G4Of (upd q k no_waiter)
  left_G4 k =
      λ i j b c.
      by_eq i k (λ e. rw e (λ x y z l n m w. absurd (false≢true x)))
      (λ e. by_eq j k (λ f. rw (e, f) (λ x y z l n m w. absurd (false≢true z))) (λ f. rw (e, f) (h i j b c)))

  joined_G4 : (k n : ℕ) (v : Waiter) → v.called ≡ false → v.arrival ≡ n → ((i : ℕ) → i < 8 → is_want (q i).want ≡ true → (q i).arrival < n) → G4Of (upd q k v)
  joined_G4 k n v d a g =
      λ i j b c.
      by_eq i k (λ e. rw e (λ x y z l n m w. absurd (false≢true (sym d ∙ y))))
      (λ e.
      by_eq j k
      (λ f. rw (e, f) (λ x y z l n m w. absurd (omega (arith, ltb_yes v.arrival (q i).arrival l, g i b x))))
      (λ f. rw (e, f) (h i j b c)))

  -- an entry that is called no more than before
  changed_G4 : (k : ℕ) (v : Waiter) → Same v (q k) → v.called ≡ (q k).called → G4Of (upd q k v)
  changed_G4 k v s d =
      λ i j b c. same_G4 (upd q k v i) (q i) (upd q k v j) (q j) (same_entry q k v s i) (same_entry q k v s j) (by_eq i k (λ e. rw (e, eqb_yes i k e, d) (λ y. y)) (λ e. rw e (λ y. y))) (h i j b c)

-- P.call: no earlier waiter wants what it writes
module _ (s : Server) (i : ℕ) (u : blocked s i ≡ false) where
  unblocked : (j : ℕ) → j < 8 → G4 (waiter_called (s.queue i) true) (s.queue j)
  unblocked j c =
      λ x y z l n m w.
      let p : (wants s i n && any 8 (blocks s i n)) ≡ false = any_no 256 (blocked_at s i) u n m in
      let v : wants s i n ≡ true = by_b ((s.queue i).reads n) (λ t. rw t refl) (λ t. rw (t, w) refl) in
      let g : any 8 (blocks s i n) ≡ false = rw v at p in
      let o = or_no (eqb (s.ol n) (suc j) && not (eqb j i)) _ (any_no 8 (blocks s i n) g j c) in
      by_b ((s.queue j).reads n || (s.queue j).writes n)
      (λ t.
      by_b ((s.queue j).writes n) (λ e. absurd (false≢true (sym (rw (z, l, t, w, e) at o.1)))) (λ e. absurd (false≢true (sym (rw (z, l, t, w, e) at o.1)))))
      (λ t. t)

  called_G4 : (P : ℕ → Bool) → G4Of s.queue → G4Of (upd s.queue i (waiter_pend (waiter_called (s.queue i) true) P))
  called_G4 P h =
      let q : ℕ → Waiter = s.queue in
      let v : Waiter = waiter_pend (waiter_called (q i) true) P in
      let k : Same v (q i) = record { want = refl; arrival = refl; reads = refl; writes = refl } in
      λ a b x y.
      by_eq a i
      (λ e.
      same_G4 (upd q i v a) (waiter_called (q i) true) (upd q i v b) (q b) (rw e (record { want = refl; arrival = refl; reads = refl; writes = refl })) (same_entry q i v k b) (λ z. refl) (unblocked b y))
      (λ e. same_G4 (upd q i v a) (q a) (upd q i v b) (q b) (same_entry q i v k a) (same_entry q i v k b) (rw e (λ z. z)) (h a b x y))

pub leave_G4 : (i : ℕ) (x : Serving) → G4In x → G4In (leave i x)
unfolding leave
leave_G4 i x h = left_G4 x.server.queue h i

pub notice_G4 : (i t : ℕ) (x : Serving) → G4In x → G4In (notice i t x)
unfolding notice
notice_G4 i t x h = by_eq t (x.server.latest i) (λ e. rw e h) (λ e. rw e h)

pub notice_arrived : (i t : ℕ) (x : Serving) → Arrived x.server → Arrived (notice i t x).server
unfolding notice
notice_arrived i t x h = by_eq t (x.server.latest i) (λ e. rw e h) (λ e. rw e h)

pub join_G4 : (i : ℕ) (v : Waiter) (x : Serving) → v.called ≡ false → v.arrival ≡ x.server.arrivals → Arrived x.server → G4In x → G4In (join i v x)
unfolding join
join_G4 i v x c a g h = joined_G4 x.server.queue h i x.server.arrivals v c a g

pub abort_G4 : (i c : ℕ) (x : Serving) → G4In x → G4In (abort i c x)
unfolding abort finish leave
abort_G4 i c x h = left_G4 x.server.queue h i

pub install_G4 : (i : ℕ) (w : Work) (x : Serving) → G4In x → G4In (install i w x)
unfolding archive write finish leave
install_G4 i w x h = installs G4In i w (λ k y e g. g) x (left_G4 x.server.queue h i)

pub commit_G4 : (i : ℕ) (w : Work) (x : Serving) → G4In x → G4In (commit_now i w x)
unfolding commit_now
commit_G4 i w x h = if_serving G4In (eqb x.server.last last_number) (λ e. abort_G4 i 4 x h) (λ e. install_G4 i w x h)

pub busy_G4 : (i k : ℕ) (x : Serving) → G4In x → G4In (mark_busy i k x)
unfolding mark_busy
busy_G4 i k x h = changed_G4 x.server.queue h k _ (record { want = refl; arrival = refl; reads = refl; writes = refl }) refl

pub answered_G4 : (i k : ℕ) (x : Serving) → G4In x → G4In (answered i k x)
unfolding answered
answered_G4 i k x h = changed_G4 x.server.queue h k _ (record { want = refl; arrival = refl; reads = refl; writes = refl }) refl

pub call_G4 : (i : ℕ) (x : Serving) → Clear i x → G4In x → G4In (call i x)
unfolding call
call_G4 i x c h = called_G4 x.server i c.unblocked (concerned x.server i) h
