-- Values at every locking station while the server works: what it sends, and what an install does.
use Rattle.std.specs.Prelude.{◌≡◌, Bool, true, false, List, ◌∷◌, ◌++◌, ℕ, zero, suc, ◌≤◌, ◌<◌, eqb}
use Rattle.std.proofs.Math.Path.{refl}
use Rattle.std.proofs.Common.{sym, ◌∙◌, arith}
use Rattle.std.proofs.lemmas.Bool.{false≢true}
use Rattle.sets.specs.Base.{snoc, Val, has, val_or}
use Rattle.sets.specs.Laws.{by_b, by_eq}
use Rattle.sets.proofs.Laws.{eqb_same, eqb_yes, eqb_no, and_l}
use Rattle.line.specs.Messages.{page_of, locking, Work, Up, Commit, Lock, NoLock, ObjectLock, WholeLock, Down, Page, Deescalate, Callback, Committed, Aborted, Invalidate, Sent, To}
use Rattle.line.specs.Station.{Station}
use Rattle.line.specs.Server.{Server, Serving, Want, other, values_on, unavailable, leave, write, archive, finish, install, abort, wants}
use Rattle.line.specs.Line.{sent_to}
use Rattle.line.specs.Truth.{count}
use Rattle.truth.specs.Clauses.{stale, token_down, tokens, brings, Coverage, shows, Locked, Called, is_committed, TrueValue, ShowsRequested, A2}
use Rattle.truth.proofs.Frame.{count_less, send_own, send_far, installs}
use Rattle.truth.specs.ValuesEvents.{Gone}
use Rattle.truth.proofs.ValuesEvents.{has_none, values_sent, values_gone, values_installed}
use Rattle.truth.specs.ValuesServer.{Served}

module _ (t : ℕ → Station) (dn : ℕ → List Down) where
  -- a message that says the truth and is no 21
  pub served_sent : (val : ℕ → ℕ) (l : List Sent) (i : ℕ) (m : Down) → is_committed m ≡ false → ((a : ℕ) → TrueValue a (val a) m) → ShowsRequested m → Served val t dn l → Served val t dn (snoc l (To i m))
  served_sent val l i m o p q h j a b c k =
      by_eq j i
      (λ e.
      let f : j ≡ i = eqb_yes j i e in
      rw (f, send_own i (dn i) l m) (values_sent m o (p a) q (h i a (rw f at b) c (rw f at k))))
      (λ e. rw (send_far i j (dn j) l m e) (h j a b c k))

  -- a page
  pub served_page : (val : ℕ → ℕ) (l : List Sent) (i : ℕ) (k : Lock) (a n : ℕ) (v : ℕ → ℕ) (u : ℕ → Bool) → ShowsRequested (Page k a n v u (values_on (page_of a) val)) → Served val t dn l → Served val t dn (snoc l (To i (Page k a n v u (values_on (page_of a) val))))
  served_page val l i k a n v u o h = served_sent val l i (Page k a n v u (values_on (page_of a) val)) refl (λ b e f. rw e refl) o h

  -- a commit's values and its 21
  pub served_installed : (val : ℕ → ℕ) (l : List Sent) (i : ℕ) (w : Work) (n : ℕ)
      → ((j a : ℕ) → j < 8 → a < 256 → eqb j i ≡ false → locking (t j).kind ≡ true → has (w.writes a) ≡ true → Gone a ((t j).cached (page_of a)) ((t j).unav a) ((t j).rd a) (dn j ++ sent_to j l))
      → (i < 8 → locking (t i).kind ≡ true → (count (token_down (λ r. false)) (dn i ++ sent_to i l) ≡ 0) × (w.writes ≡ (t i).wr) × ((a : ℕ) → a < 256 → A2 ((t i).cached (page_of a)) ((t i).copy a) ((t i).wr a)))
      → Served val t dn l → Served (λ a. val_or (w.writes a) (val a)) t dn (snoc l (To i (Committed w.transaction n)))
  served_installed val l i w n others own h j a b c k =
      by_eq j i
      (λ e.
      let f : j ≡ i = eqb_yes j i e in
      let b' : i < 8 = rw f at b in
      let k' : locking (t i).kind ≡ true = rw f at k in
      let u = own b' k' in
      rw (f, send_own i (dn i) l (Committed w.transaction n), u.1) (values_installed w.transaction n u.0 (u.2 a c) (h i a b' c k')))
      (λ e.
      rw (send_far i j (dn j) l (Committed w.transaction n) e)
      (by_b (has (w.writes a))
      (λ q. values_gone (others j a b c e k q) (h j a b c k))
      (λ q. rw (has_none (w.writes a) q) (h j a b c k))))

  -- the whole install
  pub served_install : (i : ℕ) (w : Work) (x : Serving)
      → ((j a : ℕ) → j < 8 → a < 256 → eqb j i ≡ false → locking (t j).kind ≡ true → has (w.writes a) ≡ true → Gone a ((t j).cached (page_of a)) ((t j).unav a) ((t j).rd a) (dn j ++ sent_to j x.sent))
      → (i < 8 → locking (t i).kind ≡ true → (count (token_down (λ r. false)) (dn i ++ sent_to i x.sent) ≡ 0) × (w.writes ≡ (t i).wr) × ((a : ℕ) → a < 256 → A2 ((t i).cached (page_of a)) ((t i).copy a) ((t i).wr a)))
      → Served x.server.val t dn x.sent → Served (install i w x).server.val t dn (install i w x).sent
  unfolding leave write archive finish
  served_install i w x others own h =
      installs (λ y. Served y.server.val t dn y.sent) i w
      (λ j y e g. served_sent y.server.val y.sent j (Invalidate _) refl (λ a. tt) tt g)
      x
      (served_installed x.server.val x.sent i w _ others own h)

  pub served_abort : (i c : ℕ) (x : Serving) → Served x.server.val t dn x.sent → Served (abort i c x).server.val t dn (abort i c x).sent
  unfolding abort leave finish
  served_abort i c x h = served_sent x.server.val x.sent i (Aborted _ c) refl (λ a. tt) tt h

-- the requested address is available
pub available : (s : Server) (i a : ℕ) → wants s i a ≡ true → unavailable s i a a ≡ false
available s i a e = rw (eqb_same (page_of a), e) refl

-- a lock of i is another's for j
others_lock : (x i j : ℕ) → eqb j i ≡ false → eqb x (suc i) ≡ true → other x j ≡ true
others_lock x i j e f =
    by_eq x 0 (λ q. absurd (omega (arith, eqb_yes x (suc i) f, eqb_yes x 0 q)))
    (λ q. rw q (by_eq x (suc j) (λ r. absurd (eqb_no j i e (omega (arith, eqb_yes x (suc i) f, eqb_yes x (suc j) r)))) (λ r. rw r refl)))

shows_brings : (a : ℕ) (m : Down) → shows a m ≡ true → brings (page_of a) m ≡ true
shows_brings a (Page l b t v u x) e = and_l (eqb (page_of a) (page_of b)) _ e
shows_brings a (Deescalate p t) e = e
shows_brings a (Callback r t set) e = e
shows_brings a (Committed t n) e = e
shows_brings a (Aborted t c) e = e
shows_brings a (Invalidate d) e = e

not_both : (b : Bool) → (b ≡ true → ⊥) → b ≡ false
not_both true f = absurd (f refl)
not_both false f = refl

-- under the committer's object lock, or its lock on the page
pub gone_object : (i j a : ℕ) {ol wl : ℕ} {listed cached unav : Bool} {rd : Val} {D : List Down} → eqb j i ≡ false → eqb ol (suc i) ≡ true → Locked j a ol wl listed cached unav rd D → Gone a cached unav rd D
gone_object i j a {ol = ol} {rd = rd} e f k =
    let o : other ol j ≡ true = others_lock ol i j e f in
    record { copy = (k.F1 o).copy; under_way = (k.F1 o).under_way; unread = not_both (has rd) (λ r. false≢true (sym (k.F3a r) ∙ o)) }

pub gone_page : (i j a : ℕ) {ol wl : ℕ} {cached listed : ℕ → Bool} {unav : Bool} {rd : ℕ → Val} {v : Want} {req : ℕ} {U : List Up} {D : List Down} → eqb j i ≡ false → eqb wl (suc i) ≡ true
    → Locked j a ol wl (listed (page_of a)) (cached (page_of a)) unav (rd a) D → Coverage cached rd listed v req U D → Gone a (cached (page_of a)) unav (rd a) D
gone_page i j a {wl = wl} {cached = cached} {listed = listed} {rd = rd} {D = D} e f k c =
    let out : listed (page_of a) ≡ false = k.F2a (others_lock wl i j e f) in
    let gone : cached (page_of a) ≡ false = not_both (cached (page_of a)) (λ r. false≢true (sym out ∙ (c.page (page_of a)).C1 r)) in
    record {
      copy = rw gone refl;
      under_way = none_shown (count (shows a) D) (λ r. false≢true (sym out ∙ (c.page (page_of a)).C1_down (omega (arith, r, count_less (shows a) (brings (page_of a)) (shows_brings a) D))));
      unread = not_both (has (rd a)) (λ r. false≢true (sym gone ∙ c.C3 a r));
    }
  where
    none_shown : (n : ℕ) → (1 ≤ n → ⊥) → n ≡ 0
    none_shown zero f = refl
    none_shown (suc n) f = absurd (f (omega arith))

-- after all 7s
pub gone_called : {r t a : ℕ} {pend cached unav : Bool} {rd : Val} {U : List Up} {D : List Down} → pend ≡ false → Called r t a pend cached unav rd U D → Gone a cached unav rd D
gone_called {rd = rd} p k =
    record { copy = (k.G2d p).copy; under_way = (k.G2d p).under_way; unread = not_both (has rd) (λ r. false≢true (sym p ∙ (k.F3b r).0)) }

-- a locking station's 3 is its only token
token_fixed : (kind num : ℕ) (opened : Bool) → locking kind ≡ true → (m : Down) → token_down (λ t. false) m ≡ true → token_down (stale kind num opened) m ≡ true
token_fixed kind num opened k (Page NoLock a t v u x) e = rw k refl
token_fixed kind num opened k (Page ObjectLock a t v u x) e = e
token_fixed kind num opened k (Page WholeLock a t v u x) e = e
token_fixed kind num opened k (Deescalate p t) e = e
token_fixed kind num opened k (Callback r t set) e = e
token_fixed kind num opened k (Committed t n) e = e
token_fixed kind num opened k (Aborted t c) e = e
token_fixed kind num opened k (Invalidate d) e = e

pub only_token : (kind num : ℕ) (opened : Bool) (v : Want) (w : Work) (U : List Up) (D : List Down) → locking kind ≡ true → tokens (stale kind num opened) v (Commit w ∷ U) D ≤ 1 → count (token_down (λ t. false)) D ≡ 0
only_token kind num opened v w U D k h =
    omega (arith, h, count_less (token_down (λ t. false)) (token_down (stale kind num opened)) (token_fixed kind num opened k) D)
