-- Wish 2: what a kept age is for. "The panel's totals transaction loses to the heads again and again, since every repeat starts as the
-- youngest." Ages differ; a station that keeps its age is never older or younger than it was, and nobody comes to be older than it; and who
-- gets cause 1 has an older transaction beside it.
use Rattle.std.specs.Prelude.{◌≡◌, refl, Bool, true, false, not, ◌&&◌, ◌||◌, List, [], ◌∷◌, ◌++◌, ◌≢◌, ◌⊎◌, eqb, ltb}
use Rattle.std.proofs.Common.{sym, ap, ◌∙◌, inl, inr, arith}
use Rattle.std.proofs.lemmas.Bool.{false≢true}
use Prim.Native.Nat.{ℕ, zero, suc, ◌+◌, ◌≤◌, ◌<◌}
use Rattle.sets.specs.Base.{upd, any}
use Rattle.sets.specs.Laws.{by_b, by_eq, or_yes}
use Rattle.sets.proofs.Laws.{eqb_same, eqb_yes, eqb_no, ltb_yes, and_l, and_r, not_yes, any_some}
use Rattle.sets.specs.Reach.{Path, Last, Then}
use Rattle.sets.proofs.Reach.{path_from}
use Rattle.line.specs.Messages.{last_number, locking, Work, Up, ReadRequest, WriteRequest, Commit, Abort, Purge, Busy, Done, WrittenSet, Down, Page, Deescalate, Callback, Committed, Aborted, Invalidate, Sent, To}
use Rattle.line.specs.Server.{Server, Serving, fresh_server, aged, Waiter, no_waiter, waits, wants, earlier, blocks, edge, victim, unexpected, bad_number, notice, finish, join, leave, send_page, abort, informed, write, archive, inform, inform_from, install, serve_now, join_read, join_write, join_commit, commit_now, unlist, open_call, mark_busy, answered, open_ask, loosen, accept, ask, serve_read, concerned, calls_from, call, grant_page, grant_object, install_waiter, start, server_step, heed}
use Rattle.line.specs.Line.{World, Call, fresh, act, run}
use Rattle.line.specs.Pass.{Atomic, beside, Causal, if_keeps, step_keeps, step_causal, met_keeps}
use Rattle.line.specs.Rest.{Victim, victim_is}
use Rattle.line.specs.All.{All, all_append, all_map}
use Rattle.line.specs.Runs.{Moves, act_moves, run_keeps}
use Rattle.line.specs.Apart.{Apart, ApartIn, age_counts, atomic_apart, accept_apart, apart_step, apart_moves, apart_run}

-- AGES DIFFER: those of unfinished transactions, and kept ones, in every run

pub ages_differ : (kinds : ℕ → ℕ) (cs : List Call) (i j : ℕ) → i < 8 → j < 8 → i ≢ j → (let s = (run cs (fresh kinds)).server in age_counts (s.fin i) (s.age_kept i) ≡ true → age_counts (s.fin j) (s.age_kept j) ≡ true → s.age i ≢ s.age j)
ages_differ kinds cs i j b c n p q e = n ((apart_run kinds cs).aged.ages_apart i j b c p q e)

-- WHAT A STEP DOES TO AN AGE: nothing, or it gives the counter's to a station that keeps none

-- the pass leaves ages
abbrev AgesAre : ((ℕ → ℕ) → Type 0) → Serving → Type 0
AgesAre P x = P x.server.age

module _ (P : (ℕ → ℕ) → Type 0) where
  informs_ages : (n k i : ℕ) (w : Work) (x : Serving) → AgesAre P x → AgesAre P (inform_from n k i w x)
  unfolding inform_from inform
  informs_ages zero k i w x h = h
  informs_ages (suc n) k i w x h = informs_ages n (suc k) i w (inform i w k x) (if_keeps (AgesAre P) (informed x.server i w k) (λ e. h) (λ e. h))

  install_ages : (i : ℕ) (w : Work) (x : Serving) → AgesAre P x → AgesAre P (install i w x)
  unfolding install finish archive write leave
  install_ages i w x h = informs_ages 8 0 i w _ h

  atomic_ages : Atomic (AgesAre P)
  unfolding abort finish ask serve_read send_page leave call grant_object grant_page install_waiter
  atomic_ages =
      record {
        aborts = λ i c x b t k. k;
        asks = λ i h p x b t u k. k;
        reads = λ i x b w c k. k;
        calls = λ i x b t u w c k. k;
        objects = λ i x b w r k. k;
        pages = λ i x b w r e k. k;
        installs = λ i x b w f r k. install_ages i (x.server.queue i).work x k;
      }

-- P holds of station j's age whether it stays or is the counter's, given to j as to the sender of a message
pub record AgeBy (P : ℕ → Type 0) (i j : ℕ) (s : Server) : Type 0 where
  pub stays : P (s.age j)
  pub given : j ≡ i → s.age_kept j ≡ false → P s.ages

module _ (P : ℕ → Type 0) (i j : ℕ) where
  abbrev AgeIs : Serving → Type 0
  AgeIs x = P (x.server.age j)

  noticed_age : (t : ℕ) (x : Serving) → AgeBy P i j x.server → AgeIs (notice i t x)
  unfolding notice
  noticed_age t x h =
      let s : Server = x.server in
      if_keeps AgeIs (eqb t (s.latest i)) (λ e. h.stays)
      (λ e.
      by_eq j i
      (λ q.
      rw (q, ← eqb_yes j i q)
      (by_b (s.age_kept j) (λ k. rw k h.stays) (λ k. rw k (h.given (eqb_yes j i q) k))))
      (λ q. rw q h.stays))

  accept_age : (m : Up) (x : Serving) → AgeBy P i j x.server → AgeIs (accept i m x)
  unfolding accept join_read join_write join_commit join serve_now send_page commit_now abort finish leave unlist mark_busy answered loosen heed
  accept_age (ReadRequest a t) x h = if_keeps AgeIs (locking (x.server.kind i)) (λ e. noticed_age t x h) (λ e. noticed_age t x h)
  accept_age (WriteRequest p t set) x h = noticed_age t x h
  accept_age (Commit w) x h =
      let g : AgeIs (notice i w.transaction x) = noticed_age w.transaction x h in
      if_keeps AgeIs (locking (x.server.kind i))
      (λ e. if_keeps AgeIs (eqb (notice i w.transaction x).server.last last_number) (λ q. g) (λ q. install_ages (λ A. P (A j)) i w (notice i w.transaction x) g))
      (λ e. g)
  accept_age (Abort t) x h = noticed_age t x h
  accept_age (Purge p) x h = h.stays
  accept_age (Busy r t) x h = if_keeps AgeIs (open_call x.server i r t) (λ e. h.stays) (λ e. h.stays)
  accept_age (Done r t d) x h = if_keeps AgeIs (open_call x.server i r t) (λ e. h.stays) (λ e. h.stays)
  accept_age (WrittenSet p t set) x h = if_keeps AgeIs (open_ask x.server i p t) (λ e. met_keeps AgeIs i t x (noticed_age t x h) h.stays) (λ e. h.stays)

  pub step_age : (m : Up) (s : Server) → AgeBy P i j s → P ((server_step i m s).server.age j)
  step_age m s h = step_keeps AgeIs (atomic_ages (λ A. P (A j))) i m s (accept_age m (start s) h)

-- A KEPT AGE STAYS, AND NOBODY COMES TO BE OLDER

-- between two servers: v is as old as it was, and who is older than v now was so before, by the same age
pub record Ranked (v : ℕ) (s t : Server) : Type 0 where
  pub same : t.age v ≡ s.age v
  pub elders : (j : ℕ) → j < 8 → t.age j < t.age v → (s.age j < s.age v) × (t.age j ≡ s.age j)

ranked_same : (v : ℕ) (s : Server) → Ranked v s s
ranked_same v s = record { same = refl; elders = λ j b e. (e, refl) }

ranked_on : {v : ℕ} {s t u : Server} → Ranked v s t → Ranked v t u → Ranked v s u
ranked_on a b =
    record {
      same = b.same ∙ a.same;
      elders = λ j l e. let p = b.elders j l e in let q = a.elders j l p.0 in (q.0, p.1 ∙ q.1);
    }

-- what the sender's message leaves, and the whole step: v kept its age before
module _ (i v : ℕ) (s : Server) (b : v < 8) (h : Apart s) (k : s.age_kept v ≡ true) where
  own : AgeBy (λ a. a ≡ s.age v) i v s
  own = record { stays = refl; given = λ e n. absurd (false≢true (sym n ∙ k)) }

  others : (j : ℕ) → AgeBy (λ a. a < s.age v → (s.age j < s.age v) × (a ≡ s.age j)) i j s
  others j = record { stays = λ e. (e, refl); given = λ q n e. absurd (omega (arith, h.aged.ages_given v b)) }

  pub accept_ranked : (m : Up) → Ranked v s (accept i m (start s)).server
  accept_ranked m =
      let e = accept_age (λ a. a ≡ s.age v) i v m (start s) own in
      record { same = e; elders = λ j l q. accept_age _ i j m (start s) (others j) (rw e at q) }

  pub step_ranked : (m : Up) → Ranked v s (server_step i m s).server
  step_ranked m =
      let e = step_age (λ a. a ≡ s.age v) i v m s own in
      record { same = e; elders = λ j l q. step_age _ i j m s (others j) (rw e at q) }

-- one call of a run
ranked_moves : (v : ℕ) (s₀ : Server) → v < 8 → s₀.age_kept v ≡ true → Moves (λ s t u d. Apart s × (s ≡ s₀)) (λ s t u d. Ranked v s₀ s)
ranked_moves v s₀ b k =
    record {
      rests = λ s t u d h. rw h.1 (ranked_same v s₀);
      owner = λ i op s t u d h. rw h.1 (ranked_same v s₀);
      server = λ i m l s t u d c e n h. rw h.1 (step_ranked i v s₀ b (rw h.1 at h.0) k m);
      station = λ i m l s t u d e h. rw h.1 (ranked_same v s₀);
    }

-- v keeps its age from a world on, through every call
abbrev pub KeepsThrough : ℕ → List Call → World → Type 0
KeepsThrough v [] w = Unit {0}
KeepsThrough v (c ∷ cs) w = (w.server.age_kept v ≡ true) × KeepsThrough v cs (act c w).world

ranked_from : (v : ℕ) → v < 8 → (cs : List Call) (w : World) → Apart w.server → KeepsThrough v cs w → Ranked v w.server (run cs w).server
unfolding run
ranked_from v b [] w h k = ranked_same v w.server
ranked_from v b (c ∷ cs) w h k =
    let w' : World = (act c w).world in
    let one : Ranked v w.server w'.server = act_moves _ _ (ranked_moves v w.server b k.0) c w (h, refl) in
    ranked_on one (ranked_from v b cs w' (act_moves (λ s t u d. Apart s) (λ s t u d. Apart s) apart_moves c w h) k.1)

-- "keeps its age for its next transactions": in every run, as long as it is kept, it does not rise, and nobody comes to be older
pub kept_age : (kinds : ℕ → ℕ) (before cs : List Call) (v : ℕ) → v < 8 → (let w = run before (fresh kinds) in KeepsThrough v cs w → Ranked v w.server (run cs w).server)
kept_age kinds before cs v b k = ranked_from v b cs (run before (fresh kinds)) (apart_run kinds before) k

-- NOBODY WAITS FOR ITSELF: it owes itself no 7, and sends itself no 6

abbrev pub Others : (ℕ → Waiter) → Type 0
Others queue = (i : ℕ) → ((queue i).pend i ≡ false) × ((queue i).busy i ≡ false)

abbrev OthersIn : Serving → Type 0
OthersIn x = Others x.server.queue

changed_others : (queue : ℕ → Waiter) → Others queue → (i : ℕ) (w : Waiter) → w.pend i ≡ false → w.busy i ≡ false → Others (upd queue i w)
changed_others queue h i w p q j = by_eq j i (λ e. rw (e, eqb_yes j i e) (p, q)) (λ e. rw e (h j))

informs_others : (n k i : ℕ) (w : Work) (x : Serving) → OthersIn x → OthersIn (inform_from n k i w x)
unfolding inform_from inform
informs_others zero k i w x h = h
informs_others (suc n) k i w x h = informs_others n (suc k) i w (inform i w k x) (if_keeps OthersIn (informed x.server i w k) (λ e. h) (λ e. h))

left_others : (i : ℕ) (x : Serving) → OthersIn x → Others (upd x.server.queue i no_waiter)
left_others i x h = changed_others x.server.queue h i no_waiter refl refl

install_others : (i : ℕ) (w : Work) (x : Serving) → OthersIn x → OthersIn (install i w x)
unfolding install finish archive write leave
install_others i w x h = informs_others 8 0 i w _ (left_others i x h)

atomic_others : Atomic OthersIn
unfolding abort finish ask serve_read send_page leave call grant_object grant_page install_waiter
atomic_others =
    record {
      aborts = λ i c x b t k. left_others i x k;
      asks = λ i h p x b t u k. k;
      reads = λ i x b w c k. left_others i x k;
      calls = λ i x b t u w c k. changed_others x.server.queue k i _ (rw (eqb_same i) refl) (k i).1;
      objects = λ i x b w r k. left_others i x k;
      pages = λ i x b w r e k. left_others i x k;
      installs = λ i x b w f r k. install_others i (x.server.queue i).work x k;
    }

noticed_others : (i t : ℕ) (x : Serving) → OthersIn x → OthersIn (notice i t x)
unfolding notice
noticed_others i t x h = if_keeps OthersIn (eqb t (x.server.latest i)) (λ e. h) (λ e. h)

accept_others : (i : ℕ) (m : Up) (x : Serving) → OthersIn x → OthersIn (accept i m x)
unfolding accept join_read join_write join_commit join serve_now send_page commit_now abort finish leave unlist mark_busy answered loosen heed
accept_others i (ReadRequest a t) x h =
    let y : Serving = notice i t x in
    let g : OthersIn y = noticed_others i t x h in
    if_keeps OthersIn (locking (x.server.kind i)) (λ e. changed_others y.server.queue g i _ refl refl) (λ e. g)
accept_others i (WriteRequest p t set) x h = changed_others (notice i t x).server.queue (noticed_others i t x h) i _ refl refl
accept_others i (Commit w) x h =
    let y : Serving = notice i w.transaction x in
    let g : OthersIn y = noticed_others i w.transaction x h in
    if_keeps OthersIn (locking (x.server.kind i))
    (λ e. if_keeps OthersIn (eqb y.server.last last_number) (λ q. left_others i y g) (λ q. install_others i w y g))
    (λ e. changed_others y.server.queue g i _ refl refl)
accept_others i (Abort t) x h = noticed_others i t x h
accept_others i (Purge p) x h = h
accept_others i (Busy r t) x h =
    if_keeps OthersIn (open_call x.server i r t)
    (λ e.
    let owed : (x.server.queue r).pend i ≡ true = and_r (waits x.server r && eqb t (x.server.latest r)) _ e in
    changed_others x.server.queue h r _ (h r).0
    (by_eq r i (λ q. absurd (false≢true (sym (h r).0 ∙ (rw (← eqb_yes r i q) at owed)))) (λ q. rw q (h r).1)))
    (λ e. h)
accept_others i (Done r t d) x h =
    if_keeps OthersIn (open_call x.server i r t)
    (λ e. changed_others x.server.queue h r _ (by_eq r i (λ q. rw q refl) (λ q. rw q (h r).0)) (by_eq r i (λ q. rw q refl) (λ q. rw q (h r).1)))
    (λ e. h)
accept_others i (WrittenSet p t set) x h = if_keeps OthersIn (open_ask x.server i p t) (λ e. met_keeps OthersIn i t x (noticed_others i t x h) h) (λ e. h)

others_moves : Moves (λ s t u d. Others s.queue) (λ s t u d. Others s.queue)
others_moves =
    record {
      rests = λ s t u d h. h;
      owner = λ i op s t u d h. h;
      server = λ i m l s t u d b e n h. step_keeps OthersIn atomic_others i m s (accept_others i m (start s) h);
      station = λ i m l s t u d e h. h;
    }

pub others_run : (kinds : ℕ → ℕ) (cs : List Call) → Others (run cs (fresh kinds)).server.queue
others_run kinds cs = run_keeps (λ s t u d. Others s.queue) others_moves cs (fresh kinds) (λ i. (refl, refl))

-- so no edge runs from a station to itself
self_blocks : (s : Server) (i a : ℕ) → blocks s i a i ≡ false
self_blocks s i a =
    let before : ltb (s.queue i).arrival (s.queue i).arrival ≡ false =
    by_b (ltb (s.queue i).arrival (s.queue i).arrival) (λ e. absurd (omega (arith, ltb_yes (s.queue i).arrival (s.queue i).arrival e))) (λ e. e) in
    rw (eqb_same i, before) (none (eqb (s.ol a) (suc i)) (waits s i))
  where
    none : (p q : Bool) → ((p && false) || ((q && false) && wants s i a && ((s.queue i).writes a || (s.queue i).writes a))) ≡ false
    none true true = refl
    none true false = refl
    none false true = refl
    none false false = refl

pub no_self : (s : Server) → Others s.queue → (i : ℕ) → edge s i i ≡ true → ⊥
no_self s h i e =
    or_yes ((s.queue i).busy i) (any 256 (λ a. wants s i a && blocks s i a i)) (and_r (waits s i) _ e)
    (λ t. false≢true (sym (h i).1 ∙ t))
    (λ t. let z = any_some 256 (λ a. wants s i a && blocks s i a i) t in false≢true (sym (self_blocks s i z.0) ∙ and_r (wants s i z.0) _ z.2))

-- WHO GETS CAUSE 1

-- the last edge of a path
last_edge : {n : ℕ} {e : ℕ → ℕ → Bool} {i j : ℕ} → Path n e i j → (e i j ≡ true) ⊎ ((k : ℕ) × (k < n) × Path n e i k × (e k j ≡ true))
last_edge (Last a b t) = inl t
last_edge {n} {e} (Then {i} {j} {k} a t p) = split (last_edge p)
  where
    split : (e j k ≡ true) ⊎ ((h : ℕ) × (h < n) × Path n e j h × (e h k ≡ true)) → (e i k ≡ true) ⊎ ((h : ℕ) × (h < n) × Path n e i h × (e h k ≡ true))
    split (inl u) = inr (j, path_from p, Last a (path_from p) t, u)
    split (inr z) = inr (z.0, z.1, Then a t z.2, z.3)

-- a transaction beside v's that is unfinished and older, when F says which are finished and A is the ages
pub record Older (F : ℕ → Bool) (A : ℕ → ℕ) (v : ℕ) : Type 0 where
  pub who : ℕ
  pub station : who < 8
  pub another : who ≢ v
  pub unfinished : F who ≡ false
  pub older : A who < A v

-- the victim: somebody on its cycle waits for it, and is older
pub victim_younger : (s : Server) → Apart s → Others s.queue → (v : ℕ) → v < 8 → waits s v ≡ true → victim s ≡ v → Older s.fin s.age v
victim_younger s h o v b t e = split (last_edge w.cycle)
  where
    w : Victim s v
    w = victim_is s v e b

    open_at : (k : ℕ) → k < 8 → waits s k ≡ true → s.fin k ≡ false
    open_at k l u = (h.waiting.entry k l).waits_open u

    split : (edge s v v ≡ true) ⊎ ((k : ℕ) × (k < 8) × Path 8 (edge s) v k × (edge s k v ≡ true)) → Older s.fin s.age v
    split (inl u) = absurd (no_self s o v u)
    split (inr z) =
        let k : ℕ = z.0 in
        let apart : k ≢ v = λ q. no_self s o v (rw q at z.3) in
        let f : s.fin k ≡ false = open_at k z.1 (and_l (waits s k) _ z.3) in
        let g : s.fin v ≡ false = open_at v b t in
        let differ : s.age k ≢ s.age v = λ q. apart (h.aged.ages_apart k v z.1 b (rw f refl) (rw g refl) q) in
        let most : s.age k ≤ s.age v = w.youngest_of k z.1 (Then z.1 z.3 z.2) in
        record { who = k; station = z.1; another = apart; unfinished = f; older = omega (arith, differ, most) }

-- Q holds of whom a message gives cause 1
abbrev pub Beaten : (ℕ → Type 0) → Sent → Type 0
Beaten Q (To v (Page l a t n u x)) = Unit {0}
Beaten Q (To v (Deescalate p t)) = Unit {0}
Beaten Q (To v (Callback r t set)) = Unit {0}
Beaten Q (To v (Committed t n)) = Unit {0}
Beaten Q (To v (Aborted t c)) = c ≡ 1 → Q v
Beaten Q (To v (Invalidate d)) = Unit {0}

pub beaten_as : {Q R : ℕ → Type 0} → ((v : ℕ) → Q v → R v) → (m : Sent) → Beaten Q m → Beaten R m
beaten_as f (To v (Page l a t n u x)) h = tt
beaten_as f (To v (Deescalate p t)) h = tt
beaten_as f (To v (Callback r t set)) h = tt
beaten_as f (To v (Committed t n)) h = tt
beaten_as f (To v (Aborted t c)) h = λ e. f v (h e)
beaten_as f (To v (Invalidate d)) h = tt

module _ (Q : ℕ → Type 0) where
  abbrev BeatenIn : Serving → Type 0
  BeatenIn x = All (Beaten Q) x.sent

  more : (l : List Sent) (m : Sent) → Beaten Q m → All (Beaten Q) l → All (Beaten Q) (l ++ (m ∷ []))
  more l m q h = all_append (Beaten Q) l (m ∷ []) h (q, tt)

  informs_beaten : (n k i : ℕ) (w : Work) (x : Serving) → BeatenIn x → BeatenIn (inform_from n k i w x)
  unfolding inform_from inform
  informs_beaten zero k i w x h = h
  informs_beaten (suc n) k i w x h = informs_beaten n (suc k) i w (inform i w k x) (if_keeps BeatenIn (informed x.server i w k) (λ e. more x.sent _ tt h) (λ e. h))

  install_beaten : (i : ℕ) (w : Work) (x : Serving) → BeatenIn x → BeatenIn (install i w x)
  unfolding install finish archive write leave
  install_beaten i w x h = informs_beaten 8 0 i w _ (more x.sent _ tt h)

  abort_beaten : (i c : ℕ) (x : Serving) → (c ≡ 1 → Q i) → BeatenIn x → BeatenIn (abort i c x)
  unfolding abort finish leave
  abort_beaten i c x q h = more x.sent _ q h

  calls_beaten : (n k : ℕ) (s : Server) (i : ℕ) → All (Beaten Q) (calls_from n k s i)
  calls_beaten zero k s i = tt
  calls_beaten (suc n) k s i =
      let rest : All (Beaten Q) (calls_from n (suc k) s i) = calls_beaten n (suc k) s i in by_b (concerned s i k) (λ e. rw e (tt, rest)) (λ e. rw e rest)

  noticed_beaten : (i t : ℕ) (x : Serving) → BeatenIn x → BeatenIn (notice i t x)
  unfolding notice
  noticed_beaten i t x h = if_keeps BeatenIn (eqb t (x.server.latest i)) (λ e. h) (λ e. h)

  accept_beaten : (i : ℕ) (m : Up) (x : Serving) → BeatenIn x → BeatenIn (accept i m x)
  unfolding accept join_read join_write join_commit join serve_now send_page commit_now finish unlist mark_busy answered loosen heed
  accept_beaten i (ReadRequest a t) x h = let g = noticed_beaten i t x h in if_keeps BeatenIn (locking (x.server.kind i)) (λ e. g) (λ e. more (notice i t x).sent (To i (Page _ _ _ _ _ _)) tt g)
  accept_beaten i (WriteRequest p t set) x h = noticed_beaten i t x h
  accept_beaten i (Commit w) x h =
      let y : Serving = notice i w.transaction x in
      let g : BeatenIn y = noticed_beaten i w.transaction x h in
      if_keeps BeatenIn (locking (x.server.kind i))
      (λ e. if_keeps BeatenIn (eqb y.server.last last_number) (λ q. abort_beaten i 4 y (λ z. absurd (omega arith)) g) (λ q. install_beaten i w y g))
      (λ e. g)
  accept_beaten i (Abort t) x h = noticed_beaten i t x h
  accept_beaten i (Purge p) x h = h
  accept_beaten i (Busy r t) x h = if_keeps BeatenIn (open_call x.server i r t) (λ e. h) (λ e. h)
  accept_beaten i (Done r t d) x h = if_keeps BeatenIn (open_call x.server i r t) (λ e. h) (λ e. h)
  accept_beaten i (WrittenSet p t set) x h = if_keeps BeatenIn (open_ask x.server i p t) (λ e. met_keeps BeatenIn i t x (noticed_beaten i t x h) h) (λ e. h)

-- the pass finishes transactions and begins none
abbrev OpenIn : (ℕ → Bool) → Serving → Type 0
OpenIn F x = (j : ℕ) → x.server.fin j ≡ false → F j ≡ false

module _ (F : ℕ → Bool) where
  ended_open : (i : ℕ) (fin : ℕ → Bool) → ((j : ℕ) → fin j ≡ false → F j ≡ false) → (j : ℕ) → upd fin i true j ≡ false → F j ≡ false
  ended_open i fin h j e = by_eq j i (λ q. absurd (false≢true (sym (rw q at e)))) (λ q. h j (rw q at e))

  informs_open : (n k i : ℕ) (w : Work) (x : Serving) → OpenIn F x → OpenIn F (inform_from n k i w x)
  unfolding inform_from inform
  informs_open zero k i w x h = h
  informs_open (suc n) k i w x h = informs_open n (suc k) i w (inform i w k x) (if_keeps (OpenIn F) (informed x.server i w k) (λ e. h) (λ e. h))

  atomic_open : Atomic (OpenIn F)
  unfolding abort finish ask serve_read send_page leave call grant_object grant_page install_waiter install archive write
  atomic_open =
      record {
        aborts = λ i c x b t k. ended_open i x.server.fin k;
        asks = λ i h p x b t u k. k;
        reads = λ i x b w c k. k;
        calls = λ i x b t u w c k. k;
        objects = λ i x b w r k. k;
        pages = λ i x b w r e k. k;
        installs = λ i x b w f r k. informs_open 8 0 i (x.server.queue i).work _ (ended_open i x.server.fin k);
      }

-- a step under way behind its message's own effect, which left F unfinished with the ages A
module _ (F : ℕ → Bool) (A : ℕ → ℕ) where
  abbrev Stands : Serving → Type 0
  Stands x = ApartIn x × (OthersIn x × (AgesAre (λ B. B ≡ A) x × OpenIn F x))

  abbrev Standing : Serving → Type 0
  Standing x = Stands x × BeatenIn (Older F A) x

  atomic_stands : Atomic Stands
  atomic_stands = beside atomic_apart (beside atomic_others (beside (atomic_ages (λ B. B ≡ A)) (atomic_open F)))

  -- the victim of a moment is the younger of two that the message's effect left unfinished
  older_then : (x : Serving) → Stands x → (v : ℕ) → v < 8 → waits x.server v ≡ true → victim x.server ≡ v → Older F A v
  older_then x k v b t e =
      older_as v x.server.fin x.server.age k.1.1.1 k.1.1.0 (victim_younger x.server k.0 k.1.0 v b t e)
    where
      older_as : (u : ℕ) (G : ℕ → Bool) (B : ℕ → ℕ) → ((j : ℕ) → G j ≡ false → F j ≡ false) → B ≡ A → Older G B u → Older F A u
      older_as u G B f a o =
          record { who = o.who; station = o.station; another = o.another; unfinished = f o.who o.unfinished; older = rw a at o.older }

  causal_standing : Causal Standing
  unfolding ask serve_read send_page leave call grant_object grant_page install_waiter
  causal_standing =
      let s = atomic_stands in
      record {
        faults = λ i c x b t n k. (s.aborts i c x b t k.0, abort_beaten (Older F A) i c x (λ e. absurd (n e)) k.1);
        victims = λ v x b t e k. (s.aborts v 1 x b t k.0, abort_beaten (Older F A) v 1 x (λ _. older_then x k.0 v b t e) k.1);
        asks = λ i h p x b t u k. (s.asks i h p x b t u k.0, more (Older F A) x.sent _ tt k.1);
        reads = λ i x b w c k. (s.reads i x b w c k.0, more (Older F A) x.sent _ tt k.1);
        calls = λ i x b t u w c k.
            (s.calls i x b t u w c k.0, all_append (Beaten (Older F A)) x.sent (calls_from 8 0 x.server i) k.1 (calls_beaten (Older F A) 8 0 x.server i));
        objects = λ i x b w r k. (s.objects i x b w r k.0, more (Older F A) x.sent _ tt k.1);
        pages = λ i x b w r e k. (s.pages i x b w r e k.0, more (Older F A) x.sent _ tt k.1);
        installs = λ i x b w f r k. (s.installs i x b w f r k.0, install_beaten (Older F A) i (x.server.queue i).work x k.1);
      }

-- every 22 with cause 1 that a step sends, from a server whose ages differ
module _ (i : ℕ) (m : Up) (s : Server) (b : i < 8) (u : unexpected i m s ≡ false) (h : Apart s) (o : Others s.queue) where
  abbrev met : Server
  met = (accept i m (start s)).server

  pub step_beaten : All (Beaten (Older met.fin met.age)) (server_step i m s).sent
  step_beaten =
      (step_causal (Standing met.fin met.age) (causal_standing met.fin met.age) i m s
      ((accept_apart i m (start s) b u h, (accept_others i m (start s) o, (refl, λ j e. e))), accept_beaten (Older met.fin met.age) i m (start s) tt)).1

-- WHAT THE WISH IS FOR

-- a step of the server that a run takes: message m of station i, from the world w
pub record Taken (i : ℕ) (m : Up) (w : World) : Type 0 where
  pub station : i < 8
  pub rest : List Up
  pub first : w.up i ≡ m ∷ rest
  pub expected : unexpected i m w.server ≡ false

-- the server as that message's own effect leaves it, before the list is passed
abbrev pub noted : ℕ → Up → World → Server
noted i m w = (accept i m (start w.server)).server

abbrev pub sent_at : ℕ → Up → World → List Sent
sent_at i m w = (server_step i m w.server).sent

module _ (kinds : ℕ → ℕ) (cs : List Call) (i : ℕ) (m : Up) (t : Taken i m (run cs (fresh kinds))) where
  abbrev here : World
  here = run cs (fresh kinds)

  -- whoever gets cause 1 has another transaction beside it, unfinished and older
  pub beaten_by_older : All (Beaten (Older (noted i m here).fin (noted i m here).age)) (sent_at i m here)
  beaten_by_older = step_beaten i m here.server t.station t.expected (apart_run kinds cs) (others_run kinds cs)

  -- so nobody does who is older than all other unfinished ones
  pub oldest_never_beaten : (v : ℕ) → ((j : ℕ) → j < 8 → j ≢ v → (noted i m here).fin j ≡ false → (noted i m here).age v < (noted i m here).age j) → All (Beaten (λ k. k ≢ v)) (sent_at i m here)
  oldest_never_beaten v oldest =
      all_map (Beaten (Older (noted i m here).fin (noted i m here).age)) (Beaten (λ k. k ≢ v))
      (beaten_as (λ k o e. let a = rw e at o.older in absurd (omega (arith, oldest o.who o.station (λ q. o.another (q ∙ sym e)) o.unfinished))))
      (sent_at i m here) beaten_by_older

-- a transaction that is older than v's now, and was so, by the same age, at the world w
pub record Elder (w : World) (F : ℕ → Bool) (A : ℕ → ℕ) (v : ℕ) : Type 0 where
  pub now : Older F A v
  pub same_age : A now.who ≡ w.server.age now.who
  pub before : w.server.age now.who < w.server.age v

-- v keeps its age from a world of a run on; whenever it is beaten, then by a transaction whose age was older already there
module _ (kinds : ℕ → ℕ) (before cs : List Call) (v : ℕ) (b : v < 8) where
  abbrev from : World
  from = run before (fresh kinds)

  pub beaten_by_elder : (i : ℕ) (m : Up) → KeepsThrough v cs from → (run cs from).server.age_kept v ≡ true → Taken i m (run cs from) → let s = noted i m (run cs from) in All (Beaten (λ k. k ≡ v → Elder from s.fin s.age v)) (sent_at i m (run cs from))
  beaten_by_elder i m k e t =
      let w : World = run cs from in
      let s : Server = noted i m w in
      let h : Apart w.server = run_keeps (λ s t u d. Apart s) apart_moves cs from (apart_run kinds before) in
      let r : Ranked v from.server s = ranked_on (kept_age kinds before cs v b k) (accept_ranked i v w.server b h e m) in
      all_map (Beaten (Older s.fin s.age)) (Beaten (λ u. u ≡ v → Elder from s.fin s.age v))
      (beaten_as (λ u o q. elder s r (rw q at o)))
      (sent_at i m w) (step_beaten i m w.server t.station t.expected h (run_keeps (λ s t u d. Others s.queue) others_moves cs from (others_run kinds before)))
    where
      elder : (s : Server) → Ranked v from.server s → Older s.fin s.age v → Elder from s.fin s.age v
      elder s r o = let p = r.elders o.who o.station o.older in record { now = o; same_age = p.1; before = p.0 }
