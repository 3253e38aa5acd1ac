-- Who is sent 22 with cause 1: nobody by a message's own effect, nobody by a turn of the pass.
use Rattle.std.specs.Prelude.{◌≡◌, refl, Bool, false, not, ◌&&◌, cond, List, [], ◌∷◌, ◌++◌, ℕ, zero, suc, eqb}
use Rattle.std.proofs.Common.{ap, ◌∙◌}
use Rattle.sets.specs.Base.{any}
use Rattle.sets.specs.Laws.{by_b}
use Rattle.line.specs.Messages.{page_of, last_number, locking, Work, Up, ReadRequest, WriteRequest, Commit, Abort, Purge, Busy, Done, WrittenSet, NoLock, ObjectLock, WholeLock, Down, Page, Deescalate, Callback, Committed, Aborted, Invalidate, Sent, To}
use Rattle.line.specs.Server.{ByCommit, Server, Serving, send, Want, NoWant, WantRead, WantWrite, WantCommit, notice, finish, join, leave, send_page, abort, write, archive, informed, inform, inform_from, install, serve_now, join_read, join_write, join_commit, commit_now, unlist, open_call, mark_busy, answered, open_ask, loosen, accept, ask, ask_from, holder, serve_read, concerned, calls_from, call, call_once, hinders, grant_page, grant_object, grant, install_waiter, all_answered, after_calls, proceed, gates, visit, blocked, shut, stale, locked, fault, pass, heed, shut_kept, out_of_time, judge, ask_keepers}
use Rattle.line.specs.Pass.{if_keeps, met_keeps}
use Rattle.truth.proofs.Frame.{append_nil, append_assoc, noticed_sent}

-- who is sent 22 with cause 1, in the order sent
abbrev pub beaten_by : Sent → List ℕ
beaten_by (To i (Page l a t v u x)) = []
beaten_by (To i (Deescalate p t)) = []
beaten_by (To i (Callback r t set)) = []
beaten_by (To i (Committed t n)) = []
beaten_by (To i (Aborted t c)) = cond (eqb c 1) (i ∷ []) []
beaten_by (To i (Invalidate d)) = []

abbrev pub beaten : List Sent → List ℕ
beaten [] = []
beaten (m ∷ l) = beaten_by m ++ beaten l

pub beaten_append : (l k : List Sent) → beaten (l ++ k) ≡ beaten l ++ beaten k
beaten_append [] k = refl
beaten_append (m ∷ l) k = ap (λ r. beaten_by m ++ r) (beaten_append l k) ∙ append_assoc (beaten_by m) (beaten l) (beaten k)

-- NO TURN SENDS ONE

abbrev pub Same : Serving → Serving → Type 0
Same x y = beaten y.sent ≡ beaten x.sent

other : (l k : List Sent) → beaten k ≡ [] → beaten (l ++ k) ≡ beaten l
other l k e = beaten_append l k ∙ rw e (append_nil (beaten l))

abort_other : (i c : ℕ) (x : Serving) → eqb c 1 ≡ false → Same x (abort i c x)
unfolding abort finish leave
abort_other i c x e = other x.sent (To i (Aborted (x.server.latest i) c) ∷ []) (rw e refl)

ask_other : (h p : ℕ) (x : Serving) → Same x (ask h p x)
unfolding ask
ask_other h p x = other x.sent (To h (Deescalate p (x.server.whole_for p)) ∷ []) refl

read_other : (i : ℕ) (x : Serving) → Same x (serve_read i x)
unfolding serve_read send_page leave
read_other i x = other x.sent (To i (Page NoLock _ _ _ _ _) ∷ []) refl

grant_other : (i : ℕ) (x : Serving) → Same x (grant i x)
unfolding grant grant_object grant_page send_page leave
grant_other i x =
    if_keeps (Same x) (any 8 (hinders x.server i (page_of (x.server.queue i).req)))
    (λ e. other x.sent (To i (Page ObjectLock _ _ _ _ _) ∷ []) refl) (λ e. other x.sent (To i (Page WholeLock _ _ _ _ _) ∷ []) refl)

inform_other : (i : ℕ) (w : Work) (j : ℕ) (x : Serving) → Same x (inform i w j x)
unfolding inform
inform_other i w j x = if_keeps (Same x) (informed x.server i w j) (λ e. other x.sent (To j (Invalidate _) ∷ []) refl) (λ e. refl)

informs_other : (n j i : ℕ) (w : Work) (x : Serving) → Same x (inform_from n j i w x)
unfolding inform_from
informs_other zero j i w x = refl
informs_other (suc n) j i w x = informs_other n (suc j) i w (inform i w j x) ∙ inform_other i w j x

install_other : (i : ℕ) (w : Work) (x : Serving) → Same x (install i w x)
unfolding install finish archive write leave
install_other i w x =
    let y : Serving = finish i ByCommit (archive i w (write w (leave i x))) in
    let m : Down = Committed w.transaction y.server.last in
    informs_other 8 0 i w (send y i m) ∙ other x.sent (To i m ∷ []) refl

calls_none : (n j : ℕ) (s : Server) (i : ℕ) → beaten (calls_from n j s i) ≡ []
calls_none zero j s i = refl
calls_none (suc n) j s i = let rest = calls_none n (suc j) s i in by_b (concerned s i j) (λ e. rw e rest) (λ e. rw e rest)

once_other : (i : ℕ) (x : Serving) → Same x (call_once i x)
unfolding call_once call
once_other i x = if_keeps (Same x) (x.server.queue i).called (λ e. refl) (λ e. other x.sent (calls_from 8 0 x.server i) (calls_none 8 0 x.server i))

turn_other : (i : ℕ) (x : Serving) (f : Serving → Serving) → ((y : Serving) → Same y (f y)) → Same x (cond (all_answered (call_once i x).server i) (f (call_once i x)) (call_once i x))
turn_other i x f h = if_keeps (Same x) (all_answered (call_once i x).server i) (λ e. h (call_once i x) ∙ once_other i x) (λ e. once_other i x)

proceed_other : (v : Want) (i : ℕ) (x : Serving) → Same x (proceed v i x)
unfolding proceed after_calls install_waiter
proceed_other NoWant i x = refl
proceed_other WantRead i x = read_other i x
proceed_other WantWrite i x = turn_other i x (grant i) (grant_other i)
proceed_other WantCommit i x = turn_other i x (install_waiter i) (λ y. install_other i (y.server.queue i).work y)

asks_other : (d : Server → ℕ → ℕ → Bool) (n p i : ℕ) (x : Serving) → Same x (ask_from d n p i x)
unfolding ask_from
asks_other d zero p i x = refl
asks_other d (suc n) p i x =
    let b : Bool = d x.server i p && not (x.server.asked p) in
    asks_other d n (suc p) i (cond b (ask (holder (x.server.wl p)) p x) x) ∙ if_keeps (Same x) b (λ e. ask_other (holder (x.server.wl p)) p x) (λ e. refl)

gates_other : (v : Want) (i : ℕ) (x : Serving) → Same x (gates v i x)
unfolding gates
gates_other v i x = if_keeps (Same x) (blocked x.server i) (λ e. refl) (λ e. if_keeps (Same x) (any 32 (shut x.server i)) (λ f. asks_other shut 32 0 i x) (λ f. proceed_other v i x))

-- a fault is 2, 3 or 4
fault_other : (s : Server) (i : ℕ) → eqb (fault s i) 1 ≡ false
fault_other s i =
    by_b (eqb s.last last_number) (λ a. rw a refl)
    (λ a. by_b (stale s (s.queue i).work) (λ b. rw (a, b) refl) (λ b. by_b (locked s i) (λ c. rw (a, b, c) refl) (λ c. rw (a, b, c) refl)))

keepers_other : (i : ℕ) (x : Serving) → Same x (ask_keepers i x)
unfolding ask_keepers
keepers_other i x = asks_other shut_kept 32 0 i x

judge_other : (i : ℕ) (x : Serving) → Same x (judge i x)
unfolding judge
judge_other i x =
    if_keeps (Same x) (eqb (fault x.server i) 0) (λ e. gates_other WantCommit i x) (λ e. abort_other i (fault x.server i) x (fault_other x.server i))

visit_other : (v : Want) (i : ℕ) (x : Serving) → Same x (visit v i x)
unfolding visit
visit_other NoWant i x = refl
visit_other WantRead i x = gates_other WantRead i (ask_keepers i x) ∙ keepers_other i x
visit_other WantWrite i x = gates_other WantWrite i (ask_keepers i x) ∙ keepers_other i x
visit_other WantCommit i x =
    judge_other i (cond (out_of_time x.server i) x (ask_keepers i x)) ∙ if_keeps (Same x) (out_of_time x.server i) (λ e. refl) (λ e. keepers_other i x)

pub pass_other : (l : List ℕ) (x : Serving) → Same x (pass l x)
unfolding pass
pass_other [] x = refl
pass_other (i ∷ l) x = pass_other l (visit (x.server.queue i).want i x) ∙ visit_other (x.server.queue i).want i x

-- .. nor does a message's own effect
commit_other : (i : ℕ) (w : Work) (x : Serving) → Same x (commit_now i w x)
unfolding commit_now
commit_other i w x = if_keeps (Same x) (eqb x.server.last last_number) (λ e. abort_other i 4 x refl) (λ e. install_other i w x)

pub accept_other : (i : ℕ) (m : Up) (x : Serving) → Same x (accept i m x)
unfolding accept join_read join_write join_commit join serve_now send_page finish unlist mark_busy answered loosen heed
accept_other i (ReadRequest a t) x =
    if_keeps (Same x) (locking (x.server.kind i)) (λ e. ap beaten (noticed_sent i t x)) (λ e. other (notice i t x).sent (To i (Page NoLock _ _ _ _ _) ∷ []) refl ∙ ap beaten (noticed_sent i t x))
accept_other i (WriteRequest p t set) x = ap beaten (noticed_sent i t x)
accept_other i (Commit w) x =
    let n = ap beaten (noticed_sent i w.transaction x) in
    if_keeps (Same x) (locking (x.server.kind i)) (λ e. commit_other i w (notice i w.transaction x) ∙ n) (λ e. n)
accept_other i (Abort t) x = ap beaten (noticed_sent i t x)
accept_other i (Purge p) x = refl
accept_other i (Busy r t) x = if_keeps (Same x) (open_call x.server i r t) (λ e. refl) (λ e. refl)
accept_other i (Done r t d) x = if_keeps (Same x) (open_call x.server i r t) (λ e. refl) (λ e. refl)
accept_other i (WrittenSet p t set) x = if_keeps (Same x) (open_ask x.server i p t) (λ e. met_keeps (Same x) i t x (ap beaten (noticed_sent i t x)) refl) (λ e. refl)
