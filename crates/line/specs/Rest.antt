-- Where a server step ends: a further pass changes nothing, and no cycle of edges is left. And who goes when there is one:
-- "the youngest in any cycle".
use Rattle.std.specs.Prelude.{◌≡◌, refl, Bool, true, false, not, ◌&&◌, ◌||◌, cond, List, [], ◌∷◌, ℕ, zero, suc, ◌+◌, ◌≤◌, ◌<◌, eqb, ltb, length}
use Rattle.std.proofs.Common.{sym, ap, subst, ◌∙◌, arith, length-append}
use Rattle.std.proofs.lemmas.Bool.{false≢true}
use Rattle.sets.specs.Base.{any, nowhere, memo}
use Rattle.sets.specs.Laws.{by_b, by_eq, or_yes}
use Rattle.sets.proofs.Laws.{eqb_same, eqb_yes, eqb_no, ltb_yes, ltb_no, and_l, and_r, and_both, or_no, not_no, any_some, memo_is}
use Rattle.sets.specs.Reach.{Path, on_cycle}
use Rattle.sets.proofs.Reach.{on_cycle_lem, cycle_found, path_edge, path_by}
use Rattle.line.specs.Messages.{page_of, Up, Work, Committed}
use Rattle.line.specs.Server.{Server, Serving, ByCommit, send, Want, NoWant, WantRead, WantWrite, WantCommit, waits, abort, finish, leave, send_page, write, archive, informed, inform, inform_from, install, ask, ask_from, holder, serve_read, concerned, calls_from, call, call_once, hinders, grant_page, grant_object, grant, install_waiter, all_answered, after_calls, proceed, gates, visit, blocked, shut, fault, order, pass, edge, edges, youngest, victim, moved, settle, fuel, accept, start, server_step, shut_kept, ask_keepers, out_of_time, judge}
use Rattle.line.specs.Pass.{if_keeps, young_8, victim_waits}
use Rattle.line.specs.Fuel.{cost, cost_56, Falls, pass_falls, abort_less}

-- what is sent is never taken back, and if nothing is sent nothing changes
pub record Still (x y : Serving) : Type 0 where
  pub longer : length x.sent ≤ length y.sent
  pub same : length y.sent ≤ length x.sent → y ≡ x

unmoved : (x : Serving) → Still x x
unmoved x = record { longer = omega arith; same = λ h. refl }

after : (x y z : Serving) → Still x y → Still y z → Still x z
after x y z a b =
    let l = a.longer in
    let m = b.longer in
    record { longer = omega arith; same = λ h. b.same (omega arith) ∙ a.same (omega arith) }

-- an action sends something
abbrev pub Sends : Serving → Serving → Type 0
Sends x y = length x.sent + 1 ≤ length y.sent

sends : (x y : Serving) → Sends x y → Still x y
sends x y h = record { longer = omega arith; same = λ k. absurd (omega arith) }

pub abort_sends : (i c : ℕ) (x : Serving) → Sends x (abort i c x)
unfolding abort finish leave
abort_sends i c x = simp length-append (omega arith)

pub ask_sends : (h p : ℕ) (x : Serving) → Sends x (ask h p x)
unfolding ask
ask_sends h p x = simp length-append (omega arith)

pub read_sends : (i : ℕ) (x : Serving) → Sends x (serve_read i x)
unfolding serve_read send_page leave
read_sends i x = simp length-append (omega arith)

object_sends : (i : ℕ) (x : Serving) → Sends x (grant_object i x)
unfolding grant_object send_page leave
object_sends i x = simp length-append (omega arith)

page_sends : (i : ℕ) (x : Serving) → Sends x (grant_page i x)
unfolding grant_page send_page leave
page_sends i x = simp length-append (omega arith)

pub grant_sends : (i : ℕ) (x : Serving) → Sends x (grant i x)
unfolding grant
grant_sends i x = if_keeps (Sends x) (any 8 (hinders x.server i (page_of (x.server.queue i).req))) (λ e. object_sends i x) (λ e. page_sends i x)

inform_longer : (i : ℕ) (w : Work) (j : ℕ) (x : Serving) → length x.sent ≤ length (inform i w j x).sent
unfolding inform
inform_longer i w j x = if_keeps (λ y. length x.sent ≤ length y.sent) (informed x.server i w j) (λ e. simp length-append (omega arith)) (λ e. omega arith)

informs_longer : (n j i : ℕ) (w : Work) (x : Serving) → length x.sent ≤ length (inform_from n j i w x).sent
unfolding inform_from
informs_longer zero j i w x = omega arith
informs_longer (suc n) j i w x = omega (arith, inform_longer i w j x, informs_longer n (suc j) i w (inform i w j x))

install_sends : (i : ℕ) (w : Work) (x : Serving) → Sends x (install i w x)
unfolding install finish archive write leave
install_sends i w x =
    let y : Serving = finish i ByCommit (archive i w (write w (leave i x))) in
    let z : Serving = send y i (Committed w.transaction y.server.last) in
    omega (arith, simp length-append at (informs_longer 8 0 i w z))

pub waiter_sends : (i : ℕ) (x : Serving) → Sends x (install_waiter i x)
unfolding install_waiter
waiter_sends i x = install_sends i (x.server.queue i).work x

-- "send 20 .. to each": somebody is to be called, and somebody is
calls_some : (n j : ℕ) (s : Server) (i k : ℕ) → j ≤ k → k < j + n → concerned s i k ≡ true → 1 ≤ length (calls_from n j s i)
calls_some zero j s i k a b t = absurd (omega arith)
calls_some (suc n) j s i k a b t =
    let rest : suc j ≤ k → 1 ≤ length (calls_from n (suc j) s i) = λ c. calls_some n (suc j) s i k c (omega arith) t in
    by_b (concerned s i j) (λ e. rw e (omega arith))
    (λ e. rw e (rest (by_eq k j (λ q. absurd (false≢true (sym e ∙ rw (← eqb_yes k j q) t))) (λ q. omega (arith, eqb_no k j q)))))

call_length : (i : ℕ) (x : Serving) → length (call i x).sent ≡ length x.sent + length (calls_from 8 0 x.server i)
unfolding call
call_length i x = length-append x.sent (calls_from 8 0 x.server i)

call_pend : (i : ℕ) (x : Serving) → ((call i x).server.queue i).pend ≡ concerned x.server i
unfolding call
call_pend i x = rw (eqb_same i) refl

-- a call that leaves somebody to answer was sent
pub call_sends : (i : ℕ) (x : Serving) → all_answered (call i x).server i ≡ false → Sends x (call i x)
call_sends i x h =
    let k : any 8 (concerned x.server i) ≡ true = not_no (any 8 (concerned x.server i)) (rw (call_pend i x) at h) in
    let z = any_some 8 (concerned x.server i) k in
    omega (arith, call_length i x, calls_some 8 0 x.server i z.0 (omega arith) (omega (arith, z.1)) z.2)

pub once_longer : (i : ℕ) (x : Serving) → length x.sent ≤ length (call_once i x).sent
unfolding call_once
once_longer i x =
    if_keeps (λ y. length x.sent ≤ length y.sent) (x.server.queue i).called (λ e. omega arith) (λ e. omega (arith, call_length i x))

once_still : (i : ℕ) (x : Serving) → all_answered (call_once i x).server i ≡ false → Still x (call_once i x)
unfolding call_once
once_still i x =
    if_keeps (λ y. all_answered y.server i ≡ false → Still x y) (x.server.queue i).called (λ e h. unmoved x)
    (λ e h. sends x (call i x) (call_sends i x h))

-- so a turn that calls, and grants or installs when all have answered, sends if it changes anything
turn_still : (i : ℕ) (x : Serving) (f : Serving → Serving) → ((y : Serving) → Sends y (f y)) → Still x (cond (all_answered (call_once i x).server i) (f (call_once i x)) (call_once i x))
turn_still i x f h =
    let y : Serving = call_once i x in
    if_keeps (Still x) (all_answered y.server i) (λ e. sends x (f y) (omega (arith, once_longer i x, h y))) (λ e. once_still i x e)

proceed_still : (w : Want) (i : ℕ) (x : Serving) → Still x (proceed w i x)
unfolding proceed after_calls
proceed_still NoWant i x = unmoved x
proceed_still WantRead i x = sends x (serve_read i x) (read_sends i x)
proceed_still WantWrite i x = turn_still i x (grant i) (grant_sends i)
proceed_still WantCommit i x = turn_still i x (install_waiter i) (waiter_sends i)

pub asks_still : (d : Server → ℕ → ℕ → Bool) (n p i : ℕ) (x : Serving) → Still x (ask_from d n p i x)
unfolding ask_from
asks_still d zero p i x = unmoved x
asks_still d (suc n) p i x =
    let h : ℕ = holder (x.server.wl p) in
    let b : Bool = d x.server i p && not (x.server.asked p) in
    let y : Serving = cond b (ask h p x) x in
    after x y (ask_from d n (suc p) i y) (if_keeps (Still x) b (λ e. sends x (ask h p x) (ask_sends h p x)) (λ e. unmoved x)) (asks_still d n (suc p) i y)

pub keepers_still : (i : ℕ) (x : Serving) → Still x (ask_keepers i x)
unfolding ask_keepers
keepers_still i x = asks_still shut_kept 32 0 i x

pub gates_still : (w : Want) (i : ℕ) (x : Serving) → Still x (gates w i x)
unfolding gates
gates_still w i x =
    if_keeps (Still x) (blocked x.server i) (λ e. unmoved x)
    (λ e. if_keeps (Still x) (any 32 (shut x.server i)) (λ f. asks_still shut 32 0 i x) (λ f. proceed_still w i x))

pub judge_still : (i : ℕ) (x : Serving) → Still x (judge i x)
unfolding judge
judge_still i x =
    let c : ℕ = fault x.server i in
    if_keeps (Still x) (eqb c 0) (λ e. gates_still WantCommit i x) (λ e. sends x (abort i c x) (abort_sends i c x))

pub visit_still : (w : Want) (i : ℕ) (x : Serving) → Still x (visit w i x)
unfolding visit
visit_still NoWant i x = unmoved x
visit_still WantRead i x = let y : Serving = ask_keepers i x in after x y (gates WantRead i y) (keepers_still i x) (gates_still WantRead i y)
visit_still WantWrite i x = let y : Serving = ask_keepers i x in after x y (gates WantWrite i y) (keepers_still i x) (gates_still WantWrite i y)
visit_still WantCommit i x =
    let y : Serving = cond (out_of_time x.server i) x (ask_keepers i x) in
    after x y (judge i y) (if_keeps (Still x) (out_of_time x.server i) (λ e. unmoved x) (λ e. keepers_still i x)) (judge_still i y)

pub pass_still : (l : List ℕ) (x : Serving) → Still x (pass l x)
unfolding pass
pass_still [] x = unmoved x
pass_still (i ∷ l) x = let y : Serving = visit (x.server.queue i).want i x in after x y (pass l y) (visit_still (x.server.queue i).want i x) (pass_still l y)

-- a pass that sends nothing leaves everything equal
pub still : (l : List ℕ) (x : Serving) → moved x (pass l x) ≡ false → pass l x ≡ x
still l x h =
    let y : Serving = pass l x in
    let e : length x.sent ≡ length y.sent = eqb_yes (length x.sent) (length y.sent) (not_no (eqb (length x.sent) (length y.sent)) h) in
    (pass_still l x).same (omega arith)

-- whoever passes the test, one of them is chosen, and none of them is younger
young_most : (n : ℕ) (c : ℕ → Bool) (age : ℕ → ℕ) → n ≤ 8 → (j : ℕ) → j < n → c j ≡ true → (youngest n c age < 8) × (age j ≤ age (youngest n c age))
young_most zero c age h j b t = absurd (omega arith)
young_most (suc n) c age h j b t =
    let r : ℕ = youngest n c age in
    let rest : j < n → (r < 8) × (age j ≤ age r) = λ d. young_most n c age (omega arith) j d t in
    let at : eqb j n ≡ true → c n ≡ true = λ q. rw (eqb_yes j n q) at t in
    by_b (c n && (eqb r 8 || ltb (age r) (age n)))
    (λ u. rw u (
      omega arith,
      by_eq j n (λ q. rw (eqb_yes j n q) (omega arith))
          (λ q.
          let z = rest (omega (arith, eqb_no j n q)) in
          or_yes (eqb r 8) (ltb (age r) (age n)) (and_r (c n) _ u) (λ v. absurd (omega (arith, eqb_yes r 8 v, z.0))) (λ v. omega (arith, ltb_yes (age r) (age n) v, z.1))),
    ))
    (λ u. rw u
    (by_eq j n
    (λ q.
    let z = or_no (eqb r 8) (ltb (age r) (age n)) (rw (at q) at u) in
    let w = young_8 n c age (omega arith) z.0 in
    (w.0, rw (eqb_yes j n q) (ltb_no (age r) (age n) z.1)))
    (λ q. rest (omega (arith, eqb_no j n q)))))

young_is : (n : ℕ) (c : ℕ → Bool) (age : ℕ → ℕ) (v : ℕ) → n ≤ 8 → youngest n c age ≡ v → v < 8 → (c v ≡ true) × ((j : ℕ) → j < n → c j ≡ true → age j ≤ age v)
young_is n c age v h e b =
    let out : eqb (youngest n c age) 8 ≡ false = by_eq (youngest n c age) 8 (λ q. absurd (omega (arith, eqb_yes (youngest n c age) 8 q))) (λ q. q) in
    (rw e at (young_8 n c age h out).1, λ j a t. rw e at (young_most n c age h j a t).1)

-- the table of edges is the edges
edges_is : (s : Server) (i j : ℕ) → i < 8 → j < 8 → edges s i j ≡ edge s i j
edges_is s i j a b = ap (λ f. f j) (memo_is 8 nowhere (λ k. memo 8 false (edge s k)) i a) ∙ memo_is 8 false (edge s i) j b

abbrev cyclic : Server → ℕ → Bool
cyclic s i = waits s i && on_cycle 8 (edges s) i

-- edges run from waiters, so the test finds every cycle, and only those
cycle_in : (s : Server) (j : ℕ) → Path 8 (edge s) j j → cyclic s j ≡ true
cycle_in s j p =
    let z = path_edge p in
    and_both (waits s j) (on_cycle 8 (edges s) j) (and_l (waits s j) _ z.2) (cycle_found (path_by (λ a b c d t. edges_is s a b c d ∙ t) p))

cycle_out : (s : Server) (j : ℕ) → j < 8 → cyclic s j ≡ true → Path 8 (edge s) j j
cycle_out s j b t = path_by (λ a c d f u. sym (edges_is s a c d f) ∙ u) (on_cycle_lem 8 (edges s) j b (and_r (waits s j) (on_cycle 8 (edges s) j) t))

-- "the youngest in any cycle": it is on a cycle, and none on any cycle is younger
pub record Victim (s : Server) (v : ℕ) : Type 0 where
  pub cycle : Path 8 (edge s) v v
  pub youngest_of : (j : ℕ) → j < 8 → Path 8 (edge s) j j → s.age j ≤ s.age v

pub victim_is : (s : Server) (v : ℕ) → victim s ≡ v → v < 8 → Victim s v
victim_is s v e b =
    let u = young_is 8 (cyclic s) s.age v (omega arith) e b in
    record { cycle = cycle_out s v b u.0; youngest_of = λ j c p. u.1 j c (cycle_in s j p) }

-- if nobody is chosen there is no cycle
pub no_victim : (s : Server) → victim s ≡ 8 → (j : ℕ) → j < 8 → Path 8 (edge s) j j → ⊥
no_victim s e j b p = omega (arith, (young_most 8 (cyclic s) s.age (omega arith) j b (cycle_in s j p)).0)

-- a further pass changes nothing, and no cycle of edges is left
pub record AtRest (y : Serving) : Type 0 where
  pub passed : pass (order 8 0 y.server) y ≡ y
  pub acyclic : (j : ℕ) → j < 8 → Path 8 (edge y.server) j j → ⊥

stops : (x : Serving) → moved x (pass (order 8 0 x.server) x) ≡ false → victim (pass (order 8 0 x.server) x).server ≡ 8 → AtRest (pass (order 8 0 x.server) x)
stops x h v =
    let e : pass (order 8 0 x.server) x ≡ x = still (order 8 0 x.server) x h in
    record { passed = subst (λ (z : Serving). pass (order 8 0 z.server) z ≡ z) (sym e) e; acyclic = no_victim (pass (order 8 0 x.server) x).server v }

-- with fuel above the cost, `settle` stops only there
settle_rests : (n : ℕ) (x : Serving) → cost x.server < n → AtRest (settle n x)
unfolding settle
settle_rests zero x b = absurd (omega arith)
settle_rests (suc n) x b =
    let y : Serving = pass (order 8 0 x.server) x in
    let f : Falls x y = pass_falls x in
    let fn = f.never in
    let v : ℕ = victim y.server in
    let again : moved x y ≡ true → AtRest (settle n y) = λ e. let l = f.less e in settle_rests n y (omega arith) in
    let next : eqb v 8 ≡ false → AtRest (settle n (abort v 1 y)) =
    λ e. let u = victim_waits y.server e in let l = abort_less v 1 y u.0 u.1 in settle_rests n (abort v 1 y) (omega arith) in
    if_keeps AtRest (moved x y) again (λ e. if_keeps AtRest (eqb v 8) (λ g. stops x e (eqb_yes v 8 g)) next)

-- so after a server step, from every server state and for every message
pub rests : (i : ℕ) (m : Up) (s : Server) → AtRest (server_step i m s)
unfolding server_step
rests i m s = let x : Serving = accept i m (start s) in let c = cost_56 x.server in settle_rests fuel x (omega arith)
