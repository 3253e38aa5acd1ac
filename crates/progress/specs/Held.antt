-- Where the pass rests: why each waiter still waits. It is blocked, or the 8 of a page that it wants is awaited, or a 7 is.
use Rattle.std.specs.Prelude.{◌≡◌, refl, Bool, true, false, not, ◌&&◌, cond, List, [], ◌∷◌, ℕ, zero, suc, ◌+◌, ◌≤◌, ◌<◌, eqb, length}
use Rattle.std.proofs.Common.{sym, ap, ◌∙◌, arith}
use Rattle.std.proofs.lemmas.Bool.{false≢true}
use Rattle.sets.specs.Base.{any}
use Rattle.sets.specs.Laws.{by_b, by_eq}
use Rattle.sets.proofs.Laws.{eqb_yes, eqb_no, not_no}
use Rattle.line.specs.Server.{Server, Serving, Want, NoWant, WantRead, WantWrite, WantCommit, is_want, waits, abort, ask, ask_from, holder, serve_read, call, call_once, grant, install_waiter, all_answered, after_calls, proceed, gates, visit, blocked, shut, shut_kept, stale, fault, out_of_time, judge, ask_keepers, order, pass, start}
use Rattle.line.specs.Messages.{last_number}
use Rattle.line.specs.Pass.{order_8, All8}
use Rattle.line.specs.Order.{ArrivalsApart, times, ordered}
use Rattle.line.specs.Rest.{Still, Sends, abort_sends, ask_sends, read_sends, grant_sends, waiter_sends, call_sends, once_longer, asks_still, keepers_still, gates_still, judge_still, visit_still, pass_still, AtRest}

-- the reasons; a commit that waits has no fault
pub data Held (s : Server) (i : ℕ) : Type 0 where
  Blocked : blocked s i ≡ true → Held s i
  Asking : blocked s i ≡ false → any 32 (shut s i) ≡ true → ((p : ℕ) → p < 32 → shut s i p ≡ true → s.asked p ≡ true) → Held s i
  Unanswered : blocked s i ≡ false → any 32 (shut s i) ≡ false → ((s.queue i).want ≡ WantRead → ⊥) → (s.queue i).called ≡ true → all_answered s i ≡ false → Held s i

pub record Rested (s : Server) (i : ℕ) : Type 0 where
  pub held : Held s i
  pub faultless : (s.queue i).want ≡ WantCommit → fault s i ≡ 0
  pub keepers : (p : ℕ) → p < 32 → shut_kept s i p ≡ true → s.asked p ≡ true  -- a keeping station was asked for its page at once

-- A TURN THAT SENDS NOTHING

abbrev Silent : Serving → Serving → Type 0
Silent x y = length y.sent ≤ length x.sent

loud : {G : Type 0} (x y : Serving) → Sends x y → Silent x y → G
loud x y s h = absurd (omega arith)

-- every page from p on that is to be asked for was
all_asked : (d : Server → ℕ → ℕ → Bool) (n p i : ℕ) (x : Serving) → Silent x (ask_from d n p i x) → (q : ℕ) → p ≤ q → q < p + n → d x.server i q ≡ true → x.server.asked q ≡ true
unfolding ask_from
all_asked d zero p i x h q a b t = absurd (omega arith)
all_asked d (suc n) p i x h q a b t =
    let c : Bool = d x.server i p && not (x.server.asked p) in
    let y : Serving = ask (holder (x.server.wl p)) p x in
    let rest : Silent x (ask_from d n (suc p) i x) → suc p ≤ q → x.server.asked q ≡ true = λ e f. all_asked d n (suc p) i x e q f (omega arith) t in
    let more = (asks_still d n (suc p) i y).longer in
    let on : Silent x (ask_from d n (suc p) i (cond c y x)) = h in
    by_b c
    (λ e. let z : Silent x (ask_from d n (suc p) i y) = rw e at on in absurd (omega (arith, ask_sends (holder (x.server.wl p)) p x)))
    (λ e.
    by_eq q p
    (λ f.
    let t' : d x.server i p ≡ true = rw (eqb_yes q p f) at t in
    rw (eqb_yes q p f) (not_no (x.server.asked p) (rw t' at e)))
    (λ f. rest (rw e at on) (omega (arith, eqb_no q p f))))

keepers_asked : (i : ℕ) (x : Serving) → Silent x (ask_keepers i x) → (p : ℕ) → p < 32 → shut_kept x.server i p ≡ true → x.server.asked p ≡ true
unfolding ask_keepers
keepers_asked i x h p b t = all_asked shut_kept 32 0 i x h p (omega arith) (omega arith) t

-- a turn that sends nothing asks nobody at once, and goes on from where it was
module _ (i : ℕ) (x : Serving) (f : Serving → Serving) (s : Still (ask_keepers i x) (f (ask_keepers i x))) (h : Silent x (f (ask_keepers i x))) where
  keepers_silent : Silent x (ask_keepers i x)
  keepers_silent = omega (arith, s.longer)

  keepers_same : ask_keepers i x ≡ x
  keepers_same = (keepers_still i x).same (omega (arith, (keepers_still i x).longer, keepers_silent))

  goes_on : Silent x (f x)
  goes_on = rw keepers_same at h

-- causes 4 and 2 are faults
late_fault : (s : Server) (i : ℕ) → out_of_time s i ≡ true → eqb (fault s i) 0 ≡ false
late_fault s i e =
    by_b (eqb s.last last_number) (λ a. rw a refl)
    (λ a. by_b (stale s (s.queue i).work) (λ b. rw (a, b) refl) (λ b. absurd (false≢true (rw (a, b) at e))))

in_time : (s : Server) (i : ℕ) → fault s i ≡ 0 → out_of_time s i ≡ false
in_time s i e = by_b (out_of_time s i) (λ t. absurd (false≢true (sym (late_fault s i t) ∙ rw e refl))) (λ t. t)

-- whoever has called, and has not all answers
turn_held : (i : ℕ) (x : Serving) (f : Serving → Serving) → ((y : Serving) → Sends y (f y)) → Silent x (cond (all_answered (call_once i x).server i) (f (call_once i x)) (call_once i x)) → ((x.server.queue i).called ≡ true) × (all_answered x.server i ≡ false)
unfolding call_once
turn_held i x f g h =
    let y : Serving = call_once i x in
    by_b (all_answered y.server i)
    (λ e. let z : Silent x (f y) = rw e at h in let a = g y in let b = once_longer i x in absurd (omega arith))
    (λ e.
    let z : Silent x y = rw e at h in
    by_b (x.server.queue i).called (λ c. (c, rw c at e)) (λ c. loud x (call i x) (call_sends i x (rw c at e)) (rw c at z)))

gates_held : (v : Want) (i : ℕ) (x : Serving) → Silent x (gates v i x) → (blocked x.server i ≡ false → any 32 (shut x.server i) ≡ false → Silent x (proceed v i x) → Held x.server i) → Held x.server i
unfolding gates
gates_held v i x h g =
    by_b (blocked x.server i) (λ e. Blocked e)
    (λ e.
    by_b (any 32 (shut x.server i))
    (λ f. Asking e f (λ p b t. all_asked shut 32 0 i x (rw (e, f) at h) p (omega arith) (omega arith) t))
    (λ f. g e f (rw (e, f) at h)))

judge_held : (i : ℕ) (x : Serving) → (x.server.queue i).want ≡ WantCommit → Silent x (judge i x) → Held x.server i × (fault x.server i ≡ 0)
unfolding judge proceed after_calls
judge_held i x e h =
    let c : ℕ = fault x.server i in
    by_b (eqb c 0)
    (λ f. (
      gates_held WantCommit i x (rw f at h) (λ a b d. let z = turn_held i x (install_waiter i) (waiter_sends i) d in Unanswered a b (λ g. never (sym e ∙ g)) z.0 z.1),
      eqb_yes c 0 f,
    ))
    (λ f. loud x (abort i c x) (abort_sends i c x) (rw f at h))
  where
    never : WantCommit ≡ WantRead → ⊥
    never f = let z : ◌≡◌ {A = ℕ} 0 1 = cc in absurd (omega arith)

visit_held : (v : Want) (i : ℕ) (x : Serving) → (x.server.queue i).want ≡ v → is_want v ≡ true → Silent x (visit v i x) → Rested x.server i
unfolding visit proceed after_calls
visit_held NoWant i x e w h = absurd (false≢true w)
visit_held WantRead i x e w h =
    let s = gates_still WantRead i (ask_keepers i x) in
    record {
      held = gates_held WantRead i x (goes_on i x (gates WantRead i) s h) (λ a b c. loud x (serve_read i x) (read_sends i x) c);
      faultless = λ f. never (sym e ∙ f);
      keepers = keepers_asked i x (keepers_silent i x (gates WantRead i) s h);
    }
  where
    never : {G : Type 0} → WantRead ≡ WantCommit → G
    never f = let z : ◌≡◌ {A = ℕ} 0 1 = cc in absurd (omega arith)
visit_held WantWrite i x e w h =
    let s = gates_still WantWrite i (ask_keepers i x) in
    record {
      held = gates_held WantWrite i x (goes_on i x (gates WantWrite i) s h) (λ a b c. let z = turn_held i x (grant i) (grant_sends i) c in Unanswered a b (λ f. never (sym e ∙ f)) z.0 z.1);
      faultless = λ f. other (sym e ∙ f);
      keepers = keepers_asked i x (keepers_silent i x (gates WantWrite i) s h);
    }
  where
    never : WantWrite ≡ WantRead → ⊥
    never f = let z : ◌≡◌ {A = ℕ} 0 1 = cc in absurd (omega arith)

    other : {G : Type 0} → WantWrite ≡ WantCommit → G
    other f = let z : ◌≡◌ {A = ℕ} 0 1 = cc in absurd (omega arith)
visit_held WantCommit i x e w h =
    by_b (out_of_time x.server i)
    (λ t. absurd (false≢true (sym (late_fault x.server i t) ∙ (rw (judge_held i x e (rw t at h)).1 refl))))
    (λ t.
    let h' : Silent x (judge i (ask_keepers i x)) = rw t at h in
    let s = judge_still i (ask_keepers i x) in
    let z = judge_held i x e (goes_on i x (judge i) s h') in
    record { held = z.0; faultless = λ g. z.1; keepers = keepers_asked i x (keepers_silent i x (judge i) s h') })

-- A PASS THAT CHANGES NOTHING: no turn of it does

each_silent : (l : List ℕ) (x : Serving) → Silent x (pass l x) → (i : ℕ) → 1 ≤ times i l → Silent x (visit (x.server.queue i).want i x)
unfolding pass
each_silent [] x h i t = absurd (omega arith)
each_silent (k ∷ l) x h i t =
    let y : Serving = visit (x.server.queue k).want k x in
    let s : Still x y = visit_still (x.server.queue k).want k x in
    let more = (pass_still l y).longer in
    let on : Silent x (pass l y) = h in
    let same : y ≡ x = s.same (omega arith) in
    let rest : 1 ≤ times i l → Silent x (visit (x.server.queue i).want i x) = λ n. each_silent l x (rw same at on) i n in
    by_eq i k (λ e. rw (eqb_yes i k e) (omega arith)) (λ e. rest (omega (arith, rw e at t)))

-- so each waiter has its reason
pub rested : (x : Serving) → ArrivalsApart x.server → pass (order 8 0 x.server) x ≡ x → (i : ℕ) → i < 8 → waits x.server i ≡ true → Rested x.server i
rested x a e i b t =
    let l : List ℕ = order 8 0 x.server in
    let z = (ordered x.server a).all i b t in
    let n = ap (λ (y : Serving). length y.sent) e in
    visit_held (x.server.queue i).want i x refl t (each_silent l x (omega arith) i (omega arith))

-- .. and where each has, a pass changes nothing, whatever was sent before

asked_still : (d : Server → ℕ → ℕ → Bool) (n p i : ℕ) (x : Serving) → p + n ≤ 32 → ((q : ℕ) → q < 32 → d x.server i q ≡ true → x.server.asked q ≡ true) → ask_from d n p i x ≡ x
unfolding ask_from
asked_still d zero p i x b h = refl
asked_still d (suc n) p i x b h =
    let c : (d x.server i p && not (x.server.asked p)) ≡ false =
    by_b (d x.server i p) (λ t. rw (t, h p (omega arith) t) refl) (λ t. rw t refl) in
    rw c (asked_still d n (suc p) i x (omega arith) h)

none_to_ask : (i : ℕ) (x : Serving) → Rested x.server i → ask_keepers i x ≡ x
unfolding ask_keepers
none_to_ask i x h = asked_still shut_kept 32 0 i x (omega arith) h.keepers

held_gates : (v : Want) (i : ℕ) (x : Serving) → Held x.server i → (((x.server.queue i).want ≡ WantRead → ⊥) → (x.server.queue i).called ≡ true → all_answered x.server i ≡ false → proceed v i x ≡ x) → gates v i x ≡ x
unfolding gates
held_gates v i x (Blocked a) g = rw a refl
held_gates v i x (Asking a b h) g = rw (a, b) (asked_still shut 32 0 i x (omega arith) h)
held_gates v i x (Unanswered a b n c h) g = rw (a, b) (g n c h)

held_still : (v : Want) (i : ℕ) (x : Serving) → (x.server.queue i).want ≡ v → Rested x.server i → visit v i x ≡ x
unfolding visit judge proceed after_calls call_once
held_still NoWant i x e h = refl
held_still WantRead i x e h = rw (none_to_ask i x h) (held_gates WantRead i x h.held (λ n c f. absurd (n e)))
held_still WantWrite i x e h = rw (none_to_ask i x h) (held_gates WantWrite i x h.held (λ n c f. rw (c, f) refl))
held_still WantCommit i x e h =
    rw (in_time x.server i (h.faultless e), none_to_ask i x h, h.faultless e) (held_gates WantCommit i x h.held (λ n c f. rw (c, f) refl))

-- who does not wait has no turn
turn_still : (v : Want) (i : ℕ) (x : Serving) → (x.server.queue i).want ≡ v → (waits x.server i ≡ true → Rested x.server i) → visit v i x ≡ x
unfolding visit
turn_still NoWant i x e h = refl
turn_still WantRead i x e h = held_still WantRead i x e (h (ap is_want e))
turn_still WantWrite i x e h = held_still WantWrite i x e (h (ap is_want e))
turn_still WantCommit i x e h = held_still WantCommit i x e (h (ap is_want e))

pub held_pass : (l : List ℕ) (x : Serving) → All8 l → ((i : ℕ) → i < 8 → waits x.server i ≡ true → Rested x.server i) → pass l x ≡ x
unfolding pass
held_pass [] x a h = refl
held_pass (i ∷ l) x a h = rw (turn_still (x.server.queue i).want i x refl (h i a.0)) (held_pass l x a.1 h)

-- a server is at rest, whatever the step sent
pub rest_start : (y : Serving) → ArrivalsApart y.server → AtRest y → AtRest (start y.server)
rest_start y a h =
    record { passed = held_pass (order 8 0 y.server) (start y.server) (order_8 8 0 y.server) (rested y a h.passed); acyclic = h.acyclic }
