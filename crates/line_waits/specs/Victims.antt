-- VICTIMS: whoever is sent 22 with cause 1 was on a cycle of the waits-for edges of the server's state at that moment, and was not the
-- oldest there.
use Rattle.std.specs.Prelude.{ℕ, zero, suc, ◌<◌, ◌≡◌, Bool, false, cond, List, [], ◌∷◌, eqb, length, get_or}
use Rattle.std.proofs.Math.Path.{refl}
use Rattle.std.proofs.Common.{sym, ap, subst, ◌∙◌}
use Rattle.std.proofs.Math.Bool.{true}
use Rattle.sets.specs.Reach.{Path}
use Rattle.sets.proofs.Reach.{path_by, path_from}
use Rattle.cells.specs.Upd.{cond_rel, branch_rel}
use Rattle.line.specs.Messages.{Up, Down, Aborted, Sent, To}
use Rattle.line.specs.Server.{Server, edge, victim, order, pass, moved, abort, fuel, accept, start, server_step, unexpected}
use Rattle.line.specs.Server as Model
use Rattle.line.specs.Pass.{order_8}
use Rattle.line.specs.Bounds.{step_128}
use Rattle.line.specs.Truth.{In, here, there}
use Rattle.line.specs.Line.{World, Call, run, fresh}
use Rattle.progress.specs.Victims.{Beaten, choices}
use Rattle.progress.specs.Victims as Model4
use Rattle.jams.specs.Taken.{taken_up}
use Rattle.jams.specs.Jams.{orderly}
use Rattle.message.specs.Layout.{kind_of, station_of, transaction_of, cause_of}
use Rattle.message_meaning.specs.Meant.{down_of, up_of}
use Rattle.message_meaning.proofs.KindsLaws.{down_22}
use Rattle.server_state.specs.Layout.{age_of}
use Rattle.server_state.specs.Valid.{kinds_ok}
use Rattle.server_state.specs.Facts.{kinds_length}
use Rattle.server_tests.specs.Tests.{edge_b}
use Rattle.server_sets.specs.Sets as Bytes
use Rattle.server_order.specs.Order.{victim_b}
use Rattle.server_meaning.specs.Meant.{Is}
use Rattle.server_meaning.specs.Tests.{Wanting}
use Rattle.server_meaning.proofs.Tests.{age_at}
use Rattle.server_meaning.proofs.Sets.{edge_set_lem}
use Rattle.server_meaning.proofs.Order.{victim_at}
use Rattle.server_actions.specs.Actions.{Serving, serving, abort_b, accept_b}
use Rattle.server_actions.specs.Pass.{order_b, pass_b, moved_b, server_step_b}
use Rattle.server_actions.specs.Step.{laid, server_called, check_step_b}
use Rattle.server_actions.specs.Step as ServerCall
use Rattle.server_host.specs.Host.{served_length}
use Rattle.step_meaning.specs.Relation.{ReadAs, Serves}
use Rattle.step_meaning.proofs.Pass.{order_at, pass_means, moved_at, victim_means}
use Rattle.line_bytes.specs.Bytes.{WorldB, fresh_b}
use Rattle.line_bytes.specs.Simulates.{Sim, lent, check_is, accepts, serves}
use Rattle.line_bytes.specs.Served.{messages_are}
use Rattle.line_bytes.specs.Ready.{Ready, ready_of_run}
use Rattle.line_bytes.specs.Truth.{found}
use Rattle.line_host.specs.Line.{CallH, AllFitH, fresh_h, run_h, server_hosted, posted_in}
use Rattle.line_host.specs.Same.{plains_of, plains_fit, run_same, server_found}
use Rattle.line_host.specs.Runs.{model_calls, hosts_simulate}
use Rattle.line_waits.specs.Jams.{EnoughServer, head_up, at_least}

-- v is on a cycle of edges, and not the oldest there: edges lead from it to one that is older, and from that one back
pub record BeatenB (s : List ℕ) (v : ℕ) : Type 0 where
  pub elder : ℕ
  pub forth : Path 8 (edge_b s) v elder
  pub back : Path 8 (edge_b s) elder v
  pub older : age_of s elder < age_of s v

-- "When the pass rests and edges form a cycle": the step as it stands whenever `settleB` chooses a victim
unfoldable pub choices_b : ℕ → Serving → List Serving
choices_b zero x = []
choices_b (suc n) x =
    let y = pass_b (order_b x.state 8 0) x in
    let v = victim_b y.state in
    cond (moved_b x y) (choices_b n y) (cond (eqb v 8) [] (y ∷ choices_b n (abort_b v 1 y)))

-- .. of a step on this message
abbrev pub choices_of : List ℕ → List ℕ → List Serving
choices_of m s = choices_b 64 (accept_b m (serving s [] []))

-- THE SAME CHOICES over the line's definitions

abbrev AllServe : List Serving → List Model.Serving → Type 0
AllServe [] [] = Unit {0}
AllServe [] (x ∷ xs) = ⊥
AllServe (b ∷ bs) [] = ⊥
AllServe (b ∷ bs) (x ∷ xs) = Serves b x × AllServe bs xs

-- a round of the pass over the list js
abbrev choose_b : ℕ → List ℕ → Serving → List Serving
choose_b n js b =
    let y = pass_b js b in
    cond (moved_b b y) (choices_b n y) (cond (eqb (victim_b y.state) 8) [] (y ∷ choices_b n (abort_b (victim_b y.state) 1 y)))

abbrev choose : ℕ → List ℕ → Model.Serving → List Model.Serving
choose n js x =
    let y = pass js x in
    cond (moved x y) (choices n y) (cond (eqb (victim y.server) 8) [] (y ∷ choices n (abort (victim y.server) 1 y)))

-- after a pass: p and q whether it moved, v and u the victim, or 8
after_pass : {c : Serving} {y : Model.Serving} (n v u : ℕ) (p q : Bool) → p ≡ q → v ≡ u → Serves c y → AllServe (choices_b n c) (choices n y)
    → (eqb u 8 ≡ false → AllServe (choices_b n (abort_b u 1 c)) (choices n (abort u 1 y)))
    → AllServe (cond p (choices_b n c) (cond (eqb v 8) [] (c ∷ choices_b n (abort_b v 1 c)))) (cond q (choices n y) (cond (eqb u 8) [] (y ∷ choices n (abort u 1 y))))
after_pass n v u p q e f h k g = rw f (cond_rel AllServe p q e k (branch_rel AllServe (eqb u 8) (λ _. tt) (λ w. (h, g w))))

choose_means : {b : Serving} {x : Model.Serving} (n : ℕ) (js : List ℕ) → Serves b x → Serves (pass_b js b) (pass js x)
    → ((c : Serving) (y : Model.Serving) → Serves c y → AllServe (choices_b n c) (choices n y)) → AllServe (choose_b n js b) (choose n js x)
choose_means {b} {x} n js h k again =
    after_pass n (victim_b (pass_b js b).state) (victim (pass js x).server) (moved_b b (pass_b js b)) (moved x (pass js x)) (moved_at h k) (victim_at k.state k.wanting) k (again _ _ k)
    (λ e. again _ _ (victim_means k e))

choices_mean : {b : Serving} {x : Model.Serving} (n : ℕ) → Serves b x → AllServe (choices_b n b) (choices n x)
unfolding choices_b choices
choices_mean zero h = tt
choices_mean {b} {x} (suc n) h =
    let js = order 8 0 x.server in
    subst (λ (l : List ℕ). AllServe (choose_b n l b) (choose n js x)) (sym (order_at h.state h.wanting))
    (choose_means n js h (pass_means js (order_8 8 0 x.server) h) (λ c y k. choices_mean n k))

-- one of them, over bytes
record At (bs : List Serving) (x : Model.Serving) : Type 0 where
  it : Serving
  there_is : In it bs
  serves : Serves it x

found_at : {x : Model.Serving} {xs : List Model.Serving} → In x xs → (bs : List Serving) → AllServe bs xs → At bs x
found_at here [] h = absurd h
found_at here (b ∷ bs) h = record { it = b; there_is = here; serves = h.0 }
found_at (there k) [] h = absurd h
found_at (there k) (b ∷ bs) h = let f = found_at k bs h.1 in record { it = f.it; there_is = there f.there_is; serves = f.serves }

beaten_so : {s : List ℕ} {m : Server} (v : ℕ) → Is s m → Wanting s → Beaten m v → BeatenB s v
beaten_so {s} {m} v h k z =
    let same : (i j : ℕ) → i < 8 → j < 8 → edge m i j ≡ true → edge_b s i j ≡ true = λ i j li lj e. sym (Bytes.edge_set_lem s i j lj) ∙ edge_set_lem h k i j li lj ∙ e in
    record {
      elder = z.elder;
      forth = path_by same z.forth;
      back = path_by same z.back;
      older = rw (age_at h z.elder (path_from z.back), age_at h v (path_from z.forth)) z.older;
    }

-- THE CLAIM: x is a message of a step, 22 with cause 1 to station v; at one of the step's choices v was the victim, on a cycle and not the
-- oldest there
pub record VictimOf (m s : List ℕ) (v : ℕ) : Type 0 where
  pub choice : Serving
  pub there_is : In choice (choices_of m s)
  pub chosen : victim_b choice.state ≡ v
  pub beaten : BeatenB choice.state v

module _ (kinds : List ℕ) (ok : kinds_ok kinds ≡ true) (cs : List CallH) (f : AllFitH cs) where
  abbrev k : ℕ → ℕ
  k i = get_or kinds i 0

  abbrev b : WorldB
  b = (run_h cs (fresh_h kinds)).line

  abbrev calls : List Call
  calls = model_calls kinds cs

  -- for every step of a run on the first message of an up line, lent enough
  pub victims : (i : ℕ) → i < 8 → (m : List ℕ) (l : List (List ℕ)) → b.up i ≡ m ∷ l → (o q t : List ℕ) → EnoughServer o q t
      → (x : List ℕ) (v : ℕ) → In x (posted_in (server_hosted m b.server o q t)) → kind_of x ≡ 22 → cause_of x ≡ 1 → station_of x ≡ v → VictimOf m b.server v
  unfolding server_called
  victims i li m l e o q t n x v p k22 c1 to =
      let w = run calls (fresh k) in
      let h = hosts_simulate kinds ok cs f in
      let r : Ready b = rw (run_same cs (fresh_h kinds)) (ready_of_run kinds ok (plains_of cs) (plains_fit cs f)) in
      let u = head_up kinds i m l (w.up i) (rw e at (h.line.ups i)) in
      let ready : ServerCall.ready b.server o q ≡ true = r.server o q n.messages n.records in
      let t₁ = lent b.server o q ready in
      let right = taken_up w (orderly k calls) i li u.first u.rest u.is in
      let check : check_step_b m b.server ≡ 0 = check_is kinds (kinds_length kinds ok) i li b w o q m u.first u.reads t₁ h ∙ rw right refl in
      let s = serves kinds (kinds_length kinds ok) i li b w o q m u.first u.reads t₁ h in
      let g = rw (at_least served_length t n.served) at (server_found m b.server o q t) in
      let posted : posted_in (server_hosted m b.server o q t) ≡ (server_step_b m b.server).sent =
      g.sent ∙ rw (ready, check) (messages_are s o q t₁.messages t₁.records (step_128 i u.first w.server)) in
      let y = found (subst (In x) posted p) (server_step i u.first w.server).sent s.sent in
      let says : y.it ≡ To v (Aborted (transaction_of x) 1) = y.read.sent_is ∙ rw (sym y.read.station_is ∙ to, down_22 x k22, c1) in
      let z = Model4.victims k calls i u.first u.rest li u.is right v (transaction_of x) (subst (λ (d : Sent). In d (server_step i u.first w.server).sent) says y.there_is) in
      let a = found_at z.1 (choices_of m b.server) (choices_mean 64 (accepts kinds (kinds_length kinds ok) i li b w o q m u.first u.reads t₁ h)) in
      record {
        choice = a.it;
        there_is = a.there_is;
        chosen = victim_at a.serves.state a.serves.wanting ∙ z.2;
        beaten = beaten_so v a.serves.state a.serves.wanting z.3;
      }
