-- NOTHING JAMS: of every list of calls of the exported functions, the first message of every line is taken, if the call is lent enough.
use Rattle.std.specs.Prelude.{ℕ, ◌≤◌, ◌<◌, ◌≡◌, false, not, cond, List, [], ◌∷◌, ltb, length, get_or}
use Rattle.std.proofs.Math.Path.{refl}
use Rattle.std.proofs.Common.{sym, ap, subst, ◌∙◌, arith}
use Rattle.std.proofs.Math.Bool.{true}
use Rattle.std.proofs.Math.Dec.{eqb}
use Rattle.sets.specs.Laws.{by_b}
use Rattle.sets.proofs.Laws.{eqb_yes, ltb_yes}
use Rattle.line.specs.Messages.{Up, Down, To}
use Rattle.line.specs.Station.{station_step}
use Rattle.line.specs.Server.{unexpected}
use Rattle.line.specs.Line.{World, Call, fresh, run, is_refused}
use Rattle.jams.specs.Clauses.{Orderly}
use Rattle.jams.specs.Taken.{taken_up}
use Rattle.jams.specs.Theorem.{accepted}
use Rattle.jams.specs.Jams.{orderly}
use Rattle.message.specs.Commit.{records_room, server_room, commit_room, station_room}
use Rattle.message_meaning.specs.Sent.{Reads}
use Rattle.server_state.specs.Valid.{kinds_ok}
use Rattle.server_state.specs.Facts.{kinds_length}
use Rattle.server_actions.specs.Step.{server_called, check_step_b}
use Rattle.server_actions.specs.Step as ServerCall
use Rattle.host.specs.Host.{told_length}
use Rattle.server_host.specs.Host.{served_length}
use Rattle.step_meaning.specs.Relation.{ReadAs}
use Rattle.call_meaning.specs.Relation.{answer_of}
use Rattle.call_meaning.specs.Calls.{AllReads, step_b}
use Rattle.line_bytes.specs.Bytes.{WorldB, fresh_b, run_b}
use Rattle.line_bytes.specs.Simulates.{Sim, AllDown, Lent, lent, check_is, step_told_at}
use Rattle.line_bytes.specs.Runs.{same_kinds}
use Rattle.line_bytes.specs.Ready.{Ready, ready_of_run}
use Rattle.line_host.specs.Line.{CallH, AllFitH, WorldH, fresh_h, run_h, step_hosted, server_hosted}
use Rattle.line_host.specs.Same.{plains_of, plains_fit, run_same, step_found, server_found}
use Rattle.line_host.specs.Runs.{model_calls, hosts_simulate}

-- what a call is lent that number 1 does not turn back for its output
pub record EnoughServer (o q t : List ℕ) : Type 0 where
  pub messages : server_room ≤ length o
  pub records : records_room ≤ length q
  pub served : served_length ≤ length t

pub record EnoughStation (o c t : List ℕ) : Type 0 where
  pub messages : station_room ≤ length o
  pub commit : commit_room ≤ length c
  pub told : told_length ≤ length t

-- the first message of every up line and of every down line is taken: its call answers 0. So only an owner's call is ever refused
pub record NothingJams (w : WorldB) : Type 0 where
  pub server_takes : (i : ℕ) → i < 8 → (m : List ℕ) (l : List (List ℕ)) → w.up i ≡ m ∷ l → (o q t : List ℕ) → EnoughServer o q t
      → (server_hosted m w.server o q t).told.number ≡ 0
  pub station_takes : (i : ℕ) → i < 8 → (m : List ℕ) (l : List (List ℕ)) → w.down i ≡ m ∷ l → (o c t : List ℕ) → EnoughStation o c t
      → (step_hosted m (w.station i) o c t).told.number ≡ 0

-- heads
pub record HeadUp (kinds : List ℕ) (i : ℕ) (x : List ℕ) (us : List Up) : Type 0 where
  pub first : Up
  pub rest : List Up
  pub is : us ≡ first ∷ rest
  pub reads : Reads kinds i (length x) x first

pub head_up : (kinds : List ℕ) (i : ℕ) (x : List ℕ) (ms : List (List ℕ)) (us : List Up) → AllReads kinds i (x ∷ ms) us → HeadUp kinds i x us
head_up kinds i x ms [] h = absurd h
head_up kinds i x ms (u ∷ us) h = record { first = u; rest = us; is = refl; reads = h.0 }

record HeadDown (i : ℕ) (x : List ℕ) (ds : List Down) : Type 0 where
  first : Down
  rest : List Down
  is : ds ≡ first ∷ rest
  reads : ReadAs x (To i first)

head_down : (i : ℕ) (x : List ℕ) (ms : List (List ℕ)) (ds : List Down) → AllDown i (x ∷ ms) ds → HeadDown i x ds
head_down i x ms [] h = absurd h
head_down i x ms (d ∷ ds) h = record { first = d; rest = ds; is = refl; reads = h.0 }

-- not short
pub at_least : (n : ℕ) (t : List ℕ) → n ≤ length t → ltb (length t) n ≡ false
at_least n t b = by_b (ltb (length t) n) (λ e. absurd (omega (arith, ltb_yes (length t) n e))) (λ e. e)

module _ (kinds : List ℕ) (ok : kinds_ok kinds ≡ true) (b : WorldB) (w : World) (h : Sim kinds b w) (r : Ready b) (k : Orderly w) where
  up_taken : (i : ℕ) → i < 8 → (m : List ℕ) (l : List (List ℕ)) → b.up i ≡ m ∷ l → (o q t : List ℕ) → EnoughServer o q t
      → (server_hosted m b.server o q t).told.number ≡ 0
  unfolding server_called
  up_taken i c m l e o q t n =
      let u = head_up kinds i m l (w.up i) (rw e at (h.line.ups i)) in
      let ready : ServerCall.ready b.server o q ≡ true = r.server o q n.messages n.records in
      let check : check_step_b m b.server ≡ 0 =
      check_is kinds (kinds_length kinds ok) i c b w o q m u.first u.reads (lent b.server o q ready) h ∙ rw (taken_up w k i c u.first u.rest u.is) refl in
      let called : eqb (server_called m b.server o q).number 0 ≡ true = rw (ready, check) refl in
      let f = rw (at_least served_length t n.served) at (server_found m b.server o q t) in
      eqb_yes _ 0 (f.accepted ∙ called)

  down_taken : (i : ℕ) → i < 8 → (m : List ℕ) (l : List (List ℕ)) → b.down i ≡ m ∷ l → (o c t : List ℕ) → EnoughStation o c t
      → (step_hosted m (b.station i) o c t).told.number ≡ 0
  down_taken i z m l e o c t n =
      let d = head_down i m l (w.down i) (rw e at (h.line.downs i)) in
      let told = step_told_at kinds (same_kinds kinds ok) i z b w m d.first o c d.reads (r.station i z o c n.messages n.commit) h in
      let taken : is_refused (answer_of (step_b m (b.station i) o c).said.answer) ≡ false = ap is_refused told.answer ∙ accepted w k i z d.first d.rest d.is in
      let f = rw (at_least told_length t n.told) at (step_found m (b.station i) o c t) in
      eqb_yes _ 0 (f.accepted ∙ ap not taken)

  jams_none : NothingJams b
  jams_none = record { server_takes = up_taken; station_takes = down_taken }

-- for every choice of kinds and every list of calls from a fresh line, with any arguments and any buffers
pub nothing_jams : (kinds : List ℕ) → kinds_ok kinds ≡ true → (cs : List CallH) → AllFitH cs → NothingJams (run_h cs (fresh_h kinds)).line
nothing_jams kinds ok cs f =
    jams_none kinds ok (run_h cs (fresh_h kinds)).line (run (model_calls kinds cs) (fresh (λ i. get_or kinds i 0))) (hosts_simulate kinds ok cs f)
    (rw (run_same cs (fresh_h kinds)) (ready_of_run kinds ok (plains_of cs) (plains_fit cs f)))
    (orderly (λ i. get_or kinds i 0) (model_calls kinds cs))
