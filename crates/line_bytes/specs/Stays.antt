-- From every state that number 1 takes, whatever the call, the message and the output, the state left is taken again, at both ends
-- (`valid-stays`, `station-stays`, `owner-stays`), unless a counter of the server has come to 2^63; and every message that is sent passes numbers 2 to 4
-- at the other end and is of a kind that an end of its kind takes (`sends-fit`, `station-sends-fit`, `owner-sends-fit`).
use Rattle.std.specs.Prelude.{ℕ, ◌+◌, ◌≤◌, ◌<◌, ◌≡◌, refl, Bool, true, false, List, [], ◌∷◌, get_or}
use Rattle.std.proofs.Math.Path.{sym, subst}
use Rattle.std.proofs.Common.{ap, ◌∙◌, arith}
use Rattle.sets.specs.Base.{turned}
use Rattle.sets.specs.Laws.{by_b, by_eq}
use Rattle.sets.proofs.Laws.{eqb_yes, eqb_no}
use Rattle.cells.specs.Num.{AllBytes}
use Rattle.line.specs.Messages.{Down, Sent, To}
use Rattle.line.specs.Server.{accept, start, server_step, unexpected}
use Rattle.line.specs.Line.{Op}
use Rattle.line.specs.All.{All}
use Rattle.line.specs.Bounds.{step_128}
use Rattle.line.specs.Counters.{step_counts}
use Rattle.line.specs.Fit
use Rattle.line.specs.Fit.{LimitedRec, SentFits}
use Rattle.line.specs.FitServer.{step_fit, step_sends, step_archives}
use Rattle.truth.proofs.ValidatedMoves.{perform_kind, step_kind}
use Rattle.message.specs.Layout.{station_of}
use Rattle.message.specs.Number.{down_number, kinds_ok, up_number}
use Rattle.message_meaning.specs.Meant.{up_of, down_of}
use Rattle.message_meaning.proofs.UpAccepted.{up_accepted}
use Rattle.station_state.specs.Layout as StationState
use Rattle.station_state.specs.Valid as StationValid
use Rattle.station_callbacks.specs.Callbacks.{flat}
use Rattle.station_answer.specs.Did.{Outcome}
use Rattle.station_owner.specs.Owner as StationCall
use Rattle.station_meaning.specs.Meant as StationMeant
use Rattle.station_meaning.proofs.Tests as StationTests
use Rattle.call_meaning.specs.Buffers.{messages_in, sent_by}
use Rattle.call_meaning.proofs.Valid.{valid_means}
use Rattle.call_meaning.specs.Calls.{OpFits, perform_b, step_b}
use Rattle.call_meaning.proofs.Calls.{owner_means, owner_unready, step_told, step_unready, step_turned_back, step_not_own, ready_valid}
use Rattle.call_meaning.specs.Stays.{UpTaken}
use Rattle.call_meaning.proofs.Stays.{told_taken}
use Rattle.call_meaning.proofs.Stays as CallsLaws
use Rattle.server_state.specs.Layout.{counter_limit, request_from, ages_of, arrivals_of}
use Rattle.server_state.specs.Layout as State
use Rattle.server_state.specs.Valid.{valid}
use Rattle.server_state.specs.Facts.{valid_ranged}
use Rattle.server_tests.specs.Tests.{unexpected_b}
use Rattle.server_meaning.specs.Meant.{meant, Is}
use Rattle.server_meaning.proofs.Tests.{wanting, kind_at, ages_at, arrivals_at}
use Rattle.server_actions.specs.Actions.{serving, accept_b}
use Rattle.server_actions.specs.Pass.{server_step_b}
use Rattle.server_actions.specs.Step.{ready, kinds_of, check_step_b, laid, server_called}
use Rattle.step_meaning.specs.Relation.{AllSent, Serves}
use Rattle.step_meaning.proofs.Accept.{unexpected_at, accept_means}
use Rattle.step_meaning.proofs.Pass.{step_means}
use Rattle.line_bytes.specs.Fits.{fit_of, sound_fit}
use Rattle.line_bytes.specs.Flags.{Flagged, step_flagged}
use Rattle.line_bytes.specs.Valid.{valid_of}
use Rattle.line_bytes.specs.Served.{up_names, messages_are}
use Rattle.line_bytes.specs.Kinds.{server_kind}
use Rattle.line_bytes.specs.Simulates.{lent}

-- THE SERVER

-- numbers 2 to 5, and 6
checked : (m s : List ℕ) → check_step_b m s ≡ 0 → (up_number (kinds_of s) m ≡ 0) × (unexpected_b s m ≡ false)
unfolding check_step_b
checked m s e =
    by_eq (up_number (kinds_of s) m) 0
    (λ k. (eqb_yes (up_number (kinds_of s) m) 0 k, expected (unexpected_b s m) (rw k at e)))
    (λ k. absurd (eqb_no (up_number (kinds_of s) m) 0 k (rw k at e)))
  where
    expected : (b : Bool) → turned b 6 0 ≡ 0 → b ≡ false
    expected true z = absurd (omega (arith, z))
    expected false z = refl

-- an accepted message's step
module _ (m s : List ℕ) (bm : AllBytes m) (bs : AllBytes s) (v : valid s ≡ true) (ok : check_step_b m s ≡ 0) where
  pub is : Is s (meant s)
  is = record { len = (valid_ranged s v).size; bytes = bs; is = refl }

  pub taken : up_number (kinds_of s) m ≡ 0
  taken = (checked m s ok).0

  pub accepted : Serves (accept_b m (serving s [] [])) (accept (station_of m) (up_of m) (start (meant s)))
  accepted =
      accept_means is (wanting s v) (sound_fit (fit_of is (valid_ranged s v))) (kinds_of s) m taken bm (valid_ranged s v).ages_fit (valid_ranged s v).arrivals_fit

  pub stepped : Serves (server_step_b m s) (server_step (station_of m) (up_of m) (meant s))
  stepped = step_means m s (station_of m) (meant s) accepted

  expected : unexpected (station_of m) (up_of m) (meant s) ≡ false
  expected = sym (unexpected_at is (wanting s v) (kinds_of s) m taken bm) ∙ (checked m s ok).1

  own : station_of m < 8
  own = (up_accepted (kinds_of s) m taken).station_is

  flags : Flagged s
  flags =
      let r = valid_ranged s v in
      record { wants = r.want_fits; requests = λ j l. omega (arith, bs (request_from + j)); calleds = r.called_fits; unfinisheds = r.unfinished_fits; kepts = r.age_kept_fits }

  -- the counters go up by one at most
  counters : ((server_step (station_of m) (up_of m) (meant s)).server.ages ≤ (meant s).ages + 1) × ((server_step (station_of m) (up_of m) (meant s)).server.arrivals ≤ (meant s).arrivals + 1)
  counters =
      step_counts (λ L A N. (A ≤ (meant s).ages + 1) × (N ≤ (meant s).arrivals + 1)) (station_of m) (up_of m) (meant s) expected
      (record { stays = (omega arith, omega arith); joins = (omega arith, omega arith); begins = λ n a k. (omega arith, omega arith); begins_joins = λ n a k. (omega arith, omega arith) })

  pub ages_rise : ages_of (server_step_b m s).state ≤ ages_of s + 1
  ages_rise = omega (arith, ages_at stepped.state, ages_at is, counters.0)

  pub arrivals_rise : arrivals_of (server_step_b m s).state ≤ arrivals_of s + 1
  arrivals_rise = omega (arith, arrivals_at stepped.state, arrivals_at is, counters.1)

  -- what is archived is within the limit
  pub archives : All LimitedRec (server_step (station_of m) (up_of m) (meant s)).recs
  archives = step_archives (station_of m) (up_of m) (meant s) own (up_names (kinds_of s) m taken bm) expected (fit_of is (valid_ranged s v))

  step_valid : ages_of (server_step_b m s).state < counter_limit → arrivals_of (server_step_b m s).state < counter_limit → valid (server_step_b m s).state ≡ true
  step_valid la ln =
      valid_of stepped.state (step_flagged (kinds_of s) m s taken bm flags)
      (step_fit (station_of m) (up_of m) (meant s) own (up_names (kinds_of s) m taken bm) expected (fit_of is (valid_ranged s v)))
      (rw (← ages_at stepped.state) la) (rw (← arrivals_at stepped.state) ln)

-- whatever is lent
pub valid_stays : (m s o q : List ℕ) → AllBytes m → AllBytes s → valid s ≡ true
    → ages_of (server_called m s o q).state < counter_limit → arrivals_of (server_called m s o q).state < counter_limit → valid (server_called m s o q).state ≡ true
unfolding server_called
valid_stays m s o q bm bs v =
    by_b (ready s o q)
    (λ r. by_eq (check_step_b m s) 0 (λ k. rw (r, k) (step_valid m s bm bs v (eqb_yes (check_step_b m s) 0 k))) (λ k. rw (r, k) (λ la ln. v)))
    (λ r. rw r (λ la ln. v))

-- so a state whose counters are not next to 2^63
pub valid_stays_below : (m s o q : List ℕ) → AllBytes m → AllBytes s → valid s ≡ true → ages_of s + 1 < counter_limit → arrivals_of s + 1 < counter_limit
    → valid (server_called m s o q).state ≡ true
unfolding server_called
valid_stays_below m s o q bm bs v la ln =
    by_b (ready s o q)
    (λ r.
    by_eq (check_step_b m s) 0
    (λ k.
    let ok = eqb_yes (check_step_b m s) 0 k in
    rw (r, k) (step_valid m s bm bs v ok (omega (arith, la, ages_rise m s bm bs v ok)) (omega (arith, ln, arrivals_rise m s bm bs v ok))))
    (λ k. rw (r, k) v))
    (λ r. rw r v)

-- a message is for a station of the line, numbers 2 to 4 let it pass there, and a station of its kind takes it
pub record DownTaken (s x : List ℕ) : Type 0 where
  pub station : station_of x < 8
  pub accepted : down_number (station_of x) x ≡ 0
  pub kind_fits : Fit.taken_by (State.kind_of s (station_of x)) (down_of x) ≡ true

sent_down : {j : ℕ} {d e : Down} {i : ℕ} → To i d ≡ To j e → (i ≡ j) × (d ≡ e)
sent_down q = (ap (λ (x : Sent). station_of_lem x) q, ap (λ (x : Sent). message_of x) q)
  where
    station_of_lem : Sent → ℕ
    station_of_lem (To i d) = i

    message_of : Sent → Down
    message_of (To i d) = d

all_taken : (s : List ℕ) (kind : ℕ → ℕ) → ((i : ℕ) → i < 8 → State.kind_of s i ≡ kind i) → (ms : List (List ℕ)) (xs : List Sent) → AllSent ms xs → All (SentFits kind) xs → All (DownTaken s) ms
all_taken s kind e [] [] h f = tt
all_taken s kind e [] (x ∷ xs) h f = absurd h
all_taken s kind e (m ∷ ms) [] h f = absurd h
all_taken s kind e (m ∷ ms) (To i d ∷ xs) h f =
    let a = h.0 in
    let q = sent_down a.sent_is in
    let at : station_of m ≡ i = a.station_is ∙ sym q.0 in
    let one : DownTaken s m =
    record {
      station = rw at f.0.0;
      accepted = rw a.station_is a.accepted;
      kind_fits = rw (at, e i f.0.0, ← q.1) f.0.1.kind_fits;
    } in
    (one, all_taken s kind e ms xs h.1 f.1)

-- every message that a host finds behind a call, whatever was lent
pub sends_fit : (m s o q : List ℕ) → AllBytes m → AllBytes s → All (DownTaken s) (messages_in (server_called m s o q).messages (server_called m s o q).sent)
unfolding server_called messages_in
sends_fit m s o q bm bs =
    by_b (ready s o q)
    (λ r.
    by_eq (check_step_b m s) 0
    (λ k.
    let ok = eqb_yes (check_step_b m s) 0 k in
    let t = lent s o q r in
    let v = t.state in
    let i = station_of m in
    let u = up_of m in
    let h = stepped m s bm bs v ok in
    let here : messages_in (laid o q (server_step_b m s)).messages (laid o q (server_step_b m s)).sent ≡ (server_step_b m s).sent =
    messages_are h o q t.messages t.records (step_128 i u (meant s)) in
    let fits : All (SentFits (meant s).kind) (server_step i u (meant s)).sent =
    subst (λ (k : ℕ → ℕ). All (SentFits k) (server_step i u (meant s)).sent) (server_kind i u (meant s))
    (step_sends i u (meant s) (own m s bm bs v ok) (up_names (kinds_of s) m (taken m s bm bs v ok) bm) (expected m s bm bs v ok) (fit_of (is m s bm bs v ok) (valid_ranged s v))) in
    rw (r, k) (subst (All (DownTaken s)) (sym here) (all_taken s (meant s).kind (kind_at (is m s bm bs v ok)) (server_step_b m s).sent (server_step i u (meant s)).sent h.sent fits)))
    (λ k. rw (r, k) tt))
    (λ r. rw r tt)

-- A STATION

pub owner_stays : (op : Op) (s o c : List ℕ) → AllBytes s → OpFits op → StationValid.valid s ≡ true → StationValid.valid (perform_b op s o c).state ≡ true
owner_stays = CallsLaws.owner_stays

pub station_stays : (x s o c : List ℕ) → AllBytes x → AllBytes s → StationValid.valid s ≡ true → StationValid.valid (step_b x s o c).state ≡ true
station_stays = CallsLaws.step_stays

-- .. and what the server finds in its up line, if it knows the station's kind
module _ (kinds : List ℕ) (ok : kinds_ok kinds ≡ true) (s o c : List ℕ) (b : AllBytes s) (known : get_or kinds (StationState.station s) 0 ≡ StationState.kind s) where
  abbrev Taken : Outcome → Type 0
  Taken b = All (UpTaken kinds (StationState.station s)) (sent_by b)

  kind_is : StationCall.ready s o c ≡ true → StationState.kind s ≡ (StationMeant.meant s).kind
  kind_is r = StationTests.kind_at (valid_means s b (ready_valid s o c r)).0

  pub owner_sends_fit : (op : Op) → OpFits op → All (UpTaken kinds (StationState.station s)) (sent_by (perform_b op s o c))
  unfolding flat messages_in
  owner_sends_fit op f =
      by_b (StationCall.ready s o c)
      (λ r. told_taken (owner_means op s o c b f r) kinds ok (known ∙ kind_is r ∙ sym (perform_kind op (StationMeant.meant s))))
      (λ r. subst Taken (sym (owner_unready op s o c r)) tt)

  pub station_sends_fit : (x : List ℕ) → AllBytes x → All (UpTaken kinds (StationState.station s)) (sent_by (step_b x s o c))
  unfolding flat messages_in
  station_sends_fit x bx =
      let i = StationState.station s in
      by_b (StationCall.ready s o c)
      (λ r.
      by_eq (down_number i x) 0
      (λ n.
      by_eq (station_of x) i
      (λ e. told_taken (step_told x s o c bx b r (eqb_yes (down_number i x) 0 n) (eqb_yes (station_of x) i e)) kinds ok (known ∙ kind_is r ∙ sym (step_kind (down_of x) (StationMeant.meant s))))
      (λ e. subst Taken (sym (step_not_own x s o c r (eqb_yes (down_number i x) 0 n) (eqb_no (station_of x) i e))) tt))
      (λ n. subst Taken (sym (step_turned_back x s o c r (eqb_no (down_number i x) 0 n))) tt))
      (λ r. subst Taken (sym (step_unready x s o c r)) tt)
