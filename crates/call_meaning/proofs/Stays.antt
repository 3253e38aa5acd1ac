-- A station, from every state that number 1 takes: whatever its owner calls or whatever message it is lent, the state left is taken again
-- (`owner-stays`, `step_stays`). What it sends is taken by the server up to number 5, and is of a kind that a station of its kind sends
-- (`told-taken`).
use Rattle.std.specs.Prelude.{ℕ, ◌≡◌, true, List, [], ◌∷◌, get_or}
use Rattle.std.proofs.Common.{sym, subst}
use Rattle.sets.specs.Laws.{by_b, by_eq}
use Rattle.sets.proofs.Laws.{eqb_yes, eqb_no}
use Rattle.cells.specs.Num.{AllBytes}
use Rattle.line.specs.Messages.{Up}
use Rattle.line.specs.Station as Model
use Rattle.line.specs.Line.{Op}
use Rattle.line.specs.All.{All}
use Rattle.line.specs.Fit.{UpFits}
use Rattle.message.specs.Layout.{station_of}
use Rattle.message.specs.Number.{down_number, kinds_ok}
use Rattle.station_state.specs.Layout.{station}
use Rattle.station_state.specs.Valid.{valid}
use Rattle.station_answer.specs.Did.{Outcome}
use Rattle.station_owner.specs.Owner.{ready}
use Rattle.call_meaning.specs.Buffers.{sent_by}
use Rattle.call_meaning.specs.Calls.{AllReads, Told, perform_b, OpFits, step_b}
use Rattle.call_meaning.proofs.Calls.{owner_means, owner_unready, step_told, step_unready, step_turned_back, step_not_own}
use Rattle.call_meaning.specs.Stays.{Stays, UpTaken}

pub owner_stays : (op : Op) (s o c : List ℕ) → AllBytes s → OpFits op → valid s ≡ true → valid (perform_b op s o c).state ≡ true
owner_stays op s o c b f v = by_b (ready s o c) (λ r. (owner_means op s o c b f r).valid) (λ r. subst Stays (sym (owner_unready op s o c r)) v)

pub step_stays : (x s o c : List ℕ) → AllBytes x → AllBytes s → valid s ≡ true → valid (step_b x s o c).state ≡ true
step_stays x s o c bx bs v =
    let n : ℕ = down_number (station s) x in
    by_b (ready s o c)
    (λ r.
    by_eq n 0
    (λ e.
    by_eq (station_of x) (station s) (λ f. (step_told x s o c bx bs r (eqb_yes n 0 e) (eqb_yes (station_of x) (station s) f)).valid)
    (λ f. subst Stays (sym (step_not_own x s o c r (eqb_yes n 0 e) (eqb_no (station_of x) (station s) f))) v))
    (λ e. subst Stays (sym (step_turned_back x s o c r (eqb_no n 0 e))) v))
    (λ r. subst Stays (sym (step_unready x s o c r)) v)

all_taken : (kinds : List ℕ) (i k : ℕ) → get_or kinds i 0 ≡ k → (ms : List (List ℕ)) (us : List Up) → AllReads kinds i ms us → All (UpFits k) us → All (UpTaken kinds i) ms
all_taken kinds i k e [] [] h f = tt
all_taken kinds i k e [] (u ∷ us) h f = absurd h
all_taken kinds i k e (m ∷ ms) [] h f = absurd h
all_taken kinds i k e (m ∷ ms) (u ∷ us) h f =
    (record { accepted = h.0.accepted; station_is = h.0.station_is; kind_fits = rw (h.0.meant, e) f.0.kind_fits }, all_taken kinds i k e ms us h.1 f.1)

-- by every server that knows the station's kind
pub told_taken : {i : ℕ} {b : Outcome} {d : Model.Did} → Told i b d → (kinds : List ℕ) → kinds_ok kinds ≡ true → get_or kinds i 0 ≡ d.station.kind → All (UpTaken kinds i) (sent_by b)
told_taken {i} {b} {d} h kinds ok e = all_taken kinds i d.station.kind e (sent_by b) d.sent (h.sent kinds ok e) h.fits.sent
