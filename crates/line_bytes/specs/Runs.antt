-- Every list of calls over bytes is a list of calls of the model.
use Rattle.std.specs.Prelude.{ℕ, ◌≤◌, ◌<◌, ◌≡◌, refl, Bool, true, false, cond, List, [], ◌∷◌, eqb, ltb, leb, length, get_or}
use Rattle.std.proofs.Common.{zero-add, arith, leb-true, eq-eqb}
use Rattle.std.proofs.Math.ListN.{get_or-eq_default}
use Rattle.lists.specs.Tests.{all_to_at, all_to_of, and_r}
use Rattle.sets.specs.Laws.{by_b}
use Rattle.sets.proofs.Laws.{ltb_yes, ltb_no}
use Rattle.kinds.specs.Kinds.{most_kind}
use Rattle.layout.specs.Record.{archive_of}
use Rattle.line.specs.Line.{Op, Begin, Read, WriteSet, Commits, Aborts, Purges, Call, Owner, Broken, World, fresh, act, run}
use Rattle.archive_truth.specs.Fits.{FitCall, FitCalls}
use Rattle.message.specs.Number.{kind_ok}
use Rattle.message.specs.Number
use Rattle.station_owner.specs.Owner.{ready}
use Rattle.server_state.specs.Valid.{most_at, most, kinds_ok}
use Rattle.server_state.specs.Facts.{kinds_length}
use Rattle.server_actions.specs.Step as ServerCall
use Rattle.call_meaning.proofs.Valid.{fresh_means, fresh_valid}
use Rattle.call_meaning.specs.Calls.{OpFits}
use Rattle.line_bytes.specs.Bytes.{WorldB, fresh_b, CallB, OwnerB, ServerTakesB, StationTakesB, Fits, AllFit, act_b, run_b}
use Rattle.line_bytes.specs.Served.{fresh_server_lem}
use Rattle.line_bytes.specs.Simulates.{Sim, as_call, act_sim}

-- KINDS

module _ (kinds : List ℕ) (ok : kinds_ok kinds ≡ true) where
  kind_most : (i : ℕ) → i < 8 → leb (get_or kinds i 0) most_kind ≡ true
  unfolding kinds_ok most most_at
  kind_most i l = rw (zero-add i) at (all_to_at (most_at kinds 0 most_kind) 8 (and_r (eqb (length kinds) 8) (most kinds 0 most_kind 8) ok) i l)

  -- number 4 of a fresh server asks the same of the kinds as its step does
  pub same_kinds : Number.kinds_ok kinds ≡ true
  unfolding Number.kinds_ok kind_ok
  same_kinds = rw (eq-eqb (length kinds) 8 (kinds_length kinds ok)) (all_to_of (kind_ok kinds) 8 kind_most)

  pub kind_small : (i : ℕ) → get_or kinds i 0 ≤ most_kind
  kind_small i =
      by_b (ltb i 8) (λ e. leb-true (get_or kinds i 0) most_kind (kind_most i (ltb_yes i 8 e)))
      (λ e. rw (get_or-eq_default kinds 0 {n = i} (omega (arith, kinds_length kinds ok, ltb_no i 8 e))) (omega arith))

-- THE WHOLE RUN

-- the model's calls that these are
abbrev pub calls_of : List CallB → WorldB → List Call
calls_of [] b = []
calls_of (c ∷ cs) b = as_call b c ∷ calls_of cs (act_b c b)

op_fits : (i : ℕ) (op : Op) (y : Bool) → OpFits op → FitCall (cond y (Owner i op) (Broken 1))
op_fits i Begin true f = f
op_fits i (Read a) true f = f
op_fits i (WriteSet p g) true f = f
op_fits i Commits true f = f
op_fits i Aborts true f = f
op_fits i (Purges p) true f = f
op_fits i op false f = tt

call_fits : (c : CallB) (b : WorldB) → Fits c → FitCall (as_call b c)
call_fits (OwnerB i op o c) b f = op_fits i op (ready (b.station i) o c) f
call_fits (ServerTakesB i o q) b f = by_b (ServerCall.ready b.server o q) (λ e. rw e tt) (λ e. rw e tt)
call_fits (StationTakesB i o c) b f = by_b (ready (b.station i) o c) (λ e. rw e tt) (λ e. rw e tt)

pub calls_fit : (cs : List CallB) (b : WorldB) → AllFit cs → FitCalls (calls_of cs b)
calls_fit [] b f = tt
calls_fit (c ∷ cs) b f = (call_fits c b f.0, calls_fit cs (act_b c b) f.1)

pub run_sim : (kinds : List ℕ) → length kinds ≡ 8 → Number.kinds_ok kinds ≡ true → (cs : List CallB) (b : WorldB) (w : World) → AllFit cs → Sim kinds b w
    → Sim kinds (run_b cs b) (run (calls_of cs b) w)
unfolding run_b run
run_sim kinds size ok [] b w f h = h
run_sim kinds size ok (c ∷ cs) b w f h = run_sim kinds size ok cs (act_b c b) (act (as_call b c) w).world f.1 (act_sim kinds size ok c b w f.0 h)

pub fresh_sim : (kinds : List ℕ) → kinds_ok kinds ≡ true → Sim kinds (fresh_b kinds) (fresh (λ i. get_or kinds i 0))
unfolding archive_of
fresh_sim kinds ok =
    let small = kind_small kinds ok in
    record {
      line =
          record {
            server = fresh_server_lem kinds (kinds_length kinds ok) (λ i. omega (arith, small i));
            server_kinds = λ i l. refl;
            stations = λ i l. record { is = fresh_means i (get_or kinds i 0) l (small i); valid = fresh_valid i (get_or kinds i 0) l (small i); kind_is = refl };
            ups = λ i. tt;
            downs = λ i. tt;
            records = refl;
            sent = tt;
          };
      notes = record { told = refl; number = refl; asked = refl };
    }

-- every run over bytes is a run of the model
pub run_simulates : (kinds : List ℕ) → kinds_ok kinds ≡ true → (cs : List CallB) → AllFit cs
    → Sim kinds (run_b cs (fresh_b kinds)) (run (calls_of cs (fresh_b kinds)) (fresh (λ i. get_or kinds i 0)))
run_simulates kinds ok cs f = run_sim kinds (kinds_length kinds ok) (same_kinds kinds ok) cs (fresh_b kinds) (fresh (λ i. get_or kinds i 0)) f (fresh_sim kinds ok)
