-- The server's step on a lent state, a message and lent output: numbers 1 to 6, then the step, its messages and records.
use Rattle.std.specs.Prelude.{ℕ, List, Bool, true, false, ◌&&◌, cond, length, take, drop, eqb, leb}
use Rattle.std.proofs.lemmas.List.Edits.{sets}
use Rattle.sets.specs.Base.{turned}
use Rattle.message.specs.Number.{up_number}
use Rattle.message.specs.Commit.{records_room, server_room}
use Rattle.server_state.specs.Valid.{valid}
use Rattle.server_tests.specs.Tests.{unexpected_b}
use Rattle.station_callbacks.specs.Callbacks.{flat}
use Rattle.server_state.specs.Layout.{kind_from}
use Rattle.server_actions.specs.Actions.{Serving}
use Rattle.server_actions.specs.Pass.{server_step_b}

-- number 1: "128 messages", "the server's record buffer 7,040"
unfoldable pub ready : List ℕ → List ℕ → List ℕ → Bool
ready s o q = valid s && leb server_room (length o) && leb records_room (length q)

-- the kinds of the stations
abbrev pub kinds_of : List ℕ → List ℕ
kinds_of s = take 8 (drop kind_from s)

-- 2, 3, 4, 5 of the message, then 6
unfoldable pub check_step_b : List ℕ → List ℕ → ℕ
check_step_b m s = cond (eqb (up_number (kinds_of s) m) 0) (turned (unexpected_b s m) 6 0) (up_number (kinds_of s) m)

-- everything lent, afterwards, with whether the call was accepted, the number (0 for none) and the counts of messages and of bytes of records
pub record Outcome : Type 0 where
  pub accepted : Bool
  pub state : List ℕ
  pub messages : List ℕ
  pub records : List ℕ
  pub number : ℕ
  pub sent : ℕ
  pub archived : ℕ

-- "Refused calls answer the number, send nothing and change no state or lent buffer."
abbrev pub refused : ℕ → List ℕ → List ℕ → List ℕ → Outcome
refused n s o q = record { accepted = false; state = s; messages = o; records = q; number = n; sent = 0; archived = 0 }

-- messages from the start of o, records from the start of q
abbrev pub laid : List ℕ → List ℕ → Serving → Outcome
laid o q x =
    record {
      accepted = true;
      state = x.state;
      messages = sets o 0 (flat x.sent);
      records = sets q 0 (flat x.recs);
      number = 0;
      sent = length x.sent;
      archived = length (flat x.recs);
    }

unfoldable pub server_called : List ℕ → List ℕ → List ℕ → List ℕ → Outcome
server_called m s o q =
    cond (ready s o q)
    (cond (eqb (check_step_b m s) 0) (laid o q (server_step_b m s)) (refused (check_step_b m s) s o q))
    (refused 1 s o q)
