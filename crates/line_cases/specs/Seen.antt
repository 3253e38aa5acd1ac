-- What a call over bytes shows. The outcomes are the contracts' own (`performB`, `stepB`, `serverCalled`), on the states and the first
-- messages that the line has; what is shown is what `actB` tells and carries.
use Rattle.std.specs.Prelude.{ℕ, cond, List, [], ◌∷◌, eqb, take}
use Rattle.line.specs.Messages.{Answer, Nothing, Refused, Empty}
use Rattle.line.specs.Line.{Call, Owner, ServerTakes, StationTakes}
use Rattle.station_answer.specs.Did as Station
use Rattle.server_actions.specs.Step.{server_called}
use Rattle.server_actions.specs.Step as Server
use Rattle.call_meaning.specs.Relation.{answer_of}
use Rattle.call_meaning.specs.Buffers.{messages_in, sent_by}
use Rattle.call_meaning.specs.Calls.{perform_b, step_b}
use Rattle.line_bytes.specs.Bytes.{WorldB, CallB, OwnerB, ServerTakesB, StationTakesB, act_b}

-- a call by its name, its answer, the bytes of each message that it sends, and the bytes that it archives
pub record Step : Type 0 where
  pub call : Call
  pub answer : Answer
  pub messages : List (List ℕ)
  pub archived : List ℕ

abbrev pub step : Call → Answer → List (List ℕ) → List ℕ → Step
step c a m r = record { call = c; answer = a; messages = m; archived = r }

abbrev pub station_shows : Call → Station.Outcome → Step
station_shows n b = step n (answer_of b.said.answer) (sent_by b) []

-- the server answers a number, 0 for none
abbrev pub numbered : ℕ → Answer
numbered n = cond (eqb n 0) Nothing (Refused n)

abbrev pub server_shows : Call → Server.Outcome → Step
server_shows n b = step n (numbered b.number) (messages_in b.messages b.sent) (take b.archived b.records)

-- no message, no call
abbrev pub taken_shows : ℕ → List (List ℕ) → List ℕ → List ℕ → WorldB → Step
taken_shows i [] o c w = step (StationTakes i) Empty [] []
taken_shows i (m ∷ l) o c w = station_shows (StationTakes i) (step_b m (w.station i) o c)

abbrev pub served_shows : ℕ → List (List ℕ) → List ℕ → List ℕ → WorldB → Step
served_shows i [] o q w = step (ServerTakes i) Empty [] []
served_shows i (m ∷ l) o q w = server_shows (ServerTakes i) (server_called m w.server o q)

unfoldable pub shows : CallB → WorldB → Step
shows (OwnerB i op o c) w = station_shows (Owner i op) (perform_b op (w.station i) o c)
shows (ServerTakesB i o q) w = served_shows i (w.up i) o q w
shows (StationTakesB i o c) w = taken_shows i (w.down i) o c w

-- what a list of calls shows
unfoldable pub seen_b : List CallB → WorldB → List Step
seen_b [] w = []
seen_b (c ∷ cs) w = shows c w ∷ seen_b cs (act_b c w)
