-- What it is that a call over bytes means a call of the model: the same answer, a state that means the station afterwards, and messages
-- that the server reads as those sent.
use Rattle.std.specs.Prelude.{ℕ, ◌≤◌, ◌<◌, ◌≡◌, true, ◌≢◌, List, [], ◌∷◌}
use Rattle.kinds.specs.Kinds.{most_kind}
use Rattle.line.specs.Messages.{Up}
use Rattle.line.specs.Messages as Line
use Rattle.line.specs.Station.{Station, NotKept}
use Rattle.line.specs.Station as Model
use Rattle.message.specs.Number.{kinds_ok}
use Rattle.message_meaning.specs.Sent.{Reads}
use Rattle.station_callbacks.specs.Callbacks.{Sends}
use Rattle.station_answer.specs.declared.Answer.{Answer}
use Rattle.station_answer.specs.declared.Answer.TheVariants.{Refused, Begun, Value, Waits, Written, Committed, Aborted, Purged, Nothing}
use Rattle.station_answer.specs.Did.{Did}
use Rattle.station_meaning.specs.Meant.{Is}
use Rattle.message.specs.Layout.{message_length}

-- "Where an answer is an enum, the promises use a definition that gives this paper's number and values for each of its cases."
abbrev pub answer_of : Answer → Line.Answer
answer_of (Refused n) = Line.Refused n
answer_of (Begun t) = Line.Begun t
answer_of (Value v) = Line.Value v
answer_of Waits = Line.Waits
answer_of Written = Line.Written
answer_of (Committed n) = Line.CommittedAs n
answer_of (Aborted c) = Line.AbortedFor c
answer_of Purged = Line.Purged
answer_of Nothing = Line.Nothing

-- what number 1 asks of a station, in the model's words; the flags of the bytes stand in `Is`
pub record Sound (i : ℕ) (m : Station) : Type 0 where
  pub own : i < 8
  pub kind_is : m.kind ≤ most_kind
  pub counted : m.opened ≡ true → m.num ≢ 0
  pub not_own : m.kept i ≡ NotKept

-- station i's message m is read by every server as u
abbrev pub ReadAs : ℕ → List ℕ → Up → Type 0
ReadAs i m u = (kinds : List ℕ) → kinds_ok kinds ≡ true → Reads kinds i message_length m u

-- each is read as the one beside it
abbrev pub AllRead : ℕ → List (List ℕ) → List Up → Type 0
AllRead i [] [] = Unit {0}
AllRead i [] (u ∷ us) = ⊥
AllRead i (m ∷ ms) [] = ⊥
AllRead i (m ∷ ms) (u ∷ us) = ReadAs i m u × AllRead i ms us

-- state and messages so far
pub record Sending (i : ℕ) (b : Sends) (d : Model.Did) : Type 0 where
  pub state : Is i b.state d.station
  pub sound : Sound i d.station
  pub sent : AllRead i b.sent d.sent

-- a whole call
pub record Means (i : ℕ) (b : Did) (d : Model.Did) : Type 0 where
  pub answer : answer_of b.answer ≡ d.answer
  pub state : Is i b.state d.station
  pub sound : Sound i d.station
  pub sent : AllRead i b.sent d.sent
