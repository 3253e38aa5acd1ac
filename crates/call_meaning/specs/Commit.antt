-- The commit that a station sends is read as the model's by every server that knows the station's kind; and the call that sends it.
use Rattle.std.specs.Prelude.{ℕ, ◌≡◌, true, List, [], ◌∷◌, take, get_or}
use Rattle.line.specs.Messages.{Up}
use Rattle.line.specs.Station as Model
use Rattle.message.specs.Number.{kinds_ok}
use Rattle.message_meaning.specs.Sent.{Reads}
use Rattle.station_answer.specs.Did.{Outcome}
use Rattle.station_meaning.specs.Meant.{Is}
use Rattle.call_meaning.specs.Relation.{answer_of, Sound}

-- how the model's messages stand in the bytes lent for a commit, of which the first n are filled: none at all, or the one commit, as
-- every server reads it that knows the station's kind
abbrev pub CommitRead : ℕ → ℕ → ℕ → List ℕ → List Up → Type 0
CommitRead i kind n c [] = n ≡ 0
CommitRead i kind n c (u ∷ []) = (kinds : List ℕ) → kinds_ok kinds ≡ true → get_or kinds i 0 ≡ kind → Reads kinds i n (take n c) u
CommitRead i kind n c (u ∷ v ∷ us) = ⊥

-- a whole call of commit
pub record CommitMeans (i : ℕ) (b : Outcome) (d : Model.Did) : Type 0 where
  pub answer : answer_of b.said.answer ≡ d.answer
  pub state : Is i b.state d.station
  pub sound : Sound i d.station
  pub no_messages : b.said.messages ≡ 0
  pub sent : CommitRead i d.station.kind b.said.commit b.commit d.sent
