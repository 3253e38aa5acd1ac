-- What a station's call does: the answer, the state afterwards, the messages sent; and how that stands in the lent bytes.
use Rattle.std.specs.Prelude.{ℕ, List, [], length}
use Rattle.std.proofs.lemmas.List.Edits.{sets}
use Rattle.station_callbacks.specs.Callbacks.{Sends, flat}
use Rattle.station_answer.specs.declared.Answer.{Answer}
use Rattle.station_answer.specs.declared.Answer.TheVariants.{Refused}
use Rattle.station_answer.specs.declared.Said.{Said}

pub record Did : Type 0 where
  pub answer : Answer
  pub state : List ℕ
  pub sent : List (List ℕ)

abbrev pub does : Answer → List ℕ → List (List ℕ) → Did
does a s m = record { answer = a; state = s; sent = m }

abbrev pub does_all : Answer → Sends → Did
does_all a d = does a d.state d.sent

-- "Refused calls answer the number, send nothing and change no state or lent buffer."
abbrev pub refuses : ℕ → List ℕ → Did
refuses n s = does (Refused n) s []

-- the answer with the counts of messages and of a commit's bytes
abbrev pub said : Answer → ℕ → ℕ → Said
said a n k = record { answer = a; messages = n; commit = k }

-- state and lent buffers afterwards, and what is said
pub record Outcome : Type 0 where
  pub state : List ℕ
  pub messages : List ℕ
  pub commit : List ℕ
  pub said : Said

abbrev pub outcome : List ℕ → List ℕ → List ℕ → Said → Outcome
outcome s o c x = record { state = s; messages = o; commit = c; said = x }

-- messages from the start of o; no commit
abbrev pub laid : List ℕ → List ℕ → Did → Outcome
laid o c d = outcome d.state (sets o 0 (flat d.sent)) c (said d.answer (length d.sent) 0)

-- .. without the commit's bytes
pub record Delivered : Type 0 where
  pub state : List ℕ
  pub messages : List ℕ
  pub said : Said

abbrev pub delivered : List ℕ → List ℕ → Said → Delivered
delivered s o x = record { state = s; messages = o; said = x }

abbrev pub handed : List ℕ → Did → Delivered
handed o d = delivered d.state (sets o 0 (flat d.sent)) (said d.answer (length d.sent) 0)
