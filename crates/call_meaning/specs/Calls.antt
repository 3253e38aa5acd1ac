-- What a host finds in the lent bytes after a call is what document 01's operation or step gives: the answer, the station, and what is to
-- be carried up, as the server reads it. Or it is a refusal, and nothing is changed.
use Prim.Native.Nat.{ℕ}
use Rattle.std.specs.Prelude.{◌≡◌, Bool, true, false, List, [], ◌∷◌, get_or}
use Rattle.std.proofs.Math.ListN.{length}
use Rattle.entries.specs.Entries.{FitVal}
use Rattle.line.specs.Messages.{Up}
use Rattle.line.specs.Station.{of_page}
use Rattle.line.specs.Station as Model
use Rattle.line.specs.Line.{Op, Begin, Read, WriteSet, Commits, Aborts, Purges}
use Rattle.line.specs.FitCalls.{FitDid}
use Rattle.message.specs.Number.{kinds_ok}
use Rattle.message_meaning.specs.Sent.{Reads}
use Rattle.station_state.specs.Layout.{station}
use Rattle.station_state.specs.Valid.{valid}
use Rattle.station_answer.specs.declared.Answer.{Answer}
use Rattle.station_answer.specs.declared.Answer.TheVariants.{Refused, Begun, Value, Waits, Written, Committed, Aborted, Purged, Nothing}
use Rattle.station_answer.specs.Did.{Did, refuses, said, Outcome}
use Rattle.station_owner.specs.Owner.{called, commit_called, own_begin_b, own_read_b, own_write_set_b, own_abort_b, own_purge_b}
use Rattle.station.specs.Station.{station_step_b}
use Rattle.station_meaning.specs.Meant.{Is}
use Rattle.call_meaning.specs.Relation.{answer_of}
use Rattle.call_meaning.specs.Sets.{objects_of, values_of, own_set}
use Rattle.call_meaning.specs.Buffers.{sent_by}

-- each is read as the one beside it by the server that knows these kinds
abbrev pub AllReads : List ℕ → ℕ → List (List ℕ) → List Up → Type 0
AllReads kinds i [] [] = Unit {0}
AllReads kinds i [] (u ∷ us) = ⊥
AllReads kinds i (m ∷ ms) [] = ⊥
AllReads kinds i (m ∷ ms) (u ∷ us) = Reads kinds i (length m) m u × AllReads kinds i ms us

-- state, buffers and what was said tell what the model's station i did
pub record Told (i : ℕ) (b : Outcome) (d : Model.Did) : Type 0 where
  pub answer : answer_of b.said.answer ≡ d.answer
  pub state : Is i b.state d.station
  pub valid : valid b.state ≡ true
  pub sent : (kinds : List ℕ) → kinds_ok kinds ≡ true → get_or kinds i 0 ≡ d.station.kind → AllReads kinds i (sent_by b) d.sent
  -- the station left, and what it sends, fit as number 1 asks
  pub fits : FitDid i d

-- the call for each operation: state, bytes for messages, bytes for a commit
abbrev pub perform_b : Op → List ℕ → List ℕ → List ℕ → Outcome
perform_b Begin s o c = called s o c (own_begin_b s)
perform_b (Read a) s o c = called s o c (own_read_b a s)
perform_b (WriteSet p f) s o c = called s o c (own_write_set_b p (objects_of p f) (values_of p f) s)
perform_b Commits s o c = commit_called s o c
perform_b Aborts s o c = called s o c (own_abort_b s)
perform_b (Purges p) s o c = called s o c (own_purge_b p s)

-- values of 64 bits; every other argument may be any number
abbrev pub OpFits : Op → Type 0
OpFits Begin = Unit {0}
OpFits (Read a) = Unit {0}
OpFits (WriteSet p f) = (a : ℕ) → FitVal (of_page p f a)
OpFits Commits = Unit {0}
OpFits Aborts = Unit {0}
OpFits (Purges p) = Unit {0}

abbrev pub set_op : ℕ → ℕ → List ℕ → Op
set_op p x f = WriteSet p (own_set x f)

-- the call on message x
abbrev pub step_b : List ℕ → List ℕ → List ℕ → List ℕ → Outcome
step_b x s o c = called s o c (station_step_b x s)

abbrev pub is_refusal : Answer → Bool
is_refusal (Refused n) = true
is_refusal (Begun t) = false
is_refusal (Value v) = false
is_refusal Waits = false
is_refusal Written = false
is_refusal (Committed n) = false
is_refusal (Aborted c) = false
is_refusal Purged = false
is_refusal Nothing = false

abbrev pub number_of : Answer → ℕ
number_of (Refused n) = n
number_of (Begun t) = 0
number_of (Value v) = 0
number_of Waits = 0
number_of Written = 0
number_of (Committed n) = 0
number_of (Aborted c) = 0
number_of Purged = 0
number_of Nothing = 0

-- where it refuses it does nothing else
pub record Still (s : List ℕ) (d : Did) : Type 0 where
  pub nothing_else : (n : ℕ) → d.answer ≡ Refused n → d ≡ refuses n s
