-- What a refusal's number tells.
use Rattle.std.specs.Prelude.{ℕ, ◌≡◌, refl, false, Result, Ok, Err, IsErrAnd, eqb}
use Rattle.std.proofs.Common.{ap}
use Rattle.refusals.specs.declared.Refusal.{Refusal}
use Rattle.refusals.specs.declared.Refusal.TheVariants.{Buffer, Length, Kind, Range, Record, Unexpected, Waiting, Closed, Open, Kept, Spent, Short, Sequence, Replay, Long, Register, Tariff, Beyond, Share, Idle, Block, End}
use Rattle.refusals.specs.Refusals.{number_of, code}

-- it is not 0
pub not_accepted : (why : Refusal) → eqb (number_of why) 0 ≡ false
not_accepted Buffer = refl
not_accepted Length = refl
not_accepted Kind = refl
not_accepted Range = refl
not_accepted Record = refl
not_accepted Unexpected = refl
not_accepted Waiting = refl
not_accepted Closed = refl
not_accepted Open = refl
not_accepted Kept = refl
not_accepted Spent = refl
not_accepted Short = refl
not_accepted Sequence = refl
not_accepted Replay = refl
not_accepted Long = refl
not_accepted Register = refl
not_accepted Tariff = refl
not_accepted Beyond = refl
not_accepted Share = refl
not_accepted Idle = refl
not_accepted Block = refl
not_accepted End = refl

-- `?` passes it on
pub passed_on : (r : Result Unit Refusal) (why : Refusal) → IsErrAnd r (λ y. y ≡ why) → code r ≡ number_of why
passed_on (Ok x) why e = absurd e
passed_on (Err y) why e = ap number_of e
