-- What a call answers that reads a record, the end or a refusal, as the definitions have it: a refusal by its number.
use Rattle.std.specs.Prelude.{◌≡◌, Result, Ok, Err, IsErrAnd, Option, Some, None}
use Rattle.std.proofs.Common.{ap}
use Rattle.refusals.specs.declared.Refusal.{Refusal}
use Rattle.refusals.specs.Refusals.{number_of}
use Rattle.archive.specs.declared.Fields.{Fields}
use Rattle.archive.specs.declared.Answer.{Answer}
use Rattle.archive.specs.declared.Answer.TheVariants.{Record, End, Refused}

abbrev pub answer_of : Result (Option Fields) Refusal → Answer
answer_of (Ok (Some f)) = Record f
answer_of (Ok None) = End
answer_of (Err why) = Refused (number_of why)

-- `?` passes a refusal on
pub refusal_passed : (r : Result (Option Fields) Refusal) (why : Refusal) → IsErrAnd r (λ y. y ≡ why) → answer_of r ≡ Refused (number_of why)
refusal_passed (Ok x) why e = absurd e
refusal_passed (Err y) why e = ap (λ (n : Refusal). Refused (number_of n)) e
