-- What a call answers that reads counts, the end or a refusal, as the definitions have it: a refusal by its number.
use Rattle.std.specs.Prelude.{◌≡◌, Result, Ok, Err, IsErrAnd, Option, Some, None}
use Rattle.std.proofs.Common.{ap}
use Rattle.refusals.specs.declared.Refusal.{Refusal}
use Rattle.refusals.specs.Refusals.{number_of}
use Rattle.counts_file.specs.declared.Counted.{Counted}
use Rattle.counts_file.specs.declared.Next.{Next}
use Rattle.counts_file.specs.declared.Next.TheVariants.{Counts, End, Refused}

abbrev pub next_of : Result (Option Counted) Refusal → Next
next_of (Ok (Some c)) = Counts c
next_of (Ok None) = End
next_of (Err why) = Refused (number_of why)

-- `?` passes a refusal on
pub refusal_passed : (r : Result (Option Counted) Refusal) (why : Refusal) → IsErrAnd r (λ y. y ≡ why) → next_of r ≡ Refused (number_of why)
refusal_passed (Ok x) why e = absurd e
refusal_passed (Err y) why e = ap (λ (n : Refusal). Refused (number_of n)) e
