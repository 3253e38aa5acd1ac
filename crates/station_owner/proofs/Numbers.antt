-- A refusal's number is the one that its test's definition gives, and never 0.
use Rattle.std.specs.Prelude.{ℕ, ◌≡◌, ◌≢◌, Result, Ok, Err}
use Rattle.std.proofs.Common.{sym, ap, ◌∙◌, arith}
use Rattle.refusals.specs.declared.Refusal.{Refusal}
use Rattle.refusals.specs.declared.Refusal.TheVariants.{Buffer, Length, Kind, Range, Record, Unexpected, Waiting, Closed, Open, Kept, Spent, Short, Sequence, Replay, Long, Register, Tariff, Beyond, Share, Idle, Block, End}
use Rattle.refusals.specs.Refusals.{number_of, code}

pub some_number : (why : Refusal) → number_of why ≢ 0
some_number Buffer e = omega (arith, e)
some_number Length e = omega (arith, e)
some_number Kind e = omega (arith, e)
some_number Range e = omega (arith, e)
some_number Record e = omega (arith, e)
some_number Unexpected e = omega (arith, e)
some_number Waiting e = omega (arith, e)
some_number Closed e = omega (arith, e)
some_number Open e = omega (arith, e)
some_number Kept e = omega (arith, e)
some_number Spent e = omega (arith, e)
some_number Short e = omega (arith, e)
some_number Sequence e = omega (arith, e)
some_number Replay e = omega (arith, e)
some_number Long e = omega (arith, e)
some_number Register e = omega (arith, e)
some_number Tariff e = omega (arith, e)
some_number Beyond e = omega (arith, e)
some_number Share e = omega (arith, e)
some_number Idle e = omega (arith, e)
some_number Block e = omega (arith, e)
some_number End e = omega (arith, e)

pub refused : {r : Result Unit Refusal} {n b : ℕ} (why : Refusal) → r ≡ Err why → code r ≡ b → n ≡ number_of why → (n ≡ b) × (n ≢ 0)
refused why e c en = (en ∙ sym (ap code e) ∙ c, λ z. some_number why (sym en ∙ z))

pub passed : {r : Result Unit Refusal} {b : ℕ} (u : Unit) → r ≡ Ok u → code r ≡ b → b ≡ 0
passed u e c = sym c ∙ ap code e
