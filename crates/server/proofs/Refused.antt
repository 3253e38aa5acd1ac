-- No refusal has number 0, which tells that a call was accepted.
use Rattle.std.specs.Prelude.{ℕ, ◌≢◌}
use Rattle.std.proofs.Common.{arith}
use Rattle.refusals.specs.declared.Refusal.{Refusal}
use Rattle.refusals.specs.declared.Refusal.TheVariants.{Buffer, Length, Kind, Range, Record, Unexpected, Waiting, Closed, Open, Kept, Spent, Short, Sequence, Replay, Long, Register, Tariff, Beyond, Share, Idle, Block, End}
use Rattle.refusals.specs.Refusals.{number_of}

pub some_number : (why : Refusal) → number_of why ≢ 0
some_number Buffer e = omega arith
some_number Length e = omega arith
some_number Kind e = omega arith
some_number Range e = omega arith
some_number Record e = omega arith
some_number Unexpected e = omega arith
some_number Waiting e = omega arith
some_number Closed e = omega arith
some_number Open e = omega arith
some_number Kept e = omega arith
some_number Spent e = omega arith
some_number Short e = omega arith
some_number Sequence e = omega arith
some_number Replay e = omega arith
some_number Long e = omega arith
some_number Register e = omega arith
some_number Tariff e = omega arith
some_number Beyond e = omega arith
some_number Share e = omega arith
some_number Idle e = omega arith
some_number Block e = omega arith
some_number End e = omega arith
