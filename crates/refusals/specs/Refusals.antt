-- "Refused calls answer the number": document 01's list "Turned back, in checking order", and the numbers of document 02.
use Rattle.std.specs.Prelude.{ℕ, Result, Ok, Err}
use Rattle.refusals.specs.declared.Refusal.{Refusal}
use Rattle.refusals.specs.declared.Refusal.TheVariants.{Buffer, Length, Kind, Range, Record, Unexpected, Waiting, Closed, Open, Kept, Spent, Short, Sequence, Replay, Long, Register, Tariff, Beyond, Share, Idle, Block, End}

abbrev pub number_of : Refusal → ℕ
number_of Buffer = 1
number_of Length = 2
number_of Kind = 3
number_of Range = 4
number_of Record = 5
number_of Unexpected = 6
number_of Waiting = 7
number_of Closed = 8
number_of Open = 9
number_of Kept = 10
number_of Spent = 11
number_of Short = 12
number_of Sequence = 13
number_of Replay = 14
number_of Long = 15
number_of Register = 16
number_of Tariff = 17
number_of Beyond = 18
number_of Share = 19
number_of Idle = 20
number_of Block = 21
number_of End = 255

-- the number that a call answers: 0 where it is accepted
abbrev pub code : Result Unit Refusal → ℕ
code (Ok _) = 0
code (Err why) = number_of why
