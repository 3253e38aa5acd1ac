-- Document 01, "Messages": "Kinds 1 to 8 go to the server, and 16 to 23 to stations", each by a name.
use Rattle.std.specs.Prelude.{◌≡◌, ℕ, ◌<◌, ◌⊎◌, Result, MatchResult}
use Rattle.refusals.specs.declared.Refusal.{Refusal}
use Rattle.refusals.specs.declared.Refusal.TheVariants.{Kind}
use Rattle.message.specs.declared.Up.{Up}
use Rattle.message.specs.declared.Up.TheVariants.{Read, Write, Commit, Abort, Purge, Busy, Done, WrittenSet}
use Rattle.message.specs.declared.Cause.{Cause}
use Rattle.message.specs.declared.Cause.TheVariants.{Deadlock, Changed, Locked, NoNumber}
use Rattle.message.specs.declared.Down.{Down}
use Rattle.message.specs.declared.Down.TheVariants.{Page, LockedObjects, LockedPage, Deescalate, Callback, Committed, Aborted, Invalidate}

abbrev pub up_code : Up → ℕ
up_code Read = 1
up_code Write = 2
up_code Commit = 3
up_code Abort = 4
up_code Purge = 5
up_code Busy = 6
up_code Done = 7
up_code WrittenSet = 8

abbrev pub down_code : Down → ℕ
down_code Page = 16
down_code LockedObjects = 17
down_code LockedPage = 18
down_code Deescalate = 19
down_code Callback = 20
down_code Committed = 21
down_code Aborted = 22
down_code Invalidate = 23

-- what has this number, or number 3 where none has
abbrev pub GivesUp : ℕ → Result Up Refusal → Type 0
GivesUp k r = MatchResult r (λ kind. up_code kind ≡ k) (λ why. (why ≡ Kind) × ((k < 1) ⊎ (8 < k)))

abbrev pub GivesDown : ℕ → Result Down Refusal → Type 0
GivesDown k r = MatchResult r (λ kind. down_code kind ≡ k) (λ why. (why ≡ Kind) × ((k < 16) ⊎ (23 < k)))

-- "Causes are 1 to 4"
abbrev pub cause_code : Cause → ℕ
cause_code Deadlock = 1
cause_code Changed = 2
cause_code Locked = 3
cause_code NoNumber = 4
