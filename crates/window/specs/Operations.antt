-- The commands of a window, each by a name.
use Rattle.std.specs.Prelude.{◌≡◌, ◌≢◌, ℕ, ◌<◌, ◌⊎◌, Bool, true, false, Result, MatchResult}
use Rattle.refusals.specs.declared.Refusal.{Refusal}
use Rattle.window.specs.declared.Operation.{Operation}
use Rattle.window.specs.declared.Operation.TheVariants.{Begin, Read, Write, Commit, Abort}
use Rattle.window.specs.Window.{is_command}

abbrev pub operation_code : Operation → ℕ
operation_code Begin = 1
operation_code Read = 2
operation_code Write = 3
operation_code Commit = 4
operation_code Abort = 5

-- what has this number; none has another
abbrev pub GivesOperation : ℕ → Result Operation Refusal → Type 0
GivesOperation b r = MatchResult r (λ x. (operation_code x ≡ b) × (is_command b ≡ true)) (λ _. is_command b ≡ false)
