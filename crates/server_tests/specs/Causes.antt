-- The cause that ends a commit, where there is one, as the number that 22 carries: 0 where there is none.
use Rattle.std.specs.Prelude.{ℕ, Option, Some, None}
use Rattle.message.specs.declared.Cause.{Cause}
use Rattle.message.specs.Kinds.{cause_code}

abbrev pub cause_in : Option Cause → ℕ
cause_in None = 0
cause_in (Some cause) = cause_code cause
