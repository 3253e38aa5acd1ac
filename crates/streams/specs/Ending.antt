-- The exit statuses.
use Rattle.std.specs.Prelude.{ℕ}
use Rattle.streams.specs.declared.Status.{Status}
use Rattle.streams.specs.declared.Status.TheVariants.{Accepted, Refused, Unclear, Failed}

abbrev pub number_of : Status → ℕ
number_of Accepted = 0
number_of Refused = 1
number_of Unclear = 2
number_of Failed = 3
