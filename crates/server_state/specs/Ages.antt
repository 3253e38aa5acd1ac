-- "each transaction gets a new age": the counter gives its number, and stands one higher afterwards.
use Rattle.std.specs.Prelude.{◌+◌}
use Rattle.server_state.specs.declared.Ages.{Ages}
use Rattle.server_state.specs.declared.Aged.{Aged}

unfoldable pub aged_of : Ages → Aged
aged_of a = record { ages = record { next = a.next + 1 }; age = a.next }
