-- What keeps the waiting entries' bytes in range, and what keeps a server sound.
use Rattle.std.specs.Prelude.{ℕ, List}
use Rattle.server_meaning.specs.Tests.{Wanting}

-- as a record, so that the state is told by the type
pub record Ok (s : List ℕ) : Type 0 where
  pub wants : Wanting s
