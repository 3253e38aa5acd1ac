-- A station, if there is one, as the number that the definitions have for it: 8 where there is none.
use Rattle.std.specs.Prelude.{ℕ, Option, Some, None}

abbrev pub station_in : Option ℕ → ℕ
station_in None = 8
station_in (Some i) = i
