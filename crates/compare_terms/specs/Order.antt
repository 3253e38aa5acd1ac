-- The answer on lists of records says what it is, and "early part or same" is an order.
use Rattle.std.specs.Prelude.{◌≡◌, List, true}
use Rattle.layout.specs.Record.{Record}
use Rattle.compare_terms.specs.Relation.{compared, is_early}

abbrev pub EarlyOrSame : List Record → List Record → Type 0
EarlyOrSame rs qs = is_early (compared rs qs) ≡ true
