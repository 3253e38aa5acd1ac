-- `station_state::write_object` meets its contract.
use mathlib.Core.Path.{sym}
use Rattle.station_state.specs.Changes.{write_object_b}
use Rattle.station_state.proofs.write_object.Goals as goal

pub returns-then-has_bit8 : goal.returns-then-has_bit8
unfolding write_object_b
returns-then-has_bit8 c = simp (sym c.has_bit8.ensures, c.if-has_bit8.true) c.write_local.ensures

pub returns : goal.returns
unfolding write_object_b
returns c = simp (sym c.has_bit8.ensures, c.if-has_bit8.false)
