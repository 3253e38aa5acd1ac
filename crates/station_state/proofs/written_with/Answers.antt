-- `station_state::written_with` meets its contract.
use Rattle.station_state.specs.Sets.{with_fit}
use Rattle.station_state.proofs.written_with.Goals as goal

pub overflow_add-result : goal.overflow_add-result
overflow_add-result c = record { fits = with_fit _ _ c.args.x c.written_set-y.result c.count_in.ensures }
