-- Waits-for edges by example, as rows of one table, computed: eight edge sets, a byte for each station, and the set of those on a cycle, as
-- the definition has it and as the closure of the eight sets in one word.
use Rattle.std.specs.Prelude.{refl}
use Rattle.le.specs.Le.{u16_at, u32_at, u64_at}
use Rattle.cells.specs.Bits.{tb}
use Rattle.cells.specs.Loops.{mask_to}
use Rattle.station_state.specs.Layout.{has_bit}
use Rattle.server_order.specs.Order.{spread_to, grown_to, on_cycle_b}
use Rattle.server_order.specs.Words.{through_b}
use Rattle.server_order.specs.Closure.{close_to}
use Rattle.server_meaning.specs.CycleCases.{AllHold, table}

pub table_of_cycles : AllHold table
unfolding table mask_to on_cycle_b grown_to spread_to has_bit close_to through_b tb u64_at u32_at u16_at
table_of_cycles = (
  record { cycle_is = refl; closed_is = refl },
  (
    record { cycle_is = refl; closed_is = refl },
    (
      record { cycle_is = refl; closed_is = refl },
      (
        record { cycle_is = refl; closed_is = refl },
        (
          record { cycle_is = refl; closed_is = refl },
          (
            record { cycle_is = refl; closed_is = refl },
            (record { cycle_is = refl; closed_is = refl }, (record { cycle_is = refl; closed_is = refl }, tt)),
          ),
        ),
      ),
    ),
  ),
)
