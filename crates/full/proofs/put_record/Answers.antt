-- `full::put_record` meets its contract.
use Rattle.std.proofs.Common.{refl}
use Rattle.full.specs.Full.{record_chain}
use Rattle.full.proofs.put_record.Goals as goal

pub returns : goal.returns
returns c = record_chain _ _ _ _ _ _ _ c.heading_line-at.ensures (rw c.claimed_length-size.ensures at c.record_line-at.ensures) c.entry_heading-at.ensures refl (rw c.entry_count-entries.ensures at c.address_part-addresses.ensures) (rw c.entry_count-entries.ensures at c.value_part-values.ensures) c.put_entries.ensures
