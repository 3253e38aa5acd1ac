-- `block_reader::put_record` meets its contract.
use Rattle.block_reader.specs.Stores.{record_stored}
use Rattle.block_reader.proofs.put_record.Goals as goal

pub returns : goal.returns
returns c = record_stored _ _ _ _ _ _ _ _ c.requires.1 c.requires.2 c.copy_part.ensures c.copy_part-2.ensures c.put_rows.ensures
