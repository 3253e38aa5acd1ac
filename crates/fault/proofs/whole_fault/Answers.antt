-- `fault::whole_fault` meets its contract.
use Rattle.fault.specs.Fault.{whole_fault}
use Rattle.fault.proofs.whole_fault.Goals as goal

pub returns : goal.returns
unfolding whole_fault
returns c = rw (c.or_else-3.ensures, c.or_else-layout.ensures, c.or_else.ensures, c.count_fault.ensures, c.byte_fault.ensures, c.address_fault.ensures, c.or_else-2.ensures, c.sequence_fault.ensures, c.read_fault.ensures)
