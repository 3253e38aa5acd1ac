-- `fault::address_fault` meets its contract.
use Rattle.fault.specs.Fault.{address_fault}
use Rattle.fault.proofs.address_fault.Goals as goal

pub returns : goal.returns
unfolding address_fault
returns c = rw (c.or_else.ensures, c.order_fault.ensures, c.order_fault-2.ensures, c.get_u16-n.ensures.0, c.get_u16-m.ensures.0)
