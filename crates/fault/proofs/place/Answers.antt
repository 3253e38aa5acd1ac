-- `fault::place` meets its contract.
use mathlib.Core.Path.{sym, ap}
use Rattle.fault.specs.Fault.{place_of}
use Rattle.fault.proofs.place.Goals as goal

pub returns-in-Read : goal.returns-in-Read
returns-in-Read c = sym (ap place_of c.in-Read.is)
