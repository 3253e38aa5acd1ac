-- `host::wax_station_read` meets its contract.
use borrow.Author.Tests.{lt-ltb, le-ltb}
use Rattle.host.specs.Host.{host_of, host_made}
use Rattle.host.proofs.wax_station_read.Goals as goal

pub returns-then-told-lt-TOLD : goal.returns-then-told-lt-TOLD
unfolding host_of
returns-then-told-lt-TOLD c = simp (lt-ltb _ _ c.if-told-lt-TOLD.true)

pub returns : goal.returns
returns c = host_made _ _ _ _ (le-ltb _ _ c.if-told-lt-TOLD.false) c.read-x.ensures c.tell.ensures
