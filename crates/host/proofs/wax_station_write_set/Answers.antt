-- `host::wax_station_write_set` meets its contract.
use borrow.Author.Tests.{lt-ltb, le-ltb}
use Rattle.host.specs.Host.{host_of, host_set_of, host_made, set_made}
use Rattle.host.proofs.wax_station_write_set.Goals as goal

pub returns-then-values-lt-OBJECTS : goal.returns-then-values-lt-OBJECTS
unfolding host_set_of
returns-then-values-lt-OBJECTS c = simp (lt-ltb _ _ c.if-values-lt-OBJECTS.true)

pub returns-then-told-lt-TOLD : goal.returns-then-told-lt-TOLD
unfolding host_set_of host_of
returns-then-told-lt-TOLD c = simp (le-ltb _ _ c.if-values-lt-OBJECTS.false, lt-ltb _ _ c.if-told-lt-TOLD.true)

pub returns : goal.returns
returns c = rw (← c.eight-v.ensures) (set_made _ _ _ _ _ _ (le-ltb _ _ c.if-values-lt-OBJECTS.false) (host_made _ _ _ _ (le-ltb _ _ c.if-told-lt-TOLD.false) c.write_set-x.ensures c.tell.ensures))
