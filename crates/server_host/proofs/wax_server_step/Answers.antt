-- `server_host::wax_server_step` meets its contract.
use borrow.Author.Tests.{lt-ltb, le-ltb}
use Rattle.server_host.specs.Host.{host_of, host_made}
use Rattle.server_host.proofs.wax_server_step.Goals as goal

pub returns-then-served-lt-SERVED : goal.returns-then-served-lt-SERVED
unfolding host_of
returns-then-served-lt-SERVED c = rw c.number.ensures (simp (lt-ltb _ _ c.if-served-lt-SERVED.true))

pub returns : goal.returns
returns c = host_made _ _ _ _ c.step-x.result (le-ltb _ _ c.if-served-lt-SERVED.false) c.step-x.ensures c.tell.ensures
