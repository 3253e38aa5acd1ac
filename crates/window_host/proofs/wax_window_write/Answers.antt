-- `window_host::wax_window_write` meets its contract.
use Rattle.window_host.specs.Host.{window_short, window_made}
use borrow.Author.Tests.{lt-ltb, le-ltb}
use Rattle.window_host.proofs.wax_window_write.Goals as goal

pub returns-then-told-lt-TOLD : goal.returns-then-told-lt-TOLD
returns-then-told-lt-TOLD c = window_short _ _ _ _ _ _ (lt-ltb _ _ c.if-told-lt-TOLD.true)

pub returns : goal.returns
returns c = window_made _ _ _ _ _ (le-ltb _ _ c.if-told-lt-TOLD.false) c.write-x.ensures c.tell.ensures
