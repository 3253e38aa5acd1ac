-- `server_accept::on_read` meets its contract.
use Rattle.server_accept.specs.Facts.{arrivals_fit}
use Rattle.server_accept.specs.Chains.{room_as, post_as, post_waits, read_waits, read_sends}
use borrow.Author.Rules.{rules}
use Rattle.server_accept.proofs.on_read.Goals as goal

pub join_read-requires : goal.join_read-requires
join_read-requires c = let h = arrivals_fit _ _ _ c.requires.2 c.requires.5 c.noticed.ensures in search rules

pub returns-then-waits : goal.returns-then-waits
returns-then-waits c = post_waits _ _ _ (read_waits _ _ c.station-i.ensures c.locking-waits.ensures c.noticed.ensures c.address-a.ensures c.if-waits.true c.join_read.ensures)

pub send_page-requires : goal.send_page-requires
send_page-requires c = (search rules, search rules, search rules, room_as _ _ _ (read_sends _ _ c.station-i.ensures c.locking-waits.ensures c.noticed.ensures c.address-a.ensures c.if-waits.false) c.requires.6)

pub returns : goal.returns
returns c = post_as _ _ _ (read_sends _ _ c.station-i.ensures c.locking-waits.ensures c.noticed.ensures c.address-a.ensures c.if-waits.false) c.send_page.ensures
