-- `server_accept::on_write` meets its contract.
use Rattle.server_accept.specs.Facts.{arrivals_fit}
use borrow.Author.Rules.{rules}
use Rattle.server_accept.proofs.on_write.Goals as goal

pub join_write-requires : goal.join_write-requires
join_write-requires c = let h = arrivals_fit _ _ _ c.requires.2 c.requires.5 c.noticed.ensures in search rules
