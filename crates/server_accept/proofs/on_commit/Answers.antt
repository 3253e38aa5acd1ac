-- `server_accept::on_commit` meets its contract.
use Rattle.server_accept.specs.Facts.{arrivals_fit, last_noticed}
use Rattle.server_accept.specs.Chains.{room_as, post_as, post_waits, commit_goes, commit_waits}
use borrow.Author.Rules.{rules}
use Rattle.server_accept.proofs.on_commit.Goals as goal

pub commit_now-requires : goal.commit_now-requires
commit_now-requires c = (search rules, c.requires.1, search rules, last_noticed _ _ c.station-i.ensures c.noticed.ensures c.requires.3, room_as _ _ _ (commit_goes _ _ c.station-i.ensures c.locking-goes.ensures c.noticed.ensures c.if-goes.true) c.requires.6)

pub returns-then-goes : goal.returns-then-goes
returns-then-goes c = post_as _ _ _ (commit_goes _ _ c.station-i.ensures c.locking-goes.ensures c.noticed.ensures c.if-goes.true) c.commit_now.ensures

pub join_commit-requires : goal.join_commit-requires
join_commit-requires c = let h = arrivals_fit _ _ _ c.requires.2 c.requires.5 c.noticed.ensures in search rules

pub returns : goal.returns
returns c = post_waits _ _ _ (commit_waits _ _ c.station-i.ensures c.locking-goes.ensures c.noticed.ensures c.if-goes.false c.join_commit.ensures)
