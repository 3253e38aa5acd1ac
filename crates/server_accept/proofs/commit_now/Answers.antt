-- `server_accept::commit_now` meets its contract.
use mathlib.Core.Path.{sym, ◌∙◌}
use Rattle.server_accept.specs.Facts.{last_fits}
use Rattle.server_accept.specs.Chains.{room_as, post_as, commit_aborts, commit_installs}
use borrow.Author.Rules.{rules}
use Rattle.server_accept.proofs.commit_now.Goals as goal

pub abort-requires : goal.abort-requires
abort-requires c = (search rules, search rules, room_as _ _ _ (commit_aborts _ _ _ (sym c.last.ensures ∙ c.if-last.true)) c.requires.4)

pub returns-then-last : goal.returns-then-last
returns-then-last c = post_as _ _ _ (commit_aborts _ _ _ (sym c.last.ensures ∙ c.if-last.true)) c.abort.ensures

pub install-requires : goal.install-requires
install-requires c = (search rules, search rules, last_fits _ _ _ c.requires.3 c.last.ensures (search rules) c.if-last.false c.leave.ensures c.unpack_commit.ensures, room_as _ _ _ (commit_installs _ _ _ (λ e. c.if-last.false (c.last.ensures ∙ e)) c.leave.ensures c.unpack_commit.ensures) c.requires.4)

pub returns : goal.returns
returns c = post_as _ _ _ (commit_installs _ _ _ (λ e. c.if-last.false (c.last.ensures ∙ e)) c.leave.ensures c.unpack_commit.ensures) c.install.ensures
