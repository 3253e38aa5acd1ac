-- `server_actions::install` meets its contract. What it wrote is copied before the entry goes (`row_copied`).
use mathlib.Core.Path.{ap, ◌∙◌}
use lib.ListN.{length}
use Rattle.server_actions.specs.Chains.{install_first, install_next, install_chain}
use Rattle.server_actions.specs.Stores.{written_row, row_copied}
use borrow.Author.Rules.{rules}
use Rattle.server_actions.proofs.install.Goals as goal

pub put_installed-b-requires : goal.put_installed-b-requires
put_installed-b-requires c = (search rules, search rules, search rules, install_first _ _ _ _ _ c.requires.3)

pub inform_all-requires : goal.inform_all-requires
inform_all-requires c = let h = c.requires in let y = row_copied _ _ h.0 h.1 c.copy_in.ensures in (search rules, ap length y ∙ written_row _ _ h.0 h.1, search rules, install_next _ _ _ _ _ c.written_pages-d.ensures y c.put_installed-b.ensures h.3)

pub returns : goal.returns
returns c = let h = c.requires in install_chain _ _ _ _ _ c.written_pages-d.ensures (row_copied _ _ h.0 h.1 c.copy_in.ensures) c.put_installed-b.ensures c.inform_all.ensures
