-- `window::note_commit` meets its contract.
use Rattle.window.specs.Window.{noted_commit}
use Rattle.window.proofs.note_commit.Goals as goal

pub returns : goal.returns
unfolding noted_commit
returns c = cc
