-- `message::callback_ok` meets its contract.
use Rattle.message.specs.Range.{callback_ok}
use Rattle.message.proofs.callback_ok.Goals as goal

pub returns : goal.returns
unfolding callback_ok
returns c = cc
