-- `message::invalidate_ok` meets its contract.
use Rattle.message.specs.Range.{invalidate_ok}
use Rattle.message.specs.Words.{front_words}
use Rattle.message.proofs.invalidate_ok.Goals as goal

pub returns : goal.returns
unfolding invalidate_ok
returns c = rw (← front_words c.args.m.now) (cc)
