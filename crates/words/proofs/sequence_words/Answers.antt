-- `words::sequence_words` meets its contract.
use Rattle.text.specs.Stores.{put_join}
use native.Mathlib.Omega.{arith}
use Rattle.words.specs.Words.{words_of}
use Rattle.words.specs.Fits.{said_at}
use Rattle.words.proofs.sequence_words.Goals as goal

pub say-requires : goal.say-requires
say-requires c = omega (arith, said_at _ _ _ _ _ c.say-at.ensures)

pub returns : goal.returns
unfolding words_of
returns c = put_join _ _ _ _ c.say-at.ensures c.say.ensures
