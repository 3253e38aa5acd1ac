-- `words::put_words` meets its contract.
use Rattle.words.specs.Words.{words_of}
use Rattle.words.proofs.put_words.Goals as goal

pub returns-in-Nothing : goal.returns-in-Nothing
unfolding words_of
returns-in-Nothing c = rw c.in-Nothing.is c.put_text.ensures.0

pub returns-in-Header : goal.returns-in-Header
unfolding words_of
returns-in-Header c = rw c.in-Header.is c.header_words.ensures

pub returns-in-Cut : goal.returns-in-Cut
unfolding words_of
returns-in-Cut c = rw c.in-Cut.is c.cut_words.ensures

pub returns-in-Sizes : goal.returns-in-Sizes
unfolding words_of
returns-in-Sizes c = rw c.in-Sizes.is c.size_words.ensures

pub returns-in-Reads : goal.returns-in-Reads
unfolding words_of
returns-in-Reads c = rw c.in-Reads.is c.say.ensures

pub returns-in-Writes : goal.returns-in-Writes
unfolding words_of
returns-in-Writes c = rw c.in-Writes.is c.say-in-Writes.ensures

pub returns-in-Transaction : goal.returns-in-Transaction
unfolding words_of
returns-in-Transaction c = rw c.in-Transaction.is c.put_text-in-Transaction.ensures.0

pub returns-in-Station : goal.returns-in-Station
unfolding words_of
returns-in-Station c = rw c.in-Station.is c.say-in-Station.ensures

pub returns-in-Kind : goal.returns-in-Kind
unfolding words_of
returns-in-Kind c = rw c.in-Kind.is c.say-in-Kind.ensures

pub returns-in-Zero : goal.returns-in-Zero
unfolding words_of
returns-in-Zero c = rw c.in-Zero.is c.say-in-Zero.ensures

pub returns-in-Order : goal.returns-in-Order
unfolding words_of
returns-in-Order c = rw c.in-Order.is c.order_words.ensures

pub returns-in-Sequence : goal.returns-in-Sequence
unfolding words_of
returns-in-Sequence c = rw c.in-Sequence.is c.sequence_words.ensures

pub returns-in-Read : goal.returns-in-Read
unfolding words_of
returns-in-Read c = rw c.in-Read.is c.read_words.ensures
