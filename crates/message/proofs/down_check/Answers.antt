-- `message::down_check` meets its contract: a message of the right length has its fields.
use Rattle.message.specs.Facts.{message_there}
use mathlib.Core.Path.{sym, ◌∙◌}
use Rattle.message.proofs.down_check.Goals as goal

pub down_range-requires : goal.down_range-requires
down_range-requires c = message_there _ (sym c.length_ok.ensures ∙ c.if-not-length_ok.false)
