-- `window::refusal` meets its contract.
use Rattle.window.specs.Facts.{refusal_none}
use mathlib.Core.Path.{sym}
use Rattle.window.proofs.refusal.Goals as goal

pub returns-in_default : goal.returns-in_default
returns-in_default c = sym (refusal_none c.args.a c.in_default.not-Refused)
