-- `window::taken` meets its contract.
use Rattle.window.specs.Facts.{taken_none}
use mathlib.Core.Path.{sym}
use Rattle.window.proofs.taken.Goals as goal

pub returns-in_default : goal.returns-in_default
returns-in_default c = sym (taken_none c.args.a c.in_default.not-Refused)
