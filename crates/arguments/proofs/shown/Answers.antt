-- `arguments::shown` meets its contract.
use native.Mathlib.Omega.{arith}
use Rattle.arguments.specs.Modes.{shown_length, shown}
use borrow.Author.Tests.{le-ltb}
use lib.Seq.{length-take-le}
use Rattle.arguments.proofs.shown.Goals as goal

pub returns : goal.returns
unfolding shown
returns c = (simp (le-ltb _ _ c.if-word-lt-SHOWN.false), omega (arith, length-take-le shown_length c.args.word.now (omega arith)))
