-- `signed::difference` meets its contract.
use mathlib.Core.Path.{sym, subst, ◌∙◌}
use mir.Syntax.{w64}
use mir.Val.{SFits}
use mir.ValLaws.{to_z-of_z}
use Rattle.signed.specs.Bounds.{diff_fits, read_diff}
use borrow.Author.Rules.{rules}
use Rattle.signed.proofs.difference.Goals as goal

pub overflow_sub-result : goal.overflow_sub-result
overflow_sub-result c = subst (SFits w64) (sym (read_diff c.args.new c.args.old (search rules) (search rules))) (diff_fits c.args.new c.args.old (search rules) (search rules))

pub returns : goal.returns
returns c = to_z-of_z w64 _ (overflow_sub-result c) ∙ read_diff c.args.new c.args.old (search rules) (search rules)
