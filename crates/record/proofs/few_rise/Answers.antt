-- `record::few_rise` meets its contract: all turns test all pairs (`few_rise`).
use mathlib.Core.Path.{◌≡◌, ◌∙◌}
use Prim.Native.Nat.{◌-◌}
use borrow.Author.Rules.{rules}
use Rattle.lists.specs.Tests.{all_to}
use Rattle.record.specs.Few.{most_few, rise_in, few_are, few_rise}
use Rattle.record.proofs.few_rise.Goals as goal

pub returns : goal.returns
returns c =
    let turns : c.all_of.result ≡ all_to (rise_in c.args.s.now c.args.a c.args.n) (most_few - 1) = search rules in
    turns ∙ few_rise _ _ _ (few_are _ _ c.requires.1)
