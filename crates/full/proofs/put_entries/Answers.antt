use borrow.Author.Rules.{rules}
use Rattle.full.specs.Full.{entries_to, entries_of}
use native.Mathlib.Omega.{arith}
use Prim.Native.Nat.{◌*◌}
use mathlib.Core.Path.{ap, ◌∙◌}
use lib.ListN.{length}
use native.Mathlib.Numerals.{add-one}
use borrow.Author.Tests.{eq-eqb, ne_eqb}
use Rattle.layout.specs.Record.{value_length}
use Rattle.full.proofs.put_entries.Goals as goal

pub returns-then-values-k : goal.returns-then-values-k
unfolding entries_of
returns-then-values-k c = simp (ne_eqb (length c.args.values.now) (value_length * length c.args.addresses.now) (λ e. c.if-values-k.true (omega arith)))

pub returns-then-values-ne0 : goal.returns-then-values-ne0
unfolding entries_of
returns-then-values-ne0 c = simp (ne_eqb (length c.args.values.now) (value_length * length c.args.addresses.now) (λ e. c.if-values-ne0.true (omega arith)))

pub loop-i-init : goal.loop-i-init
unfolding entries_to
loop-i-init c = search rules

pub loop-i-preserved : goal.loop-i-preserved
unfolding entries_to
loop-i-preserved c = (search rules, search rules, rw (add-one, ← c.loop-i.invariant.2, ← c.get_u64-value.ensures) c.entry_line-next.ensures)

pub returns : goal.returns
unfolding entries_of
returns c = simp (eq-eqb (length c.args.values.now) (value_length * length c.args.addresses.now) (omega arith)) (c.loop-i.invariant.2 ∙ ap (entries_to _ _ _ _ _) (omega arith))
