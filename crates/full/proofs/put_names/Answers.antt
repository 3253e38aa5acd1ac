-- `full::put_names` meets its contract.
use Rattle.full.specs.Full.{names, field_short}
use Rattle.text.specs.Stores.{put_join}
use native.Mathlib.Omega.{arith}
use Rattle.full.proofs.put_names.Goals as goal

pub put_field-at-requires : goal.put_field-at-requires
put_field-at-requires c = omega (arith, field_short c.from.result c.args.sep)

pub put_field-at-requires-2 : goal.put_field-at-requires-2
put_field-at-requires-2 c = omega (arith, field_short c.from.result c.args.sep, field_short c.from-2.result c.args.sep)

pub put_field-at-requires-3 : goal.put_field-at-requires-3
put_field-at-requires-3 c = omega (arith, field_short c.from.result c.args.sep, field_short c.from-2.result c.args.sep, field_short c.from-3.result c.args.sep)

pub put_field-requires : goal.put_field-requires
put_field-requires c = omega (arith, field_short c.from.result c.args.sep, field_short c.from-2.result c.args.sep, field_short c.from-3.result c.args.sep, field_short c.from-4.result c.args.sep)

pub returns : goal.returns
unfolding names
returns c = (put_join _ _ _ _ (rw c.from.ensures at c.put_field-at.ensures.0) (put_join _ _ _ _ (rw c.from-2.ensures at c.put_field-at-2.ensures.0) (put_join _ _ _ _ (rw c.from-3.ensures at c.put_field-at-3.ensures.0) (rw c.from-4.ensures at c.put_field.ensures.0))), omega (arith, field_short c.from.result c.args.sep, field_short c.from-2.result c.args.sep, field_short c.from-3.result c.args.sep, field_short c.from-4.result c.args.sep, c.put_field-at.ensures.1, c.put_field-at-2.ensures.1, c.put_field-at-3.ensures.1, c.put_field.ensures.1))
