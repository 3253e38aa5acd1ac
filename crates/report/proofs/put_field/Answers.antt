-- `report::put_field` meets its contract.
use Rattle.report.specs.Fits.{field_same, field_room}
use Rattle.text.specs.Text.{put_of}
use mathlib.Core.Path.{ap, ◌∙◌}
use native.Mathlib.Omega.{arith}
use Rattle.report.proofs.put_field.Goals as goal

pub put_field-requires : goal.put_field-requires
put_field-requires c = omega (arith, field_room c.args.n c.args.follows c.from.ensures (omega arith))

pub returns : goal.returns
returns c = (c.put_field.ensures.0 ∙ ap (put_of _ _) (field_same c.args.n c.args.follows c.from.ensures (omega arith)), omega (arith, field_room c.args.n c.args.follows c.from.ensures (omega arith)))
