use Rattle.std.proofs.Common.{rules, take, ◌+◌, ◌-◌, ap, refl}
use Rattle.streams.proofs.Middle.{middle, none_taken, behind, some_asked}
use Rattle.streams.proofs.read_more.Goals as goal

pub returns-in-Ok-eq0-clause-brought : goal.returns-in-Ok-eq0-clause-brought
returns-in-Ok-eq0-clause-brought g c = (
  none_taken _ _ _ (ap (λ n. take n c.read.new.buf) c.in-Ok-eq0.field-0-test) c.in-Ok-eq0.ensures.bytes.0,
  λ h. c.in-Ok-eq0.ensures.bytes.1 c.in-Ok-eq0.field-0-test (some_asked c.args.len _ c.min.result c.args.input.now c.read.new.buf c.requires refl c.min.ensures c.read.auto.buf h),
)

pub returns-in-Ok-clause-brought : goal.returns-in-Ok-clause-brought
returns-in-Ok-clause-brought g c = (
  search rules,
  behind c.args.len c.in-Ok.n _ c.args.input.now c.read.new.buf c.requires c.in-Ok.ensures.bound.0,
  rw (middle c.args.len c.in-Ok.n (c.args.len + c.min.result - c.args.len) c.args.input.now c.read.new.buf c.requires c.in-Ok.ensures.bound.0) c.in-Ok.ensures.bytes.0,
)
