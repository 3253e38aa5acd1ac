use Rattle.std.proofs.Common.{arith}
use Rattle.text.specs.Text.{decimal64}
use Rattle.streams.proofs.Digits.{number_short, put_there}
use Rattle.streams.proofs.decimal.Goals as goal

pub put_number-requires : goal.put_number-requires
put_number-requires c = omega (arith, number_short c.args.n)

pub returns-clause-bound : goal.returns-clause-bound
returns-clause-bound c = omega (arith, c.put_number.ensures.1, number_short c.args.n)

pub returns-clause-digits : goal.returns-clause-digits
returns-clause-digits c = put_there c.args.out.now c.put_number.new.out (decimal64 c.args.n) c.put_number.result (omega (arith, number_short c.args.n)) c.put_number.ensures.0 (omega (arith, c.put_number.ensures.1))
