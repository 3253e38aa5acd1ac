-- `tariff_file::is_digit` meets its contract.
use borrow.Author.Rules.{rules}
use Rattle.tariff_file.specs.Line.{is_digit}
use Rattle.tariff_file.proofs.is_digit.Goals as goal

pub returns : goal.returns
unfolding is_digit
returns c = search rules
