-- `station_owner::check_write` meets its contract.
use mathlib.Core.Path.{sym, ◌∙◌}
use native.Mathlib.Omega.{arith}
use Rattle.station_owner.specs.Facts.{set_passed}
use borrow.Author.Rules.{rules}
use Rattle.station_owner.proofs.check_write.Goals as goal

pub overflow_cast-x : goal.overflow_cast-x
overflow_cast-x c = omega (arith, (set_passed _ _ _ (sym c.bad_set.ensures ∙ c.if-bad_set.false)).1)

pub written_with-requires : goal.written_with-requires
written_with-requires c = (search rules, (set_passed _ _ _ (sym c.bad_set.ensures ∙ c.if-bad_set.false)).0)
