use native.Mathlib.Omega.{arith}
use mathlib.Core.Path.{sym, ◌∙◌}
use Rattle.tariff_file.specs.Turns.{nothing_there, begins, digit, stops_at, too_large, goes_on, ends}
use Rattle.tariff_file.proofs.count_of.Goals as goal

pub returns-then-word-eq0 : goal.returns-then-word-eq0
returns-then-word-eq0 c = sym (nothing_there _ c.if-word-eq0.true)

pub loop-i-init : goal.loop-i-init
loop-i-init c = (omega arith, omega arith, begins _ c.if-word-eq0.false)

pub returns-then-not-is_digit : goal.returns-then-not-is_digit
returns-then-not-is_digit c = sym (c.loop-i.invariant.2 ∙ stops_at _ _ _ c.loop-i-test.true (sym c.is_digit.ensures ∙ c.if-not-is_digit.true))

pub returns-then-n-gt-TENTH : goal.returns-then-n-gt-TENTH
returns-then-n-gt-TENTH c = sym (c.loop-i.invariant.2 ∙ too_large _ _ _ c.loop-i-test.true (sym c.is_digit.ensures ∙ c.if-not-is_digit.false) (omega (arith, digit _ (sym c.is_digit.ensures ∙ c.if-not-is_digit.false))))

pub overflow_sub-n : goal.overflow_sub-n
overflow_sub-n c = omega (arith, digit _ (sym c.is_digit.ensures ∙ c.if-not-is_digit.false))

pub overflow_add-n : goal.overflow_add-n
overflow_add-n c = omega (arith, digit _ (sym c.is_digit.ensures ∙ c.if-not-is_digit.false))

pub returns-then-n-gt9223372036854775807 : goal.returns-then-n-gt9223372036854775807
returns-then-n-gt9223372036854775807 c = sym (c.loop-i.invariant.2 ∙ too_large _ _ _ c.loop-i-test.true (sym c.is_digit.ensures ∙ c.if-not-is_digit.false) (omega (arith, digit _ (sym c.is_digit.ensures ∙ c.if-not-is_digit.false))))

pub loop-i-preserved : goal.loop-i-preserved
loop-i-preserved c = (omega arith, omega arith, rw c.long.ensures.0 (c.loop-i.invariant.2 ∙ goes_on _ _ _ c.loop-i-test.true (sym c.is_digit.ensures ∙ c.if-not-is_digit.false) (omega (arith, digit _ (sym c.is_digit.ensures ∙ c.if-not-is_digit.false)))))

pub returns : goal.returns
returns c = sym (c.loop-i.invariant.2 ∙ ends c.args.word.now c.loop-i.n c.loop-i.i (omega arith))
