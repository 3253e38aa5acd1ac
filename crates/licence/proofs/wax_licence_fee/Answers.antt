-- `licence::wax_licence_fee` meets its contract.
use mathlib.Core.Path.{sym, ap, ◌∙◌}
use Rattle.std.proofs.Common.{◌≡◌, rules, to_z, of_z}
use Rattle.std.specs.Int.{w64}
use Rattle.tariff.specs.Table.{fee_of}
use Rattle.tariff.specs.Facts.{lawful_tells}
use Rattle.licence.specs.Fee.{breaks_rules, no_sum, no_fee, sum_and_fee, billed}
use Rattle.licence.proofs.wax_licence_fee.Goals as goal

pub returns-then-not-keeps_rules : goal.returns-then-not-keeps_rules
returns-then-not-keeps_rules c = breaks_rules _ _ _ _ _ _ _ _ c.keeps_rules.ensures c.if-not-keeps_rules.true

pub fee_for-owed-requires : goal.fee_for-owed-requires
fee_for-owed-requires c = (lawful_tells _ (sym c.keeps_rules.ensures ∙ c.if-not-keeps_rules.false)).few

pub returns-in-Refused : goal.returns-in-Refused
returns-in-Refused c = no_sum _ _ _ _ _ _ _ _ c.keeps_rules.ensures c.if-not-keeps_rules.false _ c.frames_of-sum.ensures _ c.in-Refused.is

pub returns-in-Beyond : goal.returns-in-Beyond
returns-in-Beyond c =
    let e : to_z w64 (of_z w64 c.in-Sum.n) ≡ c.in-Sum.n = search rules in
    no_fee _ _ _ _ _ _ _ _ c.keeps_rules.ensures c.if-not-keeps_rules.false _ c.frames_of-sum.ensures _ _ c.in-Sum.is (c.fee_for-owed.ensures ∙ ap (fee_of _) e) c.in-Beyond.is

pub returns-in-Owed : goal.returns-in-Owed
returns-in-Owed c =
    let e : to_z w64 (of_z w64 c.in-Sum.n) ≡ c.in-Sum.n = search rules in
    let f : to_z w64 (of_z w64 c.in-Owed.cents) ≡ c.in-Owed.cents = search rules in
    (λ i. billed (e i) (f i) 0) ∙ sum_and_fee _ _ _ _ _ _ _ _ c.keeps_rules.ensures c.if-not-keeps_rules.false _ c.frames_of-sum.ensures _ _ _ c.in-Sum.is (c.fee_for-owed.ensures ∙ ap (fee_of _) e) c.in-Owed.is
