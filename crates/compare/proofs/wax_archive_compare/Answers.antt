-- `compare::wax_archive_compare` meets its contract.
use Rattle.compare.specs.declared.Order.TheVariants.{Same, FirstEarly, SecondEarly, Parts, Refused}
use Rattle.compare.specs.Told.{told_of, tells}
use Rattle.compare.proofs.wax_archive_compare.Goals as goal

pub returns-in-Same : goal.returns-in-Same
unfolding told_of
returns-in-Same c = tells c.args.order.now c.args.commit.now Same c.in-Same.is c.compare-answer.ensures

pub returns-in-FirstEarly : goal.returns-in-FirstEarly
unfolding told_of
returns-in-FirstEarly c = tells c.args.order.now c.args.commit.now FirstEarly c.in-FirstEarly.is c.compare-answer.ensures

pub returns-in-SecondEarly : goal.returns-in-SecondEarly
unfolding told_of
returns-in-SecondEarly c = tells c.args.order.now c.args.commit.now SecondEarly c.in-SecondEarly.is c.compare-answer.ensures

pub returns-in-Parts : goal.returns-in-Parts
unfolding told_of
returns-in-Parts c = tells c.args.order.now c.args.commit.now (Parts _) c.in-Parts.is c.compare-answer.ensures

pub returns-in-Refused : goal.returns-in-Refused
unfolding told_of
returns-in-Refused c = tells c.args.order.now c.args.commit.now (Refused _) c.in-Refused.is c.compare-answer.ensures
