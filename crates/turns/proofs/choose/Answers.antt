use mathlib.Core.Path.{sym}
use Rattle.turns.specs.Turn.{choice_of}
use Rattle.turns.proofs.choose.Goals as goal

pub returns-then-not-in_range : goal.returns-then-not-in_range
unfolding choice_of
returns-then-not-in_range c = simp (sym c.in_range.ensures, c.if-not-in_range.true)

pub returns-then-not-shares_ok : goal.returns-then-not-shares_ok
unfolding choice_of
returns-then-not-shares_ok c = simp (sym c.in_range.ensures, c.if-not-in_range.false, sym c.shares_ok.ensures, c.if-not-shares_ok.true)

pub returns-then-rests : goal.returns-then-rests
unfolding choice_of
returns-then-rests c = simp (sym c.in_range.ensures, c.if-not-in_range.false, sym c.shares_ok.ensures, c.if-not-shares_ok.false, sym c.rests.ensures, c.if-rests.true)

pub returns : goal.returns
unfolding choice_of
returns c = simp (sym c.in_range.ensures, c.if-not-in_range.false, sym c.shares_ok.ensures, c.if-not-shares_ok.false, sym c.rests.ensures, c.if-rests.false) c.find.ensures
