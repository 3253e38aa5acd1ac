-- `station_owner::read_here` meets its contract.
use Prim.Native.Nat.{ℕ}
use mathlib.Core.Path.{sym, ap, ◌∙◌}
use Rattle.station_answer.specs.Handed.{hand_none, hand_one}
use Rattle.station_answer.specs.Did.{said}
use Rattle.station_answer.specs.declared.Answer.TheVariants.{Value}
use Rattle.station_owner.specs.Owner.{read_here_b, read_local_b, read_ask_b}
use Rattle.station_owner.proofs.read_here.Goals as goal

pub returns-then-shown : goal.returns-then-shown
unfolding read_here_b read_local_b
returns-then-shown c = simp (sym c.shown.ensures, c.if-shown.true) (hand_none _ _ _ c.record_read.ensures (c.say.ensures ∙ ap (λ (v : ℕ). said (Value v) 0 0) c.copy-x.ensures))

pub returns : goal.returns
unfolding read_here_b read_ask_b
returns c = simp (sym c.shown.ensures, c.if-shown.false) (hand_one _ _ _ _ c.for_read.ensures c.request.ensures c.say-2.ensures)
