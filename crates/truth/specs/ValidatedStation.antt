-- Validating station: pages dropped, and the end of a transaction with its kept callbacks.
use Rattle.line.specs.Station.{Station}
use Rattle.truth.specs.ValidatedEvents.{Less}

abbrev pub LessStation : Station → Station → Type 0
LessStation s t = Less s.cached s.cver s.copy t.cached t.cver t.copy
