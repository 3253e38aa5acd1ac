-- What is lent, afterwards, with what the step answers: the paper's number (0 for none) and the counts, for each case.
use Rattle.std.specs.Prelude.{ℕ, true, List}
use Rattle.server_actions.specs.Step.{Outcome, refused}
use Rattle.server.specs.declared.Served.{Served}
use Rattle.server.specs.declared.Served.TheVariants.{Refused, Sent}

abbrev pub outcome : List ℕ → List ℕ → List ℕ → Served → Outcome
outcome s o q (Refused n) = refused n s o q
outcome s o q (Sent m r) = record { accepted = true; state = s; messages = o; records = q; number = 0; sent = m; archived = r }
