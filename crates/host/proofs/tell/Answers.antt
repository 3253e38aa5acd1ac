use Rattle.std.proofs.Common.{rules}
use Rattle.host.specs.Host.{told_said}
use Rattle.host.proofs.tell.Goals as goal

pub returns-in_default : goal.returns-in_default
unfolding told_said
returns-in_default c = c.tell_other.ensures

pub returns : goal.returns
unfolding told_said
returns c = search rules
