-- A tally that no commit ends is the play of the whole archive.
use Rattle.replay.specs.Played.{Played, played}
use Rattle.totals.specs.Tally.{Tallied}

abbrev pub told : Tallied → Played
told t = played t.values t.last t.number
