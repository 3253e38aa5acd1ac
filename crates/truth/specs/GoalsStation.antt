-- The goals' layer under the station's moves.
use Rattle.std.specs.Prelude.{◌≡◌, List, ℕ}
use Rattle.sets.specs.Base.{upd}
use Rattle.line.specs.Messages.{Down}
use Rattle.line.specs.Station.{Station}
use Rattle.line.specs.Line.{World, world_down}

-- a lock taken changes none of these
pub record SameBut (s z : Station) : Type 0 where
  pub num : z.num ≡ s.num
  pub opened : z.opened ≡ s.opened
  pub rd : z.rd ≡ s.rd
  pub wr : z.wr ≡ s.wr

-- the world whose down line i has lost its head
abbrev pub rest_of : ℕ → List Down → World → World
rest_of i l w = world_down w (upd w.down i l)
