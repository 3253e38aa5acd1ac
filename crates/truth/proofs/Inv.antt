-- The whole invariant of a world, and what a layer of it owes: that each move from a world with the whole invariant leads to a world
-- with this layer. The layers together are then kept by every list of calls (Run).
use Rattle.std.specs.Prelude.{◌≡◌, true, false, ℕ, ◌<◌}
use Rattle.line.specs.Messages.{keeps}
use Rattle.line.specs.Server.{bad_number}
use Rattle.line.specs.Apart.{Renews, keeps_locks, renews_good}
use Rattle.line.specs.Line.{World}
use Rattle.truth.specs.Inv.{Inv}

-- a new number that an 8 brings is a good one
pub heard_good : (w : World) → Inv w → (i : ℕ) → i < 8 → (t : ℕ) → keeps (w.server.kind i) ≡ true → Renews (w.server.kind i) (w.server.latest i) t (w.server.fin i) → bad_number w.server i t ≡ false
heard_good w h i b t k r = renews_good w.server i t r (keeps_locks (w.server.kind i) k) (h.apart.waiting.entry i b).waits_open
