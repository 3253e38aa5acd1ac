-- Exclusion (F1, F2a, F3a, F3b, G2a, G2c, G2d): events over plain values, the clauses over the fields that they read, and what of the whole
-- invariant they use.
use Rattle.std.specs.Prelude.{◌≡◌, Bool, true, false, List, ◌++◌, ℕ, ◌<◌, eqb}
use Rattle.line.specs.Messages.{page_of, locking, Up, Down}
use Rattle.line.specs.Station.{Station}
use Rattle.line.specs.Server.{Server, Serving, Waiter, is_want}
use Rattle.line.specs.Line.{World, sent_to}
use Rattle.line.specs.Apart.{Apart}
use Rattle.truth.specs.Clauses.{TokensAt, CoverageAt, CallbacksAt, G4At, ValuesAt, Locked, Called}
use Rattle.truth.specs.Inv.{Inv}

pub record Exclusive (t : ℕ → Station) (u : ℕ → List Up) (ol wl : ℕ → ℕ) (listed : ℕ → ℕ → Bool) (latest : ℕ → ℕ) (queue : ℕ → Waiter) (d : ℕ → List Down) : Type 0 where
  pub locked : (j a : ℕ) → j < 8 → a < 256 → locking (t j).kind ≡ true
      → Locked j a (ol a) (wl (page_of a)) (listed j (page_of a)) ((t j).cached (page_of a)) ((t j).unav a) ((t j).rd a) (d j)
  pub called : (r j a : ℕ) → r < 8 → j < 8 → a < 256 → locking (t j).kind ≡ true → eqb j r ≡ false → is_want (queue r).want ≡ true → (queue r).called ≡ true → (queue r).writes a ≡ true
      → Called r (latest r) a ((queue r).pend j) ((t j).cached (page_of a)) ((t j).unav a) ((t j).rd a) (u j) (d j)

abbrev pub ExclusiveIn : (ℕ → Station) → (ℕ → List Up) → Server → (ℕ → List Down) → Type 0
ExclusiveIn t u s d = Exclusive t u s.ol s.wl s.listed s.latest s.queue d

-- the lines of a step under way: e is what was there before
abbrev pub lines : (ℕ → List Down) → Serving → ℕ → List Down
lines e x j = e j ++ sent_to j x.sent

-- what is used of the whole invariant. `apart` is not in it: arrivals differ, a lock's holder is a station
pub record Known (s : Server) (t : ℕ → Station) (u : ℕ → List Up) (d : ℕ → List Down) : Type 0 where
  pub tokens : (i : ℕ) → i < 8 → TokensAt s t u d i
  pub coverage : (i : ℕ) → i < 8 → CoverageAt s t u d i
  pub callbacks : (r j : ℕ) → r < 8 → j < 8 → CallbacksAt s t u d r j
  pub G4 : (i j : ℕ) → i < 8 → j < 8 → G4At s i j
  pub exclusive : ExclusiveIn t u s d
  pub values : (i a : ℕ) → i < 8 → a < 256 → ValuesAt s t d i a
  pub apart : Apart s

-- the extra premise
abbrev pub KnownApart : Type 0
KnownApart = (w : World) → Inv w → Apart w.server
