-- Exclusion under the moves of owner and station.
use Rattle.std.specs.Prelude.{◌≡◌, Bool, List, ◌++◌, ℕ, ◌≤◌, ◌<◌}
use Rattle.std.proofs.Math.Bool.{true, false}
use Rattle.sets.specs.Base.{has}
use Rattle.line.specs.Messages.{Up, Down}
use Rattle.line.specs.Station.{Station, Did, shown}
use Rattle.line.specs.Server.{Server}
use Rattle.line.specs.Truth.{count}
use Rattle.truth.specs.Clauses.{LockedAt, CalledAt, KeptNames, done_of, shows}

-- what a move of station i owes: D is its down line afterwards, U the up line before
pub record Fine (s : Server) (i : ℕ) (U : List Up) (D : List Down) (k : Did) : Type 0 where
  pub locked : (a : ℕ) → a < 256 → LockedAt s (λ j. k.station) (λ j. D) i a
  pub called : (r a : ℕ) → r < 8 → a < 256 → CalledAt s (λ j. k.station) (λ j. U ++ k.sent) (λ j. D) r i a

-- a station afterwards that shows no more and has read no more
pub record Less (s s' : Station) : Type 0 where
  pub kind : s'.kind ≡ s.kind
  pub shows : (a : ℕ) → shown s' a ≡ true → shown s a ≡ true
  pub rd : (a : ℕ) → has (s'.rd a) ≡ true → has (s.rd a) ≡ true

abbrev pub NoDone : List Up → Type 0
NoDone m = (r t : ℕ) → count (done_of r t) m ≡ 0

-- the kept callbacks done so far, as station and address see them
pub record Ending (kind a : ℕ) (before : Bool) (d : Did) : Type 0 where
  pub same : d.station.kind ≡ kind
  pub unread : has (d.station.rd a) ≡ false
  pub less : shown d.station a ≡ true → before ≡ true

-- .. and a requester r with a called waiter that writes W
pub record Answering (r t : ℕ) (W : ℕ → Bool) (kind a : ℕ) (before : Bool) (d : Did) : Type 0 where
  pub ending : Ending kind a before d
  pub kept : KeptNames t W (d.station.kept r)
  pub done : 1 ≤ count (done_of r t) d.sent → shown d.station a ≡ false
