-- What it is that a call over bytes means a call of the model: the same answer, a state that means the station afterwards, and messages
-- that the server reads as those sent.
use Rattle.std.specs.Prelude.{ℕ, List, [], ◌∷◌}
use Rattle.sets.specs.Base.{snoc}
use Rattle.line.specs.Messages.{Up}
use Rattle.call_meaning.specs.Relation.{AllRead, ReadAs}

pub all_snoc : (i : ℕ) (ms : List (List ℕ)) (us : List Up) (m : List ℕ) (u : Up) → AllRead i ms us → ReadAs i m u → AllRead i (snoc ms m) (snoc us u)
all_snoc i [] [] m u h k = (k, tt)
all_snoc i [] (v ∷ us) m u h k = absurd h
all_snoc i (x ∷ ms) [] m u h k = absurd h
all_snoc i (x ∷ ms) (v ∷ us) m u h k = (h.0, all_snoc i ms us m u h.1 k)
