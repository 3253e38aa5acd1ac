-- What it is that a server's step over bytes means a step of the model: a state that means the server, messages that their stations read
-- as those sent, records that are document 01's bytes of those archived.
use Rattle.std.specs.Prelude.{ℕ, ◌≡◌, List, [], ◌∷◌}
use Rattle.sets.specs.Base.{snoc}
use Rattle.layout.specs.Record.{bytes_of}
use Rattle.line.specs.Messages.{Sent, Rec}
use Rattle.recs.specs.Recs.{as_record}
use Rattle.step_meaning.specs.Relation.{AllRecs, AllSent, ReadAs}

pub sent_snoc : (ms : List (List ℕ)) (xs : List Sent) (m : List ℕ) (x : Sent) → AllSent ms xs → ReadAs m x → AllSent (snoc ms m) (snoc xs x)
sent_snoc [] [] m x h k = (k, tt)
sent_snoc [] (y ∷ xs) m x h k = absurd h
sent_snoc (n ∷ ms) [] m x h k = absurd h
sent_snoc (n ∷ ms) (y ∷ xs) m x h k = (h.0, sent_snoc ms xs m x h.1 k)

pub recs_snoc : (bs : List (List ℕ)) (rs : List Rec) (b : List ℕ) (r : Rec) → AllRecs bs rs → b ≡ bytes_of (as_record r) → AllRecs (snoc bs b) (snoc rs r)
recs_snoc [] [] b r h k = (k, tt)
recs_snoc [] (q ∷ rs) b r h k = absurd h
recs_snoc (c ∷ bs) [] b r h k = absurd h
recs_snoc (c ∷ bs) (q ∷ rs) b r h k = (h.0, recs_snoc bs rs b r h.1 k)
