-- The bytes lent for what a call sends: the messages that stand there, and that those sent are read there again.
use Rattle.std.specs.Prelude.{ℕ, zero, suc, ◌≡◌, cond, List, [], ◌∷◌, ◌++◌, eqb, length, take, drop}
use Rattle.station_answer.specs.Did.{Outcome}
use Rattle.message.specs.Layout.{message_length}

-- "every message is 144 bytes": the first n, one behind the other
unfoldable pub messages_in : List ℕ → ℕ → List (List ℕ)
messages_in o zero = []
messages_in o (suc n) = take message_length o ∷ messages_in (drop message_length o) n

-- each has the length of one
abbrev pub Sized : List (List ℕ) → Type 0
Sized [] = Unit {0}
Sized (m ∷ ms) = (length m ≡ message_length) × Sized ms

-- the commit, if there is one: the first n bytes of those lent for it
abbrev pub commit_in : List ℕ → ℕ → List (List ℕ)
commit_in c n = cond (eqb n 0) [] (take n c ∷ [])

-- what the host has to carry up after a call, in this order
abbrev pub sent_by : Outcome → List (List ℕ)
sent_by b = messages_in b.messages b.said.messages ++ commit_in b.commit b.said.commit
