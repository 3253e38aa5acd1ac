-- What it is that a server's step over bytes means a step of the model: a state that means the server, messages that their stations read
-- as those sent, records that are document 01's bytes of those archived.
use Rattle.std.specs.Prelude.{ℕ, suc, ◌≤◌, ◌<◌, ◌≡◌, Bool, true, ◌≢◌, List, [], ◌∷◌, length}
use Rattle.lists.specs.Bytes.{Bytes}
use Rattle.kinds.specs.Kinds.{most_kind}
use Rattle.layout.specs.Record.{bytes_of}
use Rattle.line.specs.Messages.{page_of, address, Sent, To, Rec}
use Rattle.line.specs.Server.{Server, WantWrite, WantCommit, waits}
use Rattle.line.specs.Server as Model
use Rattle.message.specs.Layout.{message_length, station_of}
use Rattle.message.specs.Number.{down_number}
use Rattle.message_meaning.specs.Meant.{down_of}
use Rattle.recs.specs.Recs.{as_record}
use Rattle.server_meaning.specs.Meant.{Is}
use Rattle.server_meaning.specs.Tests.{Wanting}
use Rattle.server_actions.specs.Actions.{Serving}

-- a write's objects are of one page, for whose first the request stands
pub record Paged (req : ℕ) (writes : ℕ → Bool) : Type 0 where
  pub stands : req ≡ address (page_of req) 0
  pub page_only_lem : (b : ℕ) → writes b ≡ true → page_of b ≡ page_of req

-- what number 1 asks of the server, in the model's words, as far as messages and records need it
pub record Sound (m : Server) : Type 0 where
  pub kinds : (i : ℕ) → m.kind i ≤ most_kind
  -- whoever waits has a transaction, and so has the work of a commit
  pub numbered : (i : ℕ) → i < 8 → waits m i ≡ true → m.latest i ≢ 0
  pub worked : (i : ℕ) → i < 8 → (m.queue i).want ≡ WantCommit → (m.queue i).work.transaction ≢ 0
  pub paged : (i : ℕ) → i < 8 → (m.queue i).want ≡ WantWrite → Paged (m.queue i).req (m.queue i).writes
  -- a page that is locked whole is so by a station of the line, and was given to a transaction
  pub holder : (p h : ℕ) → m.wl p ≡ suc h → (h < 8) × (m.whole_for p ≢ 0)

-- a message is read by the station that it goes to as what was sent
pub record ReadAs (m : List ℕ) (x : Sent) : Type 0 where
  pub to : ℕ
  pub to_is : to < 8
  pub sent_is : x ≡ To to (down_of m)
  pub length_is : length m ≡ message_length
  pub bytes_are : Bytes m
  pub station_is : station_of m ≡ to
  pub accepted : down_number to m ≡ 0

abbrev pub AllSent : List (List ℕ) → List Sent → Type 0
AllSent [] [] = Unit {0}
AllSent [] (x ∷ xs) = ⊥
AllSent (m ∷ ms) [] = ⊥
AllSent (m ∷ ms) (x ∷ xs) = ReadAs m x × AllSent ms xs

-- a record's bytes are document 01's
abbrev pub AllRecs : List (List ℕ) → List Rec → Type 0
AllRecs [] [] = Unit {0}
AllRecs [] (r ∷ rs) = ⊥
AllRecs (b ∷ bs) [] = ⊥
AllRecs (b ∷ bs) (r ∷ rs) = (b ≡ bytes_of (as_record r)) × AllRecs bs rs

-- a step under way
pub record Serves (b : Serving) (x : Model.Serving) : Type 0 where
  pub state : Is b.state x.server
  pub wanting : Wanting b.state
  pub sound : Sound x.server
  pub sent : AllSent b.sent x.sent
  pub recs : AllRecs b.recs x.recs
