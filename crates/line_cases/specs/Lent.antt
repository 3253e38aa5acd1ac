-- The table's lines speak of calls that can be made: with any output that is long enough, the same for every call.
use Rattle.std.specs.Prelude.{ℕ, ◌≤◌, ◌≡◌, refl, true, List, [], ◌∷◌, length}
use Rattle.std.proofs.lemmas.Bool.{false≢true}
use Rattle.sets.proofs.Laws.{and_l, and_r}
use Rattle.line.specs.Line.{Begin, Call, Owner, ServerTakes, StationTakes, Broken}
use Rattle.cases.specs.Archive.{c12}
use Rattle.message.specs.Commit.{station_room, commit_room, server_room, records_room}
use Rattle.line_bytes.specs.Bytes.{CallB, OwnerB, ServerTakesB, StationTakesB}
use Rattle.line_bytes.specs.Whole.{name_of, names_of, Room, AllRoom}
use Rattle.line_cases.specs.Shown.{right, all_right}
use Rattle.line_cases.specs.Seen.{Step}
use Rattle.line_cases.specs.Rows.{OfLine, calls, Runs, PartHolds}
use Rattle.line_cases.specs.Table.{commits12}
use Rattle.line_cases.specs.Cases.{C12_archived}

-- o for a station's messages, c for a commit, m for the server's messages, q for its records
module _ (o c m q : List ℕ) where
  -- a call of this name; no table names a broken one
  abbrev pub lend : Call → CallB
  lend (Owner i op) = OwnerB i op o c
  lend (ServerTakes i) = ServerTakesB i m q
  lend (StationTakes i) = StationTakesB i o c
  lend (Broken n) = OwnerB 0 Begin o c

  abbrev pub lend_all : List Call → List CallB
  lend_all [] = []
  lend_all (n ∷ ns) = lend n ∷ lend_all ns

  lend_name : (n : Call) → right n ≡ true → name_of (lend n) ≡ n
  lend_name (Owner i op) e = refl
  lend_name (ServerTakes i) e = refl
  lend_name (StationTakes i) e = refl
  lend_name (Broken n) e = absurd (false≢true e)

  lend_names : (ns : List Call) → all_right ns ≡ true → names_of (lend_all ns) ≡ ns
  lend_names [] e = refl
  lend_names (n ∷ ns) e = λ t. lend_name n (and_l (right n) (all_right ns) e) t ∷ lend_names ns (and_r (right n) (all_right ns) e) t

  module _ (lo : station_room ≤ length o) (lc : commit_room ≤ length c) (lm : server_room ≤ length m) (lq : records_room ≤ length q) where
    lend_room : (n : Call) → Room (lend n)
    lend_room (Owner i op) = (lo, lc)
    lend_room (ServerTakes i) = (lm, lq)
    lend_room (StationTakes i) = (lo, lc)
    lend_room (Broken n) = (lo, lc)

    lend_rooms : (ns : List Call) → AllRoom (lend_all ns)
    lend_rooms [] = tt
    lend_rooms (n ∷ ns) = (lend_room n, lend_rooms ns)

    -- so a part that holds says what these calls show
    pub runs_lent : (l : List Step) (a : List ℕ) → all_right (calls l) ≡ true → PartHolds (OfLine l a) → Runs l a (lend_all (calls l))
    runs_lent l a e h = h (lend_all (calls l)) (lend_names (calls l) e) (lend_rooms (calls l))

    -- C12's, as an example
    pub C12_lent : Runs commits12 c12 (lend_all (calls commits12))
    C12_lent = runs_lent commits12 c12 refl C12_archived
