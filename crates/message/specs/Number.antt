-- "Turned back, in checking order": what the bytes of a message say before any state is looked at, for both ends.
use Rattle.std.specs.Prelude.{ℕ, List, Bool, ◌&&◌, cond, length, get_or, eqb, leb}
use Rattle.kinds.specs.Kinds.{most_kind}
use Rattle.lists.specs.Tests.{all_to}
use Rattle.message.specs.Layout.{message_length, kind_of, station_of}
use Rattle.message.specs.Range.{station_ok, up_fields_ok, down_fields_ok}
use Rattle.message.specs.Commit.{commit_length_ok, commit_number}

-- number 2: "every message is 144 bytes", "A commit is then 144 + 4 × (n + m) bytes and the record"; kind 3 makes a commit, at either end
unfoldable pub length_ok : List ℕ → Bool
length_ok m = cond (eqb (kind_of m) 3) (commit_length_ok m) (eqb (length m) message_length)

-- numbers 3 and 4: "this end doesn't take the kind", then the fields
unfoldable pub up_range : List ℕ → ℕ
up_range m = cond (leb 1 (kind_of m) && leb (kind_of m) 8) (cond (station_ok m && up_fields_ok m) 0 4) 3

unfoldable pub down_range : ℕ → List ℕ → ℕ
down_range at m = cond (leb 16 (kind_of m) && leb (kind_of m) 23) (cond (leb at 7 && station_ok m && down_fields_ok at m) 0 4) 3

-- a station: 2, 3, 4
unfoldable pub down_number : ℕ → List ℕ → ℕ
down_number at m = cond (length_ok m) (down_range at m) 2

-- the kinds of the eight stations, as the server knows them
unfoldable pub kind_ok : List ℕ → ℕ → Bool
kind_ok kinds i = leb (get_or kinds i 0) most_kind

unfoldable pub kinds_ok : List ℕ → Bool
kinds_ok kinds = eqb (length kinds) 8 && all_to (kind_ok kinds) 8

-- number 5, for a commit alone
abbrev pub record_number : List ℕ → List ℕ → ℕ
record_number kinds m = cond (eqb (kind_of m) 3) (commit_number (get_or kinds (station_of m) 0) m) 0

-- the server: 2, 3, 4, 5; 1 for kinds that are none
unfoldable pub up_number : List ℕ → List ℕ → ℕ
up_number kinds m =
    cond (kinds_ok kinds) (cond (length_ok m) (cond (eqb (up_range m) 0) (record_number kinds m) (up_range m)) 2) 1
