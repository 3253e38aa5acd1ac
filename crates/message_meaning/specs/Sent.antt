-- What stations send is taken by the server and read as meant: kinds 1, 2 and 4 to 8. (The commit: CommitSent.)
use Rattle.std.specs.Prelude.{ℕ, ◌≡◌, List, length}
use Rattle.lists.specs.Bytes.{Bytes}
use Rattle.line.specs.Messages.{Up}
use Rattle.message.specs.Layout.{station_of}
use Rattle.message.specs.Number.{up_number}
use Rattle.message_meaning.specs.Meant.{up_of}

-- the server, which knows the stations' kinds, takes m as message u of a station; it has so many bytes
pub record Reads (kinds : List ℕ) (station size : ℕ) (m : List ℕ) (u : Up) : Type 0 where
  pub length_is : length m ≡ size
  pub bytes_are : Bytes m
  pub accepted : up_number kinds m ≡ 0
  pub station_is : station_of m ≡ station
  pub meant : up_of m ≡ u
