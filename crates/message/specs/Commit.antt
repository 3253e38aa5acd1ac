-- A commit: by document 02 it "carries one version for each entry of its record, in record order", then the record; "from a locking station
-- all are 0". Its length, and number 5.
use Rattle.std.specs.Prelude.{ℕ, zero, suc, ◌+◌, ◌-◌, ◌*◌, ◌/◌, ◌^◌, List, Bool, not, ◌&&◌, ◌||◌, cond, length, get_or, drop, eqb, leb}
use Rattle.std.specs.Int.Bits.{bit_or}
use Rattle.kinds.specs.Kinds.{locking}
use Rattle.lists.specs.Tests.{all_to}
use Rattle.le.specs.Le.{u16_at, u32_at}
use Rattle.limits.specs.Limit.{limit}
use Rattle.layout.specs.Record.{header_length, entry_length, record_length}
use Rattle.record.specs.Check.{read_count_from, write_count_from, commit_number_from, transaction_number_from, station_number_from, station_kind_from, check_of}
use Rattle.message.specs.Layout.{message_length, version_width, station_of, transaction_of, pages_of}

abbrev pub versions_at : ℕ
versions_at = message_length

-- a commit of no entries
abbrev pub shortest_commit : ℕ
shortest_commit = versions_at + header_length

-- "A commit is then 144 + 4 × (n + m) bytes and the record", so its length says how many entries it has, and where its record stands, and the
-- record's addresses
unfoldable pub count_of : List ℕ → ℕ
count_of m = (length m - shortest_commit) / (version_width + entry_length)

unfoldable pub record_at : List ℕ → ℕ
record_at m = versions_at + count_of m * version_width

abbrev pub addresses_at : List ℕ → ℕ
addresses_at m = record_at m + header_length

-- document 02, wish 1: "Records are then at most 880 bytes", on the way up and as the server leaves them
abbrev pub longest_sent : ℕ
longest_sent = record_length limit limit

-- what number 1 asks of outputs: 8 messages and a commit of "at most 1,408, the station's buffer too", 128 messages and "the server's record
-- buffer 7,040"
abbrev pub station_room : ℕ
station_room = 8 * message_length

abbrev pub commit_room : ℕ
commit_room = versions_at + (limit + limit) * version_width + longest_sent

abbrev pub server_room : ℕ
server_room = 128 * message_length

abbrev pub records_room : ℕ
records_room = 8 * longest_sent

-- the record's size fields
abbrev pub sent_reads : List ℕ → ℕ
sent_reads m = u16_at m (record_at m + read_count_from)

abbrev pub sent_writes : List ℕ → ℕ
sent_writes m = u16_at m (record_at m + write_count_from)

abbrev pub entries_of : List ℕ → ℕ
entries_of m = sent_reads m + sent_writes m

-- the version of entry e
abbrev pub entry_version : List ℕ → ℕ → ℕ
entry_version m e = u32_at m (versions_at + e * version_width)

-- "or a commit isn't" as long as its versions and its record
unfoldable pub commit_length_ok : List ℕ → Bool
commit_length_ok m = leb shortest_commit (length m) && (eqb (length m) (shortest_commit + count_of m * (version_width + entry_length)) && eqb (entries_of m) (count_of m))

-- document 02, wish 1: "The server gives number 5 to n or m above 48."
unfoldable pub few_ok : List ℕ → Bool
few_ok m = leb (sent_reads m) limit && leb (sent_writes m) limit

-- "a version that must be 0 isn't": it may be another from a validating station
unfoldable pub version_ok : ℕ → List ℕ → ℕ → Bool
version_ok kind m e = eqb (entry_version m e) 0 || not (locking kind)

-- the pages of n addresses from `at`
unfoldable pub pages_to : List ℕ → ℕ → ℕ → ℕ
pages_to m at zero = 0
pages_to m at (suc n) = bit_or (pages_to m at n) (2 ^ (get_or m (at + n) 0 / 8))

-- "a commit's record disagrees with message or server on station, kind, transaction or pages used"; its number is 0 on the way up
unfoldable pub record_agrees : ℕ → List ℕ → Bool
record_agrees kind m =
    eqb (u32_at m (record_at m + commit_number_from)) 0 && eqb (u32_at m (record_at m + transaction_number_from)) (transaction_of m) && eqb (get_or m (record_at m + station_number_from) 0) (station_of m) && eqb (get_or m (record_at m + station_kind_from) 0) kind
    && all_to (version_ok kind m) (entries_of m) && eqb (pages_to m (addresses_at m) (entries_of m)) (pages_of m)

-- number 5 of a commit of the right length; kind is that of the station at the server
unfoldable pub commit_number : ℕ → List ℕ → ℕ
commit_number kind m = cond (few_ok m) (cond (eqb (check_of (drop (record_at m) m)) 0) (cond (record_agrees kind m) 0 5) 5) 5
