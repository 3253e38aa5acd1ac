-- Document 01, "Record": what a record says, when it is one, and its bytes.
use Rattle.std.specs.Prelude.{ℕ, suc, ◌+◌, ◌*◌, ◌^◌, ◌<◌, ◌≤◌, ◌≡◌, List, [], ◌∷◌, ◌++◌, length}
use Rattle.le.specs.Width.{bytes}
use Rattle.kinds.specs.Kinds.{most_kind}

-- an object's address, page × 8 + object, and the value that was read or written there
pub record Entry : Type 0 where
  pub address : ℕ
  pub value : ℕ

-- "commit number (0 on the way up)": on the way up a record has none yet, in an archive it is 1 and above
pub record Record : Type 0 where
  pub reads : List Entry
  pub writes : List Entry
  pub commit : ℕ
  pub transaction : ℕ
  pub station : ℕ
  pub kind : ℕ

-- "Reads come first"
abbrev pub entries : Record → List Entry
entries r = r.reads ++ r.writes

-- "addresses rise strictly"
abbrev pub Rising : List Entry → Type 0
Rising [] = Unit {0}
Rising (e ∷ []) = Unit {0}
Rising (e ∷ f ∷ es) = (e.address < f.address) × Rising (f ∷ es)

-- "Length 16 + 9 × (n + m)": a header, and for each entry an address of one byte and a value of 8; "n and m are 0 to 256", "at most 4,624"
abbrev pub header_length : ℕ
header_length = 16

abbrev pub value_length : ℕ
value_length = 8

abbrev pub entry_length : ℕ
entry_length = 1 + value_length

abbrev pub record_length : ℕ → ℕ → ℕ
record_length n m = header_length + entry_length * (n + m)

abbrev pub most_entries : ℕ
most_entries = 256

abbrev pub longest_record : ℕ
longest_record = record_length most_entries most_entries

-- "n + m addresses of one byte", "n + m values of 8 bytes"
pub record EntryFits (e : Entry) : Type 0 where
  pub address : e.address < 256
  pub value : e.value < 256 ^ value_length

abbrev pub AllFit : List Entry → Type 0
AllFit [] = Unit {0}
AllFit (e ∷ es) = EntryFits e × AllFit es

-- what makes these fields a record
pub record WellFormed (r : Record) : Type 0 where
  -- "n and m are 0 to 256"
  pub reads_count : length r.reads ≤ most_entries
  pub writes_count : length r.writes ≤ most_entries
  -- "addresses rise strictly within reads and within writes"
  pub reads_rise : Rising r.reads
  pub writes_rise : Rising r.writes
  pub reads_fit : AllFit r.reads
  pub writes_fit : AllFit r.writes
  -- "commit number (4)", "transaction (4)"; number 5 holds "also station above 7, kind above 1, transaction 0" (wish 10: above 2)
  pub commit_fits : r.commit < 256 ^ 4
  pub transaction_not_0 : 0 < r.transaction
  pub transaction_fits : r.transaction < 256 ^ 4
  pub station_is : r.station ≤ 7
  pub kind_is : r.kind ≤ most_kind

-- "sizes first: reads n (2 bytes), writes m (2), commit number (4), transaction (4), station (1), its kind (1), two zero bytes"
unfoldable pub header : ℕ → ℕ → ℕ → ℕ → ℕ → ℕ → List ℕ
header n m commit transaction station kind =
    bytes 2 n ++ (bytes 2 m ++ (bytes 4 commit ++ (bytes 4 transaction ++ (station ∷ kind ∷ 0 ∷ 0 ∷ []))))

-- "then n + m addresses of one byte"
abbrev pub addresses : List Entry → List ℕ
addresses [] = []
addresses (e ∷ es) = e.address ∷ addresses es

-- "then n + m values of 8 bytes"
abbrev pub values : List Entry → List ℕ
values [] = []
values (e ∷ es) = bytes value_length e.value ++ values es

-- a record's bytes
unfoldable pub bytes_of : Record → List ℕ
bytes_of r =
    header (length r.reads) (length r.writes) r.commit r.transaction r.station r.kind
    ++ (addresses (entries r) ++ values (entries r))

-- an archive: records one behind the other
unfoldable pub archive_of : List Record → List ℕ
archive_of [] = []
archive_of (r ∷ rs) = bytes_of r ++ archive_of rs

abbrev pub AllWellFormed : List Record → Type 0
AllWellFormed [] = Unit {0}
AllWellFormed (r ∷ rs) = WellFormed r × AllWellFormed rs

-- number 13: "a commit number isn't one more than the last"; here it is, from the last number on
abbrev pub Numbered : ℕ → List Record → Type 0
Numbered last [] = Unit {0}
Numbered last (r ∷ rs) = (r.commit ≡ suc last) × Numbered (suc last) rs
