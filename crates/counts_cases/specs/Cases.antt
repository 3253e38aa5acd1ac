-- Wish 8's sentences on small archives: what both readers tell of a commit, computed.
use Rattle.std.specs.Prelude.{ℕ, ◌+◌, ◌≡◌, refl, List, [], ◌∷◌, ◌++◌, take}
use Rattle.lists.specs.Tests.{all_to}
use Rattle.le.specs.Le.{u16_at, u32_at, u64_at}
use Rattle.le.specs.Width.{bytes}
use Rattle.layout.specs.Record.{header}
use Rattle.record.specs.Check.{head_ok_lem, head_at, rise_at, rises, addresses_rise, check_of}
use Rattle.archive.specs.Read.{fields_of, first_of, read_of}
use Rattle.archive.specs.Told.{Told, told}
use Rattle.replay.specs.Replay.{read_agrees, reads_agree, stored_to, stored, replay_of}
use Rattle.seek.specs.Seek.{sought_from, sought_of}
use Rattle.counts.specs.Counts.{counts_head, written_addresses, written_values, counts_of, counts_on}
use Rattle.readers.specs.Readers.{counts_told, service_told}

-- an archive and a commit; what the counts reader tells of it where the output is no longer than the counts, and the numbers that the
-- service reader gives
pub record Case : Type 0 where
  pub archive : List ℕ
  pub commit : ℕ
  pub counts : Told
  pub service : Told

abbrev eight : List ℕ
eight = 0 ∷ 0 ∷ 0 ∷ 0 ∷ 0 ∷ 0 ∷ 0 ∷ 0 ∷ []

pub record Holds (c : Case) : Type 0 where
  pub counts_are : counts_told c.archive [] (sought_of c.archive c.commit) ≡ c.counts
  pub service_is : service_told eight (sought_of c.archive c.commit) ≡ c.service

abbrev pub AllHold : List Case → Type 0
AllHold [] = Unit {0}
AllHold (c ∷ cs) = Holds c × AllHold cs

abbrev shows : List ℕ → ℕ → List ℕ → List ℕ → Case
shows s k counts fields = record { archive = s; commit = k; counts = told counts 0; service = told fields 0 }

-- both readers give the number, and put nothing out
abbrev refuses : List ℕ → ℕ → ℕ → Case
refuses s k n = record { archive = s; commit = k; counts = told [] n; service = told eight n }

-- document 01's C12: commit 1 of transaction 1 of locking station 0 reads counter 8 as 0 and writes 1
abbrev c12 : List ℕ
c12 = header 1 1 1 1 0 0 ++ (8 ∷ 8 ∷ (bytes 8 0 ++ bytes 8 1))

-- the same commit of another station, kind and transaction, with no read
abbrev hidden : List ℕ
hidden = header 0 1 1 77 5 1 ++ (8 ∷ bytes 8 1)

-- commit 2 reads counter 8 as this value, and writes nothing
abbrev reader : ℕ → List ℕ
reader v = header 1 0 2 1 1 0 ++ (8 ∷ bytes 8 v)

-- the counts of commit 1, and of commit 2
abbrev first : List ℕ
first = 1 ∷ 0 ∷ 0 ∷ 0 ∷ 1 ∷ 0 ∷ 8 ∷ 1 ∷ 0 ∷ 0 ∷ 0 ∷ 0 ∷ 0 ∷ 0 ∷ 0 ∷ []

abbrev second : List ℕ
second = 2 ∷ 0 ∷ 0 ∷ 0 ∷ 0 ∷ 0 ∷ []

unfoldable pub table : List Case
table =
    -- "commit number, addresses written and values"; "all fields": start, end, reads, writes, commit, transaction, station, kind
    shows c12 1 first (0 ∷ 34 ∷ 1 ∷ 1 ∷ 1 ∷ 1 ∷ 0 ∷ 0 ∷ [])
    -- other hidden fields: the same counts
    ∷ shows hidden 1 first (0 ∷ 25 ∷ 0 ∷ 1 ∷ 1 ∷ 77 ∷ 5 ∷ 1 ∷ [])
    -- a commit that writes nothing is shown too, wherever it stands
    ∷ shows (c12 ++ reader 1) 2 second (34 ∷ 59 ∷ 1 ∷ 0 ∷ 2 ∷ 1 ∷ 1 ∷ 0 ∷ [])
    ∷ shows (hidden ++ reader 1) 2 second (25 ∷ 50 ∷ 1 ∷ 0 ∷ 2 ∷ 1 ∷ 1 ∷ 0 ∷ [])
    -- no commit of this number
    ∷ refuses c12 0 255
    ∷ refuses c12 2 255
    ∷ refuses [] 1 255
    -- "Both give numbers 5 and 12 to 14 alike": a broken layout, a record cut short, a number out of sequence, a read that differs
    ∷ refuses (header 0 0 1 1 8 0) 1 5
    ∷ refuses (c12 ++ take 24 (reader 1)) 2 12
    ∷ refuses (c12 ++ c12) 2 13
    ∷ refuses (c12 ++ reader 2) 2 14
    -- what stands before the fault is shown
    ∷ shows (c12 ++ reader 2) 1 first (0 ∷ 34 ∷ 1 ∷ 1 ∷ 1 ∷ 1 ∷ 0 ∷ 0 ∷ [])
    ∷ []

row : {c : Case} → counts_told c.archive [] (sought_of c.archive c.commit) ≡ c.counts → service_told eight (sought_of c.archive c.commit) ≡ c.service → Holds c
row e f = record { counts_are = e; service_is = f }

pub table_holds : AllHold table
unfolding table header bytes all_to u16_at u32_at u64_at head_ok_lem head_at rise_at rises addresses_rise check_of fields_of first_of read_of read_agrees reads_agree stored_to stored replay_of sought_from sought_of counts_head written_addresses written_values counts_of counts_on
table_holds =
    (row refl refl, (row refl refl, (row refl refl, (row refl refl, (row refl refl, (row refl refl, (row refl refl, (row refl refl, (row refl refl, (row refl refl, (row refl refl, (row refl refl, tt))))))))))))
