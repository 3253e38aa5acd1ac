-- The address part, the value part and the single entries of a record that is read are those of the record.
use Rattle.std.specs.Prelude.{ℕ, ◌+◌, ◌≤◌, ◌<◌, ◌≡◌, List, length, drop, get_or}
use Rattle.layout.specs.Record.{Entry, entries, addresses, values}
use Rattle.record_meaning.specs.Parse.{record_of}
use Rattle.archive.specs.declared.Fields.{Fields}
use Rattle.archive.specs.declared.Found.{Found}
use Rattle.archive.specs.Parts.{address_part, value_part, entry_of}

-- entry i of a list, counted from 0
abbrev pub nth : List Entry → ℕ → Entry
nth es i = get_or es i (record { address = 0; value = 0 })

-- what the reader shows of the record at `at`, whose fields it gave
pub record Shown (s : List ℕ) (at : ℕ) (f : Fields) : Type 0 where
  pub entries_count : length (entries (record_of (drop at s))) ≡ f.reads + f.writes
  pub addresses_are : address_part s at (f.reads + f.writes) ≡ addresses (entries (record_of (drop at s)))
  pub values_are : value_part s at (f.reads + f.writes) ≡ values (entries (record_of (drop at s)))
  pub entry_is : (i : ℕ) → i < f.reads + f.writes
      → entry_of s at (f.reads + f.writes) i ≡ Found.Entry (nth (entries (record_of (drop at s))) i).address (nth (entries (record_of (drop at s))) i).value
  pub no_entry : (i : ℕ) → f.reads + f.writes ≤ i → entry_of s at (f.reads + f.writes) i ≡ Found.Nothing
