-- Document 01's bytes of what a run of the model shows: a message's fields as they stand in a line, a record's as they stand in the archive.
use Rattle.std.specs.Prelude.{List, [], ◌∷◌, ◌++◌, ℕ}
use Rattle.le.specs.Width.{bytes}
use Rattle.layout.specs.Record.{value_length, Entry, bytes_of}
use Rattle.entries.specs.Entries.{entry}
use Rattle.line.specs.Fields.{Fields, RecordFields}
use Rattle.message.specs.Layout.{version_width, message}

-- numbers of w bytes, one behind the other
abbrev pub words : ℕ → List ℕ → List ℕ
words w [] = []
words w (v ∷ l) = bytes w v ++ words w l

abbrev pub entries_in : List (ℕ × ℕ) → List Entry
entries_in [] = []
entries_in (e ∷ l) = entry e.0 e.1 ∷ entries_in l

abbrev pub wire_record : RecordFields → List ℕ
wire_record r =
    bytes_of
    (record { reads = entries_in r.reads; writes = entries_in r.writes; commit = r.number; transaction = r.transaction; station = r.station; kind = r.kind })

abbrev pub wire_records : List RecordFields → List ℕ
wire_records [] = []
wire_records (r ∷ l) = wire_record r ++ wire_records l

-- "48–111 eight values", by document 02 eight versions "after the values", and behind a commit's message "one version for each entry of its
-- record, in record order", then the record
abbrev pub wire : Fields → List ℕ
wire f =
    message f.kind f.station f.page_or_requester f.object_or_cause f.transaction f.pages f.commit_number f.sets
    (words value_length f.values ++ (words version_width f.page_versions ++ (words version_width f.versions ++ wire_records f.behind)))
