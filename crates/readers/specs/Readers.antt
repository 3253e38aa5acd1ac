-- "Add a counts reader that shows commit number, addresses written and values, and a service reader that shows all fields."
use Rattle.std.specs.Prelude.{ℕ, List, [], ◌∷◌, cond, length, drop, ltb}
use Rattle.std.proofs.lemmas.List.Edits.{sets}
use Rattle.archive.specs.declared.Fields.{Fields}
use Rattle.archive.specs.declared.Answer.{Answer}
use Rattle.archive.specs.declared.Answer.TheVariants.{Record, End, Refused}
use Rattle.archive.specs.Told.{Told, told, nothing_there}
use Rattle.replay.specs.Replay.{replay_of}
use Rattle.seek.specs.Seek.{sought_of}
use Rattle.counts.specs.Counts.{longest_counts, counts_on}
use Rattle.counts.specs.Record.{Shown, shown}

-- how many numbers the service reader puts
abbrev pub service_length : ℕ
service_length = 8

-- all fields: the record's place in the archive, its sizes and its numbers; its entries are behind its header, at that place
abbrev pub service_list : Fields → List ℕ
service_list f = f.at ∷ f.end ∷ f.reads ∷ f.writes ∷ f.commit ∷ f.transaction ∷ f.station ∷ f.kind ∷ []

-- the counts of the record that is found: no place in the archive, and no size but that of the writes
abbrev pub counts_told : List ℕ → List ℕ → Answer → Told
counts_told s o (Record f) = told (counts_on (drop f.at s) o) 0
counts_told s o End = told o nothing_there
counts_told s o (Refused k) = told o k

unfoldable pub counts_at : List ℕ → ℕ → List ℕ → Told
counts_at s commit o = cond (ltb (length o) longest_counts) (told o 1) (counts_told s o (sought_of s commit))

abbrev pub service_told : List ℕ → Answer → Told
service_told o (Record f) = told (sets o 0 (service_list f)) 0
service_told o End = told o nothing_there
service_told o (Refused k) = told o k

unfoldable pub service_at : List ℕ → ℕ → List ℕ → Told
service_at s commit o = cond (ltb (length o) service_length) (told o 1) (service_told o (sought_of s commit))

-- a record by itself, as `recordCounts` of counts has it
abbrev pub on_service : ℕ → List ℕ → List ℕ → Answer → Shown
on_service last w o (Record f) = shown w f.commit (sets o 0 (service_list f)) 0
on_service last w o End = shown w last o 12
on_service last w o (Refused k) = shown w last o k

unfoldable pub record_service : List ℕ → ℕ → List ℕ → List ℕ → Shown
record_service t last v o = cond (ltb (length o) service_length) (shown v last o 1) (on_service last (replay_of t 0 last v).values o (replay_of t 0 last v).answer)
