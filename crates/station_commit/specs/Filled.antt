-- The stores, one behind the other, leave the commit's bytes.
use Rattle.std.specs.Prelude.{ℕ, ◌+◌, ◌*◌, ◌-◌, ◌≤◌, ◌<◌, ◌≡◌, refl, List, [], ◌∷◌, ◌++◌, length, take, get_or}
use Rattle.std.proofs.Common.{sym, ap, ◌∙◌, append_assoc, append-nil, arith, add-one, length-append, length-take-le, take-suc}
use Rattle.std.proofs.lemmas.List.Edits.{sets}
use Rattle.lists.specs.Stores.{sets_join}
use Rattle.le.specs.Le.{set_u32}
use Rattle.le.specs.Width.{bytes, length_bytes}
use Rattle.le.specs.Laws.{set_u32_is}
use Rattle.cells.specs.Loops.{rank}
use Rattle.layout.specs.Record.{entries, addresses, record_length, bytes_of}
use Rattle.record_meaning.proofs.LayoutLaws.{length_addresses, length_bytes_of}
use Rattle.message.specs.Layout.{version_width, up_message}
use Rattle.message.specs.Stores.{length_up}
use Rattle.message.specs.Commit.{versions_at}
use Rattle.station_state.specs.Layout.{read_value_from, written_value_from, number, station, kind, read_set_from, written_set_from, member, count_in}
use Rattle.station_pages.specs.Pages.{used_pages_b}
use Rattle.set_record.specs.Record.{record_from, Filled, filled, record_filled}
use Rattle.set_record.specs.Filled.{length_all, length_counted}
use Rattle.station_commit.specs.Commit.{record_sent, count_sent, version_sent, versions_for, versions_sent, commit_bytes, commit_filled}

-- THE VERSIONS

for_append : (s x y : List ℕ) → versions_for s (x ++ y) ≡ versions_for s x ++ versions_for s y
unfolding versions_for
for_append s [] y = refl
for_append s (a ∷ x) y = rw (for_append s x y, append_assoc)

pub length_for : (s x : List ℕ) → length (versions_for s x) ≡ length x * version_width
unfolding versions_for
length_for s [] = refl
length_for s (a ∷ x) = rw (length-append, length_bytes, length_for s x) (omega arith)

-- a turn of the loop over the addresses
pub versions_turn : (o s l : List ℕ) (e : ℕ) {d f : List ℕ} → e < length l → d ≡ sets o versions_at (versions_for s (take e l))
    → f ≡ set_u32 d (versions_at + e * version_width) (version_sent s (get_or l e 0)) → f ≡ sets o versions_at (versions_for s (take (e + 1) l))
unfolding versions_for
versions_turn o s l e lt ed ef =
    let there : length (take e l) ≡ e = length-take-le e l (omega arith) in
    rw (add-one, take-suc l e 0 lt, for_append s (take e l) (get_or l e 0 ∷ []), append-nil, ef, set_u32_is, ed)
    (sets_join (versions_for s (take e l)) (bytes version_width (version_sent s (get_or l e 0))) o versions_at (versions_at + e * version_width)
    (rw (length_for s (take e l), there) (omega arith)))

-- as many entries as were read and written
pub entries_sent : (s : List ℕ) → length (addresses (entries (record_sent s))) ≡ count_sent s
entries_sent s =
    length_addresses (entries (record_sent s)) ∙ length-append (record_sent s).reads (record_sent s).writes
    ∙ rw (length_counted s read_set_from read_value_from, length_counted s written_set_from written_value_from)

-- as the code lists them
pub listed_sent : (s : List ℕ) (n k : ℕ) → n ≡ 0 + rank (member s read_set_from) 256 → k ≡ n + rank (member s written_set_from) 256 → k ≡ count_sent s
listed_sent s n k en ek =
    let r : rank (member s read_set_from) 256 ≡ count_in s read_set_from = sym (length_all s read_set_from read_value_from) ∙ length_counted s read_set_from read_value_from in
    let w : rank (member s written_set_from) 256 ≡ count_in s written_set_from = sym (length_all s written_set_from written_value_from) ∙ length_counted s written_set_from written_value_from in
    omega arith

length_versions : (s : List ℕ) → length (versions_sent s) ≡ count_sent s * version_width
length_versions s = length_for s (addresses (entries (record_sent s))) ∙ ap (λ (n : ℕ). n * version_width) (entries_sent s)

-- THE COMMIT

record_behind : (s : List ℕ) → length (commit_bytes s) ≡ versions_at + count_sent s * version_width + length (bytes_of (record_sent s))
unfolding commit_bytes
record_behind s = simp (length-append, length_up, length_versions s) (omega arith)

-- its length follows from how much was read and written
pub commit_length : (s : List ℕ) → length (commit_bytes s) ≡ versions_at + count_sent s * version_width + record_length (count_in s read_set_from) (count_in s written_set_from)
commit_length s = record_behind s ∙ rw (length_bytes_of (record_sent s), length_counted s read_set_from read_value_from, length_counted s written_set_from written_value_from)

-- where it fits, its parts do
pub commit_parts : (s : List ℕ) (l : ℕ) → length (commit_bytes s) ≤ l → versions_at + count_sent s * version_width ≤ l
commit_parts s l fits = omega (arith, record_behind s, fits)

pub record_fits : (s : List ℕ) (l : ℕ) {t w y k : ℕ} → t ≡ number s → w ≡ station s → y ≡ kind s → k ≡ count_sent s → length (commit_bytes s) ≤ l
    → versions_at + k * version_width + length (bytes_of (record_from s read_set_from read_value_from written_set_from written_value_from 0 t w y)) ≤ l
record_fits s l et ew ey ek fits = rw (et, ew, ey, ek) (omega (arith, record_behind s, fits))

-- message, versions and record, each behind the one before
pub commit_filled_lem : (s c : List ℕ) {t u w y k r : ℕ} {c₁ c₂ c₃ : List ℕ} → t ≡ number s → u ≡ used_pages_b s → w ≡ station s → y ≡ kind s
    → c₁ ≡ sets c 0 (up_message 3 (station s) 0 0 t u 0) → (c₂ ≡ sets c₁ versions_at (versions_sent s)) × (k ≡ count_sent s)
    → filled c₃ r ≡ record_filled c₂ (versions_at + k * version_width) (record_from s read_set_from read_value_from written_set_from written_value_from 0 t w y)
    → filled c₃ (versions_at + k * version_width + r) ≡ commit_filled s c
unfolding commit_bytes
commit_filled_lem s c et eu ew ey e₁ e₂ e₃ =
    let x = up_message 3 (station s) 0 0 (number s) (used_pages_b s) 0 in
    let v = versions_sent s in
    let b = bytes_of (record_sent s) in
    let at = versions_at + count_sent s * version_width in
    let f = rw (et, ew, ey, e₂.1) at e₃ in
    let bytes_are : sets (sets (sets c 0 x) versions_at v) at b ≡ sets c 0 (x ++ (v ++ b)) =
    sets_join v b (sets c 0 x) versions_at at (rw (length_versions s)) ∙ sets_join x (v ++ b) c 0 versions_at (rw length_up) in
    let count_is : at + length b ≡ length (x ++ (v ++ b)) = simp (length-append, length_up, length_versions s) (omega arith) in
    rw (e₂.1, ap (λ (z : Filled). z.out) f, ap (λ (z : Filled). z.count) f, e₂.0, e₁, et, eu, bytes_are, count_is)
