-- What a message that passed a test tells of its bytes.
use Rattle.std.specs.Prelude.{ℕ, ◌+◌, ◌*◌, ◌≤◌, ◌≡◌, refl, List, Bool, true, false, ◌&&◌, cond, length, eqb, leb}
use Rattle.std.proofs.Common.{arith, eqb-true, leb-true, eq-eqb}
use Rattle.lists.specs.Tests.{all_to, and_l, and_r}
use Rattle.layout.specs.Record.{header_length, entry_length}
use Rattle.message.specs.Layout.{message_length, version_width, kind_of, station_of}
use Rattle.message.specs.Range.{station_ok, up_fields_ok}
use Rattle.message.specs.Commit.{versions_at, shortest_commit, count_of, record_at, addresses_at, entries_of, commit_length_ok}
use Rattle.message.specs.Number.{length_ok, up_range, kind_ok, kinds_ok}

-- the record stands behind the versions, and there is nothing behind it
pub record Commit (m : List ℕ) : Type 0 where
  pub versions : record_at m ≡ versions_at + entries_of m * version_width
  pub whole : length m ≡ addresses_at m + entry_length * entries_of m

pub commit_length : (m : List ℕ) → commit_length_ok m ≡ true → Commit m
unfolding commit_length_ok record_at
commit_length m h =
    let l = shortest_commit + count_of m * (version_width + entry_length) in
    let both = and_r (leb shortest_commit (length m)) (eqb (length m) l && eqb (entries_of m) (count_of m)) h in
    let long = eqb-true (length m) l (and_l (eqb (length m) l) (eqb (entries_of m) (count_of m)) both) in
    let many = eqb-true (entries_of m) (count_of m) (and_r (eqb (length m) l) (eqb (entries_of m) (count_of m)) both) in
    record { versions = omega arith; whole = omega arith }

pub commit_there : (m : List ℕ) → length_ok m ≡ true → kind_of m ≡ 3 → Commit m
unfolding length_ok
commit_there m h e = commit_length m (simp (eq-eqb (kind_of m) 3 e) at h)

-- the record's header is there
pub header_there : (m : List ℕ) → shortest_commit ≤ length m → record_at m + header_length ≤ length m
unfolding record_at count_of
header_there m h = omega arith

pub message_there : (m : List ℕ) → length_ok m ≡ true → message_length ≤ length m
unfolding length_ok
message_there m h = by_kind (eqb (kind_of m) 3) h
  where
    by_kind : (b : Bool) → cond b (commit_length_ok m) (eqb (length m) message_length) ≡ true → message_length ≤ length m
    by_kind true e = let c = commit_length m e in omega (arith, c.whole, c.versions)
    by_kind false e = omega (arith, eqb-true (length m) message_length e)

pub kinds_there : (kinds : List ℕ) → kinds_ok kinds ≡ true → length kinds ≡ 8
unfolding kinds_ok
kinds_there kinds h = eqb-true (length kinds) 8 (and_l (eqb (length kinds) 8) (all_to (kind_ok kinds) 8) h)

-- the server looks up the kind of a station of the line
pub station_there : (m : List ℕ) → up_range m ≡ 0 → station_of m ≤ 7
unfolding up_range
station_there m h = by_tests (leb 1 (kind_of m) && leb (kind_of m) 8) (station_ok m && up_fields_ok m) refl h
  where
    by_tests : (a b : Bool) → station_ok m && up_fields_ok m ≡ b → ◌≡◌ {A = ℕ} (cond a (cond b 0 4) 3) 0 → station_of m ≤ 7
    by_tests true true e n = leb-true _ _ (and_l (station_ok m) (up_fields_ok m) e)
    by_tests true false e n = absurd (omega arith)
    by_tests false b e n = absurd (omega arith)
