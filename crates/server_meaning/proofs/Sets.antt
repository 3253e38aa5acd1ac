-- The station sets inside the step, a bit for each station, are the sets of the server of `line`: bit j is set exactly when station j is in
-- the set. Those over the state's bytes alone are in Sets.antt of server_sets.
use Rattle.std.specs.Prelude.{ℕ, ◌^◌, ◌<◌, ◌≡◌, List}
use Rattle.std.proofs.Common.{◌∙◌}
use Rattle.line.specs.Messages.{locking}
use Rattle.line.specs.Server.{Server, lock_on, writes_page, edge}
use Rattle.station_state.specs.Layout.{has_bit}
use Rattle.server_state.specs.Layout.{pend_of, busy_of}
use Rattle.server_tests.specs.Tests.{written_page_b, edge_set}
use Rattle.server_sets.specs.Sets.{listed_set, locking_set, lock_set, writer_set}
use Rattle.server_sets.specs.Sets as Bytes
use Rattle.server_meaning.specs.Meant.{Is}
use Rattle.server_meaning.specs.Tests.{Wanting, bit_is}
use Rattle.server_meaning.proofs.Tests.{kind_at, listed_at, pend_at, busy_at, lock_on_at, writes_page_at, edge_set_at}

module _ {s : List ℕ} {m : Server} (h : Is s m) where
  -- who is listed for page p
  pub listed_set_lem : (p j : ℕ) → j < 8 → has_bit (listed_set s (2 ^ p)) j ≡ m.listed j p
  listed_set_lem p j l = Bytes.listed_set_lem s p j l ∙ listed_at h j p l

  -- who owes a 7 to i's 20s
  pub owes_set : (i j : ℕ) → i < 8 → has_bit (pend_of s i) j ≡ (m.queue i).pend j
  owes_set i j l = pend_at h i j l

  -- who answered i's 20s with 6
  pub busy_set : (i j : ℕ) → i < 8 → has_bit (busy_of s i) j ≡ (m.queue i).busy j
  busy_set i j l = busy_at h i j l

  pub locking_set_lem : (j : ℕ) → j < 8 → has_bit (locking_set s) j ≡ locking (m.kind j)
  locking_set_lem j l = Bytes.locking_set_lem s j l ∙ rw (kind_at h j l)

  -- who has a lock on page p
  pub lock_set_lem : (p j : ℕ) → p < 32 → j < 8 → has_bit (lock_set s p) j ≡ lock_on m j p
  lock_set_lem p j lp lj = Bytes.lock_set_lem s p j lj ∙ lock_on_at h j p lp

  -- who waits to write on page p
  pub writer_set_lem : (p j : ℕ) → p < 32 → j < 8 → has_bit (writer_set s p) j ≡ writes_page m j p
  unfolding written_page_b
  writer_set_lem p j lp lj = Bytes.writer_set_lem s p j lj ∙ writes_page_at h j p lj lp

  -- whom i waits for
  pub edge_set_lem : Wanting s → (i j : ℕ) → i < 8 → j < 8 → has_bit (edge_set s i) j ≡ edge m i j
  edge_set_lem k i j li lj = bit_is (edge_set s i) j ∙ edge_set_at h k i j li lj
