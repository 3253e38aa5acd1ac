-- A part copied over a list of its length is the part.
use Rattle.std.specs.Prelude.{ℕ, ◌+◌, ◌≤◌, ◌≡◌, List, ◌++◌, length, take, drop}
use Rattle.std.proofs.Common.{arith, length-take, length-drop}
use Rattle.lists.specs.Stores.{copy_whole}
use Rattle.station_state.specs.Layout.{set_row}
use Rattle.station_callbacks.specs.Callbacks.{sets_at}

pub copied : (s to : List ℕ) (a k : ℕ) → k ≡ set_row → a + set_row ≤ length s → length to ≡ set_row
    → take (length (take k (drop a s))) (take k (drop a s)) ++ drop (length (take k (drop a s))) to ≡ sets_at s a
copied s to a k e h l =
    let n : length (take set_row (drop a s)) ≡ set_row = rw (length-take, length-drop) (omega arith) in
    rw e (copy_whole (take set_row (drop a s)) to (omega arith))
