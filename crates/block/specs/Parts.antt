-- A part of some bytes, copied over a part of others.
use Rattle.std.specs.Prelude.{ℕ, ◌+◌, ◌≤◌, ◌≡◌, List, ◌++◌, length, take, drop}
use Rattle.std.proofs.Common.{◌∙◌, arith, length-drop, length-take-le}
use Rattle.std.proofs.lemmas.List.Edits.{sets}
use Rattle.lists.specs.Stores.{put_part, copy_whole}

-- the length of a part that is all there
pub length_part : (n a : ℕ) (s : List ℕ) → a + n ≤ length s → length (take n (drop a s)) ≡ n
length_part n a s h = length-take-le n (drop a s) (rw length-drop (omega arith))

-- a part copied over a part of the same length
pub copied : (from to : List ℕ) (start at n k j : ℕ) {y : List ℕ} → k ≡ n → j ≡ n → start + n ≤ length from → at + n ≤ length to
    → y ≡ take (length (take k (drop start from))) (take k (drop start from)) ++ drop (length (take k (drop start from))) (take j (drop at to))
    → take at to ++ (y ++ drop j (drop at to)) ≡ sets to at (take n (drop start from))
copied from to start at n k j {y} hk hj hf ht ey =
    let x = take n (drop start from) in
    let l = length_part n start from hf in
    let m = length_part n at to ht in
    put_part x y to at j (rw (hk, hj) at ey ∙ copy_whole x (take n (drop at to)) (omega arith)) (omega arith) (omega arith)
