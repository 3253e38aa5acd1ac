-- The joining of two reads: what is not played goes to the buffer's start.
use Rattle.std.specs.Prelude.{ℕ, ◌+◌, ◌-◌, ◌≤◌, ◌≡◌, List, ◌++◌, length, take, drop}
use Rattle.std.proofs.Common.{sym, ap, ◌∙◌, arith, length-take-le, take-add, drop_at}
use Rattle.std.specs.List.{copy_within}
use Rattle.player.specs.Close.{moved_down}

-- the bytes from `at` up to `len`, put over the first ones
pub move_done : (s : List ℕ) (at len : ℕ) → at ≤ len → len ≤ length s → copy_within s at len 0 ≡ moved_down s at len
unfolding moved_down
move_done s at len ha hl =
    let from : 0 + (len - at) ≡ len - at = omega arith in
    let whole : at + (len - at) ≡ len = omega arith in
    let front : drop at (take len s) ≡ take (len - at) (drop at s) =
    ap (λ (k : ℕ). drop at (take k s)) (sym whole)
    ∙ ap (drop at) (take-add at (len - at) s)
    ∙ drop_at (take at s) (take (len - at) (drop at s)) at (length-take-le at s (omega arith)) in
    ap (λ (k : ℕ). take (len - at) (drop at s) ++ drop k s) from ∙ ap (λ (q : List ℕ). q ++ drop (len - at) s) (sym front)
