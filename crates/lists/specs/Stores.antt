-- Runs of stores: `sets s a x` of the library is `s` with the elements of x stored from index a.
use Rattle.std.specs.Prelude.{ℕ, suc, ◌+◌, ◌-◌, ◌≤◌, ◌≡◌, List, [], ◌∷◌, ◌++◌, length, take, drop, set}
use Rattle.std.proofs.Common.{sym, ap, ◌∙◌, append_assoc, append-nil, arith, drop_of_length-le, length-drop, drop-drop, take_all}
use Rattle.std.proofs.lemmas.List.Edits.{sets, sets-eq}
use Rattle.std.proofs.Math.Seq.{take-length}

-- a run behind a run is one run
pub sets_join : (x y s : List ℕ) (a b : ℕ) → b ≡ a + length x → sets (sets s a x) b y ≡ sets s a (x ++ y)
sets_join [] y s a b e = ap (λ (k : ℕ). sets s k y) (omega arith)
sets_join (v ∷ x) y s a b e = sets_join x y (set s a v) (suc a) b (omega arith)

-- what a callee leaves that was lent the k elements from a is a run of stores
pub part_sets : (y s : List ℕ) (a k : ℕ) → k ≡ length y → a + k ≤ length s → take a s ++ (y ++ drop k (drop a s)) ≡ sets s a y
part_sets y s a k e h =
    let fits : a + length y ≤ length s = omega arith in
    sym (sets-eq y s a fits ∙ append_assoc (take a s) y (drop (a + length y) s) ∙ ap (λ (t : List ℕ). take a s ++ (y ++ t)) (sym (drop-drop (length y) a s) ∙ ap (λ (n : ℕ). drop n (drop a s)) (sym e)))

-- a run from the start
pub sets_front : (x s : List ℕ) (k : ℕ) → k ≡ length x → k ≤ length s → sets s 0 x ≡ x ++ drop k s
sets_front x s k e h =
    let fits : 0 + length x ≤ length s = omega arith in
    let same : 0 + length x ≡ k = omega arith in
    sets-eq x s 0 fits ∙ ap (λ (n : ℕ). x ++ drop n s) same

-- the same, where the callee made the part equal to x
pub put_part : (x y s : List ℕ) (a k : ℕ) → y ≡ x → k ≡ length x → a + k ≤ length s → take a s ++ (y ++ drop k (drop a s)) ≡ sets s a x
put_part x y s a k ey e h = rw ey (part_sets x s a k e h)

-- a copy over a list of the same length is the list copied
pub copy_whole : (from to : List ℕ) → length to ≡ length from → take (length from) from ++ drop (length from) to ≡ from
copy_whole from to e = rw (take-length, drop_of_length-le to {i = length from} (omega arith), append-nil)

-- a part that is lent to the end is the list from its start on
pub to_the_end : (s : List ℕ) (a : ℕ) → take (length s - a) (drop a s) ≡ drop a s
to_the_end s a = take_all (length s - a) (drop a s) (rw length-drop (omega arith))
