-- What a fill or a copy of a part leaves is a run of stores, as the definitions say.
use Rattle.std.specs.Prelude.{ℕ, zero, suc, ◌+◌, ◌≤◌, ◌≡◌, refl, List, [], ◌∷◌, length, take, get_or, replicate}
use Rattle.std.proofs.Common.{sym, ap, ◌∙◌, add-one, arith, length-take}
use Rattle.std.proofs.lemmas.List.{length-replicate, replicate-append-replicate}
use Rattle.std.proofs.Math.Seq.{take-suc}
use Rattle.std.proofs.lemmas.List.Edits.{sets}
use Rattle.lists.specs.Stores.{sets_join}
use Rattle.station_state.specs.Changes.{clear_to, copy_to}

pub clear_to_is : (s : List ℕ) (at n : ℕ) → clear_to s at n ≡ sets s at (replicate n 0)
unfolding clear_to
clear_to_is s at zero = refl
clear_to_is s at (suc n) =
    rw (clear_to_is s at n)
    (sets_join (replicate n 0) (0 ∷ []) s at (at + n) (ap (λ (k : ℕ). at + k) (sym (length-replicate n 0)))
    ∙ ap (sets s at) (replicate-append-replicate n 1 0 ∙ ap (λ (k : ℕ). replicate k 0) (add-one n)))

pub copy_to_is : (s : List ℕ) (at : ℕ) (x : List ℕ) (n : ℕ) → n ≤ length x → copy_to s at x n ≡ sets s at (take n x)
unfolding copy_to
copy_to_is s at x zero h = refl
copy_to_is s at x (suc n) h =
    rw (copy_to_is s at x n (omega arith))
    (sets_join (take n x) (get_or x n 0 ∷ []) s at (at + n) (rw length-take (omega arith))
    ∙ ap (sets s at) (sym (take-suc x n 0 (omega arith))))
