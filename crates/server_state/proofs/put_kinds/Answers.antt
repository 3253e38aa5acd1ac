-- `server_state::put_kinds` meets its contract: the kinds, copied to their place, are stored there one by one.
use Rattle.std.specs.Prelude.{ℕ, zero, suc, ◌+◌, ◌<◌, ◌≤◌, ◌≡◌, refl, List, [], ◌∷◌, length, take, set, get_or}
use Rattle.std.proofs.Common.{sym, ap, ◌∙◌, arith}
use Rattle.std.proofs.Math.Seq.{take-length}
use Rattle.std.proofs.lemmas.List.Edits.{sets}
use Rattle.lists.specs.Stores.{put_part}
use Rattle.server_state.specs.Layout.{kind_from}
use Rattle.server_state.specs.Valid.{kinds_to}
use Rattle.server_state.proofs.put_kinds.Goals as goal

-- one element more
one_more : (x s : List ℕ) (a n : ℕ) → n < length x → sets s a (take (suc n) x) ≡ set (sets s a (take n x)) (a + n) (get_or x n 0)
one_more [] s a n l = absurd (omega arith)
one_more (v ∷ x) s a zero l = let e : a + 0 ≡ a = omega arith in rw e
one_more (v ∷ x) s a (suc n) l = let e : suc a + n ≡ a + suc n = omega arith in rw (← e) (one_more x (set s a v) (suc a) n (omega arith))

stored : (x s : List ℕ) (n : ℕ) → n ≤ length x → sets s kind_from (take n x) ≡ kinds_to x s n
unfolding kinds_to
stored x s zero l = refl
stored x s (suc n) l = one_more x s kind_from n (omega arith) ∙ ap (λ t. set t (kind_from + n) (get_or x n 0)) (stored x s n (omega arith))

pub returns : goal.returns
returns c =
    let g = c.args in
    let all : take 8 g.kinds.now ≡ g.kinds.now = rw (sym c.requires.0, take-length) in
    put_part g.kinds.now _ g.s.now kind_from 8 c.copy_from_slice.ensures.after (omega arith) (omega arith)
    ∙ (rw all at (stored g.kinds.now g.s.now 8 (omega arith)))
