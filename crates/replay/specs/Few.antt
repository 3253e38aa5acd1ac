-- Few reads and few writes are passed in as many turns whatever their number, the last one again in the turns past it.
use Rattle.std.specs.Prelude.{ℕ, zero, suc, ◌+◌, ◌-◌, ◌≤◌, ◌<◌, ◌≡◌, refl, List, Bool, set}
use Rattle.std.proofs.Common.{sym, ap, ◌∙◌, ⊎_elim, eq-or-lt_of_le, arith, set-set}
use Rattle.lists.specs.Tests.{all_to}
use Rattle.record.specs.Few.{most_few, Few, up_to, up_to_in, up_to_past, all_up_to}
use Rattle.replay.specs.Replay.{address_at, value_at, read_agrees, stored_to}

-- turn i of n reads of a record of k entries
unfoldable pub read_in_turn : List ℕ → List ℕ → ℕ → ℕ → ℕ → Bool
read_in_turn t v k n i = read_agrees t v k (up_to i n)

-- all turns test the reads
pub turns_agree : (t v : List ℕ) (k n : ℕ) → Few n most_few → all_to (read_in_turn t v k n) most_few ≡ all_to (read_agrees t v k) n
unfolding read_in_turn
turns_agree t v k n w = all_up_to (read_agrees t v k) n most_few w.some w.few

-- the values after c turns of the m writes from the n-th of a record of k entries
unfoldable pub turns_to : List ℕ → List ℕ → ℕ → ℕ → ℕ → ℕ → List ℕ
turns_to t v k n m zero = v
turns_to t v k n m (suc c) = set (turns_to t v k n m c) (address_at t (n + up_to c m)) (value_at t k (n + up_to c m))

-- up to the last each turn stores the next write
turns_in : (t v : List ℕ) (k n m c : ℕ) → c ≤ m → turns_to t v k n m c ≡ stored_to t v k n c
unfolding turns_to stored_to
turns_in t v k n m zero l = refl
turns_in t v k n m (suc c) l = rw (up_to_in c m (omega arith), turns_in t v k n m c (omega arith))

-- the last one stored again changes nothing
stored_again : (t v : List ℕ) (k n m : ℕ) → 0 < m → set (stored_to t v k n m) (address_at t (n + (m - 1))) (value_at t k (n + (m - 1))) ≡ stored_to t v k n m
unfolding stored_to
stored_again t v k n zero h = absurd (omega arith)
stored_again t v k n (suc p) h = let e : suc p - 1 ≡ p = omega arith in rw (e, set-set)

-- all turns store the writes
pub turns_store : (t v : List ℕ) (k n m j : ℕ) → 0 < m → m ≤ j → turns_to t v k n m j ≡ stored_to t v k n m
unfolding turns_to
turns_store t v k n m zero h l = absurd (omega arith)
turns_store t v k n m (suc j) h l =
    ⊎_elim (λ e. ap (turns_to t v k n m) (sym e) ∙ turns_in t v k n m m (omega arith))
    (λ lt. rw (up_to_past j m (omega arith), turns_store t v k n m j h (omega arith)) (stored_again t v k n m h))
    (eq-or-lt_of_le l)
