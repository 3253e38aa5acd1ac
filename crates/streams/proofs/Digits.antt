-- A number's digits at the start of an output.
use Rattle.std.proofs.Common.{◌≡◌, ◌≤◌, ℕ, List, length, take, drop, arith, ap, refl, ◌∙◌}
use Rattle.std.proofs.lemmas.List.{take_at}
use Rattle.lists.specs.Stores.{sets_front}
use Rattle.text.specs.Text.{decimal64, put, put_of}
use Rattle.text.specs.Decimal.{decimal_short}

pub number_short : (n : ℕ) → length (decimal64 n) ≤ 20
unfolding decimal64
number_short n = decimal_short 20 n

pub put_there : (s o x : List ℕ) (r : ℕ) → length x ≤ length s → put o r ≡ put_of s 0 x → r ≡ length x → take r o ≡ x
unfolding put_of
put_there s o x r h e l =
    ap (λ p. take r p.out) e
    ∙ ap (λ t. take r t) (sets_front x s (length x) refl h)
    ∙ take_at x (drop (length x) s) r (omega (arith, l))
