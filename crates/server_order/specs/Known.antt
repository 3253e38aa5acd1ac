-- Edges that were asked for already: a station set for each station, or `unknown`. A set that is the same number is asked for again.
use Rattle.std.specs.Prelude.{ℕ, zero, suc, ◌<◌, ◌≡◌, refl, ◌≢◌, List, length, get_or, set, replicate}
use Rattle.std.proofs.Common.{◌∙◌, arith, length-set, get_or-set_same, get_or-set_other}
use Rattle.sets.specs.Laws.{by_eq}
use Rattle.sets.proofs.Laws.{eqb_yes, eqb_no}
use Rattle.server_tests.specs.Tests.{edge_set}

abbrev pub unknown : ℕ
unknown = 255

pub record Known (s d : List ℕ) : Type 0 where
  pub wide : length d ≡ 8
  pub right : (i : ℕ) → i < 8 → get_or d i 0 ≢ unknown → get_or d i 0 ≡ edge_set s i

nothing : (n i : ℕ) → i < n → get_or (replicate n unknown) i 0 ≡ unknown
nothing zero i l = absurd (omega arith)
nothing (suc n) zero l = refl
nothing (suc n) (suc i) l = nothing n i (omega arith)

pub known_none : (s : List ℕ) → Known s (replicate 8 unknown)
known_none s = record { wide = refl; right = λ i l n. absurd (n (nothing 8 i l)) }

-- one more
pub known_next : (s d : List ℕ) (k : ℕ) → k < 8 → Known s d → Known s (set d k (edge_set s k))
known_next s d k l h =
    record {
      wide = length-set d k (edge_set s k) ∙ h.wide;
      right =
          λ i li n. by_eq i k
          (λ e. let z : i ≡ k = eqb_yes i k e in rw z (get_or-set_same d k (edge_set s k) 0 (omega (arith, h.wide))))
          (λ e.
          let o = get_or-set_other d k i (edge_set s k) 0 (eqb_no i k e) in
          o ∙ h.right i li (λ z. n (o ∙ z)));
    }
