-- 23s go by the station set that is made before the first of them: a 23 changes no state.
use Rattle.std.specs.Prelude.{ℕ, zero, suc, ◌≤◌, ◌≡◌, refl, cond, List}
use Rattle.std.proofs.Common.{sym, ap, ◌∙◌, arith}
use Rattle.sets.specs.Laws.{by_b}
use Rattle.station_state.specs.Layout.{has_bit}
use Rattle.server_tests.specs.Tests.{informed_b}
use Rattle.server_sets.specs.Sets.{informed_set, informed_set_lem}
use Rattle.server_actions.specs.Actions.{Serving, send, invalidate_b, inform_b, inform_to}
use Rattle.server_actions.specs.Posting.{acts_not, acts_send, acts_cond, Acts, Turns}

-- 23 to station j, if it is in w
unfoldable pub inform_one_b : ℕ → List ℕ → Serving → ℕ → Serving
inform_one_b w y x j = cond (has_bit w j) (send x (invalidate_b j y)) x

unfoldable pub inform_set_to : ℕ → List ℕ → Serving → ℕ → Serving
inform_set_to w y x zero = x
inform_set_to w y x (suc j) = inform_one_b w y (inform_set_to w y x j) j

acts_one : (w : ℕ) (y : List ℕ) (j : ℕ) → Acts (λ x. inform_one_b w y x j)
unfolding inform_one_b
acts_one w y j = acts_cond (λ s. has_bit w j) (acts_send (invalidate_b j y)) acts_not

pub turns_set : (w : ℕ) (y : List ℕ) → Turns (inform_set_to w y) (inform_one_b w y)
unfolding inform_set_to
turns_set w y = record { none = λ x. refl; next = λ x n. refl; acts = acts_one w y }

state_stays : (i d : ℕ) (y : List ℕ) (x : Serving) (n : ℕ) → (inform_to i d y x n).state ≡ x.state
unfolding inform_to inform_b
state_stays i d y x zero = refl
state_stays i d y x (suc n) =
    let z = inform_to i d y x n in
    by_b (informed_b z.state i d n) (λ e. rw e (state_stays i d y x n)) (λ e. rw e (state_stays i d y x n))

pub informs_are : (i d : ℕ) (y : List ℕ) (x : Serving) (n : ℕ) → n ≤ 8 → inform_set_to (informed_set x.state i d) y x n ≡ inform_to i d y x n
unfolding inform_set_to inform_to inform_one_b inform_b
informs_are i d y x zero h = refl
informs_are i d y x (suc n) h =
    let w = informed_set x.state i d in
    let z = inform_to i d y x n in
    let same : has_bit w n ≡ informed_b z.state i d n = rw (state_stays i d y x n) (informed_set_lem x.state i d n (omega arith)) in
    ap (λ (v : Serving). inform_one_b w y v n) (informs_are i d y x n (omega arith)) ∙ ap (λ b. cond b (send z (invalidate_b n y)) z) same
