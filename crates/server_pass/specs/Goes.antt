-- Rounds under way: what the lent bytes will hold when they end, and that there is room for it.
use Rattle.std.specs.Prelude.{ℕ, zero, suc, ◌+◌, ◌≤◌, ◌<◌, ◌≡◌, refl, Bool, true, false, not, cond, List, eqb}
use Rattle.std.proofs.Common.{sym, ap, ◌∙◌, arith}
use Rattle.std.proofs.lemmas.Bool.{false≢true}
use Rattle.sets.specs.Laws.{by_b}
use Rattle.line.specs.Fuel.{cost, cost_56}
use Rattle.server_actions.specs.declared.Counts.{Counts}
use Rattle.server_actions.specs.Actions.{Serving}
use Rattle.server_actions.specs.Pass.{moved_b, settle_b}
use Rattle.server_actions.specs.Posting.{from, acts_not, Posted, posted, post, post_none, posted_then, Room, room_first, room_next}
use Rattle.server_meaning.specs.Meant.{meant}
use Rattle.server_pass.specs.Sane.{Sane, state_of}
use Rattle.server_pass.specs.Calls.{moved_count}
use Rattle.server_pass.specs.Rounds.{round_b, acts_round, settle_round, acts_settle, round_falls}

-- what is still to be done
abbrev pub to_go : Bool → ℕ → List ℕ → Serving
to_go going n s = cond going (settle_b n (from s)) (from s)

pub record Goes (going : Bool) (s o q : List ℕ) (b : Counts) (goal : Posted) : Type 0 where
  pub fuel : ℕ
  pub left : going ≡ true → cost (meant s) < fuel
  pub goal_is : post o q b (to_go going fuel s) ≡ goal
  pub room : Room o q b (to_go going fuel s)

-- how many rounds may be left
abbrev pub rounds_left : Bool → List ℕ → ℕ
rounds_left going s = cond going (suc (cost (meant s))) 0

pub goes_first : (s o q : List ℕ) (c : Counts) → Room o q c (settle_b 64 (from s)) → Goes true s o q c (post o q c (settle_b 64 (from s)))
goes_first s o q c r = record { fuel = 64; left = λ _. few (cost_56 (meant s)); goal_is = refl; room = r }
  where
    few : {n : ℕ} → n ≤ 56 → n < 64
    few l = omega arith

pub goes_end : {s o q : List ℕ} {b : Counts} {goal : Posted} → Goes false s o q b goal → posted s o q b ≡ goal
goes_end {s} {o} {q} {b} g = post_none o q b s ∙ g.goal_is

module _ (s o q : List ℕ) (b : Counts) where
  -- a round comes first, whatever the fuel
  round_first : (n : ℕ) → Room o q b (settle_b (suc n) (from s)) → Room o q b (round_b (from s))
  round_first n r =
      let w : Room o q b (cond (moved_b (from s) (round_b (from s))) (settle_b n (round_b (from s))) (round_b (from s))) = rw (settle_round n (from s)) at r in
      by_b (moved_b (from s) (round_b (from s))) (λ e. room_first o q b (acts_settle n) (round_b (from s)) (rw e at w)) (λ e. rw e at w)

  pub goes_room : {goal : Posted} → Goes true s o q b goal → Room o q b (round_b (from s))
  goes_room g = at g.fuel (g.left refl) g.room
    where
      at : (n : ℕ) → cost (meant s) < n → Room o q b (settle_b n (from s)) → Room o q b (round_b (from s))
      at zero l r = absurd (omega arith)
      at (suc n) l r = round_first n r

  module _ {s₁ o₁ q₁ : List ℕ} {e : Counts} (f : posted s₁ o₁ q₁ e ≡ post o q b (round_b (from s))) where
    -- the counts tell whether a round sent anything
    moved_is : not (eqb e.messages b.messages) ≡ moved_b (from s) (round_b (from s))
    moved_is = moved_count o q b s (round_b (from s)) f

    state_is : s₁ ≡ (round_b (from s)).state
    state_is = state_of o q b (round_b (from s)) f

    falls : Sane s → moved_b (from s) (round_b (from s)) ≡ true → cost (meant s₁) + 1 ≤ cost (meant s)
    falls h m = as_is (ap (λ (t : List ℕ). cost (meant t)) state_is) (round_falls h m)
      where
        as_is : {a c d : ℕ} → a ≡ c → c + 1 ≤ d → a + 1 ≤ d
        as_is x l = omega arith

    module _ (n : ℕ) (h : Sane s) (l : cost (meant s) < suc n) (r : Room o q b (settle_b (suc n) (from s))) where
      moves : moved_b (from s) (round_b (from s)) ≡ true → Goes true s₁ o₁ q₁ e (post o q b (settle_b (suc n) (from s)))
      moves m =
          let is : settle_b (suc n) (from s) ≡ settle_b n (round_b (from s)) = settle_round n (from s) ∙ rw m in
          record {
            fuel = n;
            left = λ _. lower (falls h m) l;
            goal_is = posted_then (acts_settle n) o q b (round_b (from s)) f refl ∙ ap (post o q b) (sym is);
            room = room_next o q b (acts_settle n) (round_b (from s)) f (rw is at r);
          }
        where
          lower : {a c : ℕ} → a + 1 ≤ c → c < suc n → a < n
          lower x y = omega arith

      rests : moved_b (from s) (round_b (from s)) ≡ false → Goes false s₁ o₁ q₁ e (post o q b (settle_b (suc n) (from s)))
      rests m =
          let is : settle_b (suc n) (from s) ≡ round_b (from s) = settle_round n (from s) ∙ rw m in
          record {
            fuel = n;
            left = λ x. absurd (false≢true x);
            goal_is = sym (post_none o₁ q₁ e s₁) ∙ f ∙ ap (post o q b) (sym is);
            room = room_next o q b acts_not (round_b (from s)) f (rw is at r);
          }

      next : Goes (not (eqb e.messages b.messages)) s₁ o₁ q₁ e (post o q b (settle_b (suc n) (from s)))
      next =
          rw moved_is
          (by_b (moved_b (from s) (round_b (from s))) (λ m. rw m (moves m)) (λ m. rw m (rests m)))

    pub goes_next : {goal : Posted} → Sane s → Goes true s o q b goal → Goes (not (eqb e.messages b.messages)) s₁ o₁ q₁ e goal
    goes_next {goal} h g = at g.fuel (g.left refl) g.room g.goal_is
      where
        at : (n : ℕ) → cost (meant s) < n → Room o q b (settle_b n (from s)) → post o q b (settle_b n (from s)) ≡ goal
            → Goes (not (eqb e.messages b.messages)) s₁ o₁ q₁ e goal
        at zero l r i = absurd (omega arith)
        at (suc n) l r i = rw (← i) (next n h l r)

    -- fewer rounds are left
    pub goes_less : Sane s → rounds_left (not (eqb e.messages b.messages)) s₁ < rounds_left true s
    goes_less h =
        rw moved_is
        (by_b (moved_b (from s) (round_b (from s))) (λ m. rw m (one (falls h m))) (λ m. rw m none))
      where
        one : {a c : ℕ} → a + 1 ≤ c → suc a < suc c
        one x = omega arith

        none : {c : ℕ} → 0 < suc c
        none = omega arith
