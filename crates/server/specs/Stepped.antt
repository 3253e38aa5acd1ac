-- The calls of the step, one after the other, leave what its definition gives; and there is room for each.
use Rattle.std.specs.Prelude.{ℕ, ◌+◌, ◌≡◌, true, false, ◌≢◌, List, length}
use Rattle.std.proofs.Math.Path.{refl}
use Rattle.std.proofs.Common.{sym, ap, ◌∙◌, arith}
use borrow.Author.Tests.{ne_eqb}
use Rattle.cells.specs.Num.{AllBytes}
use Rattle.station_callbacks.specs.Callbacks.{flat}
use Rattle.server_state.specs.Valid.{valid}
use Rattle.server_actions.specs.declared.Counts.{Counts}
use Rattle.server_actions.specs.Actions.{Serving, accept_b}
use Rattle.server_actions.specs.Pass.{settle_b, server_step_b}
use Rattle.server_actions.specs.Step.{ready, check_step_b, laid, server_called}
use Rattle.server_actions.specs.Posting.{from, counts, Posted, posted, post, posted_then, Whole, mailed_flat, Room, room_first, room_next}
use Rattle.server_actions.specs.Parts.{acts_accept}
use Rattle.server_pass.specs.Sane.{Sane, state_of}
use Rattle.server_pass.specs.Rounds.{acts_settle}
use Rattle.server.specs.declared.Served.TheVariants.{Refused, Sent}
use Rattle.server.specs.Outcome.{outcome}
use Rattle.server.specs.Facts.{ready_valid, sane_accepted, step_room, step_whole}

-- the messages stand one behind the other
laid_as : (o q : List ℕ) (y : Serving) → Whole y.sent → {s₁ o₁ q₁ : List ℕ} {c : Counts} → posted s₁ o₁ q₁ c ≡ post o q (counts 0 0) y
    → outcome s₁ o₁ q₁ (Sent c.messages c.records) ≡ laid o q y
unfolding post
laid_as o q y w f =
    ap (λ (p : Posted). outcome p.state p.messages p.records (Sent p.count.messages p.count.records)) f
    ∙ rw (mailed_flat o 0 y.sent w, none (length y.sent), none (length (flat y.recs)))
  where
    none : (n : ℕ) → 0 + n ≡ n
    none n = omega arith

module _ (m s o q : List ℕ) (e : ready s o q ≡ true) (ok : check_step_b m s ≡ 0) (bs : AllBytes s) (bm : AllBytes m) where
  v : valid s ≡ true
  v = ready_valid s o q e

  settles : server_step_b m s ≡ settle_b 64 (accept_b m (from s))
  unfolding server_step_b
  settles = refl

  room : Room o q (counts 0 0) (settle_b 64 (accept_b m (from s)))
  room = rw (← settles) (step_room m s v bs bm ok o q e)

  pub accept_room : Room o q (counts 0 0) (accept_b m (from s))
  accept_room = room_first o q (counts 0 0) (acts_settle 64) (accept_b m (from s)) room

  module _ {s₁ o₁ q₁ : List ℕ} {b : Counts} (f : posted s₁ o₁ q₁ b ≡ post o q (counts 0 0) (accept_b m (from s))) where
    pub accept_sane : Sane s₁
    accept_sane = rw (state_of o q (counts 0 0) (accept_b m (from s)) f) (sane_accepted m s v bs bm ok)

    pub settle_room : Room o₁ q₁ b (settle_b 64 (from s₁))
    settle_room = room_next o q (counts 0 0) (acts_settle 64) (accept_b m (from s)) f room

    pub settle_posted : {d : Posted} → d ≡ post o₁ q₁ b (settle_b 64 (from s₁)) → d ≡ post o q (counts 0 0) (server_step_b m s)
    settle_posted g = posted_then (acts_settle 64) o q (counts 0 0) (accept_b m (from s)) f g ∙ ap (post o q (counts 0 0)) (sym settles)

  pub call_sent : {s₁ o₁ q₁ : List ℕ} {c : Counts} → posted s₁ o₁ q₁ c ≡ post o q (counts 0 0) (server_step_b m s)
      → outcome s₁ o₁ q₁ (Sent c.messages c.records) ≡ server_called m s o q
  unfolding server_called
  call_sent f = rw (e, ok) (laid_as o q (server_step_b m s) (step_whole m s v bs bm ok) f)

-- "Refused calls answer the number, send nothing and change no state or lent buffer."
module _ (m s o q : List ℕ) where
  pub call_1 : ready s o q ≡ false → outcome s o q (Refused 1) ≡ server_called m s o q
  unfolding server_called
  call_1 e = rw e

  pub call_n : ready s o q ≡ true → {n : ℕ} → n ≡ check_step_b m s → n ≢ 0 → outcome s o q (Refused n) ≡ server_called m s o q
  unfolding server_called
  call_n e f n = rw (e, ← f, ne_eqb _ 0 n)
