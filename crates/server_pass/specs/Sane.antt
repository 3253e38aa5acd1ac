-- What a state must be for a waiter's turn to be taken on it: it means a server that is sound. Every turn leaves such a state.
use Rattle.std.specs.Prelude.{ℕ, zero, suc, ◌≤◌, ◌<◌, ◌≡◌, refl, List}
use Rattle.std.proofs.Common.{ap, arith}
use Rattle.line.specs.Server.{Server, start}
use Rattle.line.specs.Server as Model
use Rattle.server_actions.specs.declared.Counts.{Counts}
use Rattle.server_actions.specs.Actions.{Serving}
use Rattle.server_actions.specs.Pass.{visit_b}
use Rattle.server_actions.specs.Posting.{from, Posted, posted, post}
use Rattle.server_visit.specs.Asked.{Held}
use Rattle.server_meaning.specs.Meant.{Is}
use Rattle.server_meaning.specs.Tests.{Wanting}
use Rattle.server_meaning.proofs.Tests.{whole_at}
use Rattle.step_meaning.specs.Relation.{Sound, Serves}
use Rattle.step_meaning.proofs.Pass.{visit_means}

pub record Sane (s : List ℕ) : Type 0 where
  pub server : Server
  pub state : Is s server
  pub wanting : Wanting s
  pub sound : Sound server

pub begun : {s : List ℕ} (h : Sane s) → Serves (from s) (start h.server)
begun h = record { state = h.state; wanting = h.wanting; sound = h.sound; sent = tt; recs = tt }

pub after : {b : Serving} {x : Model.Serving} → Serves b x → Sane b.state
after {b} {x} h = record { server = x.server; state = h.state; wanting = h.wanting; sound = h.sound }

-- a page that is locked whole is so by a station of the line
pub held : {s : List ℕ} → Sane s → Held s
held h p l = rw (whole_at h.state p l) (most (h.server.wl p) refl)
  where
    most : (n : ℕ) → h.server.wl p ≡ n → n ≤ 8
    most zero e = omega arith
    most (suc g) e = omega (arith, (h.sound.holder p g e).0)

pub state_of : (o q : List ℕ) (c : Counts) (y : Serving) {s₁ o₁ q₁ : List ℕ} {c₁ : Counts} → posted s₁ o₁ q₁ c₁ ≡ post o q c y → s₁ ≡ y.state
unfolding post
state_of o q c y e = ap (λ (d : Posted). d.state) e

pub sane_visit : {s : List ℕ} → Sane s → (i : ℕ) → i < 8 → Sane (visit_b i (from s)).state
sane_visit h i l = after (visit_means (begun h) i l)
