-- The whole invariant of a world, and what a layer of it owes: that each move from a world with the whole invariant leads to a world
-- with this layer. The layers together are then kept by every list of calls (Run).
use Rattle.std.specs.Prelude.{◌≡◌, true, false, List, ◌∷◌, ℕ, ◌<◌}
use Rattle.sets.specs.Base.{upd, any}
use Rattle.line.specs.Messages.{page_of, Up, Down}
use Rattle.line.specs.Station.{station_step}
use Rattle.line.specs.Server.{Serving, WantRead, WantWrite, WantCommit, waits, hinders, fault, abort, ask, serve_read, call, grant_object, grant_page, install_waiter, unexpected, accept, start}
use Rattle.line.specs.Pass.{Clear, Ready, Shut}
use Rattle.line.specs.Apart.{Apart}
use Rattle.line.specs.Line.{World, world_up, world_down, Op, perform, tell, carry_up, carry_down, is_refused, fresh}
use Rattle.truth.specs.Clauses.{TokensAt, CoverageAt, CallbacksAt, G4At, LockedAt, CalledAt, A2At, ValuesAt, Versions, ValidatedAt, Archived, OwnedAt}

-- the layers, of a world: what number 1 asks of the server, then the clauses
abbrev pub ApartOf : World → Type 0
ApartOf w = Apart w.server

abbrev pub TokensOf : World → Type 0
TokensOf w = (i : ℕ) → TokensAt w.server w.station w.up w.down i

abbrev pub CoverageOf : World → Type 0
CoverageOf w = (i : ℕ) → CoverageAt w.server w.station w.up w.down i

pub record CallsOf (w : World) : Type 0 where
  pub callbacks : (r j : ℕ) → r < 8 → j < 8 → CallbacksAt w.server w.station w.up w.down r j
  pub G4 : (i j : ℕ) → i < 8 → j < 8 → G4At w.server i j

pub record ExclusionOf (w : World) : Type 0 where
  pub locked : (j a : ℕ) → j < 8 → a < 256 → LockedAt w.server w.station w.down j a
  pub called : (r j a : ℕ) → r < 8 → j < 8 → a < 256 → CalledAt w.server w.station w.up w.down r j a

pub record ValuesOf (w : World) : Type 0 where
  pub A2 : (i a : ℕ) → i < 8 → a < 256 → A2At w.station i a
  pub values : (i a : ℕ) → i < 8 → a < 256 → ValuesAt w.server w.station w.down i a

pub record ValidatedOf (w : World) : Type 0 where
  pub versions : Versions w.archive w.server.last w.server.ver
  pub validated : (i : ℕ) → i < 8 → ValidatedAt w.archive w.server w.station w.up w.down i

pub record GoalsOf (w : World) : Type 0 where
  pub archived : Archived w.archive w.server.last w.server.val
  pub owned : (i : ℕ) → i < 8 → OwnedAt w i

pub record Inv (w : World) : Type 0 where
  pub apart : ApartOf w
  pub tokens : TokensOf w
  pub coverage : CoverageOf w
  pub calls : CallsOf w
  pub exclusion : ExclusionOf w
  pub values : ValuesOf w
  pub validated : ValidatedOf w
  pub goals : GoalsOf w

-- the worlds after the moves
abbrev pub after_owner : ℕ → Op → World → World
after_owner i op w = let d = perform op (w.station i) in tell i op d.answer (carry_up i d w)

abbrev pub after_station : ℕ → Down → List Down → World → World
after_station i m l w = let d = station_step m (w.station i) in tell i (w.asked i) d.answer (carry_up i d (world_down w (upd w.down i l)))

-- the server's step under way in a world whose up line i has lost its head
abbrev pub taken : ℕ → List Up → World → World
taken i l w = world_up w (upd w.up i l)

-- each action of the pass takes P to Q (the guards are those of `Atomic`)
pub record Acts (P Q : Serving → Type 0) : Type 0 where
  pub aborts : (i c : ℕ) (x : Serving) → i < 8 → waits x.server i ≡ true → P x → Q (abort i c x)
  pub asks : (i h p : ℕ) (x : Serving) → p < 32 → Shut i h p x → x.server.asked p ≡ false → P x → Q (ask h p x)
  pub reads : (i : ℕ) (x : Serving) → i < 8 → (x.server.queue i).want ≡ WantRead → Clear i x → P x → Q (serve_read i x)
  pub calls : (i : ℕ) (x : Serving) → i < 8 → waits x.server i ≡ true → (x.server.queue i).called ≡ false → ((x.server.queue i).want ≡ WantRead → ⊥) → Clear i x → P x → Q (call i x)
  pub objects : (i : ℕ) (x : Serving) → i < 8 → (x.server.queue i).want ≡ WantWrite → Ready i x → P x → Q (grant_object i x)
  pub pages : (i : ℕ) (x : Serving) → i < 8 → (x.server.queue i).want ≡ WantWrite → Ready i x → any 8 (hinders x.server i (page_of (x.server.queue i).req)) ≡ false → P x → Q (grant_page i x)
  pub installs : (i : ℕ) (x : Serving) → i < 8 → (x.server.queue i).want ≡ WantCommit → fault x.server i ≡ 0 → Ready i x → P x → Q (install_waiter i x)

-- what a layer L owes where the whole property of a world is I
pub record Over (I L : World → Type 0) : Type 0 where
  pub begins : (kinds : ℕ → ℕ) → L (fresh kinds)
  pub owner : (i : ℕ) (op : Op) (w : World) → i < 8 → I w → L (after_owner i op w)
  pub station : (i : ℕ) (m : Down) (l : List Down) (w : World) → i < 8 → w.down i ≡ m ∷ l → is_refused (station_step m (w.station i)).answer ≡ false → I w → L (after_station i m l w)
  pub accepted : (i : ℕ) (m : Up) (l : List Up) (w : World) → i < 8 → w.up i ≡ m ∷ l → unexpected i m w.server ≡ false → I w → L (carry_down (accept i m (start w.server)) (taken i l w))
  pub acts : (w : World) → Acts (λ x. I (carry_down x w)) (λ x. L (carry_down x w))

-- .. and where it is the invariant
abbrev pub Layer : (World → Type 0) → Type 0
Layer L = Over Inv L
