-- What every move keeps is kept by every list of calls; the layers together are kept so, and what they say of a world makes its
-- archive true.
use Rattle.std.specs.Prelude.{◌≡◌, false, ℕ, ◌<◌, ltb}
use Rattle.std.proofs.Math.Path.{refl}
use mathlib.Core.List.{List, [], ◌∷◌}
use Rattle.sets.specs.Laws.{by_b}
use Rattle.sets.proofs.Laws.{ltb_yes}
use Rattle.line.specs.Messages.{Up, Down}
use Rattle.line.specs.Station.{station_step}
use Rattle.line.specs.Server.{Serving, server_step, unexpected}
use Rattle.line.specs.Pass.{Atomic, step_keeps}
use Rattle.line.specs.Line.{World, Op, Call, Owner, ServerTakes, StationTakes, Broken, carry_down, owner_acts, station_takes, server_takes, act, run, is_refused, fresh}
use Rattle.line.specs.Truth.{True}
use Rattle.truth.specs.GoalsEight.{StationsOf}
use Rattle.truth.proofs.GoalsTrue.{goals_true}
use Rattle.truth.specs.Inv.{ApartOf, TokensOf, CoverageOf, CallsOf, ExclusionOf, ValuesOf, ValidatedOf, GoalsOf, Inv, Acts, Over, Layer, taken}

-- what the invariant says of a world makes its archive true (what is archived, told or answered is of the eight stations: `stations-run`)
pub true_of : (w : World) → StationsOf w → Inv w → True w
true_of w s h = goals_true w s h.goals

-- WHAT EVERY MOVE KEEPS
pub acts_atomic : {P : Serving → Type 0} → Acts P P → Atomic P
acts_atomic k = record { aborts = k.aborts; asks = k.asks; reads = k.reads; calls = k.calls; objects = k.objects; pages = k.pages; installs = k.installs }

module _ {I : World → Type 0} (k : Over I I) where
  -- the server's step
  pub keeps_step : (i : ℕ) (m : Up) (l : List Up) (w : World) → i < 8 → w.up i ≡ m ∷ l → unexpected i m w.server ≡ false → I w → I (carry_down (server_step i m w.server) (taken i l w))
  keeps_step i m l w b e u h =
      step_keeps (λ x. I (carry_down x (taken i l w))) (acts_atomic (k.acts (taken i l w))) i m w.server (k.accepted i m l w b e u h)

  keeps_owner : (i : ℕ) (op : Op) (w : World) → i < 8 → I w → I (owner_acts i op w).world
  unfolding owner_acts
  keeps_owner i op w b h = k.owner i op w b h

  keeps_server : (i : ℕ) (l : List Up) (w : World) → i < 8 → w.up i ≡ l → I w → I (server_takes i l w).world
  unfolding server_takes
  keeps_server i [] w b e h = h
  keeps_server i (m ∷ l) w b e h = by_b (unexpected i m w.server) (λ u. rw u h) (λ u. rw u (keeps_step i m l w b e u h))

  keeps_station : (i : ℕ) (l : List Down) (w : World) → i < 8 → w.down i ≡ l → I w → I (station_takes i l w).world
  unfolding station_takes
  keeps_station i [] w b e h = h
  keeps_station i (m ∷ l) w b e h = by_b (is_refused (station_step m (w.station i)).answer) (λ u. rw u h) (λ u. rw u (k.station i m l w b e u h))

  pub keeps_act : (c : Call) (w : World) → I w → I (act c w).world
  unfolding act
  keeps_act (Owner i op) w h = by_b (ltb i 8) (λ e. rw e (keeps_owner i op w (ltb_yes i 8 e) h)) (λ e. rw e h)
  keeps_act (ServerTakes i) w h = by_b (ltb i 8) (λ e. rw e (keeps_server i (w.up i) w (ltb_yes i 8 e) refl h)) (λ e. rw e h)
  keeps_act (StationTakes i) w h = by_b (ltb i 8) (λ e. rw e (keeps_station i (w.down i) w (ltb_yes i 8 e) refl h)) (λ e. rw e h)
  keeps_act (Broken n) w h = h

  pub keeps_run : (cs : List Call) (w : World) → I w → I (run cs w)
  unfolding run
  keeps_run [] w h = h
  keeps_run (c ∷ cs) w h = keeps_run cs (act c w).world (keeps_act c w h)

  -- .. so it holds of every run
  pub of_run : (kinds : ℕ → ℕ) (cs : List Call) → I (run cs (fresh kinds))
  of_run kinds cs = keeps_run cs (fresh kinds) (k.begins kinds)

-- THE LAYERS TOGETHER
module _ (A : Layer ApartOf) (T : Layer TokensOf) (C : Layer CoverageOf) (K : Layer CallsOf) (X : Layer ExclusionOf) (Y : Layer ValuesOf) (D : Layer ValidatedOf) (G : Layer GoalsOf) where
  -- each action of the pass keeps the whole
  whole_acts : (w : World) → Acts (λ x. Inv (carry_down x w)) (λ x. Inv (carry_down x w))
  whole_acts w =
      record {
        aborts = λ i c x b e h. record { apart = (A.acts w).aborts i c x b e h; tokens = (T.acts w).aborts i c x b e h; coverage = (C.acts w).aborts i c x b e h; calls = (K.acts w).aborts i c x b e h; exclusion = (X.acts w).aborts i c x b e h; values = (Y.acts w).aborts i c x b e h; validated = (D.acts w).aborts i c x b e h; goals = (G.acts w).aborts i c x b e h };
        asks = λ i g p x b e f h. record { apart = (A.acts w).asks i g p x b e f h; tokens = (T.acts w).asks i g p x b e f h; coverage = (C.acts w).asks i g p x b e f h; calls = (K.acts w).asks i g p x b e f h; exclusion = (X.acts w).asks i g p x b e f h; values = (Y.acts w).asks i g p x b e f h; validated = (D.acts w).asks i g p x b e f h; goals = (G.acts w).asks i g p x b e f h };
        reads = λ i x b e f h. record { apart = (A.acts w).reads i x b e f h; tokens = (T.acts w).reads i x b e f h; coverage = (C.acts w).reads i x b e f h; calls = (K.acts w).reads i x b e f h; exclusion = (X.acts w).reads i x b e f h; values = (Y.acts w).reads i x b e f h; validated = (D.acts w).reads i x b e f h; goals = (G.acts w).reads i x b e f h };
        calls = λ i x b e f g k h. record { apart = (A.acts w).calls i x b e f g k h; tokens = (T.acts w).calls i x b e f g k h; coverage = (C.acts w).calls i x b e f g k h; calls = (K.acts w).calls i x b e f g k h; exclusion = (X.acts w).calls i x b e f g k h; values = (Y.acts w).calls i x b e f g k h; validated = (D.acts w).calls i x b e f g k h; goals = (G.acts w).calls i x b e f g k h };
        objects = λ i x b e f h. record { apart = (A.acts w).objects i x b e f h; tokens = (T.acts w).objects i x b e f h; coverage = (C.acts w).objects i x b e f h; calls = (K.acts w).objects i x b e f h; exclusion = (X.acts w).objects i x b e f h; values = (Y.acts w).objects i x b e f h; validated = (D.acts w).objects i x b e f h; goals = (G.acts w).objects i x b e f h };
        pages = λ i x b e f g h. record { apart = (A.acts w).pages i x b e f g h; tokens = (T.acts w).pages i x b e f g h; coverage = (C.acts w).pages i x b e f g h; calls = (K.acts w).pages i x b e f g h; exclusion = (X.acts w).pages i x b e f g h; values = (Y.acts w).pages i x b e f g h; validated = (D.acts w).pages i x b e f g h; goals = (G.acts w).pages i x b e f g h };
        installs = λ i x b e f g h. record { apart = (A.acts w).installs i x b e f g h; tokens = (T.acts w).installs i x b e f g h; coverage = (C.acts w).installs i x b e f g h; calls = (K.acts w).installs i x b e f g h; exclusion = (X.acts w).installs i x b e f g h; values = (Y.acts w).installs i x b e f g h; validated = (D.acts w).installs i x b e f g h; goals = (G.acts w).installs i x b e f g h };
      }

  -- the invariant is kept by every move
  pub inv_layer : Layer Inv
  inv_layer =
      record {
        begins = λ kinds. record { apart = A.begins kinds; tokens = T.begins kinds; coverage = C.begins kinds; calls = K.begins kinds; exclusion = X.begins kinds; values = Y.begins kinds; validated = D.begins kinds; goals = G.begins kinds };
        owner = λ i op w b h. record { apart = A.owner i op w b h; tokens = T.owner i op w b h; coverage = C.owner i op w b h; calls = K.owner i op w b h; exclusion = X.owner i op w b h; values = Y.owner i op w b h; validated = D.owner i op w b h; goals = G.owner i op w b h };
        station = λ i m l w b e u h. record { apart = A.station i m l w b e u h; tokens = T.station i m l w b e u h; coverage = C.station i m l w b e u h; calls = K.station i m l w b e u h; exclusion = X.station i m l w b e u h; values = Y.station i m l w b e u h; validated = D.station i m l w b e u h; goals = G.station i m l w b e u h };
        accepted = λ i m l w b e u h. record { apart = A.accepted i m l w b e u h; tokens = T.accepted i m l w b e u h; coverage = C.accepted i m l w b e u h; calls = K.accepted i m l w b e u h; exclusion = X.accepted i m l w b e u h; values = Y.accepted i m l w b e u h; validated = D.accepted i m l w b e u h; goals = G.accepted i m l w b e u h };
        acts = whole_acts;
      }
