-- In an orderly world every line moves: a step on a message is never refused, only an owner's call is. The layers together keep a world
-- orderly.
use Rattle.std.specs.Prelude.{◌≡◌, refl, Bool, true, false, ◌⊎◌, ℕ, suc, ◌<◌, ltb}
use Rattle.std.proofs.Common.{ap, inl, inr, arith, lt-ltb}
use mathlib.Core.List.{List, [], ◌∷◌}
use Rattle.sets.specs.Laws.{by_b}
use Rattle.sets.proofs.Laws.{eqb_same, ltb_yes}
use Rattle.line.specs.Messages.{Up, Down, Answer, Nothing, Begun, Value, Waits, Written, CommittedAs, AbortedFor, Purged, Refused, Empty}
use Rattle.line.specs.Station.{Station, Did, fits, close, do_callback, on_deescalate, on_committed, on_aborted, station_step}
use Rattle.line.specs.Line.{World, Call, Owner, ServerTakes, StationTakes, Broken, carry_up, carry_down, is_refused, station_takes, server_takes, act}
use Rattle.line.specs.Runs.{tell_keeps}
use Rattle.truth.specs.Frame.{Takes}
use Rattle.truth.proofs.Frame.{closes, takes}
use Rattle.truth.specs.Inv.{Acts, Over}
use Rattle.truth.proofs.Truth.{moves}
use Rattle.truth.specs.Tokens.{both}
use Rattle.jams.specs.Clauses.{NumbersOf, KeptOf, LocksOf, DeescalationOf, KeepingOf, Orderly, SetsOf}
use Rattle.jams.specs.Taken.{taken_up, taken_down}

-- WHAT IS CLAIMED

-- an owner's call; the others are steps on a message, and `Broken`: bytes that are no message
abbrev pub of_owner : Call → Bool
of_owner (Owner i op) = true
of_owner (ServerTakes i) = false
of_owner (StationTakes i) = false
of_owner (Broken n) = false

pub record NothingJams (w : World) : Type 0 where
  -- the server takes the first message of every up line ..
  pub up : (i : ℕ) (m : Up) (l : List Up) → i < 8 → w.up i ≡ m ∷ l → let a = act (ServerTakes i) w in (is_refused a.reply.answer ≡ false) × (a.world.up i ≡ l)
  -- .. each station that of its down line
  pub down : (i : ℕ) (m : Down) (l : List Down) → i < 8 → w.down i ≡ m ∷ l → let a = act (StationTakes i) w in (is_refused a.reply.answer ≡ false) × (a.world.down i ≡ l)
  -- so only an owner's calls are ever refused, or bytes that are no message
  pub refusals : (c : Call) (n : ℕ) → (act c w).reply.answer ≡ Refused n → (of_owner c ≡ true) ⊎ (c ≡ Broken n)

-- STEPS IN AN ORDERLY WORLD

-- the end of a transaction keeps the answer
ends : (d : Did) → is_refused d.answer ≡ false → is_refused (close d).answer ≡ false
unfolding do_callback
ends d e = closes (λ k. is_refused k.answer ≡ false) (λ r t set k q h. h) d e

-- what fits is answered
answers : (s : Station) → Takes s (λ m d. fits m s ≡ true → is_refused d.answer ≡ false)
unfolding on_deescalate do_callback on_committed on_aborted
answers s =
    record {
      refused = λ m e f. both (fits m s) f e;
      old_page = λ a t v u x e f. refl;
      page_read = λ a t v u x e g f. refl;
      page_write = λ l a t v u x p y e g o c f. refl;
      deescalates = λ p t l f. refl;
      keeps = λ r t set l e f. refl;
      dones = λ r t set l e f. refl;
      commits = λ t n e g f. ends _ refl;
      aborts = λ t c e g f. ends _ refl;
      invalid_ends = λ d l e g f. ends _ refl;
      invalid = λ d l e f. refl;
    }

module _ (w : World) (h : Orderly w) (i : ℕ) (b : i < 8) where
  up_taken : (m : Up) (l : List Up) → w.up i ≡ m ∷ l → let a = server_takes i (m ∷ l) w in (is_refused a.reply.answer ≡ false) × (a.world.up i ≡ l)
  unfolding server_takes carry_down
  up_taken m l q = rw (taken_up w h i b m l q, eqb_same i) (refl, refl)

  pub accepted : (m : Down) (l : List Down) → w.down i ≡ m ∷ l → is_refused (station_step m (w.station i)).answer ≡ false
  accepted m l q = takes (w.station i) (λ k d. fits k (w.station i) ≡ true → is_refused d.answer ≡ false) (answers (w.station i)) m (taken_down w h i b m l q)

  down_taken : (m : Down) (l : List Down) → w.down i ≡ m ∷ l → let a = station_takes i (m ∷ l) w in (is_refused a.reply.answer ≡ false) × (a.world.down i ≡ l)
  unfolding station_takes carry_up
  down_taken m l q =
      let e = accepted m l q in
      rw e (e, tell_keeps (λ s t u d. d i ≡ l) i (w.asked i) (station_step m (w.station i)).answer _ (rw (eqb_same i) refl))

-- a refusal's number, from 1 on; 0 for what is none, `Empty` among it
abbrev refused : Answer → ℕ
refused Nothing = 0
refused (Begun t) = 0
refused (Value v) = 0
refused Waits = 0
refused Written = 0
refused (CommittedAs n) = 0
refused (AbortedFor c) = 0
refused Purged = 0
refused (Refused n) = suc n
refused Empty = 0

-- where there is no message there is no call, and none is refused
no_message : (n : ℕ) → Empty ≡ Refused n → ⊥
no_message n e = let z : 0 ≡ suc n = ap refused e in omega arith

answered : (a : Answer) (n : ℕ) → is_refused a ≡ false → a ≡ Refused n → ⊥
answered a n f e = both (is_refused a) (ap is_refused e) f

module _ (w : World) (h : Orderly w) (i n : ℕ) where
  up_never : i < 8 → (k : List Up) → w.up i ≡ k → (server_takes i k w).reply.answer ≡ Refused n → ⊥
  unfolding server_takes
  up_never b [] q e = no_message n e
  up_never b (m ∷ l) q e = answered (server_takes i (m ∷ l) w).reply.answer n (up_taken w h i b m l q).0 e

  down_never : i < 8 → (k : List Down) → w.down i ≡ k → (station_takes i k w).reply.answer ≡ Refused n → ⊥
  unfolding station_takes
  down_never b [] q e = no_message n e
  down_never b (m ∷ l) q e = answered (station_takes i (m ∷ l) w).reply.answer n (down_taken w h i b m l q).0 e

refused_calls : (w : World) → Orderly w → (c : Call) (n : ℕ) → (act c w).reply.answer ≡ Refused n → (of_owner c ≡ true) ⊎ (c ≡ Broken n)
unfolding act
refused_calls w h (Owner i op) n e = inl refl
refused_calls w h (ServerTakes i) n e = absurd (by_b (ltb i 8) (λ b. up_never w h i n (ltb_yes i 8 b) (w.up i) refl (rw b at e)) (λ b. no_message n (rw b at e)))
refused_calls w h (StationTakes i) n e = absurd (by_b (ltb i 8) (λ b. down_never w h i n (ltb_yes i 8 b) (w.down i) refl (rw b at e)) (λ b. no_message n (rw b at e)))
refused_calls w h (Broken k) n e = let z : suc k ≡ suc n = ap refused e in inr (ap Broken (omega arith))

pub orderly_moves : (w : World) → Orderly w → NothingJams w
unfolding act
orderly_moves w h =
    record {
      up = λ i m l b q. rw (lt-ltb i 8 b, q) (up_taken w h i b m l q);
      down = λ i m l b q. rw (lt-ltb i 8 b, q) (down_taken w h i b m l q);
      refusals = refused_calls w h;
    }

-- THE LAYERS TOGETHER
module _ (N : Over Orderly NumbersOf) (C : Over Orderly KeptOf) (L : Over Orderly LocksOf) (D : Over Orderly DeescalationOf) (K : Over Orderly KeepingOf) (E : Over Orderly SetsOf) where
  whole_acts : (w : World) → Acts (λ x. Orderly (carry_down x w)) (λ x. Orderly (carry_down x w))
  whole_acts w =
      record {
        aborts = λ i c x b e h. record { inv = (moves.acts w).aborts i c x b e h.inv; numbers = (N.acts w).aborts i c x b e h; kept = (C.acts w).aborts i c x b e h; locks = (L.acts w).aborts i c x b e h; deescalation = (D.acts w).aborts i c x b e h; keeping = (K.acts w).aborts i c x b e h; sets = (E.acts w).aborts i c x b e h };
        asks = λ i g p x b e f h. record { inv = (moves.acts w).asks i g p x b e f h.inv; numbers = (N.acts w).asks i g p x b e f h; kept = (C.acts w).asks i g p x b e f h; locks = (L.acts w).asks i g p x b e f h; deescalation = (D.acts w).asks i g p x b e f h; keeping = (K.acts w).asks i g p x b e f h; sets = (E.acts w).asks i g p x b e f h };
        reads = λ i x b e f h. record { inv = (moves.acts w).reads i x b e f h.inv; numbers = (N.acts w).reads i x b e f h; kept = (C.acts w).reads i x b e f h; locks = (L.acts w).reads i x b e f h; deescalation = (D.acts w).reads i x b e f h; keeping = (K.acts w).reads i x b e f h; sets = (E.acts w).reads i x b e f h };
        calls = λ i x b e f g k h. record { inv = (moves.acts w).calls i x b e f g k h.inv; numbers = (N.acts w).calls i x b e f g k h; kept = (C.acts w).calls i x b e f g k h; locks = (L.acts w).calls i x b e f g k h; deescalation = (D.acts w).calls i x b e f g k h; keeping = (K.acts w).calls i x b e f g k h; sets = (E.acts w).calls i x b e f g k h };
        objects = λ i x b e f h. record { inv = (moves.acts w).objects i x b e f h.inv; numbers = (N.acts w).objects i x b e f h; kept = (C.acts w).objects i x b e f h; locks = (L.acts w).objects i x b e f h; deescalation = (D.acts w).objects i x b e f h; keeping = (K.acts w).objects i x b e f h; sets = (E.acts w).objects i x b e f h };
        pages = λ i x b e f g h. record { inv = (moves.acts w).pages i x b e f g h.inv; numbers = (N.acts w).pages i x b e f g h; kept = (C.acts w).pages i x b e f g h; locks = (L.acts w).pages i x b e f g h; deescalation = (D.acts w).pages i x b e f g h; keeping = (K.acts w).pages i x b e f g h; sets = (E.acts w).pages i x b e f g h };
        installs = λ i x b e f g h. record { inv = (moves.acts w).installs i x b e f g h.inv; numbers = (N.acts w).installs i x b e f g h; kept = (C.acts w).installs i x b e f g h; locks = (L.acts w).installs i x b e f g h; deescalation = (D.acts w).installs i x b e f g h; keeping = (K.acts w).installs i x b e f g h; sets = (E.acts w).installs i x b e f g h };
      }

  pub orderly_layer : Over Orderly Orderly
  orderly_layer =
      record {
        begins = λ kinds. record { inv = moves.begins kinds; numbers = N.begins kinds; kept = C.begins kinds; locks = L.begins kinds; deescalation = D.begins kinds; keeping = K.begins kinds; sets = E.begins kinds };
        owner = λ i op w b h. record { inv = moves.owner i op w b h.inv; numbers = N.owner i op w b h; kept = C.owner i op w b h; locks = L.owner i op w b h; deescalation = D.owner i op w b h; keeping = K.owner i op w b h; sets = E.owner i op w b h };
        station = λ i m l w b e u h. record { inv = moves.station i m l w b e u h.inv; numbers = N.station i m l w b e u h; kept = C.station i m l w b e u h; locks = L.station i m l w b e u h; deescalation = D.station i m l w b e u h; keeping = K.station i m l w b e u h; sets = E.station i m l w b e u h };
        accepted = λ i m l w b e u h. record { inv = moves.accepted i m l w b e u h.inv; numbers = N.accepted i m l w b e u h; kept = C.accepted i m l w b e u h; locks = L.accepted i m l w b e u h; deescalation = D.accepted i m l w b e u h; keeping = K.accepted i m l w b e u h; sets = E.accepted i m l w b e u h };
        acts = whole_acts;
      }
