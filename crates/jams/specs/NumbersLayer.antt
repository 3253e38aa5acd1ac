-- The layer of numbers: every move from an orderly world leads to a world whose numbers are in order, and where validating stations have
-- kept no callback.
use Rattle.std.specs.Prelude.{◌≡◌, refl, true, false, List, ◌∷◌, ◌++◌, ℕ, ◌<◌}
use Rattle.std.proofs.Common.{arith}
use Rattle.sets.specs.Laws.{by_eq}
use Rattle.sets.proofs.Laws.{eqb_yes}
use Rattle.line.specs.Messages.{Up, Down}
use Rattle.line.specs.Station.{Station, station_step}
use Rattle.line.specs.Server.{Server, Serving, waits, install_waiter}
use Rattle.line.specs.Line.{World, Op, perform, carry_up, carry_down, sent_to, is_refused, fresh}
use Rattle.line.specs.Apart.{Apart}
use Rattle.line.specs.Runs.{tell_keeps}
use Rattle.truth.specs.Clauses.{TokensAt}
use Rattle.truth.specs.Inv.{Acts, Over}
use Rattle.truth.specs.Tokens.{both}
use Rattle.truth.proofs.Tokens.{left_quiet}
use Rattle.jams.specs.Clauses.{NumbersAt, KeptAt, NumbersOf, KeptOf, Orderly}
use Rattle.jams.specs.Numbers.{waiter_open, quiet_calm, quiet_above}
use Rattle.jams.specs.NumbersStation.{NumbersDid, owner_numbers, station_numbers}
use Rattle.jams.specs.NumbersServer.{NumbersIn, Ready, abort_numbers, install_numbers, ask_numbers, call_numbers, read_numbers, object_numbers, whole_numbers}
use Rattle.jams.specs.NumbersAccept.{accept_numbers}

-- THE START
fresh_numbers : (kinds : ℕ → ℕ) → NumbersOf (fresh kinds)
fresh_numbers kinds i b =
    record { N1_up = tt; N1_down = tt; N2 = tt; N3 = tt; N4 = λ l f. both true refl f; N5 = λ o e f. both false o refl; N6 = omega arith; N7 = tt; N8 = tt; N2s = tt; N10 = tt; N10a = tt; K6a = tt }

-- OWNER AND STATION

-- of all stations
abbrev AllNumbers : Server → (ℕ → Station) → (ℕ → List Up) → (ℕ → List Down) → Type 0
AllNumbers s t u d = (j : ℕ) → j < 8 → NumbersAt s t u d j

abbrev AllKept : Server → (ℕ → Station) → (ℕ → List Up) → (ℕ → List Down) → Type 0
AllKept s t u d = (j : ℕ) → j < 8 → KeptAt t j

owner_did : (i : ℕ) (op : Op) (w : World) → i < 8 → Orderly w → NumbersDid (w.server.latest i) (w.server.fin i) (w.up i) (w.down i) (perform op (w.station i))
owner_did i op w b h = owner_numbers (w.server.latest i) (w.server.fin i) (w.up i) (w.down i) (w.server.kind i) (w.server.queue i) (w.station i) (h.inv.tokens i) (h.numbers i b) (h.kept i b) op

station_did : (i : ℕ) (m : Down) (l : List Down) (w : World) → i < 8 → w.down i ≡ m ∷ l → is_refused (station_step m (w.station i)).answer ≡ false → Orderly w → NumbersDid (w.server.latest i) (w.server.fin i) (w.up i) l (station_step m (w.station i))
station_did i m l w b e n h = station_numbers (w.server.latest i) (w.server.fin i) (w.up i) l (w.station i) m (rw e at (h.numbers i b)) (h.kept i b) n

-- THE SERVER'S STEP under way in a world
module _ (w : World) (x : Serving) (h : Orderly (carry_down x w)) where
  under : (j : ℕ) → j < 8 → NumbersIn w.station w.up w.down j x
  unfolding carry_down
  under j c = h.numbers j c

  tokens : (j : ℕ) → TokensAt x.server w.station w.up (λ k. w.down k ++ sent_to k x.sent) j
  unfolding carry_down
  tokens j = h.inv.tokens j

  apart : Apart x.server
  unfolding carry_down
  apart = h.inv.apart

  -- a waiter's transaction may be finished: it was the station's only token
  ready : (i : ℕ) → i < 8 → waits x.server i ≡ true → Ready w.station w.up w.down i x
  ready i b e =
      let q = left_quiet e (tokens i) in
      let o = waiter_open (w.station i).kind (w.station i).num (w.station i).opened (w.station i).wait (x.server.latest i) (x.server.queue i).want (x.server.queue i).req e (tokens i).S1b_waiter in
      record { calm = quiet_calm q; above = quiet_above q o.1 (under i b) o.0 }

acts_numbers : (w : World) → Acts (λ x. Orderly (carry_down x w)) (λ x. NumbersOf (carry_down x w))
unfolding carry_down install_waiter
acts_numbers w =
    let t = w.station in
    let u = w.up in
    let d = w.down in
    record {
      aborts = λ i c x b e h j a. abort_numbers t u d j i c x (λ q. rw (eqb_yes j i q) (ready w x h i b e)) (under w x h j a);
      asks = λ i g p x b e f h j a. ask_numbers t u d j g p x ((apart w x h).locks.whole_open g p e.held).locks ((apart w x h).locks.given g p e.held).seen (tokens w x h j).kinds (under w x h j a);
      reads = λ i x b e c h j a. read_numbers t u d j i x ((tokens w x h i).S4 (rw e refl)) (under w x h j a);
      calls = λ i x b e f n c h j a. call_numbers t u d j i x (tokens w x h j).kinds (under w x h j a);
      objects = λ i x b e c h j a. object_numbers t u d j i x ((tokens w x h i).S4 (rw e refl)) (((apart w x h).waiting.entry i b).writes_lock e) (tokens w x h j).kinds (under w x h j a);
      pages = λ i x b e c f h j a. whole_numbers t u d j i x ((tokens w x h i).S4 (rw e refl)) (((apart w x h).waiting.entry i b).writes_lock e) (tokens w x h j).kinds (under w x h j a);
      installs = λ i x b e f c h j a.
          let k = rw e at (tokens w x h i).S3_waiter in
          install_numbers t u d j i (x.server.queue i).work x (λ q. rw (eqb_yes j i q) k.0) (λ q. rw (eqb_yes j i q) (ready w x h i b (rw e refl))) (tokens w x h j).kinds (under w x h j a);
    }

-- THE LAYERS
pub numbers_layer : Over Orderly NumbersOf
unfolding carry_up carry_down
numbers_layer =
    record {
      begins = fresh_numbers;
      owner = λ i op w b h.
          tell_keeps AllNumbers i op (perform op (w.station i)).answer (carry_up i (perform op (w.station i)) w)
          (λ j c. by_eq j i (λ e. rw (e, eqb_yes j i e) (owner_did i op w b h).0) (λ e. rw e (h.numbers j c)));
      station = λ i m l w b q n h.
          tell_keeps AllNumbers i (w.asked i) (station_step m (w.station i)).answer _
          (λ j c. by_eq j i (λ e. rw (e, eqb_yes j i e) (station_did i m l w b q n h).0) (λ e. rw e (h.numbers j c)));
      accepted = λ i m l w b q n h. accept_numbers i l w b h m n q;
      acts = acts_numbers;
    }

pub kept_layer : Over Orderly KeptOf
unfolding carry_up carry_down
kept_layer =
    record {
      begins = λ kinds i b l r. refl;
      owner = λ i op w b h.
          tell_keeps AllKept i op (perform op (w.station i)).answer (carry_up i (perform op (w.station i)) w)
          (λ j c. by_eq j i (λ e. rw (e, eqb_yes j i e) (owner_did i op w b h).1) (λ e. rw e (h.kept j c)));
      station = λ i m l w b q n h.
          tell_keeps AllKept i (w.asked i) (station_step m (w.station i)).answer _
          (λ j c. by_eq j i (λ e. rw (e, eqb_yes j i e) (station_did i m l w b q n h).1) (λ e. rw e (h.kept j c)));
      accepted = λ i m l w b q n h. h.kept;
      acts = λ w.
          record {
            aborts = λ i c x b e h. h.kept;
            asks = λ i g p x b e f h. h.kept;
            reads = λ i x b e c h. h.kept;
            calls = λ i x b e f n c h. h.kept;
            objects = λ i x b e c h. h.kept;
            pages = λ i x b e c f h. h.kept;
            installs = λ i x b e f c h. h.kept;
          };
    }
