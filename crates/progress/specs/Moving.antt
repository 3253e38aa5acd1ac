-- The layers together: what holds while somebody waits holds in every world of a run.
use Rattle.std.specs.Prelude.{List, ℕ}
use Rattle.line.specs.Line.{World, Call, carry_down, run, fresh}
use Rattle.truth.specs.Inv.{Acts, Over}
use Rattle.truth.proofs.Theorem.{of_run}
use Rattle.truth.proofs.Truth.{moves}
use Rattle.progress.specs.Clauses.{Moving}
use Rattle.progress.specs.Waits.{waits_layer}
use Rattle.progress.specs.OwedServer.{owed_layer}
use Rattle.progress.specs.Asked.{asked_layer}

moving_acts : (w : World) → Acts (λ x. Moving (carry_down x w)) (λ x. Moving (carry_down x w))
moving_acts w =
    let I = moves.acts w in
    let A = waits_layer.acts w in
    let B = owed_layer.acts w in
    let C = asked_layer.acts w in
    record {
      aborts = λ i c x b e h. record { inv = I.aborts i c x b e h.inv; P1 = A.aborts i c x b e h; owed = B.aborts i c x b e h; P5 = C.aborts i c x b e h };
      asks = λ i g p x b e f h. record { inv = I.asks i g p x b e f h.inv; P1 = A.asks i g p x b e f h; owed = B.asks i g p x b e f h; P5 = C.asks i g p x b e f h };
      reads = λ i x b e f h. record { inv = I.reads i x b e f h.inv; P1 = A.reads i x b e f h; owed = B.reads i x b e f h; P5 = C.reads i x b e f h };
      calls = λ i x b e f g k h. record { inv = I.calls i x b e f g k h.inv; P1 = A.calls i x b e f g k h; owed = B.calls i x b e f g k h; P5 = C.calls i x b e f g k h };
      objects = λ i x b e f h. record { inv = I.objects i x b e f h.inv; P1 = A.objects i x b e f h; owed = B.objects i x b e f h; P5 = C.objects i x b e f h };
      pages = λ i x b e f g h. record { inv = I.pages i x b e f g h.inv; P1 = A.pages i x b e f g h; owed = B.pages i x b e f g h; P5 = C.pages i x b e f g h };
      installs = λ i x b e f g h. record { inv = I.installs i x b e f g h.inv; P1 = A.installs i x b e f g h; owed = B.installs i x b e f g h; P5 = C.installs i x b e f g h };
    }

-- every move keeps the whole
pub moving_layer : Over Moving Moving
moving_layer =
    record {
      begins = λ kinds. record { inv = moves.begins kinds; P1 = waits_layer.begins kinds; owed = owed_layer.begins kinds; P5 = asked_layer.begins kinds };
      owner = λ i op w b h. record { inv = moves.owner i op w b h.inv; P1 = waits_layer.owner i op w b h; owed = owed_layer.owner i op w b h; P5 = asked_layer.owner i op w b h };
      station = λ i m l w b e u h. record { inv = moves.station i m l w b e u h.inv; P1 = waits_layer.station i m l w b e u h; owed = owed_layer.station i m l w b e u h; P5 = asked_layer.station i m l w b e u h };
      accepted = λ i m l w b e u h. record { inv = moves.accepted i m l w b e u h.inv; P1 = waits_layer.accepted i m l w b e u h; owed = owed_layer.accepted i m l w b e u h; P5 = asked_layer.accepted i m l w b e u h };
      acts = moving_acts;
    }

pub moving : (kinds : ℕ → ℕ) (cs : List Call) → Moving (run cs (fresh kinds))
moving = of_run moving_layer
