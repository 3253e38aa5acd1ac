-- The first layer: what number 1 asks of the server is kept (crate line's Apart).
use Rattle.std.specs.Prelude.{◌≡◌, refl, ℕ}
use Rattle.line.specs.Messages.{Answer, Nothing, Begun, Value, Waits, Written, CommittedAs, AbortedFor, Purged, Refused, Empty}
use Rattle.line.specs.Server.{start}
use Rattle.line.specs.Line.{World, Op, tell, carry_up, carry_down}
use Rattle.line.specs.Apart.{atomic_apart, accept_apart, apart_fresh}
use Rattle.truth.specs.Inv.{ApartOf, Layer}

-- to tell an owner leaves the server
tell_server : (i : ℕ) (op : Op) (n : Answer) (w : World) → (tell i op n w).server ≡ w.server
unfolding tell
tell_server i op Nothing w = refl
tell_server i op (Begun t) w = refl
tell_server i op (Value v) w = refl
tell_server i op Waits w = refl
tell_server i op Written w = refl
tell_server i op (CommittedAs n) w = refl
tell_server i op (AbortedFor c) w = refl
tell_server i op Purged w = refl
tell_server i op (Refused n) w = refl
tell_server i op Empty w = refl

pub apart_layer : Layer ApartOf
unfolding carry_up carry_down
apart_layer =
    record {
      begins = λ kinds. apart_fresh kinds;
      owner = λ i op w b h. rw tell_server h.apart;
      station = λ i m l w b e u h. rw tell_server h.apart;
      accepted = λ i m l w b e u h. accept_apart i m (start w.server) b u h.apart;
      acts = λ w.
          record {
            aborts = λ i c x b e h. atomic_apart.aborts i c x b e h.apart;
            asks = λ i g p x b e f h. atomic_apart.asks i g p x b e f h.apart;
            reads = λ i x b e f h. atomic_apart.reads i x b e f h.apart;
            calls = λ i x b e f g k h. atomic_apart.calls i x b e f g k h.apart;
            objects = λ i x b e f h. atomic_apart.objects i x b e f h.apart;
            pages = λ i x b e f g h. atomic_apart.pages i x b e f g h.apart;
            installs = λ i x b e f g h. atomic_apart.installs i x b e f g h.apart;
          };
    }
