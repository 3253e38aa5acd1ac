-- Layers 1 and 2 as layers of the whole invariant: tokens and coverage are kept by every move.
use Rattle.std.specs.Prelude.{ℕ}
use Rattle.line.specs.Messages.{Answer, Nothing, Begun, Value, Waits, Written, CommittedAs, AbortedFor, Purged, Refused, Empty}
use Rattle.line.specs.Line.{World, Op, tell, carry_up, carry_down}
use Rattle.truth.specs.Inv.{TokensOf, CoverageOf, Layer}
use Rattle.truth.proofs.Tokens.{atomic_tokens, accept_in, tokens_moves, tokens_fresh}
use Rattle.truth.proofs.Coverage.{atomic_cover, accept_cover, coverage_moves, coverage_fresh}

-- to tell an owner changes neither server, stations nor lines
tokens_told : (i : ℕ) (op : Op) (n : Answer) (w : World) → TokensOf w → TokensOf (tell i op n w)
unfolding tell
tokens_told i op Nothing w h = h
tokens_told i op (Begun t) w h = h
tokens_told i op (Value v) w h = h
tokens_told i op Waits w h = h
tokens_told i op Written w h = h
tokens_told i op (CommittedAs n) w h = h
tokens_told i op (AbortedFor c) w h = h
tokens_told i op Purged w h = h
tokens_told i op (Refused n) w h = h
tokens_told i op Empty w h = h

coverage_told : (i : ℕ) (op : Op) (n : Answer) (w : World) → CoverageOf w → CoverageOf (tell i op n w)
unfolding tell
coverage_told i op Nothing w h = h
coverage_told i op (Begun t) w h = h
coverage_told i op (Value v) w h = h
coverage_told i op Waits w h = h
coverage_told i op Written w h = h
coverage_told i op (CommittedAs n) w h = h
coverage_told i op (AbortedFor c) w h = h
coverage_told i op Purged w h = h
coverage_told i op (Refused n) w h = h
coverage_told i op Empty w h = h

pub tokens_layer : Layer TokensOf
unfolding carry_up carry_down
tokens_layer =
    record {
      begins = tokens_fresh;
      owner = λ i op w b h. tokens_told i op _ _ (tokens_moves.owner i op w.server w.station w.up w.down h.tokens);
      station = λ i m l w b e u h. tokens_told i (w.asked i) _ _ (tokens_moves.station i m l w.server w.station w.up w.down e h.tokens);
      accepted = λ i m l w b e u h. accept_in i l w.server w.station w.up w.down h.tokens m e u;
      acts = λ w.
          let k = atomic_tokens w.station w.up w.down in
          record {
            aborts = λ i c x b e h. k.aborts i c x b e h.tokens;
            asks = λ i g p x b e f h. k.asks i g p x b e f h.tokens;
            reads = λ i x b e f h. k.reads i x b e f h.tokens;
            calls = λ i x b e f g c h. k.calls i x b e f g c h.tokens;
            objects = λ i x b e f h. k.objects i x b e f h.tokens;
            pages = λ i x b e f g h. k.pages i x b e f g h.tokens;
            installs = λ i x b e f g h. k.installs i x b e f g h.tokens;
          };
    }

pub coverage_layer : Layer CoverageOf
unfolding carry_up carry_down
coverage_layer =
    record {
      begins = coverage_fresh;
      owner = λ i op w b h. coverage_told i op _ _ (coverage_moves.owner i op w.server w.station w.up w.down (h.tokens, h.coverage)).1;
      station = λ i m l w b e u h. coverage_told i (w.asked i) _ _ (coverage_moves.station i m l w.server w.station w.up w.down e (h.tokens, h.coverage)).1;
      accepted = λ i m l w b e u h. (accept_cover i l w.server w.station w.up w.down (λ j. (h.tokens j).kinds) h.coverage m e u).cover;
      acts = λ w.
          let k = atomic_cover w.station w.up w.down in
          record {
            aborts = λ i c x b e h. (k.aborts i c x b e (record { kinds = λ j. (h.tokens j).kinds; cover = h.coverage })).cover;
            asks = λ i g p x b e f h. (k.asks i g p x b e f (record { kinds = λ j. (h.tokens j).kinds; cover = h.coverage })).cover;
            reads = λ i x b e f h. (k.reads i x b e f (record { kinds = λ j. (h.tokens j).kinds; cover = h.coverage })).cover;
            calls = λ i x b e f g c h. (k.calls i x b e f g c (record { kinds = λ j. (h.tokens j).kinds; cover = h.coverage })).cover;
            objects = λ i x b e f h. (k.objects i x b e f (record { kinds = λ j. (h.tokens j).kinds; cover = h.coverage })).cover;
            pages = λ i x b e f g h. (k.pages i x b e f g (record { kinds = λ j. (h.tokens j).kinds; cover = h.coverage })).cover;
            installs = λ i x b e f g h. (k.installs i x b e f g (record { kinds = λ j. (h.tokens j).kinds; cover = h.coverage })).cover;
          };
    }
