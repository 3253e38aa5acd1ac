-- The bytes lent for what a call sends: the messages that stand there, and that those sent are read there again.
use Rattle.std.specs.Prelude.{ℕ, zero, suc, ◌+◌, ◌*◌, ◌≤◌, ◌<◌, ◌≡◌, refl, List, [], ◌∷◌, ◌++◌, length, take, drop, get_or}
use Rattle.std.proofs.Common.{sym, ap, ◌∙◌, append_assoc, arith, length-append, take_at, drop_at, drop-drop}
use Rattle.std.proofs.lemmas.List.Edits.{sets}
use Rattle.lists.specs.Stores.{sets_front}
use Rattle.station_callbacks.specs.Callbacks.{flat}
use Rattle.station_callbacks.specs.Posting.{Whole}
use Rattle.message.specs.Layout.{message_length}
use Rattle.call_meaning.specs.Buffers.{Sized, messages_in}

-- so message k stands behind k others
pub message_at : (o : List ℕ) (n k : ℕ) → k < n → get_or (messages_in o n) k [] ≡ take message_length (drop (k * message_length) o)
unfolding messages_in
message_at o zero k l = absurd (omega arith)
message_at o (suc n) zero l = refl
message_at o (suc n) (suc k) l =
    let next : message_length + k * message_length ≡ suc k * message_length = omega arith in
    message_at (drop message_length o) n k (omega arith) ∙ ap (take message_length) (drop-drop (k * message_length) message_length o ∙ ap (λ (a : ℕ). drop a o) next)

pub sized_whole : (ms : List (List ℕ)) → Sized ms → Whole ms
unfolding flat
sized_whole [] h = refl
sized_whole (m ∷ ms) h = length-append m (flat ms) ∙ rw (h.0, sized_whole ms h.1) (omega arith)

flat_read : (ms : List (List ℕ)) (rest : List ℕ) → Sized ms → messages_in (flat ms ++ rest) (length ms) ≡ ms
unfolding messages_in flat
flat_read [] rest h = refl
flat_read (m ∷ ms) rest h =
    rw (append_assoc m (flat ms) rest, take_at m (flat ms ++ rest) message_length h.0, drop_at m (flat ms ++ rest) message_length h.0, flat_read ms rest h.1)

module _ (o : List ℕ) (ms : List (List ℕ)) (h : Sized ms) (l : length ms * message_length ≤ length o) where
  laid_front : sets o 0 (flat ms) ≡ flat ms ++ drop (length ms * message_length) o
  laid_front = sets_front (flat ms) o (length ms * message_length) (sym (sized_whole ms h)) l

  -- messages put from the start of a buffer that has room for them are read there
  pub laid_read : messages_in (sets o 0 (flat ms)) (length ms) ≡ ms
  laid_read = rw laid_front (flat_read ms (drop (length ms * message_length) o) h)

  -- .. and behind them it is as it was
  pub laid_behind : drop (length ms * message_length) (sets o 0 (flat ms)) ≡ drop (length ms * message_length) o
  laid_behind = rw laid_front (drop_at (flat ms) (drop (length ms * message_length) o) (length ms * message_length) (sized_whole ms h))
