-- "mark the named objects unavailable, drop .., and send 7", "Kept callbacks are done so, by rising requester, when the transaction ends".
-- Each definition carries out the one of crate line that has its name.
use Rattle.std.specs.Prelude.{ℕ, zero, suc, ◌+◌, ◌*◌, List, [], ◌∷◌, ◌++◌, Bool, ◌||◌, cond, take, drop, length, eqb}
use Rattle.std.proofs.lemmas.List.Edits.{sets}
use Rattle.sets.specs.Base.{snoc}
use Rattle.message.specs.Layout.{message_length, up_message}
use Rattle.station_state.specs.Layout.{set_row, kept_of, named_from, locking_b, written_set_from}
use Rattle.station_state.specs.Changes.{unkeep_b, closed_b}
use Rattle.station_pages.specs.Pages.{dropped_b, drop_pages_b, mark_b, written_pages_b}

-- a state, and the messages sent so far
pub record Sends : Type 0 where
  pub state : List ℕ
  pub sent : List (List ℕ)

abbrev pub sends : List ℕ → List (List ℕ) → Sends
sends s m = record { state = s; sent = m }

-- a row of object sets by page, from `at`
abbrev pub sets_at : List ℕ → ℕ → List ℕ
sets_at s at = take set_row (drop at s)

-- 7 done (requester, its transaction, and the set of dropped pages); i is the station's own number
abbrev pub done_b : ℕ → ℕ → ℕ → ℕ → List ℕ
done_b i r t d = up_message 7 i r 0 t d 0

unfoldable pub do_callback_b : ℕ → ℕ → ℕ → List ℕ → Sends → Sends
do_callback_b i r t x d =
    let s = d.state in
    let y = dropped_b x s in
    sends (drop_pages_b y (mark_b x s)) (snoc d.sent (done_b i r t y))

-- nothing is kept for r, as for the station itself (number 1)
unfoldable pub not_kept_b : ℕ → ℕ → List ℕ → Bool
not_kept_b i r s = eqb (kept_of s r) 0 || eqb r i

unfoldable pub do_kept_b : ℕ → ℕ → Sends → Sends
do_kept_b i r d =
    let s = d.state in
    cond (not_kept_b i r s) d (do_callback_b i r (kept_of s r) (sets_at s (named_from r)) (sends (unkeep_b r s) d.sent))

-- the callbacks kept for requesters below n, rising
unfoldable pub kept_to : ℕ → Sends → ℕ → Sends
kept_to i d zero = d
kept_to i d (suc r) = do_kept_b i r (kept_to i d r)

unfoldable pub close_b : ℕ → Sends → Sends
close_b i d = kept_to i (sends (closed_b d.state) d.sent) 8

-- "However aborted, a locking station marks written objects unavailable; a validating one drops written pages."
unfoldable pub undo_b : List ℕ → List ℕ
undo_b s = cond (locking_b s) (mark_b (sets_at s written_set_from) s) (drop_pages_b (written_pages_b s) s)

-- messages one behind the other
unfoldable pub flat : List (List ℕ) → List ℕ
flat [] = []
flat (m ∷ ms) = m ++ flat ms

-- how a state and messages stand in the lent bytes
pub record Posted : Type 0 where
  pub state : List ℕ
  pub out : List ℕ
  pub count : ℕ

abbrev pub posted : List ℕ → List ℕ → ℕ → Posted
posted s o n = record { state = s; out = o; count = n }

-- from the start of o
abbrev pub post : List ℕ → Sends → Posted
post o d = posted d.state (sets o 0 (flat d.sent)) (length d.sent)

-- one message more, where n stand
abbrev pub posted_one : List ℕ → List ℕ → ℕ → List ℕ → Posted
posted_one s o n m = posted s (sets o (n * message_length) m) (n + 1)

unfoldable pub callback_posted : ℕ → ℕ → ℕ → List ℕ → List ℕ → List ℕ → ℕ → Posted
callback_posted i r t x s o n = let y = dropped_b x s in posted_one (drop_pages_b y (mark_b x s)) o n (done_b i r t y)

unfoldable pub kept_posted : ℕ → ℕ → List ℕ → List ℕ → ℕ → Posted
kept_posted i r s o n =
    cond (not_kept_b i r s) (posted s o n) (callback_posted i r (kept_of s r) (sets_at s (named_from r)) (unkeep_b r s) o n)

-- .. for requesters below r, rising
unfoldable pub kept_posted_to : ℕ → List ℕ → List ℕ → ℕ → ℕ → Posted
kept_posted_to i s o n zero = posted s o n
kept_posted_to i s o n (suc r) = let d = kept_posted_to i s o n r in kept_posted i r d.state d.out d.count

unfoldable pub close_posted : ℕ → List ℕ → List ℕ → ℕ → Posted
close_posted i s o n = kept_posted_to i (closed_b s) o n 8
