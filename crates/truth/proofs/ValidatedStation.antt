-- Validating station: pages dropped, and the end of a transaction with its kept callbacks.
use Rattle.std.specs.Prelude.{◌≡◌, refl, Bool, true, false, not, ◌&&◌, cond, List, [], ◌∷◌, ◌++◌, ℕ}
use Rattle.sets.specs.Base.{upd, Val, has, none_at, zeros, any}
use Rattle.sets.proofs.Laws.{and_l, and_r, not_yes}
use Rattle.line.specs.Messages.{page_of, address, Up, Done, Down, Rec}
use Rattle.line.specs.Station.{Station, Did, did_station, set_kept, NotKept, KeptCall, drops, mark, drop_pages, do_callback, closed, close}
use Rattle.line.specs.Server.{Waiter}
use Rattle.truth.specs.Clauses.{Validated}
use Rattle.truth.proofs.Frame.{append_assoc, closes}
use Rattle.truth.specs.ValidatedEvents.{Less}
use Rattle.truth.proofs.ValidatedEvents.{shrunk, sent_up}
use Rattle.truth.proofs.ValidatedPages.{page_no}
use Rattle.truth.specs.ValidatedStation.{LessStation}

-- the clauses at a station
abbrev pub AtStation : List Rec → ℕ → Station → Waiter → List Up → List Down → Type 0
AtStation A last s q U D = Validated A last s.cached s.cver s.copy s.rd s.wr s.seen q U D

drop_less : (d cached : ℕ → Bool) (cver copy : ℕ → ℕ) → Less cached cver copy (λ p. not (d p) && cached p) (λ a. cond (d (page_of a)) 0 (cver a)) (λ a. cond (d (page_of a)) 0 (copy a))
drop_less d cached cver copy =
    record {
      page = λ p c. and_r (not (d p)) _ c;
      version = λ a c. rw (not_yes (d (page_of a)) (and_l (not (d (page_of a))) _ c)) refl;
      value = λ a c. rw (not_yes (d (page_of a)) (and_l (not (d (page_of a))) _ c)) refl;
    }

pub dropped_less : (d : ℕ → Bool) (s : Station) → LessStation s (drop_pages d s)
unfolding drop_pages
dropped_less d s = drop_less d s.cached s.cver s.copy

-- a page left by the drop of the written ones was not written
pub left_unwritten : (wr : ℕ → Val) (cached : ℕ → Bool) (a : ℕ) → (not (any 8 (λ o. has (wr (address (page_of a) o)))) && cached (page_of a)) ≡ true → has (wr a) ≡ false
left_unwritten wr cached a c = page_no (λ b. has (wr b)) a (not_yes _ (and_l (not (any 8 (λ o. has (wr (address (page_of a) o))))) _ c))

called_less : (set : ℕ → Bool) (s : Station) → LessStation s (drop_pages (drops set s) (mark set s))
unfolding drop_pages mark
called_less set s = drop_less (drops set s) s.cached s.cver s.copy

module _ (A : List Rec) (last : ℕ) (q : Waiter) (U : List Up) (D : List Down) where
  -- a closed station
  record Shut (d : Did) : Type 0 where
    rd : d.station.rd ≡ none_at
    wr : d.station.wr ≡ none_at
    seen : d.station.seen ≡ zeros
    valid : Validated A last d.station.cached d.station.cver d.station.copy none_at none_at zeros q (U ++ d.sent) D

  calls_shut : (r t : ℕ) (set : ℕ → Bool) (d : Did) → d.station.kept r ≡ KeptCall t set → Shut d → Shut (do_callback r t set (did_station d (set_kept d.station (upd d.station.kept r NotKept))))
  unfolding do_callback drop_pages mark
  calls_shut r t set d e k =
      let s : Station = set_kept d.station (upd d.station.kept r NotKept) in
      record {
        rd = k.rd;
        wr = k.wr;
        seen = k.seen;
        valid = rw (append_assoc U d.sent (Done r t (drops set s) ∷ [])) (sent_up (shrunk k.valid (called_less set s)) (Done r t (drops set s) ∷ []) (tt, tt));
      }

  -- the station at the end, by the station closed
  pub ends : (d : Did) → Validated A last d.station.cached d.station.cver d.station.copy none_at none_at zeros q (U ++ d.sent) D → AtStation A last (close d).station q (U ++ (close d).sent) D
  unfolding closed
  ends d h = let k = closes Shut calls_shut d (record { rd = refl; wr = refl; seen = refl; valid = h }) in rw (k.rd, k.wr, k.seen) k.valid
