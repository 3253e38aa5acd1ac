-- A refusal has a number other than 0 and sends nothing: so a host that reads 0 knows that the call was accepted.
use Rattle.std.specs.Prelude.{ℕ, ◌≡◌, Bool, true, false, ◌&&◌, cond, List, eqb, length}
use Rattle.std.proofs.Math.Path.{refl}
use Rattle.std.proofs.Math.Bool.{not}
use Rattle.sets.specs.Laws.{by_eq}
use Rattle.line.specs.Line.{Op, Begin, Read, WriteSet, Commits, Aborts, Purges}
use Rattle.message.specs.Layout.{sets_from, kind_of, transaction_of}
use Rattle.station_state.specs.Layout.{wait, read_set_from, written_set_from, member}
use Rattle.station_pages.specs.Pages.{in_use_b}
use Rattle.station_callbacks.specs.Callbacks.{sets_at}
use Rattle.station_answer.specs.declared.Answer.{Answer}
use Rattle.station_answer.specs.declared.Answer.TheVariants.{Refused, Begun, Value, Waits, Written, Committed, Aborted, Purged, Nothing}
use Rattle.station_answer.specs.Did.{Did, Outcome, laid}
use Rattle.station_delivery.specs.Delivery.{ended_b, answer_wait_b, on_page_b, on_deescalate_b, on_callback_b, on_committed_b, on_aborted_b, on_invalidate_b, on_down_b}
use Rattle.station_owner.specs.Owner.{ready, called, unless_b, check_begin_b, check_open_b, check_read_b, check_write_b, check_purge_b, commit_called, own_begin_b, shown_b, read_local_b, read_ask_b, read_here_b, read_as_b, own_read_b, named_b, write_ask_b, write_as_b, own_write_set_b, own_abort_b, own_purge_b}
use Rattle.station.specs.Station.{check_step_b, station_step_b}
use Rattle.call_meaning.specs.Calls.{perform_b, step_b}

-- an answer with its counts of messages and of a commit's bytes
abbrev pub Said : Answer → ℕ → ℕ → Type 0
Said (Refused x) n k = (eqb x 0 ≡ false) × (n ≡ 0) × (k ≡ 0)
Said (Begun t) n k = Unit {0}
Said (Value v) n k = Unit {0}
Said Waits n k = Unit {0}
Said Written n k = Unit {0}
Said (Committed x) n k = Unit {0}
Said (Aborted c) n k = Unit {0}
Said Purged n k = Unit {0}
Said Nothing n k = Unit {0}

abbrev pub Sure : Outcome → Type 0
Sure x = Said x.said.answer x.said.messages x.said.commit

abbrev SureDid : Did → Type 0
SureDid d = Said d.answer (length d.sent) 0

both : {A : Type 0} (P : A → Type 0) (b : Bool) {x y : A} → P x → P y → P (cond b x y)
both P true h k = h
both P false h k = k

module _ (s : List ℕ) where
  unless_sure : (n : ℕ) (d : Did) → SureDid d → SureDid (unless_b n d s)
  unless_sure n d h = by_eq n 0 (λ e. rw e h) (λ e. rw e (e, refl, refl))

  begin_sure : SureDid (own_begin_b s)
  unfolding own_begin_b
  begin_sure = unless_sure (check_begin_b s) _ tt

  read_sure : (a : ℕ) → SureDid (own_read_b a s)
  unfolding own_read_b read_as_b read_here_b read_local_b read_ask_b
  read_sure a =
      unless_sure (check_read_b a s) _
      (both SureDid (member s written_set_from a) tt (both SureDid (member s read_set_from a) tt (both SureDid (shown_b a s) tt tt)))

  write_sure : (p x : ℕ) (f : List ℕ) → SureDid (own_write_set_b p x f s)
  unfolding own_write_set_b write_as_b write_ask_b
  write_sure p x f = unless_sure (check_write_b p x s) _ (both SureDid (eqb (named_b p x s) 0) tt tt)

  abort_sure : SureDid (own_abort_b s)
  unfolding own_abort_b
  abort_sure = unless_sure (check_open_b s) _ tt

  purge_sure : (p : ℕ) → SureDid (own_purge_b p s)
  unfolding own_purge_b
  purge_sure p = unless_sure (check_purge_b p s) _ tt

  page_sure : (x : List ℕ) → SureDid (on_page_b x s)
  unfolding on_page_b answer_wait_b
  page_sure x = both SureDid (ended_b s (transaction_of x)) tt (both SureDid (eqb (wait s) 1) tt (both SureDid (eqb (wait s) 2) tt tt))

  down_sure : (x : List ℕ) → SureDid (on_down_b x s)
  unfolding on_down_b on_deescalate_b on_callback_b on_committed_b on_aborted_b on_invalidate_b
  down_sure x =
      let k = kind_of x in
      both SureDid (eqb k 19) tt
      (both SureDid (eqb k 20) (both SureDid (in_use_b (sets_at x sets_from) s) tt tt)
      (both SureDid (eqb k 21) tt
      (both SureDid (eqb k 22) tt
      (both SureDid (eqb k 23) (both SureDid (in_use_b (sets_at x sets_from) s && not (eqb (wait s) 3)) tt tt) (page_sure x)))))

  step_sure : (x : List ℕ) → SureDid (station_step_b x s)
  unfolding station_step_b
  step_sure x = unless_sure (check_step_b x s) _ (down_sure x)

  module _ (o c : List ℕ) where
    called_sure : (d : Did) → SureDid d → Sure (called s o c d)
    called_sure d h = both (λ z. Sure (laid o c z)) (ready s o c) h (refl, refl, refl)

    commit_sure : Sure (commit_called s o c)
    unfolding commit_called
    commit_sure =
        let n = check_open_b s in
        both Sure (ready s o c) (by_eq n 0 (λ e. rw e tt) (λ e. rw e (e, refl, refl))) (refl, refl, refl)

    pub owner_sure : (op : Op) → Sure (perform_b op s o c)
    owner_sure Begin = called_sure _ begin_sure
    owner_sure (Read a) = called_sure _ (read_sure a)
    owner_sure (WriteSet p f) = called_sure _ (write_sure p _ _)
    owner_sure Commits = commit_sure
    owner_sure Aborts = called_sure _ abort_sure
    owner_sure (Purges p) = called_sure _ (purge_sure p)

    pub delivery_sure : (x : List ℕ) → Sure (step_b x s o c)
    delivery_sure x = called_sure _ (step_sure x)
