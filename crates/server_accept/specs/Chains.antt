-- The calls of an acceptance, one after the other, leave what its definition gives; and there is room for each.
use Rattle.std.specs.Prelude.{ℕ, ◌≡◌, refl, Bool, true, false, ◌≢◌, List}
use Rattle.std.proofs.Common.{sym, ap, ◌∙◌, eq-eqb, ne_eqb}
use Rattle.sets.specs.Laws.{by_b}
use Rattle.message.specs.Layout.{kind_of, station_of, page_of, requester_of, transaction_of, pages_of, set_of}
use Rattle.server_state.specs.Layout.{last_of, locking_b}
use Rattle.server_tests.specs.Tests.{open_call_b, open_ask_b}
use Rattle.server_changes.specs.Changes.{notice_b, leave_b, join_read_b, join_commit_b, unpack_b, unlist_b, mark_busy_b, answered_b, heed_b}
use Rattle.server_actions.specs.Actions.{Serving, send_page_b, abort_b, install_b, commit_now_b, address_of, noticed_b, on_read_b, on_write_b, on_commit_b, on_abort_b, on_purge_b, on_busy_b, on_done_b, on_written_set_b, accept_b}
use Rattle.server_actions.specs.declared.Counts.{Counts}
use Rattle.server_actions.specs.Posting.{from, Posted, posted, post, post_none, Room}

-- where x is y
module _ (o q : List ℕ) (c : Counts) {x y : Serving} (e : x ≡ y) where
  pub room_as : Room o q c x → Room o q c y
  room_as r = rw e at r

  pub post_as : {p : Posted} → p ≡ post o q c y → p ≡ post o q c x
  post_as f = f ∙ ap (post o q c) (sym e)

-- x sends and archives nothing

pub post_waits : (o q : List ℕ) (c : Counts) {x : Serving} {s : List ℕ} → x ≡ from s → posted s o q c ≡ post o q c x
post_waits o q c {x} {s} e = post_as o q c e (post_none o q c s)

pub post_still : (o q : List ℕ) (c : Counts) {x : Serving} {s : List ℕ} → x ≡ from x.state → s ≡ x.state → posted s o q c ≡ post o q c x
post_still o q c e h = post_waits o q c (e ∙ ap from (sym h))

-- A READ, A COMMIT: the station is locking, or it is not

module _ (m s : List ℕ) {i : ℕ} {w : Bool} {s₁ : List ℕ} (ei : i ≡ station_of m) (ew : w ≡ locking_b s i) (e₁ : s₁ ≡ notice_b (station_of m) (transaction_of m) s) where
  locks : locking_b s (station_of m) ≡ w
  locks = rw (ew, ei)

  pub read_waits : {a : ℕ} {s₂ : List ℕ} → a ≡ address_of m → w ≡ true → s₂ ≡ join_read_b i a s₁ → on_read_b m (from s) ≡ from s₂
  unfolding on_read_b noticed_b
  read_waits ea t e₂ = rw (e₂, e₁, ei, ea, locks ∙ t)

  pub read_sends : {a : ℕ} → a ≡ address_of m → w ≡ false → on_read_b m (from s) ≡ send_page_b 16 i a 0 (from s₁)
  unfolding on_read_b noticed_b
  read_sends ea t = rw (e₁, ei, ea, locks ∙ t)

  pub commit_goes : w ≡ true → on_commit_b m (from s) ≡ commit_now_b i m (from s₁)
  unfolding on_commit_b noticed_b
  commit_goes t = rw (e₁, ei, locks ∙ t)

  pub commit_waits : {s₂ : List ℕ} → w ≡ false → s₂ ≡ join_commit_b i m s₁ → on_commit_b m (from s) ≡ from s₂
  unfolding on_commit_b noticed_b
  commit_waits t e₂ = rw (e₂, e₁, ei, locks ∙ t)

-- the last number is used, or not
module _ (i : ℕ) (m s : List ℕ) where
  pub commit_aborts : last_of s ≡ 4294967295 → commit_now_b i m (from s) ≡ abort_b i 4 (from s)
  unfolding commit_now_b
  commit_aborts e = rw (eq-eqb _ _ e)

  pub commit_installs : {s₁ s₂ : List ℕ} → last_of s ≢ 4294967295 → s₁ ≡ leave_b i s → s₂ ≡ unpack_b i m s₁ → commit_now_b i m (from s) ≡ install_b i (from s₂)
  unfolding commit_now_b
  commit_installs d e₁ e₂ = rw (ne_eqb _ _ d, e₂, e₁)

-- 6, 7, 8: the 20 or 19 is open, or it is not

module _ (m s : List ℕ) {i r t : ℕ} {w : Bool} (ei : i ≡ station_of m) (er : r ≡ page_of m) (et : t ≡ transaction_of m) where
  module _ (ew : w ≡ open_call_b s i r t) where
    calls : open_call_b s (station_of m) (requester_of m) (transaction_of m) ≡ w
    calls = rw (ew, ei, er, et)

    pub busy_open : {s₁ : List ℕ} → w ≡ true → s₁ ≡ mark_busy_b i r s → s₁ ≡ (on_busy_b m (from s)).state
    unfolding on_busy_b
    busy_open h e = rw (calls ∙ h, e, ei, er)

    pub busy_late : w ≡ false → s ≡ (on_busy_b m (from s)).state
    unfolding on_busy_b
    busy_late h = rw (calls ∙ h)

    pub done_open : {d : ℕ} {s₁ s₂ : List ℕ} → d ≡ pages_of m → w ≡ true → s₁ ≡ unlist_b i d s → s₂ ≡ answered_b i r s₁ → s₂ ≡ (on_done_b m (from s)).state
    unfolding on_done_b
    done_open ed h e₁ e₂ = rw (calls ∙ h, e₂, e₁, ed, ei, er)

    pub done_late : {d : ℕ} {s₁ : List ℕ} → d ≡ pages_of m → w ≡ false → s₁ ≡ unlist_b i d s → s₁ ≡ (on_done_b m (from s)).state
    unfolding on_done_b
    done_late ed h e₁ = rw (calls ∙ h, e₁, ed, ei)

  module _ (ew : w ≡ open_ask_b s i r t) where
    asks : open_ask_b s (station_of m) (page_of m) (transaction_of m) ≡ w
    asks = rw (ew, ei, er, et)

    pub set_open : {s₁ : List ℕ} → w ≡ true → s₁ ≡ heed_b i r t (set_of m 0) s → s₁ ≡ (on_written_set_b m (from s)).state
    unfolding on_written_set_b
    set_open h e = rw (asks ∙ h, e, ei, er, et)

    pub set_late : w ≡ false → s ≡ (on_written_set_b m (from s)).state
    unfolding on_written_set_b
    set_late h = rw (asks ∙ h)

-- WHAT SENDS NOTHING

pub write_still : (m s : List ℕ) → on_write_b m (from s) ≡ from (on_write_b m (from s)).state
unfolding on_write_b noticed_b
write_still m s = refl

pub abort_still : (m s : List ℕ) → on_abort_b m (from s) ≡ from (on_abort_b m (from s)).state
unfolding on_abort_b noticed_b
abort_still m s = refl

pub purge_still : (m s : List ℕ) → on_purge_b m (from s) ≡ from (on_purge_b m (from s)).state
unfolding on_purge_b
purge_still m s = refl

pub busy_still : (m s : List ℕ) → on_busy_b m (from s) ≡ from (on_busy_b m (from s)).state
unfolding on_busy_b
busy_still m s = by_b (open_call_b s (station_of m) (requester_of m) (transaction_of m)) (λ e. rw e) (λ e. rw e)

pub done_still : (m s : List ℕ) → on_done_b m (from s) ≡ from (on_done_b m (from s)).state
unfolding on_done_b
done_still m s = by_b (open_call_b s (station_of m) (requester_of m) (transaction_of m)) (λ e. rw e) (λ e. rw e)

pub written_set_still : (m s : List ℕ) → on_written_set_b m (from s) ≡ from (on_written_set_b m (from s)).state
unfolding on_written_set_b
written_set_still m s = by_b (open_ask_b s (station_of m) (page_of m) (transaction_of m)) (λ e. rw e) (λ e. rw e)

-- KINDS

module _ (m : List ℕ) (x : Serving) where
  pub accept_read : kind_of m ≡ 1 → accept_b m x ≡ on_read_b m x
  unfolding accept_b
  accept_read e = rw e

  pub accept_write : kind_of m ≡ 2 → accept_b m x ≡ on_write_b m x
  unfolding accept_b
  accept_write e = rw e

  pub accept_commit : kind_of m ≡ 3 → accept_b m x ≡ on_commit_b m x
  unfolding accept_b
  accept_commit e = rw e

  pub accept_abort : kind_of m ≡ 4 → accept_b m x ≡ on_abort_b m x
  unfolding accept_b
  accept_abort e = rw e

  pub accept_purge : kind_of m ≡ 5 → accept_b m x ≡ on_purge_b m x
  unfolding accept_b
  accept_purge e = rw e

  pub accept_busy : kind_of m ≡ 6 → accept_b m x ≡ on_busy_b m x
  unfolding accept_b
  accept_busy e = rw e

  pub accept_done : kind_of m ≡ 7 → accept_b m x ≡ on_done_b m x
  unfolding accept_b
  accept_done e = rw e

  pub accept_set : kind_of m ≡ 8 → accept_b m x ≡ on_written_set_b m x
  unfolding accept_b
  accept_set e = rw e
