-- What a host finds in the lent bytes after a call is what document 01's operation or step gives: the answer, the station, and what is to
-- be carried up, as the server reads it. Or it is a refusal, and nothing is changed.
use Prim.Native.Nat.{ℕ, suc, ◌≤◌, ◌<◌, ◌^◌}
use Rattle.std.specs.Prelude.{◌≡◌, refl, Bool, true, false, ◌&&◌, cond, List, [], ◌∷◌, ◌≢◌, eqb, leb, get_or, take, replicate}
use Rattle.std.proofs.Common.{sym, ap, ◌∙◌, append-nil, arith}
use Rattle.std.proofs.Math.Path.{subst}
use Rattle.std.proofs.Math.Bool.{not}
use Rattle.std.proofs.lemmas.Bool.{false≢true}
use Rattle.std.proofs.Math.ListN.{length}
use borrow.Author.Tests.{eq-eqb, le-leb}
use Rattle.kinds.specs.Kinds.{most_kind}
use Rattle.lists.specs.Tests.{all_to, and_l}
use Rattle.sets.specs.Base.{Val}
use Rattle.entries.specs.Entries.{FitVal}
use Rattle.cells.specs.Num.{AllBytes}
use Rattle.cells.proofs.Upd.{eqb_diff}
use Rattle.line.specs.Messages.{Up}
use Rattle.line.specs.Station.{Station, fresh_station, write_set, of_page, own_write, station_step}
use Rattle.line.specs.Station as Model
use Rattle.line.specs.Line.{Op, Begin, Read, WriteSet, Write, Commits, Aborts, Purges, perform}
use Rattle.line.specs.Bounds.{owner_bound, station_bound}
use Rattle.line.specs.Fit.{FitStation}
use Rattle.line.specs.FitCalls.{recorded, FitDid, owner_fit, station_fit}
use Rattle.message.specs.Layout.{sets_from, kind_of, station_of, transaction_of}
use Rattle.message.specs.Number.{length_ok, down_number, kind_ok, kinds_ok, up_number}
use Rattle.message_meaning.specs.Meant.{down_of}
use Rattle.message_meaning.specs.Sent.{Reads}
use Rattle.station_state.specs.Layout.{state_length, station, wait, read_set_from, written_set_from, member}
use Rattle.station_state.specs.Valid.{valid, freshened, fresh_state, fresh_of}
use Rattle.station_pages.specs.Pages.{in_use_b}
use Rattle.station_callbacks.specs.Callbacks.{sets_at, flat}
use Rattle.station_answer.specs.declared.Answer.TheVariants.{Refused}
use Rattle.station_answer.specs.Did.{Did, refuses, said, Outcome, outcome, laid}
use Rattle.station_delivery.specs.Delivery.{ended_b, answer_wait_b, on_page_b, on_deescalate_b, on_callback_b, on_committed_b, on_aborted_b, on_invalidate_b, on_down_b}
use Rattle.station_owner.specs.Owner.{ready, called, check_begin_b, check_open_b, check_read_b, check_write_b, check_purge_b, commit_called, own_begin_b, shown_b, read_local_b, read_ask_b, read_here_b, read_as_b, own_read_b, named_b, write_ask_b, write_as_b, own_write_set_b, own_write_b, own_abort_b, own_purge_b}
use Rattle.station_owner.specs.Facts.{ready_is}
use Rattle.station.specs.Station.{check_step_b, station_step_b}
use Rattle.station_meaning.specs.Meant.{meant, Is}
use Rattle.station_meaning.proofs.Tests.{station_at}
use Rattle.call_meaning.specs.Relation.{Sound, AllRead, Means}
use Rattle.call_meaning.proofs.Valid.{valid_means, valid_kept, means_valid, fresh_means, fresh_valid}
use Rattle.call_meaning.proofs.Owner.{begin_means, read_means, write_means, abort_means, purge_means}
use Rattle.call_meaning.specs.Sets.{objects_of, values_of}
use Rattle.call_meaning.proofs.Sets.{objects_lt, values_fit, given_back, one_calls, own_fits, set_calls}
use Rattle.call_meaning.proofs.Delivery.{step_means}
use Rattle.call_meaning.proofs.Names.{down_names}
use Rattle.call_meaning.specs.Commit.{CommitRead, CommitMeans}
use Rattle.call_meaning.proofs.Commit.{commit_called_means}
use Rattle.call_meaning.specs.Buffers.{messages_in, Sized, commit_in}
use Rattle.call_meaning.proofs.Buffers.{laid_read}
use Rattle.message.specs.Commit.{station_room, commit_room}
use Rattle.call_meaning.specs.Calls.{AllReads, OpFits, Still, Told, is_refusal, number_of, perform_b, set_op, step_b}

-- "Each call gets the state its end's last call left": what the theorems below ask of it
pub told_next : {i : ℕ} {b : Outcome} {d : Model.Did} → Told i b d → AllBytes b.state × (station b.state ≡ i) × (meant b.state ≡ d.station)
told_next h = (h.state.bytes, station_at h.state, h.state.is)

-- .. and number 1 lets it pass, with any output that is long enough
pub ready_next : {i : ℕ} {b : Outcome} {d : Model.Did} → Told i b d → (o c : List ℕ) → station_room ≤ length o → commit_room ≤ length c → ready b.state o c ≡ true
unfolding ready
ready_next h o c lo lc = rw (h.valid, le-leb station_room (length o) lo, le-leb commit_room (length c) lc)

-- "Refused calls answer the number, send nothing and change no state or lent buffer."
pub refused_unchanged : (n : ℕ) (s o c : List ℕ) → laid o c (refuses n s) ≡ outcome s o c (said (Refused n) 0 0)
unfolding flat
refused_unchanged n s o c = refl

-- any kinds will do to see how long the messages are
all_locking : kinds_ok (replicate 8 0) ≡ true
unfolding kinds_ok kind_ok all_to
all_locking = refl

read_sized : (i : ℕ) (ms : List (List ℕ)) (us : List Up) → AllRead i ms us → Sized ms
read_sized i [] [] h = tt
read_sized i [] (u ∷ us) h = absurd h
read_sized i (m ∷ ms) [] h = absurd h
read_sized i (m ∷ ms) (u ∷ us) h = ((h.0 (replicate 8 0) all_locking).length_is, read_sized i ms us h.1)

read_count : (i : ℕ) (ms : List (List ℕ)) (us : List Up) → AllRead i ms us → length ms ≡ length us
read_count i [] [] h = refl
read_count i [] (u ∷ us) h = absurd h
read_count i (m ∷ ms) [] h = absurd h
read_count i (m ∷ ms) (u ∷ us) h = ap suc (read_count i ms us h.1)

reads_any : {kinds : List ℕ} {i n : ℕ} {m : List ℕ} {u : Up} → Reads kinds i n m u → Reads kinds i (length m) m u
reads_any h = record { length_is = refl; bytes_are = h.bytes_are; accepted = h.accepted; station_is = h.station_is; meant = h.meant }

read_all : (i : ℕ) (ms : List (List ℕ)) (us : List Up) → AllRead i ms us → (kinds : List ℕ) → kinds_ok kinds ≡ true → AllReads kinds i ms us
read_all i [] [] h kinds ok = tt
read_all i [] (u ∷ us) h kinds ok = absurd h
read_all i (m ∷ ms) [] h kinds ok = absurd h
read_all i (m ∷ ms) (u ∷ us) h kinds ok = (reads_any (h.0 kinds ok), read_all i ms us h.1 kinds ok)

-- "8 messages": there is room for what an operation or a step sends
laid_told : {i : ℕ} {b : Did} {d : Model.Did} (o c : List ℕ) → station_room ≤ length o → length d.sent ≤ 8 → Means i b d → FitDid i d → Told i (laid o c b) d
laid_told {i} {b} {d} o c l most h f =
    let count = read_count i b.sent d.sent h.sent in
    let read = laid_read o b.sent (read_sized i b.sent d.sent h.sent) (omega (arith, count)) in
    record {
      answer = h.answer;
      state = h.state;
      valid = means_valid h f.station;
      sent = λ kinds ok k. rw (read, append-nil b.sent) (read_all i b.sent d.sent h.sent kinds ok);
      fits = f;
    }

-- no bytes are no message
empty_turned : (kinds : List ℕ) → kinds_ok kinds ≡ true → up_number kinds [] ≡ 2
unfolding up_number length_ok
empty_turned kinds ok = rw ok

commit_some : (kinds c : List ℕ) (n : ℕ) → kinds_ok kinds ≡ true → up_number kinds (take n c) ≡ 0 → n ≢ 0
commit_some kinds c n ok h e = let none : up_number kinds [] ≡ 0 = rw e at h in omega (arith, empty_turned kinds ok, none)

commit_read : (i k n : ℕ) (c : List ℕ) (us : List Up) → CommitRead i k n c us
    → (kinds : List ℕ) → kinds_ok kinds ≡ true → get_or kinds i 0 ≡ k → AllReads kinds i (commit_in c n) us
commit_read i k n c [] h kinds ok e = rw h tt
commit_read i k n c (u ∷ []) h kinds ok e =
    let r = h kinds ok e in
    rw (eqb_diff n 0 (commit_some kinds c n ok r.accepted)) (reads_any r, tt)
commit_read i k n c (u ∷ v ∷ us) h kinds ok e = absurd h

commit_told : {i : ℕ} {b : Outcome} {d : Model.Did} → CommitMeans i b d → FitDid i d → Told i b d
unfolding messages_in
commit_told {i} {b} {d} h f =
    record {
      answer = h.answer;
      state = h.state;
      valid = valid_kept h.state h.sound f.station;
      sent = λ kinds ok k. rw h.no_messages (commit_read i d.station.kind b.said.commit b.commit d.sent h.sent kinds ok k);
      fits = f;
    }

pub one_called : (a v : ℕ) (s o c : List ℕ) → called s o c (own_write_b a v s) ≡ perform_b (Write a v) s o c
one_called a v s o c = ap (called s o c) (one_calls a v s)

pub set_called : (p x : ℕ) (f s o c : List ℕ) → called s o c (own_write_set_b p x f s) ≡ perform_b (set_op p x f) s o c
set_called p x f s o c = ap (called s o c) (set_calls p x f s)

pub set_fits : (p x : ℕ) (f : List ℕ) → ((o : ℕ) → o < 8 → get_or f o 0 < 2 ^ 64) → OpFits (set_op p x f)
set_fits p x f h = own_fits p x f h

pub ready_valid : (s o c : List ℕ) → ready s o c ≡ true → valid s ≡ true
unfolding ready
ready_valid s o c r = and_l (valid s) (leb station_room (length o)) (and_l (valid s && leb station_room (length o)) (leb commit_room (length c)) r)

module _ {i : ℕ} {s : List ℕ} {m : Station} (h : Is i s m) (q : Sound i m) (z : FitStation i m) (o c : List ℕ) (r : ready s o c ≡ true) where
  called_told : (b : Did) (d : Model.Did) → length d.sent ≤ 8 → Means i b d → FitDid i d → Told i (called s o c b) d
  called_told b d l k f = rw r (laid_told o c (ready_is s o c r).messages_fit l k f)

  set_means : (p : ℕ) (f : ℕ → Val) → ((a : ℕ) → FitVal (of_page p f a)) → Means i (own_write_set_b p (objects_of p f) (values_of p f) s) (own_write p f m)
  unfolding own_write
  set_means p f k =
      subst (λ (g : ℕ → Val). Means i (own_write_set_b p (objects_of p f) (values_of p f) s) (write_set p g m)) (given_back p f)
      (write_means h q p (objects_of p f) (values_of p f) (objects_lt p f) (values_fit p f k))

  perform_told : (op : Op) → OpFits op → Told i (perform_b op s o c) (perform op m)
  unfolding perform
  perform_told op f = go op f (owner_bound i op m q.own q.not_own) (owner_fit i m z op)
    where
      go : (op : Op) → OpFits op → length (perform op m).sent ≤ 8 → FitDid i (perform op m) → Told i (perform_b op s o c) (perform op m)
      go Begin f l k = called_told _ _ l (begin_means h q) k
      go (Read a) f l k = called_told _ _ l (read_means h q a) k
      go (WriteSet p f) g l k = called_told _ _ l (set_means p f g) k
      go Commits f l k = commit_told (commit_called_means h q (recorded z.few) o c r) k
      go Aborts f l k = called_told _ _ l (abort_means h q) k
      go (Purges p) f l k = called_told _ _ l (purge_means h q p) k

-- every operation of document 01, on every state and output that passes number 1
pub owner_means : (op : Op) (s o c : List ℕ) → AllBytes s → OpFits op → ready s o c ≡ true → Told (station s) (perform_b op s o c) (perform op (meant s))
owner_means op s o c b f r =
    let p = valid_means s b (ready_valid s o c r) in
    perform_told p.0 p.1 p.2 o c r op f

-- number 1
pub owner_unready : (op : Op) (s o c : List ℕ) → ready s o c ≡ false → perform_b op s o c ≡ laid o c (refuses 1 s)
unfolding commit_called
owner_unready Begin s o c r = rw r
owner_unready (Read a) s o c r = rw r
owner_unready (WriteSet p f) s o c r = rw r
owner_unready Commits s o c r = rw r
owner_unready Aborts s o c r = rw r
owner_unready (Purges p) s o c r = rw r

-- a message of this station that numbers 2 to 4 let pass: 6 is the model's to answer
pub step_told : (x s o c : List ℕ) → AllBytes x → AllBytes s → ready s o c ≡ true → down_number (station s) x ≡ 0 → station_of x ≡ station s
    → Told (station s) (step_b x s o c) (station_step (down_of x) (meant s))
step_told x s o c bx bs r n own =
    let p = valid_means s bs (ready_valid s o c r) in
    called_told p.0 p.1 p.2 o c r (station_step_b x s) (station_step (down_of x) (meant s)) (station_bound (down_of x) (meant s)) (step_means p.0 p.1 x bx n own)
    (station_fit (station s) (meant s) p.2 (down_of x) (down_names (station s) x n))

-- number 1
pub step_unready : (x s o c : List ℕ) → ready s o c ≡ false → step_b x s o c ≡ laid o c (refuses 1 s)
step_unready x s o c r = rw r

-- numbers 2 to 4
pub step_turned_back : (x s o c : List ℕ) → ready s o c ≡ true → down_number (station s) x ≢ 0 → step_b x s o c ≡ laid o c (refuses (down_number (station s) x) s)
unfolding station_step_b check_step_b
step_turned_back x s o c r n = rw (r, eqb_diff (down_number (station s) x) 0 n, eqb_diff (down_number (station s) x) 0 n)

-- number 6: "a down message that fits neither station .."
pub step_not_own : (x s o c : List ℕ) → ready s o c ≡ true → down_number (station s) x ≡ 0 → station_of x ≢ station s → step_b x s o c ≡ laid o c (refuses 6 s)
unfolding station_step_b check_step_b
step_not_own x s o c r n own = rw (r, n, eqb_diff (station_of x) (station s) own)

module _ (i k : ℕ) (s : List ℕ) (e : length s ≡ state_length) (l : i < 8) (q : k ≤ most_kind) where
  pub fresh_told : fresh_of i k s ≡ freshened (fresh_state i k) 0
  unfolding fresh_of
  fresh_told = rw (eq-eqb (length s) state_length e, le-leb i 7 (omega arith), le-leb k most_kind q)

  -- "A fresh line has .. nothing open, cached, .."
  pub fresh_station_lem : Is i (fresh_of i k s).state (fresh_station k) × (valid (fresh_of i k s).state ≡ true)
  fresh_station_lem = rw fresh_told (fresh_means i k l q, fresh_valid i k l q)

both : {A : Type 0} (P : A → Type 0) (b : Bool) {x y : A} → P x → P y → P (cond b x y)
both P true h k = h
both P false h k = k

module _ {s : List ℕ} where
  refusal : (k : ℕ) → Still s (refuses k s)
  refusal k = record { nothing_else = λ n e. ap (λ (j : ℕ). refuses j s) (ap number_of e) }

  taken : {d : Did} → is_refusal d.answer ≡ false → Still s d
  taken f = record { nothing_else = λ n e. absurd (false≢true (sym f ∙ ap is_refusal e)) }

  either : (b : Bool) {x y : Did} → Still s x → Still s y → Still s (cond b x y)
  either b = both (Still s) b

module _ (s : List ℕ) where
  begin_still : Still s (own_begin_b s)
  unfolding own_begin_b
  begin_still = either (eqb (check_begin_b s) 0) (taken refl) (refusal (check_begin_b s))

  read_still : (a : ℕ) → Still s (own_read_b a s)
  unfolding own_read_b read_as_b read_here_b read_local_b read_ask_b
  read_still a =
      let here = either (shown_b a s) (taken refl) (taken refl) in
      let n = check_read_b a s in
      either (eqb n 0)
      (either (member s written_set_from a) (taken refl) (either (member s read_set_from a) (taken refl) here))
      (refusal n)

  write_still : (p x : ℕ) (f : List ℕ) → Still s (own_write_set_b p x f s)
  unfolding own_write_set_b write_as_b write_ask_b
  write_still p x f =
      let n = check_write_b p x s in
      either (eqb n 0) (either (eqb (named_b p x s) 0) (taken refl) (taken refl)) (refusal n)

  abort_still : Still s (own_abort_b s)
  unfolding own_abort_b
  abort_still = either (eqb (check_open_b s) 0) (taken refl) (refusal (check_open_b s))

  purge_still : (p : ℕ) → Still s (own_purge_b p s)
  unfolding own_purge_b
  purge_still p = either (eqb (check_purge_b p s) 0) (taken refl) (refusal (check_purge_b p s))

  page_still : (x : List ℕ) → Still s (on_page_b x s)
  unfolding on_page_b answer_wait_b
  page_still x =
      either (ended_b s (transaction_of x)) (taken refl)
      (either (eqb (wait s) 1) (taken refl) (either (eqb (wait s) 2) (taken refl) (taken refl)))

  callback_still : (x : List ℕ) → Still s (on_callback_b x s)
  unfolding on_callback_b
  callback_still x = either (in_use_b (sets_at x sets_from) s) (taken refl) (taken refl)

  invalidate_still : (x : List ℕ) → Still s (on_invalidate_b x s)
  unfolding on_invalidate_b
  invalidate_still x = either (in_use_b (sets_at x sets_from) s && not (eqb (wait s) 3)) (taken refl) (taken refl)

  down_still : (x : List ℕ) → Still s (on_down_b x s)
  unfolding on_down_b on_deescalate_b on_committed_b on_aborted_b
  down_still x =
      let k = kind_of x in
      either (eqb k 19) (taken refl)
      (either (eqb k 20) (callback_still x)
      (either (eqb k 21) (taken refl) (either (eqb k 22) (taken refl) (either (eqb k 23) (invalidate_still x) (page_still x)))))

  step_still : (x : List ℕ) → Still s (station_step_b x s)
  unfolding station_step_b
  step_still x = either (eqb (check_step_b x s) 0) (down_still x) (refusal (check_step_b x s))

  module _ (o c : List ℕ) where
    -- "Refused calls answer the number, send nothing and change no state or lent buffer."
    abbrev pub Unchanged : Outcome → Type 0
    Unchanged b = (n : ℕ) → b.said.answer ≡ Refused n → b ≡ outcome s o c (said (Refused n) 0 0)

    laid_unchanged : {d : Did} → Still s d → Unchanged (laid o c d)
    laid_unchanged h n e = ap (laid o c) (h.nothing_else n e) ∙ refused_unchanged n s o c

    called_unchanged : {d : Did} → Still s d → Unchanged (called s o c d)
    called_unchanged h = laid_unchanged (either (ready s o c) h (refusal 1))

    commit_unchanged : Unchanged (commit_called s o c)
    unfolding commit_called
    commit_unchanged =
        both Unchanged (ready s o c)
        (both Unchanged (eqb (check_open_b s) 0) (λ n e. absurd (false≢true (ap is_refusal e))) (laid_unchanged (refusal (check_open_b s))))
        (laid_unchanged (refusal 1))

    pub owner_unchanged : (op : Op) → Unchanged (perform_b op s o c)
    owner_unchanged Begin = called_unchanged begin_still
    owner_unchanged (Read a) = called_unchanged (read_still a)
    owner_unchanged (WriteSet p f) = called_unchanged (write_still p (objects_of p f) (values_of p f))
    owner_unchanged Commits = commit_unchanged
    owner_unchanged Aborts = called_unchanged abort_still
    owner_unchanged (Purges p) = called_unchanged (purge_still p)

    pub step_unchanged : (x : List ℕ) → Unchanged (step_b x s o c)
    step_unchanged x = called_unchanged (step_still x)
