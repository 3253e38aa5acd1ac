-- The server's end of the line: what number 1 tells of a state that means a server, a fresh state, and what a step's messages and records
-- are in the bytes lent for them.
use Rattle.std.specs.Prelude.{ℕ, zero, suc, ◌+◌, ◌*◌, ◌≤◌, ◌<◌, ◌≡◌, refl, Bool, true, not, ◌&&◌, cond, ◌≢◌, List, [], ◌∷◌, ◌++◌, eqb, ltb, length, get_or, take, drop, set, replicate}
use Rattle.std.proofs.Common.{sym, ap, subst, ◌∙◌, append_assoc, arith, length-append, length-drop, ext_get_or, get_or-take, get_or-drop, length-take-le, take_at, eq-eqb, ne_eqb, lt-ltb}
use Rattle.std.proofs.Math.Path.{fun_ext}
use Rattle.std.proofs.lemmas.List.{length-replicate}
use Rattle.std.proofs.Math.ListN.{get_or-eq_default}
use Rattle.lists.specs.Stores.{sets_front}
use Rattle.sets.specs.Base.{upd, nowhere, zeros, any}
use Rattle.sets.specs.Laws.{by_b, by_eq}
use Rattle.sets.proofs.Laws.{eqb_same, eqb_yes, eqb_no, ltb_yes, ltb_no}
use Rattle.le.specs.Le.{set_u64}
use Rattle.cells.specs.Num.{AllBytes}
use Rattle.cells.proofs.Num.{bytes_all}
use Rattle.cells.proofs.Upd.{ltb_suc}
use Rattle.cells.specs.Bits.{tb}
use Rattle.cells.proofs.Bits.{tb_zero}
use Rattle.cells.proofs.Pages.{page_of_lem, any_byte}
use Rattle.cells.specs.Cells.{Cells, upd3, Holds}
use Rattle.cells.proofs.Cells.{view_zero, begin, put8, put64}
use Rattle.layout.specs.Record.{bytes_of, archive_of}
use Rattle.entries.proofs.Entries.{entries_size}
use Rattle.recs.specs.Recs.{as_record, records_of}
use Rattle.record_meaning.proofs.LayoutLaws.{length_bytes_of}
use Rattle.line.specs.Messages.{Sent, Rec}
use Rattle.line.specs.Server.{Server, no_waiter, set_kind, set_queue, set_listed, set_asked, waiter_reads, waiter_writes, waiter_pend, waiter_busy}
use Rattle.line.specs.Server as Model
use Rattle.line.specs.Station.{some_on}
use Rattle.line.specs.All.{All}
use Rattle.line.specs.Fit.{LimitedRec, UpNames}
use Rattle.message.specs.Layout.{sets_from, kind_of, station_of, page_of, set_of}
use Rattle.message.specs.Number.{up_number}
use Rattle.message.specs.Commit.{longest_sent, records_room, server_room}
use Rattle.message_meaning.specs.Meant.{objects_on, work_at, up_of}
use Rattle.message_meaning.proofs.KindsLaws.{up_1, up_2, up_3, up_4, up_5, up_6, up_7, up_8}
use Rattle.message_meaning.specs.UpAccepted.{UpAccepted}
use Rattle.message_meaning.proofs.UpAccepted.{up_accepted, commit_few}
use Rattle.station_callbacks.specs.Callbacks.{flat}
use Rattle.station_meaning.specs.Meant.{within}
use Rattle.server_state.specs.Layout.{next_age_cell, next_arrival_cell, kind_cell, table, next_age_from, next_arrival_from, kind_from, server_length}
use Rattle.server_state.specs.Valid.{valid, freshened, kinds_to, fresh_server, kinds_ok, fresh_of}
use Rattle.server_state.specs.Facts.{valid_ranged}
use Rattle.server_meaning.specs.Meant.{meant_c, Is, start, done}
use Rattle.server_meaning.proofs.Tests.{kind_at}
use Rattle.server_actions.specs.Actions.{Serving}
use Rattle.server_actions.specs.Step.{kinds_of, laid}
use Rattle.step_meaning.specs.Relation.{Sound, AllSent, AllRecs, Serves}
use Rattle.step_meaning.specs.Accept.{by_kind}
use Rattle.call_meaning.specs.Buffers.{messages_in, Sized}
use Rattle.call_meaning.proofs.Buffers.{laid_read}
use Rattle.line_bytes.specs.Fits.{fit_of, sound_fit}

-- NUMBER 1, IN THE MODEL'S WORDS

module _ {s : List ℕ} {m : Server} (h : Is s m) where
  pub sound_of : valid s ≡ true → Sound m
  sound_of v = sound_fit (fit_of h (valid_ranged s v))

  -- the kinds that the server knows are those of the line
  pub kinds_read : (kinds : List ℕ) → length kinds ≡ 8 → ((i : ℕ) → i < 8 → m.kind i ≡ get_or kinds i 0) → kinds_of s ≡ kinds
  kinds_read kinds e k =
      let size : length (kinds_of s) ≡ 8 = length-take-le 8 (drop kind_from s) (omega (arith, length-drop kind_from s, h.len)) in
      ext_get_or 0 (kinds_of s) kinds (size ∙ sym e)
      (λ i l.
      let small : i < 8 = omega arith in
      get_or-take 8 (drop kind_from s) i 0 small ∙ get_or-drop kind_from s i 0 ∙ kind_at h i small ∙ k i small)

-- A MESSAGE THAT NUMBERS 2 TO 5 LET PASS

-- an object set that is not empty has an object of its page
some_on_lem : (p x : ℕ) → x < 256 → x ≢ 0 → some_on p (objects_on p x) ≡ true
some_on_lem p x l n =
    page_of_lem (λ q o. eqb q p && tb x o) p ∙ ap (λ (c : Bool). any 8 (λ o. c && tb x o)) (eqb_same p) ∙ sym (any_byte x l) ∙ ap not (ne_eqb x 0 n)

-- what numbers 4 and 5 let pass names what they ask for, in the model's words
pub up_names : (kinds x : List ℕ) → up_number kinds x ≡ 0 → AllBytes x → UpNames (up_of x)
unfolding work_at
up_names kinds x n b =
    let a : UpAccepted kinds x = up_accepted kinds x n in
    by_kind (kind_of x) a.kind_from_lem a.kind_to
    (λ e. let f = a.request e in rw (up_1 x e) (omega (arith, f.page_is, f.object_is), f.transaction_not_0))
    (λ e. let f = a.write_request e in rw (up_2 x e) (f.page_is, f.transaction_not_0, some_on_lem (page_of x) (set_of x 0) (b sets_from) f.some_named))
    (λ e. rw (up_3 x e) ((a.commit e).transaction_not_0, commit_few (get_or kinds (station_of x) 0) x (bytes_all x b) (a.commit e)))
    (λ e. rw (up_4 x e) (a.abort e).transaction_not_0)
    (λ e. rw (up_5 x e) (a.purge e).page_is)
    (λ e. rw (up_6 x e) (a.busy e).transaction_not_0)
    (λ e. rw (up_7 x e) (a.done e).transaction_not_0)
    (λ e. rw (up_8 x e) (a.written_set e).transaction_not_0)

-- A FRESH STATE

abbrev no_cells : Cells
no_cells k i j = 0

zeros_at : (n j : ℕ) → ◌≡◌ {A = ℕ} (get_or (replicate n 0) j 0) 0
zeros_at zero j = refl
zeros_at (suc n) zero = refl
zeros_at (suc n) (suc j) = zeros_at n j

-- all 0 but for the counters
fresh_cells : meant_c (upd3 (upd3 no_cells next_age_cell 0 0 1) next_arrival_cell 0 0 1) ≡ Model.fresh_server zeros
fresh_cells =
    let pages : ◌≡◌ {A = ℕ → Bool} (tb 0) nowhere = fun_ext tb_zero in
    let objects : ◌≡◌ {A = ℕ → Bool} (within zeros) nowhere = fun_ext (λ a. tb_zero _) in
    λ t.
    set_queue (set_listed (set_asked (Model.fresh_server zeros) (pages t)) (λ i. pages t))
    (λ i. waiter_busy (waiter_pend (waiter_writes (waiter_reads no_waiter (objects t)) (objects t)) (pages t)) (pages t))

-- n is the state's length: a variable, so that nothing computes the zeros
blank_is : (n : ℕ) → n ≡ server_length → Is (set_u64 (set_u64 (replicate n 0) next_age_from 1) next_arrival_from 1) (Model.fresh_server zeros)
blank_is n e =
    let z : List ℕ = replicate n 0 in
    let size : length z ≡ server_length = length-replicate n 0 ∙ e in
    let blank : Holds table 0 z z no_cells =
    subst (Holds table 0 z z) (fun_ext (λ r. fun_ext (λ x. fun_ext (λ y. view_zero table 0 z (zeros_at n) r x y))))
    (begin table 0 z (omega (arith, size)) (λ j. rw (zeros_at n j) (omega arith))) in
    let h = put64 (put64 blank next_age_cell 0 0 1 next_age_from refl refl (omega arith) (omega arith) (omega arith)) next_arrival_cell 0 0 1 next_arrival_from refl refl (omega arith) (omega arith) (omega arith) in
    record { len = h.len ∙ size; bytes = h.bytes; is = ap meant_c h.is ∙ fresh_cells }

kind_put : {s : List ℕ} {m : Server} → Is s m → (i v : ℕ) → i < 8 → v < 256 → Is (set s (kind_from + i) v) (set_kind m (upd m.kind i v))
kind_put h i v l q = done h (λ m. set_kind m (upd m.kind i v)) (put8 (start h) kind_cell i 0 v (kind_from + i) refl (omega arith) l (omega arith) q) refl

abbrev kinds_below : List ℕ → ℕ → ℕ → ℕ
kinds_below kinds n i = cond (ltb i n) (get_or kinds i 0) 0

kinds_put : {s : List ℕ} (kinds : List ℕ) → ((i : ℕ) → get_or kinds i 0 < 256) → Is s (Model.fresh_server zeros) → (n : ℕ) → n ≤ 8
    → Is (kinds_to kinds s n) (Model.fresh_server (kinds_below kinds n))
unfolding kinds_to
kinds_put {s} kinds k h zero l =
    let none : zeros ≡ kinds_below kinds 0 = fun_ext (λ i. by_b (ltb i 0) (λ e. absurd (omega (arith, ltb_yes i 0 e))) (λ e. rw e)) in
    subst (λ (f : ℕ → ℕ). Is s (Model.fresh_server f)) none h
kinds_put {s} kinds k h (suc n) l =
    let more : upd (kinds_below kinds n) n (get_or kinds n 0) ≡ kinds_below kinds (suc n) =
    fun_ext (λ i. by_eq i n (λ e. rw (e, lt-ltb i (suc n) (omega (arith, eqb_yes i n e)), eqb_yes i n e)) (λ e. rw (e, ltb_suc i n (eqb_no i n e)))) in
    subst (λ (f : ℕ → ℕ). Is (set (kinds_to kinds s n) (kind_from + n) (get_or kinds n 0)) (Model.fresh_server f)) more
    (kind_put (kinds_put kinds k h n (omega arith)) n (get_or kinds n 0) l (k n))

-- "A fresh line has every value, version and last number 0, nothing open, cached, listed, locked or under way"
pub fresh_server_lem : (kinds : List ℕ) → length kinds ≡ 8 → ((i : ℕ) → get_or kinds i 0 < 256) → Is (fresh_server kinds) (Model.fresh_server (λ i. get_or kinds i 0))
unfolding fresh_server
fresh_server_lem kinds e k =
    let all : kinds_below kinds 8 ≡ (λ i. get_or kinds i 0) =
    fun_ext (λ i. by_b (ltb i 8) (λ q. rw q) (λ q. rw (q, get_or-eq_default kinds 0 {n = i} (omega (arith, ltb_no i 8 q))))) in
    subst (λ (f : ℕ → ℕ). Is (kinds_to kinds (set_u64 (set_u64 (replicate server_length 0) next_age_from 1) next_arrival_from 1) 8) (Model.fresh_server f)) all
    (kinds_put kinds k (blank_is server_length refl) 8 (omega arith))

-- what a fresh server's call leaves in bytes of the right length
pub fresh_called : (kinds s : List ℕ) → length s ≡ server_length → kinds_ok kinds ≡ true → fresh_of kinds s ≡ freshened (fresh_server kinds) 0
unfolding fresh_of
fresh_called kinds s e ok = rw (eq-eqb (length s) server_length e, ok)

-- WHAT A STEP LAYS OUT

-- each message has a message's length, and there are as many as the model sends
sent_sized : (ms : List (List ℕ)) (xs : List Sent) → AllSent ms xs → Sized ms
sent_sized [] [] h = tt
sent_sized [] (x ∷ xs) h = absurd h
sent_sized (m ∷ ms) [] h = absurd h
sent_sized (m ∷ ms) (x ∷ xs) h = (h.0.length_is, sent_sized ms xs h.1)

sent_count : (ms : List (List ℕ)) (xs : List Sent) → AllSent ms xs → length ms ≡ length xs
sent_count [] [] h = refl
sent_count [] (x ∷ xs) h = absurd h
sent_count (m ∷ ms) [] h = absurd h
sent_count (m ∷ ms) (x ∷ xs) h = ap suc (sent_count ms xs h.1)

-- the records one behind the other
recs_flat : (bs : List (List ℕ)) (rs : List Rec) → AllRecs bs rs → flat bs ≡ archive_of (records_of rs)
unfolding flat archive_of
recs_flat [] [] h = refl
recs_flat [] (r ∷ rs) h = absurd h
recs_flat (b ∷ bs) [] h = absurd h
recs_flat (b ∷ bs) (r ∷ rs) h = rw (h.0, recs_flat bs rs h.1)

-- document 02, wish 1: "Records are then at most 880 bytes"
archive_most : (rs : List Rec) → All LimitedRec rs → length (archive_of (records_of rs)) ≤ longest_sent * length rs
unfolding archive_of
archive_most [] f = omega arith
archive_most (r ∷ rs) f =
    omega (
      arith,
      length-append (bytes_of (as_record r)) (archive_of (records_of rs)),
      length_bytes_of (as_record r),
      entries_size r.reads,
      entries_size r.writes,
      f.0.reads_few,
      f.0.writes_few,
      archive_most rs f.1,
    )

pub archive_join : (qs rs : List Rec) → archive_of (records_of (qs ++ rs)) ≡ archive_of (records_of qs) ++ archive_of (records_of rs)
unfolding archive_of
archive_join [] rs = refl
archive_join (q ∷ qs) rs = rw (archive_join qs rs) (sym (append_assoc (bytes_of (as_record q)) (archive_of (records_of qs)) (archive_of (records_of rs))))

-- eight records fit "the server's record buffer 7,040"
pub records_fit : (bs : List (List ℕ)) (rs : List Rec) → AllRecs bs rs → length rs ≤ 8 → All LimitedRec rs → length (flat bs) ≤ records_room
records_fit bs rs h most few = rw (recs_flat bs rs h) (omega (arith, archive_most rs few))

-- "128 messages" and 7,040 record bytes: there is room for what a step sends and archives
module _ {b : Serving} {x : Model.Serving} (h : Serves b x) (o q : List ℕ) (lo : server_room ≤ length o) (lq : records_room ≤ length q) where
  pub messages_are : length x.sent ≤ 128 → messages_in (laid o q b).messages (laid o q b).sent ≡ b.sent
  messages_are most = laid_read o b.sent (sent_sized b.sent x.sent h.sent) (omega (arith, sent_count b.sent x.sent h.sent))

  pub records_are : length x.recs ≤ 8 → All LimitedRec x.recs → take (laid o q b).archived (laid o q b).records ≡ archive_of (records_of x.recs)
  records_are most few =
      let bytes = flat b.recs in
      let same : bytes ≡ archive_of (records_of x.recs) = recs_flat b.recs x.recs h.recs in
      let fits : length bytes ≤ length q = omega (arith, records_fit b.recs x.recs h.recs most few) in
      ap (take (length bytes)) (sets_front bytes q (length bytes) refl fits) ∙ take_at bytes (drop (length bytes) q) (length bytes) refl ∙ same
