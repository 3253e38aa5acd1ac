-- Demand 3 over bytes: for every choice of kinds and every list of calls from a fresh line, with any arguments and any output, the
-- archive's bytes are true.
use Rattle.std.specs.Prelude.{ℕ, suc, ◌≡◌, refl, Bool, true, false, cond, List, [], ◌∷◌, eqb, length, get_or}
use Rattle.std.proofs.Common.{sym, ap, subst, ◌∙◌}
use Rattle.std.proofs.lemmas.Bool.{false≢true}
use Rattle.sets.specs.Laws.{by_eq}
use Rattle.sets.proofs.Laws.{eqb_yes}
use Rattle.layout.specs.Record.{archive_of}
use Rattle.recs.specs.Recs.{records_of}
use Rattle.archive_meaning.specs.Reader.{Parsed}
use Rattle.line.specs.Messages.{Down, Page, Deescalate, Callback, Committed, Aborted, Invalidate, Sent, To, Rec}
use Rattle.line.specs.Line.{World, fresh, run}
use Rattle.line.specs.Truth.{In, here, there, True, CommittedAt, AbortedAt}
use Rattle.line.specs.Truth as Line
use Rattle.truth.proofs.Truth.{truth}
use Rattle.archive_truth.specs.Written.{ArchiveOfRun, records_in, archive_of_run}
use Rattle.message.specs.Layout.{kind_of, transaction_of, version_of, cause_of}
use Rattle.message_meaning.specs.Meant.{page_at, down_of}
use Rattle.message_meaning.proofs.KindsLaws.{down_21, down_22}
use Rattle.server_state.specs.Valid.{kinds_ok}
use Rattle.server_meaning.proofs.Tests.{value_at_lem}
use Rattle.step_meaning.specs.Relation.{ReadAs, AllSent}
use Rattle.line_bytes.specs.Bytes.{WorldB, fresh_b, CallB, AllFit, run_b}
use Rattle.line_bytes.specs.Claim.{records_b, recs_b, CommittedB, AbortedB, by22, by_owner_or23, TrueBytes}
use Rattle.line_bytes.specs.Simulates.{Sim, goes_to, read_down}
use Rattle.line_bytes.specs.Runs.{kind_small, calls_of, calls_fit, run_simulates}

-- WHAT WAS SENT

-- each message sent over bytes is one of the model, and the other way
pub record Found (m : List ℕ) (xs : List Sent) : Type 0 where
  pub it : Sent
  pub there_is : In it xs
  pub read : ReadAs m it

record Put (x : Sent) (ms : List (List ℕ)) : Type 0 where
  bytes : List ℕ
  there_are : In bytes ms
  read : ReadAs bytes x

pub found : {m : List ℕ} {ms : List (List ℕ)} → In m ms → (xs : List Sent) → AllSent ms xs → Found m xs
found here [] h = absurd h
found here (x ∷ xs) h = record { it = x; there_is = here; read = h.0 }
found (there k) [] h = absurd h
found (there k) (x ∷ xs) h = let f = found k xs h.1 in record { it = f.it; there_is = there f.there_is; read = f.read }

put : {x : Sent} {xs : List Sent} → In x xs → (ms : List (List ℕ)) → AllSent ms xs → Put x ms
put here [] h = absurd h
put here (m ∷ ms) h = record { bytes = m; there_are = here; read = h.0 }
put (there k) [] h = absurd h
put (there k) (m ∷ ms) h = let f = put k ms h.1 in record { bytes = f.bytes; there_are = there f.there_are; read = f.read }

-- a message that says "committed" is of kind 21
abbrev says21 : Down → Bool
says21 (Page l a t v u x) = false
says21 (Deescalate p t) = false
says21 (Callback r t set) = false
says21 (Committed t n) = true
says21 (Aborted t c) = false
says21 (Invalidate d) = false

neither : (c : Bool) (x y : Down) → says21 x ≡ false → says21 y ≡ false → says21 (cond c x y) ≡ false
neither true x y h k = h
neither false x y h k = k

only_21 : (m : List ℕ) → eqb (kind_of m) 21 ≡ false → says21 (down_of m) ≡ false
unfolding down_of page_at
only_21 m e =
    let k = kind_of m in
    neither (eqb k 16) _ _ refl
    (neither (eqb k 17) _ _ refl
    (neither (eqb k 18) _ _ refl (neither (eqb k 19) _ _ refl (neither (eqb k 20) _ _ refl (rw e (neither (eqb k 22) _ _ refl refl))))))

kind_21 : (m : List ℕ) (t n : ℕ) → down_of m ≡ Committed t n → kind_of m ≡ 21
kind_21 m t n e = by_eq (kind_of m) 21 (λ q. eqb_yes (kind_of m) 21 q) (λ q. absurd (false≢true (sym (only_21 m q) ∙ ap says21 e)))

abbrev transaction_in : Down → ℕ
transaction_in (Page l a t v u x) = 0
transaction_in (Deescalate p t) = 0
transaction_in (Callback r t set) = 0
transaction_in (Committed t n) = t
transaction_in (Aborted t c) = 0
transaction_in (Invalidate d) = 0

abbrev number_in : Down → ℕ
number_in (Page l a t v u x) = 0
number_in (Deescalate p t) = 0
number_in (Callback r t set) = 0
number_in (Committed t n) = n
number_in (Aborted t c) = 0
number_in (Invalidate d) = 0

module _ (b : WorldB) (w : World) (h : AllSent b.sent_down w.sent_down) where
  -- "Committed: 21 sent."
  committed_to : (i t n : ℕ) → CommittedB b i t n → CommittedAt w i t n
  committed_to i t n c =
      let m = c.message in
      let f = found c.sent w.sent_down h in
      let r = f.read in
      let to_is : r.to ≡ i = sym r.station_is ∙ c.station_is in
      let says : down_of m ≡ Committed t n = down_21 m c.kind_is ∙ rw (c.transaction_is, c.number_is) in
      let it-is : f.it ≡ To i (Committed t n) = r.sent_is ∙ rw (to_is, says) in
      subst (λ (x : Sent). In x w.sent_down) it-is f.there_is

  committed_of : (i t n : ℕ) → CommittedAt w i t n → CommittedB b i t n
  committed_of i t n c =
      let p = put c b.sent_down h in
      let m = p.bytes in
      let says = read_down m i (Committed t n) p.read in
      let kind = kind_21 m t n says in
      let same : Committed (transaction_of m) (version_of m) ≡ Committed t n = sym (down_21 m kind) ∙ says in
      record {
        message = m;
        sent = p.there_are;
        kind_is = kind;
        station_is = goes_to m i (Committed t n) p.read;
        transaction_is = ap transaction_in same;
        number_is = ap number_in same;
      }

  -- "22 sent"
  aborted_to : (i t : ℕ) → w.told ≡ b.told → AbortedB b i t → AbortedAt w i t
  aborted_to i t e (by22 c) =
      let m = c.message in
      let f = found c.sent w.sent_down h in
      let r = f.read in
      let to_is : r.to ≡ i = sym r.station_is ∙ c.station_is in
      let says : down_of m ≡ Aborted t (cause_of m) = down_22 m c.kind_is ∙ rw c.transaction_is in
      let it-is : f.it ≡ To i (Aborted t (cause_of m)) = r.sent_is ∙ rw (to_is, says) in
      Line.by22 (subst (λ (x : Sent). In x w.sent_down) it-is f.there_is)
  aborted_to i t e (by_owner_or23 {c = c} k) = Line.by_owner_or23 {c = c} (rw e k)

-- THE THEOREM

recorded : (rs : List Rec) → length (records_of rs) ≡ length rs
recorded [] = refl
recorded (r ∷ rs) = ap suc (recorded rs)

module _ (kinds : List ℕ) (b : WorldB) (w : World) (h : Sim kinds b w) (y : True w) (z : ArchiveOfRun w) where
  records_same : records_b b ≡ records_in w
  records_same = rw h.line.records (ap (λ (p : Parsed). p.records) z.read_back)

  recs_same : recs_b b ≡ w.archive
  recs_same = rw h.line.records z.given_back

  told_same : w.told ≡ b.told
  told_same = sym h.notes.told

  true_of : TrueBytes b
  true_of =
      let sent = h.line.sent in
      record {
        read = rw h.line.records (ap (λ (p : Parsed). p.number) z.read_back);
        bytes = h.line.records ∙ ap archive_of (sym records_same);
        well_formed = rw records_same z.well_formed;
        numbered = rw records_same z.numbered;
        replayed = rw h.line.records z.accepted;
        last_is = rw h.line.records (z.last_is ∙ sym (recorded w.archive) ∙ sym (ap (λ (p : Parsed). length p.records) z.read_back));
        as_many = rw h.line.records z.as_many;
        same_pages = λ a l. rw h.line.records (z.pages a ∙ sym (value_at_lem h.line.server a l));
        order = rw recs_same y.order;
        committed = λ r k. committed_of b w sent r.station r.transaction r.number (y.committed r (rw recs_same at k));
        one_each = λ r k. rw recs_same (y.one_each r (rw recs_same at k));
        sent = λ i t n c. rw recs_same (y.sent i t n (committed_to b w sent i t n c));
        contents = λ r k. rw (← told_same) (y.contents r (rw recs_same at k));
        told = λ i t n k. rw recs_same (y.told i t n (rw told_same k));
        reads = λ i t n a v before after c e. rw recs_same (y.reads i t n a v before after (committed_to b w sent i t n c) (told_same ∙ e));
        pages = λ a l. rw recs_same (y.pages a ∙ sym (value_at_lem h.line.server a l));
        aborted = λ i t k. rw recs_same (y.aborted i t (aborted_to b w sent i t told_same k));
      }

-- demand 3, of the bytes
pub truth_of_bytes : (kinds : List ℕ) → kinds_ok kinds ≡ true → (cs : List CallB) → AllFit cs → TrueBytes (run_b cs (fresh_b kinds))
truth_of_bytes kinds ok cs f =
    let b = fresh_b kinds in
    let k : ℕ → ℕ = λ i. get_or kinds i 0 in
    let calls = calls_of cs b in
    true_of kinds (run_b cs b) (run calls (fresh k)) (run_simulates kinds ok cs f) (truth k calls) (archive_of_run k (kind_small kinds ok) calls (calls_fit cs b f))
