-- What each event does to the clauses of one validating station, over plain values.
use Rattle.std.specs.Prelude.{◌≡◌, refl, Bool, true, false, cond, ◌&&◌, not, List, ◌∷◌, ◌++◌, ℕ, ◌≤◌, length}
use Rattle.std.proofs.Common.{sym, ap, ◌∙◌, arith}
use Rattle.std.proofs.lemmas.Bool.{false≢true}
use Rattle.sets.specs.Base.{upd, snoc, Val, none, some, has, val_or, none_at, zeros}
use Rattle.sets.specs.Laws.{by_eq}
use Rattle.sets.proofs.Laws.{eqb_yes}
use Rattle.line.specs.All.{All, all_append, all_map}
use Rattle.line.specs.Messages.{page_of, Work, Up, ReadRequest, WriteRequest, Commit, Abort, Purge, Busy, Done, WrittenSet, Down, Page, Deescalate, Callback, Committed, Aborted, Invalidate, Rec}
use Rattle.line.specs.Server.{Waiter, Want, NoWant, WantRead, WantWrite, WantCommit}
use Rattle.truth.specs.Clauses.{Hist, TruePage, TrueReads, WorkUp, WorkWaiting, Validated}
use Rattle.truth.proofs.Frame.{all_snoc}
use Rattle.truth.proofs.ValidatedHist.{hist_longer}
use Rattle.line.specs.Station.{or_val}
use Rattle.truth.proofs.Tokens.{and_no}
use Rattle.truth.specs.ValidatedEvents.{Less}

-- of works, along the up line and in the waiting list
pub work_up : (P Q : Work → Type 0) → ((k : Work) → P k → Q k) → (m : Up) → WorkUp P m → WorkUp Q m
work_up P Q f (ReadRequest a t) h = tt
work_up P Q f (WriteRequest p t set) h = tt
work_up P Q f (Commit k) h = f k h
work_up P Q f (Abort t) h = tt
work_up P Q f (Purge p) h = tt
work_up P Q f (Busy r t) h = tt
work_up P Q f (Done r t d) h = tt
work_up P Q f (WrittenSet p t set) h = tt

pub work_waiting : (P Q : Work → Type 0) → ((k : Work) → P k → Q k) → (v : Want) (k : Work) → WorkWaiting P v k → WorkWaiting Q v k
work_waiting P Q f NoWant k h = tt
work_waiting P Q f WantRead k h = tt
work_waiting P Q f WantWrite k h = tt
work_waiting P Q f WantCommit k h = f k h

module _ {A : List Rec} {last : ℕ} {cached : ℕ → Bool} {cver copy : ℕ → ℕ} {rd wr : ℕ → Val} {seen : ℕ → ℕ} {q : Waiter} {U : List Up} {D : List Down}
    (h : Validated A last cached cver copy rd wr seen q U D) where
  -- the archive grows
  pub grown : (B : List Rec) (last' : ℕ) → length A ≡ last → last ≤ last' → Validated (A ++ B) last' cached cver copy rd wr seen q U D
  grown B last' e f =
      record {
        V1_last = λ a c. omega (arith, h.V1_last a c);
        V1 = λ a c b. h.V1 a c b ∙ sym (hist_longer A B (cver a) a (omega (arith, h.V1_last a c)));
        V2 = all_map (TruePage A last) (TruePage (A ++ B) last') page D h.V2;
        V3_up = all_map (WorkUp (TrueReads A last)) (WorkUp (TrueReads (A ++ B) last')) (work_up (TrueReads A last) (TrueReads (A ++ B) last') reads) U h.V3_up;
        V3_waiter = work_waiting (TrueReads A last) (TrueReads (A ++ B) last') reads q.want q.work h.V3_waiter;
        V5 = λ a v r. let z = h.V5 a v r in (omega (arith, z.0), z.1 ∙ sym (hist_longer A B (seen a) a (omega (arith, z.0))));
      }
    where
      page : (m : Down) → TruePage A last m → TruePage (A ++ B) last' m
      page (Page l a t v u x) k = λ b o. let z = k b o in (omega (arith, z.0), z.1 ∙ sym (hist_longer A B (v b) b (omega (arith, z.0))))
      page (Deescalate p t) k = tt
      page (Callback r t set) k = tt
      page (Committed t m) k = tt
      page (Aborted t c) k = tt
      page (Invalidate d) k = tt

      reads : (k : Work) → TrueReads A last k → TrueReads (A ++ B) last' k
      reads k g a v r = let z = g a v r in (omega (arith, z.0), z.1 ∙ sym (hist_longer A B (k.read_versions a) a (omega (arith, z.0))))

  -- another entry in the waiting list
  pub requeued : (q' : Waiter) → WorkWaiting (TrueReads A last) q'.want q'.work → Validated A last cached cver copy rd wr seen q' U D
  requeued q' k = record { V1_last = h.V1_last; V1 = h.V1; V2 = h.V2; V3_up = h.V3_up; V3_waiter = k; V5 = h.V5 }

  -- messages join the up line
  pub sent_up : (M : List Up) → All (WorkUp (TrueReads A last)) M → Validated A last cached cver copy rd wr seen q (U ++ M) D
  sent_up M k = record { V1_last = h.V1_last; V1 = h.V1; V2 = h.V2; V3_up = all_append (WorkUp (TrueReads A last)) U M h.V3_up k; V3_waiter = h.V3_waiter; V5 = h.V5 }

  -- a message joins the down line
  pub sent_down : (m : Down) → TruePage A last m → Validated A last cached cver copy rd wr seen q U (snoc D m)
  sent_down m k = record { V1_last = h.V1_last; V1 = h.V1; V2 = all_snoc (TruePage A last) D m h.V2 k; V3_up = h.V3_up; V3_waiter = h.V3_waiter; V5 = h.V5 }

  -- read-local: the version kept is the copy's
  pub read_here : (a : ℕ) → cached (page_of a) ≡ true → wr a ≡ none → Validated A last cached cver copy (upd rd a (some (copy a))) wr (upd seen a (cver a)) q U D
  read_here a c n =
      record {
        V1_last = h.V1_last;
        V1 = h.V1;
        V2 = h.V2;
        V3_up = h.V3_up;
        V3_waiter = h.V3_waiter;
        V5 = λ b v r.
            by_eq b a
            (λ e.
            let z : some (copy a) ≡ some v = rw e at r in
            rw (e, eqb_yes b a e) (h.V1_last a c, sym (ap (λ s. val_or s 0) z) ∙ h.V1 a c (ap has n)))
            (λ e. rw e (h.V5 b v (rw e at r)));
      }

  -- write-local: what was read keeps its version
  pub written_here : (f : ℕ → Val) (used : ℕ → Bool) → ((a : ℕ) → has (rd a) ≡ true → used a ≡ true)
      → Validated A last cached cver (λ a. val_or (f a) (copy a)) rd (λ a. or_val (f a) (wr a)) (λ a. cond (has (f a) && not (used a)) (cver a) (seen a)) q U D
  written_here f used k =
      record {
        V1_last = h.V1_last;
        V1 = λ b c. unwritten b c (f b);
        V2 = h.V2;
        V3_up = h.V3_up;
        V3_waiter = h.V3_waiter;
        V5 = λ b y r. let u : used b ≡ true = k b (ap has r) in rw (u, and_no (has (f b)) false refl) (h.V5 b y r);
      }
    where
      unwritten : (b : ℕ) → cached (page_of b) ≡ true → (v : Val) → has (or_val v (wr b)) ≡ false → val_or v (copy b) ≡ Hist A (cver b) b
      unwritten b c none n = h.V1 b c n
      unwritten b c (some x) n = absurd (false≢true (sym n))

  module _ {cached' : ℕ → Bool} {cver' copy' : ℕ → ℕ} (s : Less cached cver copy cached' cver' copy') where
    less_last : (a : ℕ) → cached' (page_of a) ≡ true → cver' a ≤ last
    less_last a c = omega (arith, s.version a c, h.V1_last a (s.page (page_of a) c))

    less_copy : (a : ℕ) → cached' (page_of a) ≡ true → has (wr a) ≡ false → copy' a ≡ Hist A (cver' a) a
    less_copy a c n = s.value a c ∙ h.V1 a (s.page (page_of a) c) n ∙ ap (λ v. Hist A v a) (sym (s.version a c))

    -- pages are dropped
    pub shrunk : Validated A last cached' cver' copy' rd wr seen q U D
    shrunk = record { V1_last = less_last; V1 = less_copy; V2 = h.V2; V3_up = h.V3_up; V3_waiter = h.V3_waiter; V5 = h.V5 }

    -- the end of a transaction: pages are dropped, all that it wrote
    pub shrunk_ends : ((a : ℕ) → cached' (page_of a) ≡ true → has (wr a) ≡ false) → Validated A last cached' cver' copy' none_at none_at zeros q U D
    shrunk_ends f =
        record {
          V1_last = less_last;
          V1 = λ a c n. less_copy a c (f a c);
          V2 = h.V2;
          V3_up = h.V3_up;
          V3_waiter = h.V3_waiter;
          V5 = λ a v r. absurd (false≢true (ap has r));
        }

-- the head of a line is taken
module _ {A : List Rec} {last : ℕ} {cached : ℕ → Bool} {cver copy : ℕ → ℕ} {rd wr : ℕ → Val} {seen : ℕ → ℕ} {q : Waiter} where
  pub taken_up : {m : Up} {U : List Up} {D : List Down} → Validated A last cached cver copy rd wr seen q (m ∷ U) D → Validated A last cached cver copy rd wr seen q U D
  taken_up h = record { V1_last = h.V1_last; V1 = h.V1; V2 = h.V2; V3_up = h.V3_up.1; V3_waiter = h.V3_waiter; V5 = h.V5 }

  pub taken_down : {m : Down} {U : List Up} {D : List Down} → Validated A last cached cver copy rd wr seen q U (m ∷ D) → Validated A last cached cver copy rd wr seen q U D
  taken_down h = record { V1_last = h.V1_last; V1 = h.V1; V2 = h.V2.1; V3_up = h.V3_up; V3_waiter = h.V3_waiter; V5 = h.V5 }
