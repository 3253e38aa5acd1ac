-- Frames that several stations add to one counter sum up: "each read told in a committed transaction is the value that the earlier records
-- leave", so that no addition is lost and none counts twice. A consequence of demand 3 over bytes, for counters that stations only add to.
use Rattle.std.specs.Prelude.{ℕ, suc, ◌+◌, ◌<◌, ◌≡◌, refl, true, ◌&&◌, cond, List, [], ◌∷◌, ◌++◌, eqb, length, take}
use Rattle.std.proofs.Common.{sym, ap, ◌∙◌, append_assoc, append-nil, arith, add-one, length-append, take_at}
use Rattle.sets.specs.Base.{Val, none, some, val_or, zeros}
use Rattle.sets.specs.Laws.{by_b}
use Rattle.sets.proofs.Laws.{and_l, and_r, eqb_yes}
use Rattle.line.specs.Messages.{Rec}
use Rattle.line.specs.Line.{Told, ToldRead, ToldWrite, ToldCommit, ToldAbort}
use Rattle.line.specs.Truth.{In, here, there, left, left_before, NumberedFrom, last_write, first_read}
use Rattle.server_state.specs.Layout.{value_of}
use Rattle.server_state.specs.Valid.{kinds_ok}
use Rattle.line_bytes.specs.Bytes.{WorldB, CallB, AllFit, fresh_b, run_b}
use Rattle.line_bytes.specs.Claim.{recs_b, TrueBytes}
use Rattle.line_bytes.specs.Truth.{truth_of_bytes}
use Rattle.counting.specs.Counting.{Adds, Found, added, total, untouched}

none_some : {x : ℕ} → none ≡ some x → ⊥
none_some e = omega (arith, ap (λ (z : Val). val_or z 0) e, ap (λ (z : Val). val_or z 1) e)

-- once there is a first read, it stays
stays : (i t : ℕ) (l : List Told) (a v : ℕ) (w : Val) → first_read i t l a w (some v) ≡ some v
stays i t [] a v w = refl
stays i t (ToldRead j u b x ∷ l) a v none = by_b (eqb j i && eqb u t && eqb b a) (λ e. rw e (stays i t l a v none)) (λ e. rw e (stays i t l a v none))
stays i t (ToldRead j u b x ∷ l) a v (some y) =
    by_b (eqb j i && eqb u t && eqb b a) (λ e. rw e (stays i t l a v (some y))) (λ e. rw e (stays i t l a v (some y)))
stays i t (ToldWrite j u b x ∷ l) a v w = stays i t l a v (cond (eqb j i && eqb u t && eqb b a) (some x) w)
stays i t (ToldCommit j u n ∷ l) a v w = stays i t l a v w
stays i t (ToldAbort j u c ∷ l) a v w = stays i t l a v w

-- the read is told first
found_here : (i t : ℕ) (l : List Told) (a x j u b v : ℕ) → (eqb j i && eqb u t && eqb b a) ≡ true → first_read i t l a none (some v) ≡ some x
    → Found i t (ToldRead j u b v ∷ l) a x none
found_here i t l a x j u b v c e =
    let same : v ≡ x = ap (λ (z : Val). val_or z 0) (sym (stays i t l a v none) ∙ e) in
    let both = and_l (eqb j i && eqb u t) (eqb b a) c in
    let ji = eqb_yes j i (and_l (eqb j i) (eqb u t) both) in
    let ut = eqb_yes u t (and_r (eqb j i) (eqb u t) both) in
    let ba = eqb_yes b a (and_r (eqb j i && eqb u t) (eqb b a) c) in
    record { before = []; after = l; is = rw (ji, ut, ba, same); unwritten = refl }

-- .. or behind something else
found_behind : (y : Told) (i t : ℕ) (l : List Told) (a x : ℕ) (w v : Val) → ((b : List Told) → last_write i t (y ∷ b) a w ≡ last_write i t b a v) → Found i t l a x v
    → Found i t (y ∷ l) a x w
found_behind y i t l a x w v h f =
    record { before = y ∷ f.before; after = f.after; is = ap (λ (z : List Told). y ∷ z) f.is; unwritten = h f.before ∙ f.unwritten }

found : (i t : ℕ) (l : List Told) (a x : ℕ) (w : Val) → first_read i t l a w none ≡ some x → Found i t l a x w
found i t [] a x w e = absurd (none_some e)
found i t (ToldRead j u b v ∷ l) a x none e =
    by_b (eqb j i && eqb u t && eqb b a) (λ c. found_here i t l a x j u b v c (rw c at e))
    (λ c. found_behind (ToldRead j u b v) i t l a x none none (λ k. refl) (found i t l a x none (rw c at e)))
found i t (ToldRead j u b v ∷ l) a x (some y) e =
    let rest : first_read i t l a (some y) none ≡ some x = by_b (eqb j i && eqb u t && eqb b a) (λ c. rw c at e) (λ c. rw c at e) in
    found_behind (ToldRead j u b v) i t l a x (some y) (some y) (λ k. refl) (found i t l a x (some y) rest)
found i t (ToldWrite j u b v ∷ l) a x w e =
    let z = cond (eqb j i && eqb u t && eqb b a) (some v) w in
    found_behind (ToldWrite j u b v) i t l a x w z (λ k. refl) (found i t l a x z e)
found i t (ToldCommit j u n ∷ l) a x w e = found_behind (ToldCommit j u n) i t l a x w w (λ k. refl) (found i t l a x w e)
found i t (ToldAbort j u c ∷ l) a x w e = found_behind (ToldAbort j u c) i t l a x w w (λ k. refl) (found i t l a x w e)

-- what a record read is what the records before it leave
pub read_left : (w : WorldB) → TrueBytes w → (r : Rec) → In r (recs_b w) → (a x : ℕ) → r.reads a ≡ some x → x ≡ left_before r.number (recs_b w) a
read_left w h r k a x e =
    let f = found r.station r.transaction w.told a x none (sym ((h.contents r k).reads a) ∙ e) in
    h.reads r.station r.transaction r.number a x f.before f.after (h.committed r k) f.is
    ∙ ap (λ (z : Val). val_or z (left_before r.number (recs_b w) a)) f.unwritten

left_snoc : (l : List Rec) (r : Rec) (v : ℕ → ℕ) (a : ℕ) → left (l ++ (r ∷ [])) v a ≡ val_or (r.writes a) (left l v a)
left_snoc [] r v a = refl
left_snoc (q ∷ l) r v a = left_snoc l r (λ b. val_or (q.writes b) (v b)) a

in_behind : (p : List Rec) (r : Rec) (l : List Rec) → In r (p ++ (r ∷ l))
in_behind [] r l = here
in_behind (q ∷ p) r l = there (in_behind p r l)

-- one record more
one_more : (a n : ℕ) (r : Rec) (v : ℕ) → Adds a n r → ((x : ℕ) → r.reads a ≡ some x → x ≡ v) → val_or (r.writes a) v ≡ v + n
one_more a n r v (added {x} e f) h = rw f (ap (λ (z : ℕ). z + n) (h x e))
one_more a n r v (untouched e z) h = rw (e, z) (omega arith)

module _ (w : WorldB) (h : TrueBytes w) (a : ℕ) (f : Rec → ℕ) (adds : (r : Rec) → In r (recs_b w) → Adds a (f r) r) where
  -- the next record behind p reads what p leaves
  reads_left : (p : List Rec) (r : Rec) (l : List Rec) → recs_b w ≡ p ++ (r ∷ l) → r.number ≡ length p + 1 → (x : ℕ) → r.reads a ≡ some x → x ≡ left p zeros a
  reads_left p r l e n x q =
      let here : In r (recs_b w) = rw e (in_behind p r l) in
      let number : r.number ≡ suc (length p) = n ∙ add-one (length p) in
      read_left w h r here a x q
      ∙ ap (λ (m : ℕ). left_before m (recs_b w) a) number
      ∙ ap (λ (z : List Rec). left z zeros a) (ap (take (length p)) e ∙ take_at p (r ∷ l) (length p) refl)

  -- behind the records p, the records l add their frames
  sums : (l p : List Rec) → recs_b w ≡ p ++ l → NumberedFrom (length p + 1) l → left (recs_b w) zeros a ≡ left p zeros a + total f l
  sums [] p e n = ap (λ (z : List Rec). left z zeros a) (e ∙ append-nil p) ∙ none_added (left p zeros a)
    where
      none_added : (v : ℕ) → v ≡ v + 0
      none_added v = omega arith
  sums (r ∷ l) p e n =
      let long : length (p ++ (r ∷ [])) ≡ length p + 1 = length-append p (r ∷ []) in
      let rest : NumberedFrom (length (p ++ (r ∷ [])) + 1) l = rw long n.1 in
      let k = adds r (rw e (in_behind p r l)) in
      sums l (p ++ (r ∷ [])) (e ∙ sym (append_assoc p (r ∷ []) l)) rest
      ∙ ap (λ (v : ℕ). v + total f l) (left_snoc p r zeros a ∙ one_more a (f r) r (left p zeros a) k (reads_left p r l e n.0))
      ∙ together (left p zeros a) (f r) (total f l)
    where
      together : (v m k : ℕ) → v + m + k ≡ v + (m + k)
      together v m k = omega arith

-- Clause 14: a counter that stations only add to, each in a transaction that reads it first, ends as the sum of the frames of the committed
-- transactions, each counted once: at the server, and so (truth_of_bytes: same-pages) in the replay of the archive
pub counted : (kinds : List ℕ) → kinds_ok kinds ≡ true → (cs : List CallB) → AllFit cs → (a : ℕ) → a < 256 → (frames : Rec → ℕ)
    → ((r : Rec) → In r (recs_b (run_b cs (fresh_b kinds))) → Adds a (frames r) r)
    → value_of (run_b cs (fresh_b kinds)).server a ≡ total frames (recs_b (run_b cs (fresh_b kinds)))
counted kinds ok cs fit a l frames adds =
    let w = run_b cs (fresh_b kinds) in
    let h = truth_of_bytes kinds ok cs fit in
    sym (h.pages a l) ∙ sums w h a frames adds (recs_b w) [] refl h.order ∙ from_zero (total frames (recs_b w))
  where
    from_zero : (n : ℕ) → 0 + n ≡ n
    from_zero n = omega arith
