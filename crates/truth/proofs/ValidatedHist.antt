-- The values that the first n records leave (`Hist`): a longer archive leaves them unchanged, and what one record more does. And the
-- numbers of records, which are 1 to the length of the archive.
use Rattle.std.specs.Prelude.{◌≡◌, refl, Bool, true, ◌&&◌, List, [], ◌∷◌, ◌++◌, ℕ, zero, suc, ◌+◌, ◌≤◌, ◌<◌, length, take}
use Rattle.std.proofs.Common.{ap, ◌∙◌, arith, length-append}
use Rattle.sets.specs.Base.{snoc, Val, some, val_or, zeros}
use Rattle.sets.specs.Laws.{by_b}
use Rattle.sets.proofs.Laws.{eqb_yes, and_l, and_r}
use Rattle.line.specs.All.{All, all_map}
use Rattle.line.specs.Messages.{Rec, Down, Page, Deescalate, Callback, Committed, Aborted, Invalidate}
use Rattle.line.specs.Truth.{In, here, there, count, left, NumberedFrom, of_number, of_transaction}
use Rattle.truth.specs.Clauses.{Hist, RecordedDown}
use Rattle.truth.specs.ValidatedHist.{NumberBelow, WrittenBy}

take_longer : (A B : List Rec) (n : ℕ) → n ≤ length A → take n (A ++ B) ≡ take n A
take_longer A B zero h = refl
take_longer [] B (suc n) h = absurd (omega arith)
take_longer (r ∷ A) B (suc n) h = ap (λ l. r ∷ l) (take_longer A B n (omega arith))

take_all : (A : List Rec) → take (length A) A ≡ A
take_all [] = refl
take_all (r ∷ A) = ap (λ l. r ∷ l) (take_all A)

left_append : (A B : List Rec) (v : ℕ → ℕ) (a : ℕ) → left (A ++ B) v a ≡ left B (left A v) a
left_append [] B v a = refl
left_append (r ∷ A) B v a = left_append A B (λ b. val_or (r.writes b) (v b)) a

-- a longer archive leaves what its first n records left
pub hist_longer : (A B : List Rec) (n a : ℕ) → n ≤ length A → Hist (A ++ B) n a ≡ Hist A n a
hist_longer A B n a h = ap (λ l. left l zeros a) (take_longer A B n h)

-- all records
pub hist_all : (A : List Rec) (n a : ℕ) → length A ≡ n → Hist A n a ≡ left A zeros a
hist_all A n a e = rw (← e) (ap (λ l. left l zeros a) (take_all A))

-- one record more
pub hist_more : (A : List Rec) (r : Rec) (n a : ℕ) → length A ≡ n → Hist (snoc A r) (n + 1) a ≡ val_or (r.writes a) (left A zeros a)
hist_more A r n a e = hist_all (snoc A r) (n + 1) a (omega (arith, length-append A (r ∷ []))) ∙ left_append A (r ∷ []) zeros a

-- a number found in an archive numbered from k
pub number_below : (k n : ℕ) (f : Rec → Bool) (A : List Rec) → NumberedFrom k A → 1 ≤ count (λ r. of_number n r && f r) A → n < k + length A
number_below k n f [] h c = absurd (omega arith)
number_below k n f (r ∷ A) h c =
    let rest : 1 ≤ count (λ q. of_number n q && f q) A → n < (k + 1) + length A = number_below (k + 1) n f A h.1 in
    by_b (of_number n r && f r)
    (λ t. omega (arith, eqb_yes r.number n (and_l (of_number n r) _ t), h.0))
    (λ t. omega (arith, rest (omega (arith, rw t at c))))

pub numbers_below : (i last : ℕ) (A : List Rec) (rd wr : ℕ → Val) (D : List Down) → NumberedFrom 1 A → length A ≡ last → All (RecordedDown i A rd wr) D → All (NumberBelow last) D
numbers_below i last A rd wr D o e h = all_map (RecordedDown i A rd wr) (NumberBelow last) below D h
  where
    below : (m : Down) → RecordedDown i A rd wr m → NumberBelow last m
    below (Page l a t v u x) k = tt
    below (Deescalate p t) k = tt
    below (Callback r t set) k = tt
    below (Committed t n) k = omega (arith, number_below 1 n (of_transaction i t) A o (omega (arith, k.0)))
    below (Aborted t c) k = tt
    below (Invalidate d) k = tt

-- numbered from k, so no number found is below k
number_from : (k n : ℕ) (f : Rec → Bool) (A : List Rec) → NumberedFrom k A → 1 ≤ count (λ r. of_number n r && f r) A → k ≤ n
number_from k n f [] h c = absurd (omega arith)
number_from k n f (r ∷ A) h c =
    let rest : 1 ≤ count (λ q. of_number n q && f q) A → k + 1 ≤ n = number_from (k + 1) n f A h.1 in
    by_b (of_number n r && f r)
    (λ t. omega (arith, eqb_yes r.number n (and_l (of_number n r) _ t), h.0))
    (λ t. omega (arith, rest (omega (arith, rw t at c))))

-- what record n writes is what the records up to it leave
written_then : (k n : ℕ) (f : Rec → Bool) (a v : ℕ) (A : List Rec) (b : ℕ → ℕ) (j : ℕ) → NumberedFrom k A → n + 1 ≡ k + j → 1 ≤ count (λ r. of_number n r && f r) A
    → ((r : Rec) → In r A → f r ≡ true → r.writes a ≡ some v) → left (take j A) b a ≡ v
written_then k n f a v [] b j h e c w = absurd (omega arith)
written_then k n f a v (r ∷ A) b zero h e c w = absurd (omega (arith, number_from k n f (r ∷ A) h c))
written_then k n f a v (r ∷ A) b (suc j) h e c w =
    let rest : 1 ≤ count (λ q. of_number n q && f q) A → left (take j A) (λ d. val_or (r.writes d) (b d)) a ≡ v =
    λ d. written_then (k + 1) n f a v A (λ d. val_or (r.writes d) (b d)) j h.1 (omega arith) d (λ q i. w q (there i)) in
    by_b (of_number n r && f r)
    (λ t.
    let z : j ≡ 0 = omega (arith, eqb_yes r.number n (and_l (of_number n r) _ t), h.0) in
    rw (z, w r here (and_r (of_number n r) _ t)) refl)
    (λ t. rest (omega (arith, rw t at c)))

pub written_by : (i : ℕ) (A : List Rec) (rd wr : ℕ → Val) (m : Down) → NumberedFrom 1 A → RecordedDown i A rd wr m → WrittenBy A wr m
written_by i A rd wr (Page l a t v u x) o k = tt
written_by i A rd wr (Deescalate p t) o k = tt
written_by i A rd wr (Callback r t set) o k = tt
written_by i A rd wr (Committed t n) o k =
    λ a v e.
    written_then 1 n (of_transaction i t) a v A zeros n o (omega arith) (omega (arith, k.0)) (λ r d f. ap (λ g. g a) (k.1 r d f).2 ∙ e)
written_by i A rd wr (Aborted t c) o k = tt
written_by i A rd wr (Invalidate d) o k = tt
