-- Lists of what was sent, told and archived: who is in them, what an entry more changes.
use Rattle.std.specs.Prelude.{◌≡◌, refl, Bool, true, false, ◌&&◌, cond, List, [], ◌∷◌, ◌++◌, ◌⊎◌, ℕ, zero, suc, ◌+◌, ◌≤◌, ◌<◌, eqb, length, take}
use Rattle.std.proofs.Common.{sym, ap, ◌∙◌, inl, inr, arith}
use Rattle.std.proofs.lemmas.Bool.{false≢true}
use Rattle.sets.specs.Base.{snoc, Val, none, some, val_or}
use Rattle.sets.specs.Laws.{by_b, by_eq}
use Rattle.sets.proofs.Laws.{eqb_same, eqb_yes, eqb_no}
use Rattle.line.specs.All.{All}
use Rattle.line.specs.Messages.{Rec}
use Rattle.line.specs.Line.{Told, ToldRead, ToldWrite, ToldCommit, ToldAbort}
use Rattle.line.specs.Truth.{In, here, there, count, left, NumberedFrom, of_number, last_write, first_of, first_read}
use Rattle.truth.specs.Clauses.{TrueRecords}
use Rattle.truth.specs.GoalsLists.{Older, either, full, head_or, tail}

pub in_none : {A : Type 0} {x : A} → In x [] → ⊥
in_none = elim [ ]

pub in_cons : {A : Type 0} {x y : A} {l : List A} → In x (y ∷ l) → (x ≡ y) ⊎ (In x l)
in_cons here = inl refl
in_cons (there h) = inr h

pub in_left : {A : Type 0} {x : A} (k l : List A) → In x k → In x (k ++ l)
in_left [] l h = absurd (in_none h)
in_left (y ∷ k) l here = here
in_left (y ∷ k) l (there h) = there (in_left k l h)

pub in_right : {A : Type 0} {x : A} (k l : List A) → In x l → In x (k ++ l)
in_right [] l h = h
in_right (y ∷ k) l h = there (in_right k l h)

pub in_append : {A : Type 0} {x : A} (k l : List A) → In x (k ++ l) → (In x k) ⊎ (In x l)
in_append [] l h = inr h
in_append (y ∷ k) l here = inl here
in_append (y ∷ k) l (there h) = either (in_append k l h) (λ u. inl (there u)) (λ u. inr u)

pub in_snoc : {A : Type 0} {x : A} (l : List A) (y : A) → In x (snoc l y) → (In x l) ⊎ (x ≡ y)
in_snoc l y h = either (in_append l (y ∷ []) h) (λ u. inl u) (λ u. either (in_cons u) (λ e. inr e) (λ v. absurd (in_none v)))

pub in_last : {A : Type 0} (l : List A) (x : A) → In x (snoc l x)
in_last l x = in_right l (x ∷ []) here

pub in_all : {A : Type 0} (P : A → Type 0) {x : A} (l : List A) → All P l → In x l → P x
in_all P [] a h = absurd (in_none h)
in_all P (y ∷ l) a here = a.0
in_all P (y ∷ l) a (there h) = in_all P l a.1 h

pub all_in : {A : Type 0} (P : A → Type 0) (l : List A) → ((x : A) → In x l → P x) → All P l
all_in P [] f = tt
all_in P (y ∷ l) f = (f y here, all_in P l (λ x h. f x (there h)))

-- who passes is counted
pub count_in : {A : Type 0} (f : A → Bool) {x : A} (l : List A) → In x l → f x ≡ true → 1 ≤ count f l
count_in f [] h e = absurd (in_none h)
count_in f (y ∷ l) here e = rw e (omega arith)
count_in f (y ∷ l) (there h) e = let r = count_in f l h e in omega arith

pub in_count : {A : Type 0} (f : A → Bool) (l : List A) → 1 ≤ count f l → (x : A) × (In x l) × (f x ≡ true)
in_count f [] h = absurd (omega arith)
in_count f (y ∷ l) h =
    let rest : 1 ≤ count f l → (x : _) × (In x l) × (f x ≡ true) = in_count f l in
    by_b (f y) (λ e. (y, here, e)) (λ e. let r = rest (omega (arith, rw e at h)) in (r.0, there r.1, r.2))

pub none_in : {A : Type 0} (f : A → Bool) {x : A} (l : List A) → count f l ≡ 0 → In x l → f x ≡ false
none_in f {x} l z h = by_b (f x) (λ e. let u = count_in f l h e in absurd (omega arith)) (λ e. e)

pub in_none_count : {A : Type 0} (f : A → Bool) (l : List A) → ((x : A) → In x l → f x ≡ false) → count f l ≡ 0
in_none_count f [] h = refl
in_none_count f (y ∷ l) h = rw (h y here) (omega (arith, in_none_count f l (λ x u. h x (there u))))

pub eqb_swap : (i j : ℕ) → eqb i j ≡ eqb j i
eqb_swap i j = by_eq i j (λ e. rw (eqb_yes i j e) refl) (λ e. by_eq j i (λ f. absurd (eqb_no i j e (sym (eqb_yes j i f)))) (λ f. rw (e, f) refl))

pub eqb_apart : (i j : ℕ) → (i ≡ j → ⊥) → eqb i j ≡ false
eqb_apart i j h = by_eq i j (λ e. absurd (h (eqb_yes i j e))) (λ e. e)

full_split : {A : Type 0} (k : List A) (x : A) (l : List A) → full (k ++ (x ∷ l)) ≡ true
full_split [] x l = refl
full_split (y ∷ k) x l = refl

pub no_split : {A : Type 0} (k : List A) (x : A) (l : List A) → [] ≡ k ++ (x ∷ l) → ⊥
no_split k x l e = false≢true (ap full e ∙ full_split k x l)

pub split_snoc : {A : Type 0} (l : List A) (e : A) (before : List A) (x : A) (after : List A) → snoc l e ≡ before ++ (x ∷ after)
    → ((l ≡ before) × (e ≡ x)) ⊎ (Older l e before x after)
split_snoc [] e [] x after q = inl (refl, ap (head_or e) q)
split_snoc [] e (b ∷ before) x after q = absurd (no_split before x after (ap tail q))
split_snoc (y ∷ l) e [] x after q = inr (record { rest = l; old = ap (λ z. z ∷ l) (ap (head_or e) q) })
split_snoc (y ∷ l) e (b ∷ before) x after q =
    either (split_snoc l e before x after (ap tail q))
    (λ u. inl (ap (λ z. z ∷ l) (ap (head_or e) q) ∙ ap (λ z. b ∷ z) u.0, u.1))
    (λ u. inr (record { rest = u.rest; old = ap (λ z. z ∷ l) (ap (head_or e) q) ∙ ap (λ z. b ∷ z) u.old }))

pub last_append : (i t : ℕ) (k l : List Told) (a : ℕ) (w : Val) → last_write i t (k ++ l) a w ≡ last_write i t l a (last_write i t k a w)
last_append i t [] l a w = refl
last_append i t (ToldRead j u b v ∷ k) l a w = last_append i t k l a w
last_append i t (ToldWrite j u b v ∷ k) l a w = last_append i t k l a (cond (eqb j i && eqb u t && eqb b a) (some v) w)
last_append i t (ToldCommit j u n ∷ k) l a w = last_append i t k l a w
last_append i t (ToldAbort j u c ∷ k) l a w = last_append i t k l a w

pub first_append : (i t : ℕ) (k l : List Told) (a : ℕ) (w r : Val) → first_read i t (k ++ l) a w r ≡ first_read i t l a (last_write i t k a w) (first_read i t k a w r)
first_append i t [] l a w r = refl
first_append i t (ToldRead j u b v ∷ k) l a w r = first_append i t k l a w (cond (eqb j i && eqb u t && eqb b a) (first_of w r v) r)
first_append i t (ToldWrite j u b v ∷ k) l a w r = first_append i t k l a (cond (eqb j i && eqb u t && eqb b a) (some v) w) r
first_append i t (ToldCommit j u n ∷ k) l a w r = first_append i t k l a w r
first_append i t (ToldAbort j u c ∷ k) l a w r = first_append i t k l a w r

-- the first read stays
of_some : (w : Val) (y v : ℕ) → first_of w (some y) v ≡ some y
of_some none y v = refl
of_some (some x) y v = refl

same_cond : {A : Type 0} (b : Bool) (x y : A) → x ≡ y → cond b x y ≡ y
same_cond true x y e = e
same_cond false x y e = refl

pub first_stays : (i t : ℕ) (l : List Told) (a : ℕ) (w : Val) (y : ℕ) → first_read i t l a w (some y) ≡ some y
first_stays i t [] a w y = refl
first_stays i t (ToldRead j u b v ∷ l) a w y = rw (same_cond (eqb j i && eqb u t && eqb b a) (first_of w (some y) v) (some y) (of_some w y v)) (first_stays i t l a w y)
first_stays i t (ToldWrite j u b v ∷ l) a w y = first_stays i t l a (cond (eqb j i && eqb u t && eqb b a) (some v) w) y
first_stays i t (ToldCommit j u n ∷ l) a w y = first_stays i t l a w y
first_stays i t (ToldAbort j u c ∷ l) a w y = first_stays i t l a w y

first_from : (i t : ℕ) (l : List Told) (a : ℕ) (r : Val) (v : ℕ) → first_read i t l a none (first_of none r v) ≡ some (val_or r v)
first_from i t l a none v = first_stays i t l a none v
first_from i t l a (some y) v = first_stays i t l a none y

-- behind an unwritten read the first read is known, whatever is told afterwards
pub seen : (i t a v : ℕ) (before after : List Told) → last_write i t before a none ≡ none
    → first_read i t (before ++ (ToldRead i t a v ∷ after)) a none none ≡ some (val_or (first_read i t before a none none) v)
seen i t a v before after e =
    first_append i t before (ToldRead i t a v ∷ after) a none none ∙ rw (e, eqb_same i, eqb_same t, eqb_same a) (first_from i t after a (first_read i t before a none none) v)

-- .. so a read that was told the first value stays so
pub seen_again : (i t a v : ℕ) (told more before after : List Told) → told ≡ before ++ (ToldRead i t a v ∷ after)
    → val_or (last_write i t before a none) (val_or (first_read i t told a none none) 0) ≡ val_or (last_write i t before a none) (val_or (first_read i t (told ++ more) a none none) 0)
seen_again i t a v told more before after q = by_val (last_write i t before a none) refl
  where
    known : last_write i t before a none ≡ none → (y : ℕ) × (first_read i t told a none none ≡ some y)
    known e = (val_or (first_read i t before a none none) v, rw q (seen i t a v before after e))

    by_val : (w : Val) → last_write i t before a none ≡ w → val_or w (val_or (first_read i t told a none none) 0) ≡ val_or w (val_or (first_read i t (told ++ more) a none none) 0)
    by_val none e =
        let k = known e in
        let l : first_read i t (told ++ more) a none none ≡ some k.0 = first_append i t told more a none none ∙ rw k.1 (first_stays i t more a (last_write i t told a none) k.0) in
        rw (k.1, l) refl
    by_val (some x) e = refl

pub numbered_least : (n : ℕ) (l : List Rec) → NumberedFrom n l → (r : Rec) → In r l → n ≤ r.number
numbered_least n [] h r u = absurd (in_none u)
numbered_least n (x ∷ l) h r here = omega (arith, h.0)
numbered_least n (x ∷ l) h r (there u) = let k = numbered_least (n + 1) l h.1 r u in omega arith

pub numbered_most : (n : ℕ) (l : List Rec) → NumberedFrom n l → (r : Rec) → In r l → r.number < n + length l
numbered_most n [] h r u = absurd (in_none u)
numbered_most n (x ∷ l) h r here = omega (arith, h.0)
numbered_most n (x ∷ l) h r (there u) = let k = numbered_most (n + 1) l h.1 r u in omega arith

pub numbered_snoc : (n : ℕ) (l : List Rec) (r : Rec) → NumberedFrom n l → r.number ≡ n + length l → NumberedFrom n (snoc l r)
numbered_snoc n [] r h e = (omega (arith, e), tt)
numbered_snoc n (x ∷ l) r h e = (h.0, numbered_snoc (n + 1) l r h.1 (omega (arith, e)))

-- no number twice
pub numbered_once : (n k : ℕ) (l : List Rec) → NumberedFrom k l → count (of_number n) l ≤ 1
numbered_once n k [] h = omega arith
numbered_once n k (x ∷ l) h =
    let rest = numbered_once n (k + 1) l h.1 in
    by_eq x.number n
    (λ e.
    let none : count (of_number n) l ≡ 0 =
    in_none_count (of_number n) l (λ r u. eqb_apart r.number n (λ q. let m = numbered_least (k + 1) l h.1 r u in absurd (omega (arith, q, m, eqb_yes x.number n e, h.0)))) in
    rw e (omega arith))
    (λ e. rw e (omega arith))

-- a record's reads are what the records before it leave
pub true_record : (k j : ℕ) (l : List Rec) (v : ℕ → ℕ) → NumberedFrom k l → TrueRecords l v → (r : Rec) → In r l → r.number ≡ k + j → (a x : ℕ) → r.reads a ≡ some x → x ≡ left (take j l) v a
true_record k j [] v n h r u e a x q = absurd (in_none u)
true_record k zero (y ∷ l) v n h r here e a x q = h.0 a x q
true_record k (suc j) (y ∷ l) v n h r here e a x q = absurd (omega (arith, e, n.0))
true_record k zero (y ∷ l) v n h r (there u) e a x q = let m = numbered_least (k + 1) l n.1 r u in absurd (omega arith)
true_record k (suc j) (y ∷ l) v n h r (there u) e a x q = true_record (k + 1) j l (λ b. val_or (y.writes b) (v b)) n.1 h.1 r u (omega (arith, e)) a x q

pub left_snoc : (l : List Rec) (r : Rec) (v : ℕ → ℕ) (a : ℕ) → left (snoc l r) v a ≡ val_or (r.writes a) (left l v a)
left_snoc [] r v a = refl
left_snoc (x ∷ l) r v a = left_snoc l r (λ b. val_or (x.writes b) (v b)) a

pub true_snoc : (l : List Rec) (r : Rec) (v : ℕ → ℕ) → TrueRecords l v → ((a x : ℕ) → r.reads a ≡ some x → x ≡ left l v a) → TrueRecords (snoc l r) v
true_snoc [] r v h k = (k, tt)
true_snoc (x ∷ l) r v h k = (h.0, true_snoc l r (λ b. val_or (x.writes b) (v b)) h.1 k)

pub take_all : {A : Type 0} (l : List A) → take (length l) l ≡ l
take_all [] = refl
take_all (x ∷ l) = ap (λ z. x ∷ z) (take_all l)

pub length_snoc : {A : Type 0} (l : List A) (x : A) → length (snoc l x) ≡ length l + 1
length_snoc [] x = refl
length_snoc (y ∷ l) x = omega (arith, length_snoc l x)
