-- The pages of a record's reads and writes, said three ways: the line's `usedPage`, its entries, and the mask of its addresses' bytes.
use Rattle.std.specs.Prelude.{ℕ, zero, suc, ◌+◌, ◌/◌, ◌%◌, ◌^◌, ◌<◌, ◌≡◌, refl, Bool, true, false, ◌||◌, cond, List, [], ◌∷◌, ◌++◌, length, get_or, eqb}
use Rattle.std.proofs.Common.{sym, ap, ◌∙◌, arith, eq-eqb}
use Rattle.std.proofs.Math.Bool.{or-true, or-false, or_assoc}
use Rattle.std.proofs.lemmas.Nat.{or_lt}
use Rattle.std.proofs.Math.Pow.{pow-lt}
use Rattle.lists.specs.Bytes.{Bytes, byte_at}
use Rattle.sets.specs.Base.{Val, some, has, any}
use Rattle.sets.specs.Laws.{by_b, by_eq}
use Rattle.sets.proofs.Laws.{eqb_yes, eqb_no, any_yes, any_some, any_ext}
use Rattle.cells.specs.Bits.{tb}
use Rattle.cells.proofs.Bits.{tb_zero, tb_or, tb_pow}
use Rattle.cells.proofs.Loops.{any_suc, any_same}
use Rattle.layout.specs.Record.{Entry, addresses}
use Rattle.line.specs.Messages.{address}
use Rattle.entries.specs.Entries.{value_in}
use Rattle.message.specs.Commit.{pages_to}
use Rattle.message_meaning.specs.Uses.{on_page}

-- one of two tests passes for a number, or for another
any_or : (n : ℕ) (f g : ℕ → Bool) → any n (λ i. f i || g i) ≡ (any n f || any n g)
any_or zero f g = refl
any_or (suc n) f g =
    any_suc n (λ i. f i || g i) ∙ rw (any_or n f g, any_suc n f, any_suc n g) (cross (any n f) (any n g) (f n) (g n))
  where
    cross : (a b c d : Bool) → ((a || b) || (c || d)) ≡ ((a || c) || (b || d))
    cross true b c d = refl
    cross false true c d = sym (or-true c)
    cross false false c d = refl

any_front : (n : ℕ) (f : ℕ → Bool) → any (suc n) f ≡ (f zero || any n (λ i. f (suc i)))
any_front zero f = any_suc zero f ∙ sym (or-false (f zero))
any_front (suc n) f =
    any_suc (suc n) f ∙ rw (any_front n f) (or_assoc (f zero) (any n (λ i. f (suc i))) (f (suc n)) ∙ ap (λ b. f zero || b) (sym (any_suc n (λ i. f (suc i)))))

-- an address is one of a page's eight just if it is on that page
on_page_lem : (p a : ℕ) → any 8 (λ o. eqb (address p o) a) ≡ eqb p (a / 8)
on_page_lem p a =
    by_eq p (a / 8)
    (λ e. rw e (any_yes 8 (λ o. eqb (address p o) a) (a % 8) (omega arith) (eq-eqb (address p (a % 8)) a (omega (arith, eqb_yes p (a / 8) e)))))
    (λ e. rw e (by_b (any 8 (λ o. eqb (address p o) a)) (λ t. absurd (none e t)) (λ t. t)))
  where
    none : eqb p (a / 8) ≡ false → any 8 (λ o. eqb (address p o) a) ≡ true → ⊥
    none e t = let z = any_some 8 (λ o. eqb (address p o) a) t in eqb_no p (a / 8) e (omega (arith, z.1, eqb_yes (address p z.0) a z.2))

on_append : (es fs : List Entry) (p : ℕ) → on_page (es ++ fs) p ≡ (on_page es p || on_page fs p)
on_append [] fs p = refl
on_append (e ∷ es) fs p = rw (on_append es fs p) (sym (or_assoc (eqb p (e.address / 8)) (on_page es p) (on_page fs p)))

on_values : (es : List Entry) (p : ℕ) → any 8 (λ o. has (value_in es (address p o))) ≡ on_page es p
on_values [] p = refl
on_values (e ∷ es) p =
    any_ext 8 (λ o. has (value_in (e ∷ es) (address p o))) (λ o. eqb (address p o) e.address || has (value_in es (address p o)))
    (λ o. has_first (eqb (address p o) e.address) e.value (value_in es (address p o)))
    ∙ any_or 8 (λ o. eqb (address p o) e.address) (λ o. has (value_in es (address p o)))
    ∙ rw (on_page_lem p e.address, on_values es p)
  where
    has_first : (b : Bool) (x : ℕ) (v : Val) → has (cond b (some x) v) ≡ (b || has v)
    has_first true x v = refl
    has_first false x v = refl

-- the line's `usedPage`, over what the entries say
pub on_used : (es fs : List Entry) (p : ℕ) → any 8 (λ o. has (value_in es (address p o)) || has (value_in fs (address p o))) ≡ on_page (es ++ fs) p
on_used es fs p =
    any_or 8 (λ o. has (value_in es (address p o))) (λ o. has (value_in fs (address p o))) ∙ rw (on_values es p, on_values fs p) (sym (on_append es fs p))

-- by the place in the list of addresses
on_index : (es : List Entry) (p : ℕ) → on_page es p ≡ any (length es) (λ i. eqb p (get_or (addresses es) i 0 / 8))
on_index [] p = refl
on_index (e ∷ es) p = rw (on_index es p) (sym (any_front (length es) (λ i. eqb p (get_or (addresses (e ∷ es)) i 0 / 8))))

-- the mask of the first k addresses of a commit's record
mask_index : (m : List ℕ) (at k p : ℕ) → tb (pages_to m at k) p ≡ any k (λ i. eqb p (get_or m (at + i) 0 / 8))
unfolding pages_to
mask_index m at zero p = tb_zero p
mask_index m at (suc k) p =
    let a = get_or m (at + k) 0 / 8 in
    rw (tb_or p (pages_to m at k) (2 ^ a), tb_pow a p, mask_index m at k p) (sym (any_suc k (λ i. eqb p (get_or m (at + i) 0 / 8))))

pub mask_fits : (m : List ℕ) (at k : ℕ) → Bytes m → pages_to m at k < 2 ^ 32
unfolding pages_to
mask_fits m at zero hm = omega arith
mask_fits m at (suc k) hm =
    let page : get_or m (at + k) 0 / 8 < 32 = omega (arith, byte_at m (at + k) hm) in
    or_lt 32 (pages_to m at k) (2 ^ (get_or m (at + k) 0 / 8)) (mask_fits m at k hm) (pow-lt page)

-- entries whose addresses stand behind the header of the record
pub mask_on : (m : List ℕ) (at : ℕ) (es : List Entry) → ((i : ℕ) → i < length es → get_or m (at + i) 0 ≡ get_or (addresses es) i 0) → (p : ℕ) → tb (pages_to m at (length es)) p ≡ on_page es p
mask_on m at es h p =
    mask_index m at (length es) p
    ∙ any_same (λ i. eqb p (get_or m (at + i) 0 / 8)) (λ i. eqb p (get_or (addresses es) i 0 / 8)) (length es) (λ i l. ap (λ (x : ℕ). eqb p (x / 8)) (h i l))
    ∙ sym (on_index es p)
