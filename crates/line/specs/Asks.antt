-- What a write of a set asks for: objects of one page; and the lowest of a set, for which a validating station asks.
use Rattle.std.specs.Prelude.{◌≡◌, refl, Bool, true, false, not, ◌&&◌, ◌||◌, ℕ, zero, suc, ◌+◌, ◌*◌, ◌/◌, ◌≤◌, ◌<◌, eqb, ltb}
use Rattle.std.proofs.Common.{sym, ◌∙◌, arith}
use Rattle.std.proofs.lemmas.Bool.{false≢true}
use Rattle.sets.specs.Base.{Val, has}
use Rattle.sets.specs.Laws.{by_b, by_eq}
use Rattle.sets.proofs.Laws.{eqb_yes, eqb_no, any_some, ltb_yes, or_no, not_no}
use Rattle.line.specs.Messages.{page_of, address}
use Rattle.line.specs.Station.{some_on, lowest_from, lowest_on, Station, bad_set, of_page}

-- what a write is for
pub record Asks (p : ℕ) (f : ℕ → Val) : Type 0 where
  pub in_range : p < 32
  pub some_written : some_on p (λ a. has (f a)) ≡ true
  pub page_only_lem : (a : ℕ) → has (f a) ≡ true → page_of a ≡ p

-- what 4 leaves of a set
pub set_asks : (p : ℕ) (w : ℕ → Val) (s : Station) → bad_set p (of_page p w) s ≡ false → Asks p (of_page p w)
set_asks p w s e =
    let u = (or_no (not (ltb p 32) || not (some_on p (λ a. has (of_page p w a)))) _ e).0 in
    let v = or_no (not (ltb p 32)) _ u in
    record {
      in_range = ltb_yes p 32 (not_no (ltb p 32) v.0);
      some_written = not_no (some_on p (λ a. has (of_page p w a))) v.1;
      page_only_lem = λ a. by_eq (page_of a) p (λ q z. eqb_yes (page_of a) p q) (λ q. rw q (λ z. absurd (false≢true z)));
    }

-- THE LOWEST

lowest_from_lem : (n a : ℕ) (set : ℕ → Bool) → (a ≤ lowest_from n a set) × (lowest_from n a set ≤ a + n)
lowest_from_lem zero a set = (omega arith, omega arith)
lowest_from_lem (suc n) a set =
    let r = lowest_from_lem n (suc a) set in
    by_b (set a) (λ e. rw e (omega arith, omega arith)) (λ e. rw e (omega (arith, r.0), omega (arith, r.1)))

lowest_is : (n a : ℕ) (set : ℕ → Bool) (b : ℕ) → a ≤ b → b ≤ a + n → set b ≡ true → set (lowest_from n a set) ≡ true
lowest_is zero a set b l h t = let e : b ≡ a = omega arith in rw e at t
lowest_is (suc n) a set b l h t =
    let rest : suc a ≤ b → set (lowest_from n (suc a) set) ≡ true = λ k. lowest_is n (suc a) set b k (omega arith) t in
    by_b (set a) (λ e. rw e e)
    (λ e. rw e (by_eq b a (λ q. absurd (false≢true (sym e ∙ (rw (eqb_yes b a q) at t)))) (λ q. rest (omega (arith, eqb_no b a q)))))

-- it is on the page
pub lowest_page : (p : ℕ) (set : ℕ → Bool) → page_of (lowest_on p set) ≡ p
lowest_page p set = let r = lowest_from_lem 7 (address p 0) set in omega (arith, r.0, r.1)

pub lowest_in_range : (p : ℕ) (set : ℕ → Bool) → p < 32 → lowest_on p set < 256
lowest_in_range p set l = let r = lowest_from_lem 7 (address p 0) set in omega (arith, r.0, r.1)

-- .. and in the set, if anything of the page is
pub lowest_in : (p : ℕ) (set : ℕ → Bool) → some_on p set ≡ true → set (lowest_on p set) ≡ true
lowest_in p set t =
    let z = any_some 8 (λ o. set (address p o)) t in
    let l = z.1 in
    lowest_is 7 (address p 0) set (address p z.0) (omega arith) (omega arith) z.2
