-- What was read or written by address, as document 01's entries, rising; and nothing is lost by that.
use Rattle.std.specs.Prelude.{ℕ, zero, suc, ◌+◌, ◌≤◌, ◌<◌, ◌≡◌, refl, true, false, ◌||◌, cond, List, [], ◌∷◌, ◌++◌, eqb, ltb, length}
use Rattle.std.proofs.Common.{sym, ap, ◌∙◌, arith, length-append}
use Rattle.std.proofs.Math.Bool.{or-true}
use Rattle.sets.specs.Base.{Val, none, some, has}
use Rattle.sets.specs.Laws.{by_b, by_eq}
use Rattle.sets.proofs.Laws.{eqb_yes, eqb_no, ltb_yes, ltb_no}
use Rattle.sets.specs.Size.{size}
use Rattle.sets.proofs.Size.{size_empty, size_part, size_joined}
use Rattle.layout.specs.Record.{Entry, Rising, AllFit}
use Rattle.entries.specs.Entries.{Above, FitVal, Within, entries_from_lem, entries_of, entry, entry_if, value_in}

above_less : (a b : ℕ) (l : List Entry) → a ≤ b → Above b l → Above a l
above_less a b [] h k = tt
above_less a b (e ∷ es) h k = omega arith

from_above : (n a : ℕ) (f : ℕ → Val) → Above a (entries_from_lem n a f)
unfolding entries_from_lem
from_above zero a f = tt
from_above (suc n) a f = on_value (f a) (from_above n (suc a) f)
  where
    on_value : (c : Val) → Above (suc a) (entries_from_lem n (suc a) f) → Above a (entry_if a c (entries_from_lem n (suc a) f))
    on_value none k = above_less a (suc a) (entries_from_lem n (suc a) f) (omega arith) k
    on_value (some x) k = omega arith

rising_cons : (e : Entry) (l : List Entry) → Above (suc e.address) l → Rising l → Rising (e ∷ l)
rising_cons e [] h k = tt
rising_cons e (g ∷ l) h k = (omega arith, k)

from_rises : (n a : ℕ) (f : ℕ → Val) → Rising (entries_from_lem n a f)
unfolding entries_from_lem
from_rises zero a f = tt
from_rises (suc n) a f = on_value (f a) (from_above n (suc a) f) (from_rises n (suc a) f)
  where
    on_value : (c : Val) → Above (suc a) (entries_from_lem n (suc a) f) → Rising (entries_from_lem n (suc a) f) → Rising (entry_if a c (entries_from_lem n (suc a) f))
    on_value none h k = k
    on_value (some x) h k = rising_cons (entry a x) (entries_from_lem n (suc a) f) h k

from_count : (n a : ℕ) (f : ℕ → Val) → length (entries_from_lem n a f) ≤ n
unfolding entries_from_lem
from_count zero a f = omega arith
from_count (suc n) a f = on_value (f a) (from_count n (suc a) f)
  where
    on_value : (c : Val) → length (entries_from_lem n (suc a) f) ≤ n → length (entry_if a c (entries_from_lem n (suc a) f)) ≤ suc n
    on_value none k = omega arith
    on_value (some x) k = omega arith

from_fits : (n a : ℕ) (f : ℕ → Val) → a + n ≤ 256 → ((b : ℕ) → FitVal (f b)) → AllFit (entries_from_lem n a f)
unfolding entries_from_lem
from_fits zero a f b h = tt
from_fits (suc n) a f b h = on_value (f a) (h a) (from_fits n (suc a) f (omega arith) h)
  where
    on_value : (c : Val) → FitVal c → AllFit (entries_from_lem n (suc a) f) → AllFit (entry_if a c (entries_from_lem n (suc a) f))
    on_value none g k = k
    on_value (some x) g k = (record { address = omega arith; value = omega arith }, k)

module _ (f : ℕ → Val) where
  pub entries_rise : Rising (entries_of f)
  unfolding entries_of
  entries_rise = from_rises 256 0 f

  pub entries_count : length (entries_of f) ≤ 256
  unfolding entries_of
  entries_count = from_count 256 0 f

  pub entries_fit : ((a : ℕ) → FitVal (f a)) → AllFit (entries_of f)
  unfolding entries_of
  entries_fit h = from_fits 256 0 f (omega arith) h

from_says_less : (n a : ℕ) (f : ℕ → Val) (b : ℕ) → b < a → value_in (entries_from_lem n a f) b ≡ none
unfolding entries_from_lem
from_says_less zero a f b h = refl
from_says_less (suc n) a f b h = on_value (f a) (from_says_less n (suc a) f b (omega arith))
  where
    on_value : (c : Val) → value_in (entries_from_lem n (suc a) f) b ≡ none → value_in (entry_if a c (entries_from_lem n (suc a) f)) b ≡ none
    on_value none k = k
    on_value (some x) k = by_eq b a (λ e. absurd (omega (arith, eqb_yes b a e))) (λ e. rw e k)

from_says : (n a : ℕ) (f : ℕ → Val) (b : ℕ) → a ≤ b → b < a + n → value_in (entries_from_lem n a f) b ≡ f b
unfolding entries_from_lem
from_says zero a f b h k = absurd (omega arith)
from_says (suc n) a f b h k = on_value (f a) refl (λ l. from_says n (suc a) f b l (omega arith))
  where
    on_value : (c : Val) → f a ≡ c → (suc a ≤ b → value_in (entries_from_lem n (suc a) f) b ≡ f b) → value_in (entry_if a c (entries_from_lem n (suc a) f)) b ≡ f b
    on_value none e rest =
        by_eq b a (λ q. rw (eqb_yes b a q) (from_says_less n (suc a) f a (omega arith) ∙ sym e)) (λ q. rest (omega (arith, eqb_no b a q)))
    on_value (some x) e rest = by_eq b a (λ q. rw (q, eqb_yes b a q) (sym e)) (λ q. rw q (rest (omega (arith, eqb_no b a q))))

from_says_more : (n a : ℕ) (f : ℕ → Val) (b : ℕ) → a + n ≤ b → value_in (entries_from_lem n a f) b ≡ none
unfolding entries_from_lem
from_says_more zero a f b h = refl
from_says_more (suc n) a f b h = on_value (f a) (from_says_more n (suc a) f b (omega arith))
  where
    on_value : (c : Val) → value_in (entries_from_lem n (suc a) f) b ≡ none → value_in (entry_if a c (entries_from_lem n (suc a) f)) b ≡ none
    on_value none k = k
    on_value (some x) k = by_eq b a (λ e. absurd (omega (arith, eqb_yes b a e))) (λ e. rw e k)

-- below 256 the list says what the function has; so everywhere, if that has nothing from 256 on
pub says_below : (f : ℕ → Val) (a : ℕ) → a < 256 → value_in (entries_of f) a ≡ f a
unfolding entries_of
says_below f a h = from_says 256 0 f a (omega arith) (omega arith)

pub says : (f : ℕ → Val) → Within f → (a : ℕ) → value_in (entries_of f) a ≡ f a
unfolding entries_of
says f w a =
    by_b (ltb a 256) (λ e. says_below f a (ltb_yes a 256 e))
    (λ e. let h : 256 ≤ a = ltb_no a 256 e in from_says_more 256 0 f a (omega arith) ∙ sym (w a h))

-- the entries of one address more: it comes last
pub from_snoc : (n a : ℕ) (f : ℕ → Val) → entries_from_lem (suc n) a f ≡ entries_from_lem n a f ++ entry_if (a + n) (f (a + n)) []
unfolding entries_from_lem
from_snoc zero a f = ap (λ (b : ℕ). entry_if b (f b) []) (omega arith)
from_snoc (suc n) a f =
    ap (entry_if a (f a)) (from_snoc n (suc a) f ∙ ap (λ (b : ℕ). entries_from_lem n (suc a) f ++ entry_if b (f b) []) (omega arith))
    ∙ behind (f a) (entries_from_lem n (suc a) f) (entry_if (a + suc n) (f (a + suc n)) [])
  where
    behind : (v : Val) (es fs : List Entry) → entry_if a v (es ++ fs) ≡ entry_if a v es ++ fs
    behind none es fs = refl
    behind (some x) es fs = refl

from_none : (f : ℕ → Val) → length (entries_from_lem 0 0 f) ≡ 0
unfolding entries_from_lem
from_none f = refl

from_size : (n : ℕ) (f : ℕ → Val) → length (entries_from_lem n 0 f) ≡ size n (λ a. has (f a))
unfolding size
from_size zero f = from_none f
from_size (suc n) f =
    let none_before : 0 + n ≡ n = omega arith in
    rw (from_snoc n 0 f, length-append, from_size n f, none_before) (last (f n))
  where
    last : (v : Val) → size n (λ a. has (f a)) + length (entry_if n v []) ≡ cond (has v) 1 0 + size n (λ a. has (f a))
    last none = omega arith
    last (some x) = omega arith

pub entries_size : (f : ℕ → Val) → length (entries_of f) ≡ size 256 (λ a. has (f a))
unfolding entries_of
entries_size f = from_size 256 f

-- a list says something of no more addresses than it has entries
pub says_few : (l : List Entry) → size 256 (λ a. has (value_in l a)) ≤ length l
says_few [] = omega (arith, size_empty 256 (λ a. false) (λ a. refl))
says_few (e ∷ es) =
    let part = size_part 256 (λ a. has (value_in (e ∷ es) a)) (λ a. has (value_in es a) || eqb a e.address) (λ a l. said a) in
    omega (arith, part, size_joined 256 (λ a. has (value_in es a)) e.address, says_few es)
  where
    said : (a : ℕ) → has (value_in (e ∷ es) a) ≡ true → (has (value_in es a) || eqb a e.address) ≡ true
    said a = by_eq a e.address (λ q. rw q (λ h. or-true (has (value_in es a)))) (λ q. rw q (λ h. rw h))
