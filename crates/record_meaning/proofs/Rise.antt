-- "addresses rise strictly": the test over bytes and the layout's definition say the same.
use Rattle.std.specs.Prelude.{ℕ, zero, suc, ◌+◌, ◌-◌, ◌≤◌, ◌<◌, ◌≡◌, true, List, [], ◌∷◌, ◌++◌, length, take, drop, get_or}
use Rattle.std.proofs.Common.{sym, ◌∙◌, add_assoc, zero-add, le_refl, add-one, arith, length-drop, get_or-take, get_or-drop, take_at, take_all, lt-ltb, ltb-true}
use Rattle.std.proofs.lemmas.List.{take-append-le, drop-append-le}
use Rattle.std.proofs.Math.Seq.{drop-append-add}
use Rattle.lists.specs.Tests.{all_to_at, all_to_of}
use Rattle.lists.specs.Parts.{all_to_same}
use Rattle.layout.specs.Record.{Entry, Rising, addresses}
use Rattle.record.specs.Check.{rise_at, rises}
use Rattle.record_meaning.proofs.LayoutLaws.{length_addresses}

-- the test looks at the n elements from a and at nothing else
rises_same : (s s' : List ℕ) (a a' n : ℕ) → take n (drop a s) ≡ take n (drop a' s') → rises s a n ≡ rises s' a' n
unfolding rises rise_at
rises_same s s' a a' n e =
    let at : (t : List ℕ) (b i : ℕ) → i < n → get_or t (b + i) 0 ≡ get_or (take n (drop b t)) i 0 = λ t b i l. sym (get_or-take n (drop b t) i 0 l ∙ get_or-drop b t i 0) in
    all_to_same (rise_at s a) (rise_at s' a') (n - 1)
    (λ i l.
    let l0 : i < n = omega arith in
    let l1 : i + 1 < n = omega arith in
    rw (add_assoc a i 1, add_assoc a' i 1, at s a i l0, at s a (i + 1) l1, at s' a' i l0, at s' a' (i + 1) l1, e))

-- a list's own test is the test behind any bytes
pub rises_behind : (p l t : List ℕ) (a n b : ℕ) → b ≡ length p + a → a + n ≤ length l → rises (p ++ (l ++ t)) b n ≡ rises l a n
rises_behind p l t a n b eb h =
    let there : n ≤ length (drop a l) = rw length-drop (omega arith) in
    rises_same (p ++ (l ++ t)) l b a n (rw (eb, drop-append-add, drop-append-le a l t (omega arith), take-append-le n (drop a l) t there))

rising_at : (es : List Entry) → Rising es → (i : ℕ) → suc i < length es → get_or (addresses es) i 0 < get_or (addresses es) (suc i) 0
rising_at [] h i l = absurd (omega arith)
rising_at (e ∷ []) h i l = absurd (omega arith)
rising_at (e ∷ f ∷ es) h zero l = h.0
rising_at (e ∷ f ∷ es) h (suc i) l = rising_at (f ∷ es) h.1 i (omega arith)

rising_of : (es : List Entry) → ((i : ℕ) → suc i < length es → get_or (addresses es) i 0 < get_or (addresses es) (suc i) 0) → Rising es
rising_of [] h = tt
rising_of (e ∷ []) h = tt
rising_of (e ∷ f ∷ es) h = (h 0 (omega arith), rising_of (f ∷ es) (λ i l. h (suc i) (omega arith)))

-- entries whose addresses stand at a rise just if the test there passes
rises_there : (es : List Entry) (t s : List ℕ) (a : ℕ) → drop a s ≡ addresses es ++ t → rises s a (length es) ≡ rises (addresses es) 0 (length es)
rises_there es t s a e =
    let l : length (addresses es) ≤ length es = rw length_addresses (le_refl (length es)) in
    rises_same s (addresses es) a 0 (length es) (rw e (take_at (addresses es) t (length es) (length_addresses es) ∙ sym (take_all (length es) (addresses es) l)))

pub rises_of_rising : (es : List Entry) (t s : List ℕ) (a : ℕ) → drop a s ≡ addresses es ++ t → Rising es → rises s a (length es) ≡ true
unfolding rises rise_at
rises_of_rising es t s a e h =
    rises_there es t s a e
    ∙ all_to_of (rise_at (addresses es) 0) (length es - 1) (λ i l. rw (zero-add, add-one) (lt-ltb _ _ (rising_at es h i (omega arith))))

pub rising_of_rises : (es : List Entry) (t s : List ℕ) (a : ℕ) → drop a s ≡ addresses es ++ t → rises s a (length es) ≡ true → Rising es
unfolding rises rise_at
rising_of_rises es t s a e h =
    let test : rises (addresses es) 0 (length es) ≡ true = sym (rises_there es t s a e) ∙ h in
    rising_of es (λ i l. ltb-true _ _ (rw (zero-add, add-one) at (all_to_at (rise_at (addresses es) 0) (length es - 1) test i (omega arith))))
