-- The sum over the records of an archive: it is document 02's, or beyond where a change's end is.
use Rattle.std.specs.Prelude.{ℕ, ◌≤◌, ◌≡◌, refl, Bool, true, false, ◌&&◌, cond, List, [], ◌∷◌, eqb, leb, ltb, ℤ, pos, ◌+ℤ◌}
use Rattle.std.proofs.Common.{sym, ap, ◌∙◌, arith, le-leb, lt-ltb, le-ltb, ltb-true, ltb-false, eqb-true, eq-eqb, ne_eqb}
use Rattle.std.proofs.Math.IntN.{+ℤ_idl, +ℤ_idr, +ℤ_assoc}
use Rattle.std.proofs.lemmas.Bool.{lt-leb, eqb-false}
use Rattle.layout.specs.Record.{Entry, Record, Rising, AllWellFormed}
use Rattle.layout.specs.Replay.{Values, wrote}
use Rattle.totals.specs.Writers.{writes}
use Rattle.totals_meaning.specs.Written.{writes_to}
use Rattle.signed.specs.declared.Change.{Change}
use Rattle.signed.specs.declared.Change.TheVariants.{By, Beyond}
use Rattle.signed.specs.Change.{most, diff, diff_self, change_of, plus}
use Rattle.licence.specs.Frames.{noted_of}
use Rattle.licence_terms.specs.Frames.{changes, changes_fit, within, frames, frames_fit}
use Rattle.licence_meaning.specs.Stretch.{changes_lead, by_place, not_yet, is_within, no_more}
use Rattle.licence_meaning.specs.Sum.{Sum, note_record, sum_through}

-- what the bytes of a record add is what the record adds
pub noted_is : (sum : Change) (t : List ℕ) (commit first last a new old : ℕ) (r : Record) (v : Values) → commit ≡ r.commit → writes t a ≡ writes_to a r.writes
    → new ≡ wrote r.writes v a → old ≡ v a → noted_of sum t commit first last a new old ≡ note_record a first last r v sum
unfolding noted_of
noted_is sum t commit first last a new old r v ec ew en eo =
    by_place first last r.commit
    (record {
      ahead = λ h. rw (ec, lt-ltb r.commit first h, not_yet first last r h);
      inside = λ l h. rw (ec, le-ltb r.commit first l, le-ltb last r.commit h, is_within first last r l h, ew, en, eo);
      behind = λ l h. rw (ec, le-ltb r.commit first l, lt-ltb last r.commit h, no_more first last r l h);
    })

-- addresses that rise: behind an address as high there is no write of this one
none_above : (a : ℕ) (x : Entry) (es : List Entry) → Rising (x ∷ es) → a ≤ x.address → writes_to a es ≡ false
none_above a x [] h l = refl
none_above a x (e ∷ es) h l = let above = h.0 in rw (ne_eqb e.address a (λ q. omega arith)) (none_above a e es h.1 (omega arith))

rising_tail : (x : Entry) (es : List Entry) → Rising (x ∷ es) → Rising es
rising_tail x [] h = tt
rising_tail x (e ∷ es) h = h.1

-- what is not written stays
stays : (a : ℕ) (es : List Entry) (v : Values) → writes_to a es ≡ false → wrote es v a ≡ v a
stays a [] v h = refl
stays a (e ∷ es) v h = by_test (eqb e.address a) refl h (λ g. stays a es (wrote (e ∷ []) v) g)
  where
    by_test : (b : Bool) → eqb e.address a ≡ b → cond b true (writes_to a es) ≡ false → (writes_to a es ≡ false → wrote es (wrote (e ∷ []) v) a ≡ wrote (e ∷ []) v a)
        → wrote es (wrote (e ∷ []) v) a ≡ v a
    by_test true q g rest = let z : ◌≡◌ {A = ℕ} 0 1 = cc in absurd (omega arith)
    by_test false q g rest = rest g ∙ rw (ne_eqb a e.address (λ z. eqb-false _ _ q (sym z)))

and_true : (b : Bool) → b && true ≡ b
and_true true = refl
and_true false = refl

-- a record writes an address once: its change is from the value before the record to the one behind it
fit_is : (a : ℕ) (es : List Entry) (v : Values) → Rising es → changes_fit a es v ≡ cond (writes_to a es) (leb (wrote es v a) most && leb (v a) most) true
fit_is a [] v h = refl
fit_is a (e ∷ es) v h = by_test (eqb e.address a) refl (fit_is a es (wrote (e ∷ []) v) (rising_tail e es h))
  where
    v' : Values
    v' = wrote (e ∷ []) v

    by_test : (b : Bool) → eqb e.address a ≡ b → changes_fit a es (wrote (e ∷ []) v) ≡ cond (writes_to a es) (leb (wrote es (wrote (e ∷ []) v) a) most && leb (wrote (e ∷ []) v a) most) true
        → cond b (leb e.value most && leb (v a) most) true && changes_fit a es (wrote (e ∷ []) v) ≡ cond (cond b true (writes_to a es)) (leb (wrote es (wrote (e ∷ []) v) a) most && leb (v a) most) true
    by_test true q rest =
        let is : e.address ≡ a = eqb-true _ _ q in
        let none : writes_to a es ≡ false = none_above a e es h (omega arith) in
        let here : wrote es v' a ≡ e.value = stays a es v' none ∙ rw (eq-eqb a e.address (sym is)) in
        let good : changes_fit a es v' ≡ true = rest ∙ rw none in
        rw (good, here) (and_true (leb e.value most && leb (v a) most))
    by_test false q rest =
        let same : v' a ≡ v a = rw (ne_eqb a e.address (λ z. eqb-false _ _ q (sym z))) in
        rest ∙ rw same

-- where a change is beyond, so is the sum
beyond_stays : (rs : List Record) (a first last : ℕ) (v : Values) → sum_through a first last rs v Beyond ≡ Beyond
beyond_stays [] a first last v = refl
beyond_stays (r ∷ rs) a first last v = by_tests (within first last r) (writes_to a r.writes) (beyond_stays rs a first last (wrote r.writes v))
  where
    by_tests : (b c : Bool) → sum_through a first last rs (wrote r.writes v) Beyond ≡ Beyond
        → sum_through a first last rs (wrote r.writes v) (cond b (cond c (plus Beyond (change_of (wrote r.writes v a) (v a))) Beyond) Beyond) ≡ Beyond
    by_tests true true h = h
    by_tests true false h = h
    by_tests false c h = h

-- a record that adds nothing, and one that adds a change
more_of : (f g : Bool) (s d x : ℤ) → f ≡ true → cond g (By ((s +ℤ d) +ℤ x)) Beyond ≡ cond (f && g) (By (s +ℤ (d +ℤ x))) Beyond
more_of f g s d x e = rw (e, +ℤ_assoc s d x)

pub sums : (rs : List Record) (a first last : ℕ) (v : Values) (s : ℤ) → AllWellFormed rs → sum_through a first last rs v (By s) ≡ Sum a first last rs v s
unfolding change_of
sums [] a first last v s w = ap By (sym (+ℤ_idr s))
sums (r ∷ rs) a first last v s w = by_tests (within first last r) (writes_to a r.writes) refl (λ z. sums rs a first last v' z w.1)
  where
    v' : Values
    v' = wrote r.writes v

    new : ℕ
    new = wrote r.writes v a

    Next : Type 0
    Next = (z : ℤ) → sum_through a first last rs (wrote r.writes v) (By z) ≡ Sum a first last rs (wrote r.writes v) z

    nothing : Next → (f : Bool) (d : ℤ) → f ≡ true → d ≡ pos 0
        → sum_through a first last rs (wrote r.writes v) (By s) ≡ cond (f && frames_fit a first last rs (wrote r.writes v)) (By (s +ℤ (d +ℤ frames a first last rs (wrote r.writes v)))) Beyond
    nothing next f d ef ed = next s ∙ rw (ef, ed, +ℤ_idl (frames a first last rs v'))

    on_change : Next → (x y : Bool) → ltb most (wrote r.writes v a) ≡ x → ltb most (v a) ≡ y
        → sum_through a first last rs (wrote r.writes v) (plus (By s) (cond x Beyond (cond y Beyond (By (diff (wrote r.writes v a) (v a))))))
        ≡ cond ((leb (wrote r.writes v a) most && leb (v a) most) && frames_fit a first last rs (wrote r.writes v)) (By (s +ℤ (diff (wrote r.writes v a) (v a) +ℤ frames a first last rs (wrote r.writes v)))) Beyond
    on_change next true y ex ey = beyond_stays rs a first last v' ∙ rw (lt-leb new most (ltb-true _ _ ex))
    on_change next false true ex ey = beyond_stays rs a first last v' ∙ rw (le-leb new most (ltb-false _ _ ex), lt-leb (v a) most (ltb-true _ _ ey))
    on_change next false false ex ey =
        next (s +ℤ diff new (v a)) ∙ more_of (leb new most && leb (v a) most) (frames_fit a first last rs v') s (diff new (v a)) (frames a first last rs v') (rw (le-leb new most (ltb-false _ _ ex), le-leb (v a) most (ltb-false _ _ ey)))

    by_tests : (b c : Bool) → writes_to a r.writes ≡ c → Next
        → sum_through a first last rs (wrote r.writes v) (cond b (cond c (plus (By s) (change_of (wrote r.writes v a) (v a))) (By s)) (By s))
        ≡ cond (cond b (changes_fit a r.writes v) true && frames_fit a first last rs (wrote r.writes v)) (By (s +ℤ (cond b (changes a r.writes v) (pos 0) +ℤ frames a first last rs (wrote r.writes v)))) Beyond
    by_tests false c ec next = nothing next true (pos 0) refl refl
    by_tests true false ec next =
        let same : new ≡ v a = stays a r.writes v ec in
        let none : changes a r.writes v ≡ pos 0 = changes_lead a r.writes v ∙ ap (λ (n : ℕ). diff n (v a)) same ∙ diff_self (v a) in
        nothing next (changes_fit a r.writes v) (changes a r.writes v) (fit_is a r.writes v w.0.writes_rise ∙ rw ec) none
    by_tests true true ec next =
        let fit : changes_fit a r.writes v ≡ leb new most && leb (v a) most = fit_is a r.writes v w.0.writes_rise ∙ rw ec in
        rw (fit, changes_lead a r.writes v) (on_change next (ltb most new) (ltb most (v a)) refl refl)
