-- "Prove that this sum equals the value after the stretch minus the one before it."
use Rattle.std.specs.Prelude.{ℕ, zero, suc, ◌-◌, ◌≤◌, ◌<◌, ◌≡◌, refl, Bool, true, false, cond, List, [], ◌∷◌, take, eqb, ltb, pos, ◌+ℤ◌}
use Rattle.std.proofs.Common.{sym, ap, ◌∙◌, arith, le-leb, ltb-true, ltb-false, eqb-true, ne_eqb, eq-eqb}
use Rattle.std.proofs.Math.IntN.{+ℤ_idl}
use Rattle.std.proofs.lemmas.Bool.{lt-leb, eqb-false}
use Rattle.layout.specs.Record.{Entry, Record, Numbered}
use Rattle.layout.specs.Replay.{Values, wrote, left}
use Rattle.signed.specs.Change.{diff, diff_diff, diff_self}
use Rattle.licence_terms.specs.Frames.{changes, within, frames}

-- the changes of one record lead from the value before it to the one behind it
pub changes_lead : (a : ℕ) (es : List Entry) (v : Values) → changes a es v ≡ diff (wrote es v a) (v a)
changes_lead a [] v = sym (diff_self (v a))
changes_lead a (e ∷ es) v = by_test (eqb e.address a) refl (changes_lead a es (wrote (e ∷ []) v))
  where
    by_test : (b : Bool) → eqb e.address a ≡ b → changes a es (wrote (e ∷ []) v) ≡ diff (wrote es (wrote (e ∷ []) v) a) (wrote (e ∷ []) v a)
        → cond b (diff e.value (v a)) (pos 0) +ℤ changes a es (wrote (e ∷ []) v) ≡ diff (wrote es (wrote (e ∷ []) v) a) (v a)
    by_test true q rest =
        let here : wrote (e ∷ []) v a ≡ e.value = rw (eq-eqb a e.address (sym (eqb-true _ _ q))) in
        rw rest (rw here (diff_diff (v a) e.value (wrote es (wrote (e ∷ []) v) a)))
    by_test false q rest =
        let here : wrote (e ∷ []) v a ≡ v a = rw (ne_eqb a e.address (λ z. eqb-false _ _ q (sym z))) in
        +ℤ_idl (changes a es (wrote (e ∷ []) v)) ∙ rest ∙ ap (diff (wrote es (wrote (e ∷ []) v) a)) here

-- where a commit stands to a stretch: ahead of it, in it, or behind it
pub record Places (first last c : ℕ) (P : Type 0) : Type 0 where
  pub ahead : c < first → P
  pub inside : first ≤ c → c ≤ last → P
  pub behind : first ≤ c → last < c → P

pub by_place : (first last c : ℕ) {P : Type 0} → Places first last c P → P
by_place first last c {P} p = by_tests (ltb c first) (ltb last c) refl refl
  where
    by_tests : (x y : Bool) → ltb c first ≡ x → ltb last c ≡ y → P
    by_tests true y ex ey = p.ahead (ltb-true _ _ ex)
    by_tests false true ex ey = p.behind (ltb-false _ _ ex) (ltb-true _ _ ey)
    by_tests false false ex ey = p.inside (ltb-false _ _ ex) (ltb-false _ _ ey)

pub not_yet : (first last : ℕ) (r : Record) → r.commit < first → within first last r ≡ false
not_yet first last r h = rw (lt-leb first r.commit h)

pub is_within : (first last : ℕ) (r : Record) → first ≤ r.commit → r.commit ≤ last → within first last r ≡ true
is_within first last r l h = rw (le-leb first r.commit l, le-leb r.commit last h)

pub no_more : (first last : ℕ) (r : Record) → first ≤ r.commit → last < r.commit → within first last r ≡ false
no_more first last r l h = rw (le-leb first r.commit l, lt-leb r.commit last h)

-- the value of address a behind commit n of an archive whose records are rs, the first of them behind commit c
abbrev pub value_behind : ℕ → ℕ → ℕ → List Record → Values → ℕ
value_behind n c a rs v = left (take (n - c) rs) v a

take_none : (n : ℕ) (rs : List Record) → rs ≡ [] → take n rs ≡ []
take_none zero rs e = refl
take_none (suc n) rs e = rw e

pub frames_lead : (rs : List Record) (a first last c : ℕ) (v : Values) → first ≤ suc last → Numbered c rs
    → frames a first last rs v ≡ diff (value_behind last c a rs v) (value_behind (first - 1) c a rs v)
frames_lead [] a first last c v o n = rw (take_none (last - c) [] refl, take_none (first - 1 - c) [] refl) (sym (diff_self (v a)))
frames_lead (r ∷ rs) a first last c v o n =
    let w = wrote r.writes v in
    let rest = frames_lead rs a first last (suc c) w o n.1 in
    by_place first last r.commit
    (record {
      ahead = λ h.
          let k1 : first - 1 - c ≡ suc (first - 1 - suc c) = omega (arith, n.0) in
          let k2 : last - c ≡ suc (last - suc c) = omega (arith, n.0) in
          rw (not_yet first last r h, k1, k2) (+ℤ_idl (frames a first last rs w) ∙ rest);
      inside = λ l h.
          let k1 : first - 1 - c ≡ 0 = omega (arith, n.0) in
          let k2 : last - c ≡ suc (last - suc c) = omega (arith, n.0) in
          let k3 : first - 1 - suc c ≡ 0 = omega (arith, n.0) in
          rw (is_within first last r l h, k1, k2, changes_lead a r.writes v, rest, k3) (diff_diff (v a) (w a) (left (take (last - suc c) rs) w a));
      behind = λ l h.
          let k1 : first - 1 - c ≡ 0 = omega (arith, n.0) in
          let k2 : last - c ≡ 0 = omega (arith, n.0) in
          let k3 : first - 1 - suc c ≡ 0 = omega (arith, n.0) in
          let k4 : last - suc c ≡ 0 = omega (arith, n.0) in
          rw (no_more first last r l h, k1, k2, rest, k3, k4, diff_self (w a), diff_self (v a));
    })
