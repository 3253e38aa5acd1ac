-- Document 02, wish 10: "a kept lock making edges only for objects that 8 names". Of every server, whether a run reaches it or not.
use Rattle.std.specs.Prelude.{◌≡◌, refl, Bool, true, false, not, ◌&&◌, ◌||◌, cond, ℕ, suc, eqb, ltb}
use Rattle.std.proofs.Common.{sym, ◌∙◌, arith}
use Rattle.std.proofs.lemmas.Bool.{false≢true}
use Rattle.sets.specs.Base.{any}
use Rattle.sets.specs.Laws.{by_b, or_yes}
use Rattle.sets.proofs.Laws.{eqb_yes, and_l, and_r, any_some}
use Rattle.line.specs.Messages.{page_of}
use Rattle.line.specs.Server.{Server, Serving, set_wl, waits, wants, earlier, blocks, edge, notice, meet, heeded, heed, loosen}
use Rattle.progress.specs.Edges.{edge_busy, edge_blocks}

-- whatever is locked whole, and by whom: the edges are the same
pub whole_makes_none : (s : Server) (w : ℕ → ℕ) (i j : ℕ) → edge (set_wl s w) i j ≡ edge s i j
whole_makes_none s w i j = refl

-- what station i wants of page p is in a set
pub record NamedBy (s : Server) (p : ℕ) (set : ℕ → Bool) (i : ℕ) : Type 0 where
  pub object : ℕ
  pub wanted : wants s i object ≡ true
  pub on_page_lem : eqb (page_of object) p ≡ true
  pub in_set : set object ≡ true

-- the edges that an 8 brings lead to its station
pub record Brought (s : Server) (h p : ℕ) (set : ℕ → Bool) (i j : ℕ) : Type 0 where
  pub holder : j ≡ h
  pub named : NamedBy s p set i

loosened : (h p : ℕ) (set : ℕ → Bool) (x : Serving) (i j : ℕ) → edge (loosen h p set x).server i j ≡ true → edge x.server i j ≡ false → Brought x.server h p set i j
unfolding loosen
loosened h p set x i j e n =
    let s : Server = x.server in
    let ol : ℕ → ℕ = λ a. cond (eqb (page_of a) p && set a) (suc h) (s.ol a) in
    let before : ℕ → Bool = λ a. earlier s j i && wants s j a && ((s.queue j).writes a || (s.queue i).writes a) in
    let blocked : ℕ → Bool = λ a. (eqb (ol a) (suc j) && not (eqb j i)) || before a in
    let w : waits s i ≡ true = and_l (waits s i) _ e in
    let new : edge s i j ≡ true → Brought s h p set i j = λ o. absurd (false≢true (sym n ∙ o)) in
    or_yes ((s.queue i).busy j) (any 256 (λ a. wants s i a && blocked a)) (and_r (waits s i) _ e) (λ b. new (edge_busy s i j w b))
    (λ u.
    let z = any_some 256 (λ a. wants s i a && blocked a) u in
    let a : ℕ = z.0 in
    let v : wants s i a ≡ true = and_l (wants s i a) _ z.2 in
    let k : blocked a ≡ true = and_r (wants s i a) _ z.2 in
    let stood : blocks s i a j ≡ true → Brought s h p set i j = λ o. new (edge_blocks s i j a z.1 w v o) in
    by_b (eqb (page_of a) p && set a)
    (λ c.
    or_yes (eqb (ol a) (suc j) && not (eqb j i)) (before a) k
    (λ l.
    let q : suc h ≡ suc j = eqb_yes (suc h) (suc j) (rw c at (and_l (eqb (ol a) (suc j)) _ l)) in
    record {
      holder = omega (arith, q);
      named = record { object = a; wanted = v; on_page_lem = and_l (eqb (page_of a) p) (set a) c; in_set = and_r (eqb (page_of a) p) (set a) c };
    })
    (λ l. stood (by_b (eqb (s.ol a) (suc j) && not (eqb j i)) (λ y. rw y refl) (λ y. rw y l))))
    (λ c. stood (rw c at k)))

met_edges : (h t : ℕ) (x : Serving) (i j : ℕ) → edge (meet h t x).server i j ≡ edge x.server i j
unfolding meet notice
met_edges h t x i j = by_b (ltb (x.server.latest h) t) (λ a. rw a (by_b (eqb t (x.server.latest h)) (λ b. rw b refl) (λ b. rw b refl))) (λ a. rw a refl)

met_wants : (h t : ℕ) (x : Serving) (i a : ℕ) → wants (meet h t x).server i a ≡ wants x.server i a
unfolding meet notice
met_wants h t x i a = by_b (ltb (x.server.latest h) t) (λ c. rw c (by_b (eqb t (x.server.latest h)) (λ b. rw b refl) (λ b. rw b refl))) (λ c. rw c refl)

-- an edge that an 8 brings leads to the station that sent it, and is made by an object that the 8 names
pub named_edges : (h p t : ℕ) (set : ℕ → Bool) (x : Serving) (i j : ℕ) → edge (heed h p t set x).server i j ≡ true → edge x.server i j ≡ false → Brought x.server h p set i j
unfolding heed
named_edges h p t set x i j e n =
    let y : Serving = meet h t x in
    let b : Brought y.server h p (heeded y.server h t set) i j = loosened h p (heeded y.server h t set) y i j e (met_edges h t x i j ∙ n) in
    let m = b.named in
    record {
      holder = b.holder;
      named =
          record {
            object = m.object;
            wanted = sym (met_wants h t x i m.object) ∙ m.wanted;
            on_page_lem = m.on_page_lem;
            in_set = and_r (not (y.server.fin h) && eqb t (y.server.latest h)) _ m.in_set;
          };
    }
