-- What an edge is: to a station that sent 6, to a lock's holder, to an earlier waiter. None runs from a station to itself.
use Rattle.std.specs.Prelude.{◌≡◌, refl, Bool, true, false, not, ◌&&◌, ◌||◌, ℕ, suc, ◌<◌, eqb, ltb}
use Rattle.std.proofs.Common.{arith}
use Rattle.sets.specs.Base.{any}
use Rattle.sets.specs.Laws.{by_b, by_eq, or_yes}
use Rattle.sets.proofs.Laws.{eqb_yes, ltb_yes, and_l, and_r, and_both, not_yes, any_yes, any_some}
use Rattle.line.specs.Server.{Server, waits, wants, earlier, blocks, edge}

module _ (s : Server) (i j : ℕ) where
  pub edge_busy : waits s i ≡ true → (s.queue i).busy j ≡ true → edge s i j ≡ true
  edge_busy t b = rw (t, b) refl

  pub edge_blocks : (a : ℕ) → a < 256 → waits s i ≡ true → wants s i a ≡ true → blocks s i a j ≡ true → edge s i j ≡ true
  edge_blocks a b t w k =
      let z : any 256 (λ c. wants s i c && blocks s i c j) ≡ true = any_yes 256 (λ c. wants s i c && blocks s i c j) a b (and_both (wants s i a) (blocks s i a j) w k) in
      by_b ((s.queue i).busy j) (λ e. rw (t, e) refl) (λ e. rw (t, e) z)

  pub edge_waits : edge s i j ≡ true → waits s i ≡ true
  edge_waits e = and_l (waits s i) _ e

  -- the three
  pub edge_is : {G : Type 0} → edge s i j ≡ true → ((s.queue i).busy j ≡ true → G) → ((a : ℕ) → s.ol a ≡ suc j → eqb j i ≡ false → G) → (earlier s j i ≡ true → G) → G
  edge_is e b o f =
      or_yes ((s.queue i).busy j) (any 256 (λ a. wants s i a && blocks s i a j)) (and_r (waits s i) _ e) b
      (λ u.
      let z = any_some 256 (λ a. wants s i a && blocks s i a j) u in
      let a : ℕ = z.0 in
      let lock : Bool = eqb (s.ol a) (suc j) && not (eqb j i) in
      or_yes lock (earlier s j i && wants s j a && ((s.queue j).writes a || (s.queue i).writes a)) (and_r (wants s i a) _ z.2)
      (λ l. o a (eqb_yes (s.ol a) (suc j) (and_l (eqb (s.ol a) (suc j)) _ l)) (not_yes (eqb j i) (and_r (eqb (s.ol a) (suc j)) _ l)))
      (λ l. f (and_l (earlier s j i) _ (and_l (earlier s j i && wants s j a) _ l))))

  pub no_self : ((s.queue i).busy j ≡ true → eqb j i ≡ false) → edge s i j ≡ true → eqb j i ≡ false
  no_self b e = edge_is e b (λ a o n. n) (λ f. before (and_r (waits s j) _ f))
    where
      before : ltb (s.queue j).arrival (s.queue i).arrival ≡ true → eqb j i ≡ false
      before f =
          by_eq j i
          (λ n.
          let z : ltb (s.queue i).arrival (s.queue i).arrival ≡ true = rw (eqb_yes j i n) at f in
          absurd (omega (arith, ltb_yes (s.queue i).arrival (s.queue i).arrival z)))
          (λ n. n)
