-- `station_state::fresh` meets its contract. The zeros and the two stores are a fresh state by one law (`fresh-stores`).
use Rattle.std.proofs.Common.{◌≡◌, ◌≤◌, ap, length, replicate, rules}
use Rattle.kinds.specs.Kinds.{most_kind}
use Rattle.std.proofs.lemmas.Grind.{common_steps}
use native.Mathlib.Omega.{arith}
use Rattle.station_state.specs.Valid.{freshened, fresh_of}
use Rattle.station_state.specs.Stores.{fresh_stores}
use borrow.Author.Tests.{eq-eqb, le-leb}
use Rattle.station_state.proofs.fresh.Goals as goal

pub returns : goal.returns
unfolding fresh_of
returns c =
    let z : c.fill.new.self ≡ replicate (length c.args.s.now) 0 = search rules in
    let st : c.args.station ≤ 7 = grind (arith, common_steps) in
    let k : c.args.kind ≤ most_kind = grind (arith, common_steps) in
    simp (eq-eqb _ _ c.if-s-ne-LENGTH.false, le-leb _ _ st, le-leb _ _ k) (ap (λ l. freshened l 0) (fresh_stores _ _ c.args.s.now c.if-s-ne-LENGTH.false z c.put_u8.ensures c.put_u8-2.ensures))
