-- `server_state::fresh` meets its contract. The zeros and the stores are a fresh state by one law (`fresh-stores`).
use Rattle.server_state.specs.Valid.{freshened, fresh_of}
use Rattle.server_state.specs.Stores.{fresh_stores}
use Rattle.server_state.specs.Facts.{kinds_length}
use borrow.Author.Tests.{eq-eqb, ne_eqb}
use mathlib.Core.Path.{ap, sym, ◌∙◌}
use borrow.Author.Rules.{rules}
use Rattle.server_state.proofs.fresh.Goals as goal

pub returns-then-s-ne-LENGTH : goal.returns-then-s-ne-LENGTH
unfolding fresh_of
returns-then-s-ne-LENGTH c = simp (ne_eqb _ _ c.if-s-ne-LENGTH.true)

pub returns-then-not-kinds_ok : goal.returns-then-not-kinds_ok
unfolding fresh_of
returns-then-not-kinds_ok c = simp (eq-eqb _ _ c.if-s-ne-LENGTH.false, sym c.kinds_ok.ensures, c.if-not-kinds_ok.true)

pub put_kinds-requires : goal.put_kinds-requires
put_kinds-requires c = (kinds_length _ (sym c.kinds_ok.ensures ∙ c.if-not-kinds_ok.false), search rules)

pub returns : goal.returns
unfolding fresh_of
returns c = simp (eq-eqb _ _ c.if-s-ne-LENGTH.false, sym c.kinds_ok.ensures, c.if-not-kinds_ok.false) (ap (λ l. freshened l 0) (fresh_stores _ c.args.s.now c.if-s-ne-LENGTH.false (c.fill.ensures.after (λ y e. e)) c.put_u64.ensures c.put_u64-2.ensures c.put_kinds.ensures))
