use Prim.Native.Nat.{◌≤◌, ◌<◌}
use native.Mathlib.Omega.{arith}
use mathlib.Core.Path.{◌∙◌}
use borrow.Author.Rules.{rules}
use Rattle.cells.proofs.Lowest.{low_lt}
use Rattle.cells.proofs.Each.{each_next, each_last}
use Rattle.station_pages.specs.Pages.{drop_page_b, drop_pages_b}
use Rattle.station_pages.specs.Drops.{drop_each, low_page}
use Rattle.station_pages.proofs.drop_pages.Goals as goal

pub loop-p-init : goal.loop-p-init
loop-p-init c = (search rules, rw (c.into_iter-p-iterator.ensures.into_iter_gives, c.members-p-items.ensures, c.from.ensures) (search rules, drop_each _ _ 32))

pub drop_page-requires : goal.drop_page-requires
drop_page-requires c =
    let x = c.loop-p.invariant.1.0 in
    let taken = c.in-Some.ensures.steps in
    let low = low_page 64 32 _ (omega arith) x taken.0 in
    (search rules, rw (taken.1, low) (low_lt 32 _ x taken.0))

pub loop-p-preserved : goal.loop-p-preserved
loop-p-preserved c =
    let x = c.loop-p.invariant.1.0 in
    let taken = c.in-Some.ensures.steps in
    (search rules, rw taken.2 (each_next drop_page_b 32 _ taken.0 (taken.1 ∙ low_page 64 32 _ (omega arith) x taken.0) c.drop_page.ensures c.loop-p.invariant.1))

pub returns : goal.returns
unfolding drop_pages_b
returns c = let e = each_last drop_page_b 32 _ c.in-None.ensures.steps c.loop-p.invariant.1 in cc
