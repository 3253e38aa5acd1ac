use Prim.Native.Nat.{◌+◌, ◌<◌}
use mathlib.Core.Path.{ap, ◌∙◌}
use native.Mathlib.Omega.{arith}
use borrow.Author.Rules.{rules}
use Rattle.cells.proofs.Lowest.{low_lt}
use Rattle.set_record.specs.Spans.{scan_first, scan_next, scan_room, scan_last}
use Rattle.set_record.proofs.list_group.Goals as goal

pub loop-k-init : goal.loop-k-init
loop-k-init c = (search rules, rw (c.into_iter-k-iterator.ensures.into_iter_gives, c.members-k-items.ensures) (scan_first _ _ _ _ _ (λ k. (c.shared_slice_known-1.given k).fits) c.requires.2 c.get_u64.ensures))

pub put_u8-requires : goal.put_u8-requires
put_u8-requires c = let room = scan_room _ _ _ _ _ c.in-Some.ensures.steps.0 c.loop-k.invariant.1 in search rules

pub overflow_add-j : goal.overflow_add-j
overflow_add-j c = let room = scan_room _ _ _ _ _ c.in-Some.ensures.steps.0 c.loop-k.invariant.1 in search rules

pub loop-k-preserved : goal.loop-k-preserved
loop-k-preserved c = let taken = c.in-Some.ensures.steps in (search rules, rw taken.2 (scan_next _ _ _ _ _ taken.0 c.loop-k.invariant.1 (ap (◌+◌ _) taken.1) c.put_u8.ensures))

pub returns : goal.returns
returns c = scan_last _ _ _ _ _ c.in-None.ensures.steps c.loop-k.invariant.1
