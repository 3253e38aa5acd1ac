-- `station_commit::put_commit` meets its contract. Each call is a run of stores, and `commit-filled` joins them.
use mathlib.Core.Path.{sym, ◌∙◌}
use native.Mathlib.Omega.{arith}
use Rattle.station_commit.specs.Filled.{commit_filled_lem, commit_parts, record_fits}
use borrow.Author.Rules.{rules}
use Rattle.station_commit.proofs.put_commit.Goals as goal

pub put_up-requires : goal.put_up-requires
put_up-requires c = let front = commit_parts c.args.s.now _ c.requires.1 in omega (arith, front)

pub put_versions-k-requires : goal.put_versions-k-requires
put_versions-k-requires c = let front = commit_parts c.args.s.now _ c.requires.1 in (search rules, omega (arith, front))

pub overflow_mul-at : goal.overflow_mul-at
overflow_mul-at c = let front = commit_parts c.args.s.now _ c.requires.1 in omega (arith, front, c.put_versions-k.ensures.1)

pub overflow_add-at : goal.overflow_add-at
overflow_add-at c = let front = commit_parts c.args.s.now _ c.requires.1 in omega (arith, front, c.put_versions-k.ensures.1)

pub put_record-requires : goal.put_record-requires
put_record-requires c = let fits = record_fits _ _ c.number-t.ensures (c.from-station.ensures ∙ c.station-2.ensures) (c.from-kind.ensures ∙ c.kind.ensures) c.put_versions-k.ensures.1 c.requires.1 in (search rules, search rules, search rules, search rules, omega (arith, fits), search rules, search rules)

pub overflow_add-result : goal.overflow_add-result
overflow_add-result c = let front = commit_parts c.args.s.now _ c.requires.1 in omega (arith, front, c.put_versions-k.ensures.1)

pub returns : goal.returns
returns c = commit_filled_lem _ _ c.number-t.ensures c.used_pages.ensures (c.from-station.ensures ∙ c.station-2.ensures) (c.from-kind.ensures ∙ c.kind.ensures) (rw (sym c.station.ensures) c.put_up.ensures) c.put_versions-k.ensures c.put_record.ensures.0
