-- `station_commit::put_versions` meets its contract. The list has the addresses of the record's entries (`both-listed`).
use native.Mathlib.Omega.{arith}
use mathlib.Core.Path.{ap, ◌∙◌}
use mathlib.Core.List.{List}
use Prim.Native.Nat.{ℕ}
use lib.ListN.{length-take}
use lib.Seq.{sets}
use Rattle.message.specs.Commit.{versions_at}
use Rattle.station_state.specs.Layout.{read_set_from, read_value_from, written_set_from, written_value_from, number, station, kind}
use Rattle.set_record.specs.Filled.{both_listed}
use Rattle.station_commit.specs.Commit.{versions_for}
use Rattle.station_commit.specs.Filled.{listed_sent}
use borrow.Author.Rules.{rules}
use Rattle.station_commit.proofs.put_versions.Goals as goal

pub put_each-requires : goal.put_each-requires
put_each-requires c = let n = listed_sent c.args.s.now _ _ c.list_set-n.ensures.1 c.list_set-k.ensures.1 in (search rules, simp length-take (omega (arith, n)))

pub returns : goal.returns
returns c = let s = c.args.s.now in let en = c.list_set-n.ensures.1 in let ek = c.list_set-k.ensures.1 in let all = both_listed s read_set_from read_value_from written_set_from written_value_from 0 (number s) (station s) (kind s) _ _ en ek _ c.list_set-n.ensures.0 c.list_set-k.ensures.0 (omega arith) in (c.put_each.ensures ∙ ap (λ (l : List ℕ). sets c.args.c.now versions_at (versions_for s l)) all, listed_sent s _ _ en ek)
