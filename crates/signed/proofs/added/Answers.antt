-- `signed::added` meets its contract.
use Rattle.std.proofs.Common.{◌≡◌, ◌+ℤ◌, SFits, to_z, of_z, sym, subst, ◌∙◌}
use Rattle.std.specs.Int.{w64}
use Rattle.std.proofs.lemmas.Int.{to_z-of_z}
use Rattle.signed.specs.Change.{Led}
use Rattle.signed.specs.Bounds.{change_small, diff_fits, led_fits, sum_fits}
use Rattle.signed.proofs.added.Goals as goal

pub joined-requires : goal.joined-requires
joined-requires c =
    let m = change_small c.args.new c.args.old c.in-By-d.x (sym c.in-By-d.is ∙ c.between-d.ensures) in
    let l : Led c.in-By.s c.args.old = rw c.in-By.is at c.requires in
    let es : to_z w64 (of_z w64 c.in-By.s) ≡ c.in-By.s = to_z-of_z w64 c.in-By.s (led_fits _ _ l m.old_small) in
    let fx : SFits w64 c.in-By-d.x = subst (SFits w64) (sym m.is) (diff_fits c.args.new c.args.old m.new_small m.old_small) in
    let ex : to_z w64 (of_z w64 c.in-By-d.x) ≡ c.in-By-d.x = to_z-of_z w64 c.in-By-d.x fx in
    subst (SFits w64) (λ i. sym es i +ℤ sym ex i) (sum_fits _ _ _ _ _ _ c.requires c.in-By.is c.in-By-d.is c.between-d.ensures)
