-- `arguments::same` meets its contract.
use Rattle.std.proofs.Common.{◌≡◌, refl, sym, ◌∙◌, Bool, true, false, subst}
use lib.Pointwise.{bytes_decides}
use Rattle.arguments.specs.Words.{same_word, same_means, same_self}
use Rattle.arguments.proofs.same.Goals as goal

-- tests that are true of the same are the same
alike : (p q : Bool) → (p ≡ true → q ≡ true) → (q ≡ true → p ≡ true) → p ≡ q
alike true q f g = sym (f refl)
alike false true f g = g refl
alike false false f g = refl

pub returns : goal.returns
returns c =
    let a = c.args.a.now in
    let b = c.args.b.now in
    let d = bytes_decides a b in
    c.eq.ensures ∙ alike _ _ (λ h. subst (λ t. same_word a t ≡ true) (d.0 h) (same_self a)) (λ h. d.1 (same_means a b h))
