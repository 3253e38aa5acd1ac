-- What number 4 lets pass at a station names what number 4 asks for, in the model's words.
use Rattle.std.specs.Prelude.{ℕ, ◌≡◌, List}
use Rattle.std.proofs.Common.{sym, arith, ne_eqb}
use Rattle.line.specs.Fit.{DownNames}
use Rattle.message.specs.Layout.{kind_of, requester_of}
use Rattle.message.specs.Number.{down_number}
use Rattle.message.specs.Accepted.{DownAccepted, down_accepted}
use Rattle.message_meaning.specs.Meant.{page_at, down_of}
use Rattle.message_meaning.proofs.KindsLaws.{down_16, down_17, down_18, down_19, down_20, down_21, down_22, down_23}
use Rattle.call_meaning.specs.Delivery.{by_kind}

pub down_names : (i : ℕ) (x : List ℕ) → down_number i x ≡ 0 → DownNames i (down_of x)
unfolding page_at
down_names i x n =
    let a : DownAccepted i x = down_accepted i x n in
    by_kind (kind_of x) a.kind_from_lem a.kind_to
    (λ e. let f = a.page (omega arith) in rw (down_16 x e) (omega (arith, f.page_is, f.object_is), f.transaction_not_0, tt))
    (λ e.
    let f = a.page (omega arith) in
    let first = a.grant (omega arith) (omega arith) in
    rw (down_17 x e) (omega (arith, f.page_is, f.object_is), f.transaction_not_0, omega (arith, first)))
    (λ e.
    let f = a.page (omega arith) in
    let first = a.grant (omega arith) (omega arith) in
    rw (down_18 x e) (omega (arith, f.page_is, f.object_is), f.transaction_not_0, omega (arith, first)))
    (λ e. let f = a.deescalate e in rw (down_19 x e) (f.page_is, f.transaction_not_0))
    (λ e. let f = a.callback e in rw (down_20 x e) (ne_eqb i (requester_of x) (λ z. f.requester_other (sym z)), f.transaction_not_0))
    (λ e. rw (down_21 x e) (a.committed e).transaction_not_0)
    (λ e. rw (down_22 x e) (a.aborted e).transaction_not_0)
    (λ e. rw (down_23 x e) tt)
