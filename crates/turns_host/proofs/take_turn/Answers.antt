-- `turns_host::take_turn` meets its contract.
use Rattle.std.proofs.Common.{refl, arith}
use Rattle.turns_host.specs.Laws.{not_eight, refused_told, line_below, room, given_done}
use Rattle.turns_host.proofs.take_turn.Goals as goal

pub returns-then-lines-ne-LINES : goal.returns-then-lines-ne-LINES
returns-then-lines-ne-LINES c = λ i. not_eight _ i c.if-lines-ne-LINES.true

pub returns-in_err-choice : goal.returns-in_err-choice
returns-in_err-choice c =
    let e = rw (c.shares.ensures, c.counts.ensures, c.marks.ensures) at c.in_err-choice.ensures in
    refused_told c.args.lines.now _ c.if-lines-ne-LINES.false e c.in_err-choice.field-0.0 _ refl c.from_residual.ensures.1

pub offset_bounds-lines-i : goal.offset_bounds-lines-i
offset_bounds-lines-i c =
    let e = rw (c.shares.ensures, c.counts.ensures, c.marks.ensures) at c.in_ok-choice.ensures in
    omega (arith, line_below c.args.lines.now _ c.if-lines-ne-LINES.false e refl)

pub bounds-lines-i : goal.bounds-lines-i
bounds-lines-i c =
    let e = rw (c.shares.ensures, c.counts.ensures, c.marks.ensures) at c.in_ok-choice.ensures in
    omega (arith, line_below c.args.lines.now _ c.if-lines-ne-LINES.false e refl)

pub overflow_add-lines : goal.overflow_add-lines
overflow_add-lines c =
    let e = rw (c.shares.ensures, c.counts.ensures, c.marks.ensures) at c.in_ok-choice.ensures in
    rw c.open_round.ensures (record { fits = room c.args.lines.now _ c.if-lines-ne-LINES.false e refl })

pub bounds-lines-i-2 : goal.bounds-lines-i-2
bounds-lines-i-2 c =
    let e = rw (c.shares.ensures, c.counts.ensures, c.marks.ensures) at c.in_ok-choice.ensures in
    omega (arith, line_below c.args.lines.now _ c.if-lines-ne-LINES.false e refl)

pub returns : goal.returns
returns c =
    let e = rw (c.shares.ensures, c.counts.ensures, c.marks.ensures) at c.in_ok-choice.ensures in
    rw c.open_round.ensures (given_done c.args.lines.now _ c.if-lines-ne-LINES.false e refl)
