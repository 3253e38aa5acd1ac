-- `block_writer::write` meets its contract.
use native.Mathlib.Omega.{arith}
use borrow.Author.Tests.{lt-ltb, le-ltb}
use mathlib.Core.Path.{◌≡◌, sym, ap}
use Rattle.record.specs.Write.{written}
use Rattle.block_writer.specs.Write.{Scanned, scan_of, block_write_of}
use Rattle.block_writer.specs.Facts.{whole, few_entries}
use Rattle.refusals.specs.Laws.{not_accepted, passed_on}
use Rattle.block_writer.proofs.write.Goals as goal

pub returns-then-out-records : goal.returns-then-out-records
unfolding block_write_of
returns-then-out-records c = simp (lt-ltb _ _ c.if-out-records.true)

pub returns-in_err-found : goal.returns-in_err-found
unfolding block_write_of
returns-in_err-found c =
    let why = c.in_err-found.field-0.0 in
    simp (le-ltb _ _ c.if-out-records.false, sym c.in_err-found.ensures, not_accepted why) (ap (written c.args.out.now) (passed_on _ why c.from_residual.ensures.1))

pub put_block-requires : goal.put_block-requires
put_block-requires c =
    let g = c.args in
    let e = c.in_ok-found.ensures in
    let n : 0 ≡ (scan_of g.records.now).number = ap (λ (x : Scanned). x.number) e in
    let w = (whole g.records.now (sym n)).1 in
    let f = few_entries g.records.now _ w.each in
    let d : c.in_ok-found.found.records ≡ (scan_of g.records.now).count = ap (λ (x : Scanned). x.count) e in
    let t : c.in_ok-found.found.entries ≡ (scan_of g.records.now).total = ap (λ (x : Scanned). x.total) e in
    rw (d, t) (omega (arith, w.at_most), w.ends, w.total_is, omega (arith, w.at_most, w.total_is), omega arith)

pub returns : goal.returns
unfolding block_write_of
returns c =
    let e = c.in_ok-found.ensures in
    simp (le-ltb _ _ c.if-out-records.false, sym e) (ap (λ o. written o 0) c.put_block.ensures)
