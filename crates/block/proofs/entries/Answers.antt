-- Each turn reads an entry.
use Rattle.description.proofs.TurnLaws.{gives_on}
use Rattle.block.proofs.BlockLaws.{entry_enterable, entry-on, entry-wrong, entries-end, word-on}
use Rattle.block.proofs.entries.Goals as goal

pub read_entry-requires : goal.read_entry-requires
read_entry-requires c =
    let s = rw c.in-Begin.is at c.in_ok-sign.ensures in
    entry_enterable c.loop-sign.invariant s.0 s.1

pub returns-in_err-g-in-Begin : goal.returns-in_err-g-in-Begin
returns-in_err-g-in-Begin c =
    let s = rw c.in-Begin.is at c.in_ok-sign.ensures in
    rw (gives_on c.from_residual-in_err-g-in-Begin.result c.from_residual-in_err-g-in-Begin.ensures)
    (entry-wrong c.loop-sign.invariant s.0 s.1 c.in_err-g-in-Begin.ensures)

pub loop-sign-preserved-in-Begin : goal.loop-sign-preserved-in-Begin
loop-sign-preserved-in-Begin c =
    let s = rw c.in-Begin.is at c.in_ok-sign.ensures in
    entry-on c.loop-sign.invariant s.0 s.1 c.in_ok-g-in-Begin.ensures

pub returns-in-End : goal.returns-in-End
returns-in-End c =
    let s = rw c.in-End.is at c.in_ok-sign.ensures in
    entries-end c.loop-sign.invariant s.0 s.1 c.end.ensures

pub loop-sign-preserved : goal.loop-sign-preserved
loop-sign-preserved c =
    let s = rw c.in-Other.is at c.in_ok-sign.ensures in
    word-on c.loop-sign.invariant s.0 s.1
