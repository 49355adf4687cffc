-- Behind its name.
use Rattle.entries.proofs.EntryLaws.{entry}
use Rattle.entries.proofs.read_entry.Goals as goal

pub returns : goal.returns
returns c = entry c.in_ok-name.ensures c.enter.result c.enter.ensures
