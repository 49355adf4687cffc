use Rattle.spelling.proofs.TextLaws.{word-put}
use Rattle.spelling.proofs.Page.word.Goals as goal

pub returns : goal.returns
returns c = record { same = c.bytes.ensures.same; puts = word-put c.args.n c.args.behind c.spell-k.ensures c.bytes.ensures.puts }
