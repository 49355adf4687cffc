use Rattle.writing.proofs.PutLaws.{messages}
use Rattle.writing.proofs.put_message.Goals as goal

pub returns : goal.returns
returns c = search messages
