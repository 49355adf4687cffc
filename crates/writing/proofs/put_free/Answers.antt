use Rattle.writing.proofs.PutLaws.{free_put}
use Rattle.writing.proofs.put_free.Goals as goal

pub returns : goal.returns
returns c =
    let a = c.args in
    free_put a.out.now a.at a.n a.free c.requires.few c.if-n-eq0.false
