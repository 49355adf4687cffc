-- The answer is written out: of a header that is put wrongly a search would only say that it broke off.
use Rattle.flexray_writer.proofs.HeaderLaws.{header-put}
use Rattle.flexray_writer.proofs.put_header.Goals as goal

pub returns : goal.returns
returns c =
    let a = c.args in
    header-put c.requires a.n a.ctr a.free c.wide32.ensures.0 c.fill.ensures c.put_field.ensures c.put_field-2.ensures
    c.put_field-3.ensures
