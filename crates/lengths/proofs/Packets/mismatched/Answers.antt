use Rattle.std.proofs.Common.{◌≡◌, length, arith, rules}
use Rattle.std.specs.List.{sum as total}
use borrow.Author.Tests.{le-ltb}
use Rattle.packet.specs.Limit.{most_lengths}
use Rattle.packet.specs.Packets.{mismatched}
use Rattle.lengths.proofs.LengthsLaws.{total_is}
use Rattle.lengths.proofs.Packets.mismatched.Goals as goal

pub returns : goal.returns
unfolding mismatched
returns c =
    let ns = c.args.self.lengths.now in
    let t : c.sum-total.result ≡ total ns = search rules in
    rw (t, total_is ns, le-ltb most_lengths (length ns) (omega arith))
