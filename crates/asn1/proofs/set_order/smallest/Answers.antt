use Rattle.std.proofs.Common.{◌≡◌, true, false, rules}
use Rattle.asn1.proofs.Looking.{smallest_found, none_found}
use Rattle.asn1.proofs.set_order.smallest.Goals as goal

pub returns-then-alternatives : goal.returns-then-alternatives
returns-then-alternatives g c =
    let t : c.expect.new.path.is_found ≡ true = search rules in
    smallest_found c.args.of_tag (g.T.Type.expects g.T.Type.TAG) c.expect.new.path c.expect.ensures t

pub returns-else-alternatives : goal.returns-else-alternatives
returns-else-alternatives g c =
    let t : c.expect.new.path.is_found ≡ false = search rules in
    none_found c.args.of_tag (g.T.Type.expects g.T.Type.TAG) c.expect.new.path c.expect.ensures t
