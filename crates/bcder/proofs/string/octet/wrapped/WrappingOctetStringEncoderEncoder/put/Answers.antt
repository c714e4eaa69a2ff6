use Rattle.bcder.proofs.Noting.{where_ok, inside_may, inside_read}
use Rattle.bcder.proofs.string.octet.wrapped.WrappingOctetStringEncoderEncoder.put.Goals as goal

pub put_wrapped-requires : goal.put_wrapped-requires
put_wrapped-requires g c =
    let x = c.args.self.now in
    let (size, may) = inside_may (g.V.Values.means x.values x.mode) (g.V.Values.reads x.values x.mode) _ _ _ c.in-Some.ensures c.requires.sized in
    record { can = c.requires.can; known = c.requires.known; size = size; sized = may }

pub returns-in-Some-clause-left : goal.returns-in-Some-clause-left
returns-in-Some-clause-left g c =
    let x = c.args.self.now in
    where_ok c.put_wrapped.result
    (inside_read (g.V.Values.means x.values x.mode) (g.V.Values.reads x.values x.mode) _ _ _ _ c.in-Some.ensures) c.put_wrapped.ensures.left
