use Rattle.std.proofs.Common.{ap, Err, inl}
use Rattle.bcder.specs.x690.OctetString.{octet_string_tag}
use Rattle.bcder.proofs.Noting.{one_size, noted_read}
use Rattle.bcder.proofs.Writing.{same_answer, lacks_more, lacked}
use Rattle.bcder.proofs.Wrapping.{wrapped_inside}
use Rattle.bcder.proofs.string.octet.wrapped.put_measured.Goals as goal

pub put_wrapped-requires : goal.put_wrapped-requires
put_wrapped-requires g c =
    let wrapped = c.args.wrapped.now in
    let (e, inside, is) = c.in-Ok.ensures.sized in
    record {
      can = c.requires.can;
      known = c.requires.known;
      size = one_size (g.met.V.Values.lawful wrapped.values wrapped.mode c.requires.can).one _ e inside is;
      sized = noted_read _ _ c.new-sizes.ensures c.in-Ok.ensures.noted _ c.left.ensures;
    }

pub returns-in-Err : goal.returns-in-Err
returns-in-Err g c = λ x meant.
    let wrapped = c.args.wrapped.now in
    let inner = (g.met.V.Values.lawful wrapped.values wrapped.mode c.requires.can).one in
    let inside = wrapped_inside octet_string_tag c.args.mode _ x meant in
    same_answer (ap Err c.store_refusal.ensures) (lacks_more _ inl (lacked _ inner.same inside.0 x.octets inside.1 c.in-Err.ensures.sized))
