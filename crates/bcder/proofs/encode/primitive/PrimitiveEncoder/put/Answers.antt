use Rattle.std.proofs.Common.{length, ap, sym, arith, Err}
use Rattle.bcder.specs.calls.Meaning.{Encoded}
use Rattle.bcder.proofs.Enclosing.{contents_of}
use Rattle.bcder.proofs.Writing.{same_ok, same_octets, same_answer, lacked}
use Rattle.bcder.proofs.encode.primitive.PrimitiveEncoder.put.Goals as goal

pub returns-in-Err-clause-written : goal.returns-in-Err-clause-written
returns-in-Err-clause-written g c = λ _ e meant.
    let one = (g.met.P.PrimitiveContent.lawful c.args.self.now.prim c.args.mode).one in
    let inside = contents_of c.args.self.now.tag _ e meant in
    same_answer (ap Err c.store_refusal.ensures) (lacked _ one.same inside.octets e.octets inside.meant c.in-Err.ensures)

pub write_value-requires : goal.write_value-requires
write_value-requires g c =
    let one = (g.met.P.PrimitiveContent.lawful c.args.self.now.prim c.args.mode).one in
    let inside = contents_of c.args.self.now.tag _ c.requires.known.0 c.requires.known.1 in
    let (w, meant, len_is) = c.in-Ok.ensures in
    let same = ap length (same_ok _ one.same w inside.octets meant inside.meant) in
    record { contents = (w, meant, len_is); fits = omega (arith, len_is, same, inside.fits) }

pub returns-in-Ok-clause-written : goal.returns-in-Ok-clause-written
returns-in-Ok-clause-written g c = λ _ e meant.
    let one = (g.met.P.PrimitiveContent.lawful c.args.self.now.prim c.args.mode).one in
    let inside = contents_of c.args.self.now.tag _ e meant in
    same_octets (ap (λ (e : Encoded). e.octets) (sym inside.is)) (c.write_value.ensures one inside.octets inside.meant)
