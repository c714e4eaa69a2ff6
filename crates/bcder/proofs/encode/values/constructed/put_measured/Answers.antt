use Rattle.std.proofs.Common.{ap, sym, ◌∙◌, Err}
use Rattle.bcder.specs.x690.Octets.{fits_length, constructed_length}
use Rattle.bcder.specs.calls.Meaning.{Encoded}
use Rattle.bcder.proofs.Enclosing.{inside_of, length_fits}
use Rattle.bcder.proofs.Noting.{one_size, noted_read}
use Rattle.bcder.proofs.Writing.{same_octets, same_answer, lacked}
use Rattle.bcder.proofs.encode.values.constructed.put_measured.Goals as goal

pub returns-in-Err : goal.returns-in-Err
returns-in-Err g c = λ _ e meant.
    let one = (g.met.V.Values.lawful c.args.value.now.inner c.args.mode c.requires.can).one in
    let inside = inside_of c.args.value.now.tag c.args.mode _ e meant in
    same_answer (ap Err c.store_refusal.ensures) (lacked _ one.same inside.values e.octets inside.meant c.in-Err.ensures.sized)

pub put_enclosed-requires : goal.put_enclosed-requires
put_enclosed-requires g c =
    let mode = c.args.mode in
    let inside = inside_of c.args.value.now.tag mode _ c.requires.known.0 c.requires.known.1 in
    let one = (g.met.V.Values.lawful c.args.value.now.inner mode c.requires.can).one in
    let (x, meant, is) = c.in-Ok.ensures.sized in
    let len = ap (constructed_length mode) (one_size one _ x meant is inside.values inside.meant) in
    record {
      fits = ap fits_length len ∙ length_fits mode c.args.value.now.tag _ inside.fits;
      can = c.requires.can;
      known = (inside.values, inside.meant);
      sized = noted_read _ _ c.new-sizes.ensures c.in-Ok.ensures.noted _ c.left.ensures;
    }

pub returns-in-Ok : goal.returns-in-Ok
returns-in-Ok g c = λ _ e meant.
    let mode = c.args.mode in
    let inside = inside_of c.args.value.now.tag mode _ e meant in
    let one = (g.met.V.Values.lawful c.args.value.now.inner mode c.requires.can).one in
    let (x, found, is) = c.in-Ok.ensures.sized in
    let len = ap (constructed_length mode) (one_size one _ x found is inside.values inside.meant) in
    same_octets (ap (λ (e : Encoded). e.octets) (sym inside.is)) (c.put_enclosed.ensures.written inside.values inside.meant len)
