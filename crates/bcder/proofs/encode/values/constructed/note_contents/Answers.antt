use Rattle.bcder.proofs.Noting.{one_size}
use Rattle.bcder.proofs.Places.{contents_noted}
use Rattle.bcder.proofs.encode.values.constructed.note_contents.Goals as goal

pub returns-clause-noted : goal.returns-clause-noted
returns-clause-noted g c =
    let mode = c.args.mode in
    let (e, meant, is) = c.in_ok-len.ensures.sized in
    let one = (g.met.V.Values.lawful c.args.inner.now mode c.requires).one in
    contents_noted (g.V.Values.means c.args.inner.now mode) (g.V.Values.reads c.args.inner.now mode) _ _ _ _ _ _ mode
    c.reserve_contents-place.ensures c.in_ok-len.ensures.noted c.fill_contents.ensures (one_size one _ e meant is)
