use Rattle.std.proofs.Common.{ap, sym, ◌∙◌, true, ◌++◌, length, append-nil}
use Rattle.bcder.specs.x690.Octets.{header, closing, constructed_length}
use Rattle.bcder.proofs.Writing.{stops, halts, follows_on, lacks_more, same_octets}
use Rattle.bcder.proofs.encode.values.constructed.put_definite.Goals as goal

pub returns-in_err-put_header-clause-written : goal.returns-in_err-put_header-clause-written
returns-in_err-put_header-clause-written g c = λ x meant is.
    let t = c.args.value.now.tag in
    let head = same_octets (ap (header t true) (sym c.requires.told.0 ∙ is)) c.in_err-put_header.ensures in
    halts _ c.from_residual.ensures (lacks_more _ (λ h. absurd h) (stops (closing c.args.mode) (stops x.octets head)))

pub returns-clause-written : goal.returns-clause-written
returns-clause-written g c = λ x meant is.
    let t = c.args.value.now.tag in
    let one = (g.met.V.Values.lawful c.args.value.now.inner c.args.mode c.requires.can).one in
    let head = same_octets (ap (header t true) (sym c.requires.told.0 ∙ is)) c.in_ok-put_header.ensures in
    let all = follows_on head (c.write_known.ensures.written one x meant) in
    let told = header t true (constructed_length c.args.mode (length x.octets)) ++ x.octets in
    same_octets (sym (append-nil told) ∙ ap (λ w. told ++ w) (sym c.requires.told.2)) all
