use Rattle.std.proofs.Common.{ap, sym, ◌∙◌}
use Rattle.bcder.specs.x690.Octets.{enclosed_size}
use Rattle.bcder.specs.calls.Meaning.{constructed_encoded, fits_enclosed}
use Rattle.bcder.proofs.Enclosing.{constructed_given, enclosed-length}
use Rattle.bcder.proofs.encode.values.constructed.ConstructedEncoder.measured.Goals as goal

pub returns-clause-sized : goal.returns-clause-sized
returns-clause-sized g c =
    let mode = c.args.mode in
    let t = c.args.self.now.tag in
    let (x, meant, len_is) = c.in_ok-contents.ensures.sized in
    let (whole_is, fits) = c.in_ok-whole.ensures in (
      constructed_encoded mode t x,
      constructed_given t mode _ x meant (ap (fits_enclosed mode t) (sym len_is) ∙ fits) c.in-Some.ensures.some.0,
      whole_is ∙ ap (enclosed_size mode t) len_is ∙ sym (enclosed-length mode t x.octets),
    )
