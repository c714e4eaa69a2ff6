use Rattle.std.proofs.Common.{ap, sym, ◌∙◌}
use Rattle.bcder.specs.calls.Meaning.{ValueMeans, constructed_meaning}
use Rattle.bcder.specs.calls.Gathered.{KeptMeans}
use Rattle.bcder.specs.laws.Meanings.{constructed_lawful}
use Rattle.bcder.specs.laws.Gathered.{kept_lawful}
use Rattle.bcder.proofs.Segmenting.{written_as, whole_is, parts_are, cut_is}
use Rattle.bcder.proofs.string.octet.encode.put.Goals as goal

pub returns-in-Whole : goal.returns-in-Whole
returns-in-Whole g c =
    let view = rw c.in-Whole.is at c.string.view_is in
    written_as (whole_is c.args.tag c.args.string.now c.args.mode _ _ view c.as_slice.ensures) c.put_octets.ensures

pub returns-in-Ber : goal.returns-in-Ber
returns-in-Ber g c =
    let view = rw c.in-Cut.is at c.string.view_is in
    let mode = c.args.mode in
    let value = c.new.result in
    let same = ap (λ x. ValueMeans x.tag (constructed_meaning x.tag mode) (KeptMeans x.inner.now mode)) c.new.ensures in
    let one = (constructed_lawful value.tag (kept_lawful value.inner.now mode)).one in
    written_as (cut_is c.args.tag c.args.string.now mode _ _ view c.in-Ber.is ∙ sym same) (c.write_known.ensures.written one)

pub returns-in-Cer : goal.returns-in-Cer
returns-in-Cer g c = written_as (parts_are c.args.tag c.args.string.now c.args.mode _ c.in-Cer.is c.iter.ensures) c.put_string.ensures
