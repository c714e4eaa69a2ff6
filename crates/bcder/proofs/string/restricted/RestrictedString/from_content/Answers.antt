use Rattle.std.proofs.Common.{sym, subst}
use Rattle.std.specs.Prelude.{Ok, Err}
use Rattle.bcder.specs.x690.OctetString.{octet_string_tag}
use Rattle.bcder.specs.calls.StringOctets.{StringOctets}
use Rattle.bcder.specs.calls.RestrictedString.{MeansRestricted}
use Rattle.bcder.specs.calls.Valued.{ReadsAny}
use Rattle.bcder.specs.calls.Views.{of_primitive, of_constructed, of_content}
use Rattle.bcder.proofs.Accepting.{accepted_in_one}
use Rattle.bcder.proofs.Typed.{octets_form}
use Rattle.bcder.proofs.Strings.{piece_read, piece_refused}
use Rattle.bcder.proofs.string.restricted.RestrictedString.from_content.Goals as goal

pub of_bytes-requires : goal.of_bytes-requires
of_bytes-requires g c = (let k = c.in-Ok.ensures.read.at_tag octet_string_tag in k.value.means.1)

pub returns-in-Ok-clause-read : goal.returns-in-Ok-clause-read
returns-in-Ok-clause-read g c =
    let i = of_primitive g.S.Source.stream c.in-Primitive.octets in
    let j = of_primitive g.S.Source.stream c.take_accepted.new.octets in
    let step = g.L.CharSet.step in
    subst (λ z. ReadsAny (MeansRestricted step) (of_content g.S.Source.stream z) (Ok c.of_bytes.result) j) (sym c.in-Primitive.is)
    (record {
      at_tag = λ tag. piece_read (MeansRestricted step) (accepted_in_one step) tag i j c.in-Ok.octets c.of_bytes.result c.of_bytes.ensures
          (c.in-Ok.ensures.read.at_tag tag);
    })

pub returns-in-Err-clause-read : goal.returns-in-Err-clause-read
returns-in-Err-clause-read g c =
    let i = of_primitive g.S.Source.stream c.in-Primitive.octets in
    let j = of_primitive g.S.Source.stream c.take_accepted.new.octets in
    let step = g.L.CharSet.step in
    subst (λ z. ReadsAny {T = StringOctets} (MeansRestricted step) (of_content g.S.Source.stream z) (Err c.in-Err.error) j) (sym c.in-Primitive.is)
    (record {
      at_tag = λ tag. piece_refused (MeansRestricted step) (accepted_in_one step) tag i j
          (octets_form g.S.Source.stream c.in-Primitive.octets) c.in-Err.error (c.in-Err.ensures.read.at_tag tag);
    })

pub returns-in-Constructed-clause-read : goal.returns-in-Constructed-clause-read
returns-in-Constructed-clause-read g c =
    let j = of_constructed g.S.Source.stream c.from_values.new.values in
    subst (λ z. ReadsAny (MeansRestricted g.L.CharSet.step) (of_content g.S.Source.stream z) c.from_values.result j)
    (sym c.in-Constructed.is) c.from_values.ensures.read
