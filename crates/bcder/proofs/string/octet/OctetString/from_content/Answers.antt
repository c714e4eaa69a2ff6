use Rattle.std.proofs.Common.{sym, subst}
use Rattle.std.specs.Prelude.{Ok, Err}
use Rattle.bcder.specs.calls.StringOctets.{StringOctets, MeansString}
use Rattle.bcder.specs.calls.Valued.{ReadsAny}
use Rattle.bcder.specs.calls.Views.{of_primitive, of_constructed, of_content}
use Rattle.bcder.proofs.Typed.{octets_form}
use Rattle.bcder.proofs.Strings.{octets_in_one, piece_read, piece_refused}
use Rattle.bcder.proofs.string.octet.OctetString.from_content.Goals as goal

pub returns-in-Ok-clause-read : goal.returns-in-Ok-clause-read
returns-in-Ok-clause-read g c =
    let i = of_primitive g.S.Source.stream c.in-Primitive.octets in
    let j = of_primitive g.S.Source.stream c.take_piece.new.octets in
    subst (λ z. ReadsAny MeansString (of_content g.S.Source.stream z) (Ok c.new.result) j) (sym c.in-Primitive.is)
    (record { at_tag = λ tag. piece_read MeansString octets_in_one tag i j c.in-Ok.octets c.new.result c.new.ensures (c.in-Ok.ensures.read.at_tag tag) })

pub returns-in-Err-clause-read : goal.returns-in-Err-clause-read
returns-in-Err-clause-read g c =
    let i = of_primitive g.S.Source.stream c.in-Primitive.octets in
    let j = of_primitive g.S.Source.stream c.take_piece.new.octets in
    subst (λ z. ReadsAny {T = StringOctets} MeansString (of_content g.S.Source.stream z) (Err c.in-Err.error) j) (sym c.in-Primitive.is)
    (record {
      at_tag = λ tag. piece_refused MeansString octets_in_one tag i j (octets_form g.S.Source.stream c.in-Primitive.octets) c.in-Err.error
          (c.in-Err.ensures.read.at_tag tag);
    })

pub returns-in-Constructed-clause-read : goal.returns-in-Constructed-clause-read
returns-in-Constructed-clause-read g c =
    let j = of_constructed g.S.Source.stream c.from_constructed.new.values in
    subst (λ z. ReadsAny MeansString (of_content g.S.Source.stream z) c.from_constructed.result j) (sym c.in-Constructed.is) c.from_constructed.ensures.read
