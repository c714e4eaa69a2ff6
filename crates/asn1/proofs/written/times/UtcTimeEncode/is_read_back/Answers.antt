use Rattle.std.proofs.Common.{◌∙◌, sym}
use Rattle.bcder.specs.declared.encode.error.EncodeError.TheVariants.{LongCerPrimitive}
use Rattle.bcder.specs.calls.Meaning.{PieceMeans}
use Rattle.civil.specs.Octets.{utc_octets}
use Rattle.asn1.specs.Times.{IsUtcContents}
use Rattle.asn1.proofs.PiecesBack.{piece_is}
use Rattle.asn1.proofs.ReadingBack.{leaf_back}
use Rattle.asn1.proofs.written.times.UtcTimeEncode.is_read_back.Goals as goal

pub returns : goal.returns
returns c = λ x k.
    let mode = c.args._mode in
    leaf_back c.args._tag (λ y. y) x (PieceMeans LongCerPrimitive mode (utc_octets x)) (IsUtcContents mode) (λ w m.
    let is = piece_is LongCerPrimitive mode (utc_octets x) w m in
    ((k, is), λ y h. c.octets_tell_times_apart.ensures.utc y x h.0 k (sym h.1 ∙ is)))
