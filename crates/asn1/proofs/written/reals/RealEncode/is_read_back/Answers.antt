use Rattle.std.proofs.Common.{◌≡◌, sym, subst}
use Rattle.bcder.specs.declared.encode.error.EncodeError.TheVariants.{LongCerPrimitive}
use Rattle.bcder.specs.calls.Meaning.{PieceMeans}
use Rattle.real.specs.Contents.{real_octets}
use Rattle.asn1.specs.Reals.{is_canonical, IsRealContents}
use Rattle.asn1.proofs.PiecesBack.{piece_is}
use Rattle.asn1.proofs.ReadingBack.{leaf_back}
use Rattle.asn1.proofs.written.reals.RealEncode.is_read_back.Goals as goal

pub returns : goal.returns
returns c = λ x k.
    let mode = c.args.mode in
    let strict = is_canonical mode in
    leaf_back c.args._tag (λ y. y) x (PieceMeans LongCerPrimitive mode (real_octets x)) (IsRealContents mode) (λ w m.
    let same : w ≡ real_octets x = piece_is LongCerPrimitive mode (real_octets x) w m in
    let r : IsRealContents mode w x = subst (λ v. IsRealContents mode v x) (sym same) (c.contents_are_one.ensures.back strict x k) in
    (r, λ y h. c.contents_are_one.ensures.one strict w y x h r))
