use Rattle.std.proofs.Common.{refl}
use Rattle.bcder.specs.calls.Meaning.{ValueMeans, primitive_meaning}
use Rattle.asn1.specs.Types.{Only, IsLeaf}
use Rattle.asn1.proofs.ReadingBack.{leaf_back, read_back_seen}
use Rattle.asn1.proofs.leaf_written.LeafEncode.is_read_back.Goals as goal

pub returns : goal.returns
returns g c = λ x k.
    let tag = c.args._tag in
    let mode = c.args.mode in
    let Means = g.V.FromContents.means mode in
    let M = g.V.PrimitiveContent.means x.0 mode in
    let key = g.V.FromContents.key in
    let one = c.contents_are_one.ensures.one mode in
    let back = leaf_back tag key x.0 M Means (λ w m. let r = c.contents_are_read_back.ensures x.0 w k m in (r, λ y h. one w y x.0 h r)) in
    read_back_seen (λ y. y.0) (λ s. (record { 0 = s }, refl)) key x (Only tag) (IsLeaf Means) (ValueMeans tag (primitive_meaning tag) M) back
