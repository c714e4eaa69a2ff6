use Rattle.std.proofs.Common.{Any, subst}
use Rattle.std.specs.declared.vec.Vec.{Vec}
use Rattle.std.specs.declared.alloc.Global.{Global}
use Rattle.bcder.specs.calls.Meaning.{EachOf, Joined}
use Rattle.bcder.specs.calls.Encoders.{Writes}
use Rattle.bcder.specs.calls.Meaning.{Encoded, ValueMeans, constructed_meaning}
use Rattle.asn1.proofs.written.lists.SequenceOfEncode.write_encoded_as.Goals as goal

pub returns : goal.returns
returns g c =
    let tag = c.args.tag in
    let mode = c.args.mode in
    let W = λ (x : g.row.T.Denot). g.T.Encode.writes g.T.Type.TAG x mode in
    let L = λ (x : g.row.T.Denot). g.T.Encode.may_lack x mode in
    subst (λ (v : Vec g.row.T.Denot Global).
    Writes (λ (e : Encoded). e.octets) (ValueMeans tag (constructed_meaning tag mode) (Joined (EachOf {X = g.row.T.Denot} W v.items)))
    (Any {X = g.row.T.Denot} L v.items) (g.W.Write.contents c.args.target.now) (g.W.Write.contents c.write_encoded_as.new.target)
    c.write_encoded_as.result) c.self.view_is c.write_encoded_as.ensures
