use Rattle.std.proofs.Common.{subst, List, Any, inl}
use Rattle.bcder.specs.calls.Meaning.{EachOf}
use Rattle.bcder.specs.calls.Encoders.{RefusesBy}
use Rattle.asn1.proofs.written.lists.VecEncodeFields.len_fields.Goals as goal

pub returns-in-Err : goal.returns-in-Err
returns-in-Err g c =
    let M = λ (v : g.row.T.Denot). g.T.Encode.writes g.T.Type.TAG v c.args.mode in
    let L = λ (v : g.row.T.Denot). g.T.Encode.may_lack v c.args.mode in
    let r : RefusesBy (EachOf M c.args.self.now.items) (Any L c.args.self.now.items) c.in-Err.error =
    subst (λ (xs : List g.row.T.Denot). RefusesBy (EachOf M xs) (Any L xs) c.in-Err.error) c.as_slice.ensures.value c.in-Err.ensures in
    record { meant = λ n. inl (r.meant n); lacking = r.lacking }
