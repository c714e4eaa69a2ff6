use Rattle.asn1.specs.Types.{IsLeaf, Only}
use Rattle.bcder.specs.calls.Views.{of_constructed}
use Rattle.asn1.proofs.Seen.{refuses_seen}
use Rattle.asn1.proofs.leaf.LeafDecode.trace_opt_if.Goals as goal

pub returns-in-Err-clause-took : goal.returns-in-Err-clause-took
returns-in-Err-clause-took g c =
    let Reads = g.V.FromContents.means (of_constructed g.S.Source.stream c.args.cons.now).mode in
    refuses_seen (Only c.args.tag) (IsLeaf Reads) (λ x. x.0) _ _ c.in-Err.error c.in-Err.ensures.took
