use Rattle.std.proofs.Common.{rules, subst}
use Rattle.bcder.specs.calls.Readers.{Reads, MeanNothing}
use Rattle.bcder.specs.calls.Views.{of_primitive}
use Rattle.asn1.proofs.ToldContents.{told_reads}
use Rattle.asn1.proofs.leaf.read_contents.Goals as goal

pub returns-clause-read : goal.returns-clause-read
returns-clause-read g c =
    let i = of_primitive g.S.Source.stream c.args.octets.now in
    let j = of_primitive g.S.Source.stream c.with_slice_all.new.self in
    subst (λ m. Reads (g.V.FromContents.means m) (MeanNothing (g.V.FromContents.means m)) i c.with_slice_all.result j) c.mode-mode.ensures
    (told_reads (λ p. p.now) _ _ i j c.with_slice_all.result c.with_slice_all.ensures.read
    (g.V.FromContents.means c.mode-mode.result) (λ p x h. search rules) (λ p error h. search rules))
