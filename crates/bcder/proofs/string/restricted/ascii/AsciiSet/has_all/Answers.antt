use Rattle.std.proofs.Common.{sym, ◌∙◌, arith}
use Rattle.std.specs.Prelude.{◌&&◌}
use Rattle.std.proofs.lemmas.List.Folds.{list_all_more}
use Rattle.bcder.proofs.AsciiSets.{all_told}
use Rattle.bcder.proofs.string.restricted.ascii.AsciiSet.has_all.Goals as goal

pub loop-octet-preserved : goal.loop-octet-preserved
loop-octet-preserved g c =
    (λ i. c.loop-octet.invariant i && c.has-all.ensures i)
    ∙ sym (list_all_more g.Self.AsciiSet.test c.args.octets.now c.loop-octet.octet-index 0 c.loop-octet-test.true)

pub returns : goal.returns
returns g c = all_told g.Self.AsciiSet.test c.args.octets.now c.loop-octet.octet-index c.loop-octet.all (omega arith) c.loop-octet.invariant
