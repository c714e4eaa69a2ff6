use Rattle.std.proofs.Common.{sym, ◌∙◌, arith}
use Rattle.std.specs.Prelude.{◌&&◌}
use Rattle.std.proofs.lemmas.List.Folds.{list_all_more}
use Rattle.asn1.specs.CharacterSets.{is_visible}
use Rattle.asn1.proofs.Spelled.{all_told}
use Rattle.asn1.proofs.char_sets.visible.are_visible.Goals as goal

pub loop-octet-preserved : goal.loop-octet-preserved
loop-octet-preserved c =
    (λ i. c.loop-octet.invariant i && c.is_visible-all.ensures i)
    ∙ sym (list_all_more is_visible c.args.octets.now c.loop-octet.octet-index 0 c.loop-octet-test.true)

pub returns : goal.returns
returns c = all_told is_visible c.args.octets.now c.loop-octet.octet-index c.loop-octet.all (omega arith) c.loop-octet.invariant
