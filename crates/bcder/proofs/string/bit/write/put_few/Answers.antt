use Rattle.std.proofs.Common.{◌+◌, [], ◌∷◌, ◌++◌, false, length, refl, ap, ◌∙◌}
use Rattle.bcder.specs.declared.length.Length.TheVariants.{Definite}
use Rattle.bcder.specs.x690.Identifier.{identifier}
use Rattle.bcder.specs.x690.Octets.{length_octets}
use Rattle.bcder.specs.x690.BitString.{Bits, as_written}
use Rattle.bcder.proofs.WrittenBits.{value_split}
use Rattle.bcder.proofs.Writing.{same_octets}
use Rattle.bcder.proofs.string.bit.write.put_few.Goals as goal

pub returns : goal.returns
returns g c =
    let x : Bits = record { unused = c.args.unused; octets = c.args.octets.now } in
    let n = length x.octets + 1 in
    let tag = c.spell.ensures.octets ∙ ap (λ l. l ++ identifier c.args.tag false) c.new-buffer.ensures.none in
    let header = c.spell-2.ensures.octets ∙ ap (λ l. l ++ length_octets (Definite n)) tag in
    let first = c.add.ensures.octets ∙ ap (λ l. l ++ x.unused ∷ []) header in
    let all = c.as_slice.ensures ∙ c.add_octets.ensures ∙ ap (λ l. l ++ (as_written c.args.mode x).octets) first in
    same_octets (all ∙ value_split c.args.tag c.args.mode x n refl) c.put_all.ensures
