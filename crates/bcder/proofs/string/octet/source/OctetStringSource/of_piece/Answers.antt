use Rattle.std.proofs.Common.{List, ℕ, ◌≡◌, ◌++◌, [], length, append-nil, sym, ap, refl, ◌∙◌, subst, rules, ◌<◌, ◌^◌, arith}
use Rattle.bcder.specs.x690.Identifier.{AreOctets}
use Rattle.bcder.specs.calls.StringSource.{InBlock}
use Rattle.bcder.proofs.string.octet.source.OctetStringSource.of_piece.Goals as goal

pub invariant_of-result : goal.invariant_of-result
invariant_of-result c =
    let is = ap (λ (f : InBlock). f.octets) c.of_block.ensures in
    let same : c.as_slice-slice.result.now ≡ c.of_block.result.octets ++ [] = c.as_slice-slice.ensures ∙ sym is ∙ sym (append-nil c.of_block.result.octets) in
    let octets : AreOctets c.as_slice-slice.result.now = search rules in
    let fit : length c.as_slice-slice.result.now < 2 ^ 64 = search rules in
    record {
      stands = λ _. refl;
      are_octets = subst AreOctets same octets;
      fit = subst (λ (w : List ℕ). length w < 2 ^ 64) same fit;
      counted = omega (arith, ap length is, ap length c.as_slice-slice.ensures);
      bounded = omega (arith, fit);
    }
