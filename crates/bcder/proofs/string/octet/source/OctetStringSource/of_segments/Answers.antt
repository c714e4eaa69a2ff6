use Rattle.std.proofs.Common.{List, ℕ, ◌≡◌, ◌++◌, [], false, IsTrue, length, sym, ap, ◌∙◌, subst, ◌<◌, ◌^◌, arith}
use Rattle.std.specs.List.{concat}
use Rattle.bcder.specs.x690.Identifier.{AreOctets}
use Rattle.bcder.specs.steps.SegmentTable.{segments_at}
use Rattle.bcder.specs.calls.StringSource.{InBlock, ToCome}
use Rattle.bcder.proofs.Parts.{parts_shorter}
use Rattle.bcder.proofs.Segmenting.{parts_octets}
use Rattle.bcder.proofs.string.octet.source.OctetStringSource.of_segments.Goals as goal

pub invariant_of-result : goal.invariant_of-result
invariant_of-result c =
    let kept = c.args.captured in
    let ps = segments_at kept.octets c.args.segments.items in
    let front = c.of_block.result in
    let behind = c.new-behind.result in
    let none : front.octets ≡ [] = ap (λ (f : InBlock). f.octets) c.of_block.ensures ∙ c.new.ensures in
    let are : behind.parts ≡ ps =
    ap (λ (b : ToCome). b.parts) c.new-behind.ensures ∙ ap (λ w. segments_at w c.args.segments.items) c.into_bytes.ensures.value in
    let all : concat ps ≡ concat behind.parts = sym (ap concat are) in
    let same : concat ps ≡ front.octets ++ concat behind.parts = all ∙ sym (ap (λ w. w ++ concat behind.parts) none) in
    let shorter = parts_shorter kept.mode kept.octets ps c.requires.segmented in
    let fit : length (concat ps) < 2 ^ 64 = omega (arith, shorter, c.as_slice-octets.type_inv.0, ap length c.as_slice-octets.ensures.value) in
    record {
      stands = λ t. (let f : IsTrue false = subst IsTrue (ap (λ (f : InBlock). f.is_shared) c.of_block.ensures) t in cc);
      are_octets = subst AreOctets same (parts_octets kept.mode kept.octets ps c.requires.segmented);
      fit = subst (λ (w : List ℕ). length w < 2 ^ 64) same fit;
      counted = omega (arith, ap length none);
      bounded = omega (arith, fit, ap length all);
    }
