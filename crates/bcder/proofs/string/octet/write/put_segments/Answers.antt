use Rattle.std.proofs.Common.{◌≡◌, ap, ◌∙◌, length, arith}
use Rattle.std.specs.List.{concat}
use Rattle.bcder.specs.calls.StringMeaning.{segments_in_cer}
use Rattle.bcder.proofs.Writing.{halts, same_octets}
use Rattle.bcder.proofs.Segmenting.{next_part, part_failed, none_begun}
use Rattle.bcder.proofs.string.octet.write.put_segments.Goals as goal

pub loop-part-preserved : goal.loop-part-preserved
loop-part-preserved g c = next_part c.in-Some.part.now _ (ap concat c.in-Some.ensures.steps) c.loop-part.invariant c.in_ok-progress.ensures

pub returns-in_err-progress : goal.returns-in_err-progress
returns-in_err-progress g c =
    let same : c.into_iter-part-iterator.result ≡ c.args.parts = cc in
    let failed = part_failed c.in-Some.part.now _ (ap concat c.in-Some.ensures.steps) c.loop-part.invariant c.in_err-progress.ensures in
    halts _ c.from_residual.ensures
    (same_octets (none_begun c.args.len _ (omega (arith, ap (λ p. length (concat p)) same)) ∙ ap (λ p. (segments_in_cer (concat p)).octets) same) failed)
