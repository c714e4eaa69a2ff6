use Rattle.std.proofs.Common.{◌≤◌, ◌∙◌, length, take, arith, refl, sym}
use Rattle.bcder.specs.steps.Peek.{octets_header, IsFront}
use Rattle.bcder.proofs.Beginnings.{short_stands}
use Rattle.bcder.proofs.Headers.{header_of_front}
use Rattle.bcder.proofs.Peeking.{at_hand}
use Rattle.bcder.proofs.decode.content.take.peek_short.Goals as goal

pub returns-in-len2-up-clause-peeked : goal.returns-in-len2-up-clause-peeked
returns-in-len2-up-clause-peeked g c = λ mode.
    let enough : c.in_ok-found.found ≤ length c.slice.result.now = omega (arith, c.in_ok-found.ensures.ok.count, c.slice.ensures.enough) in
    at_hand (IsFront mode (octets_header c.args.tag c.from.result) 2) _ _ _ _ c.slice.ensures.front enough c.in_ok-found.ensures.ok.count
    (λ x. (
      c.in-len2-up.len_at_least,
      header_of_front mode _ _ _
          (short_stands mode (take c.in_ok-found.found c.slice.result.now) x _ _ _ c.in-len2-up.len_at_least
          (c.leads_primitive.ensures.number c.if-leads_primitive.true) c.if-len-lt128.true (c.leads_primitive.ensures.tag c.if-leads_primitive.true)
          (sym (c.leads_primitive.ensures.form c.if-leads_primitive.true)) c.from.ensures)
          (sym c.is_value.ensures ∙ c.if-is_value.true) refl,
    ))
