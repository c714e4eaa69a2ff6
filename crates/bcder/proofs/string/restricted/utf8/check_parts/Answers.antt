use Rattle.std.proofs.Common.{ap, sym, ◌∙◌, subst, length, drop, ◌++◌, ◌↔◌, List, ℕ, arith}
use Rattle.std.proofs.lemmas.List.{length-append, length-drop}
use Rattle.std.specs.List.{concat}
use Rattle.bcder.specs.x690.CharSet.{IsOfSet}
use Rattle.bcder.specs.x690.Utf8.{utf8_step}
use Rattle.bcder.specs.laws.Utf8.{utf8_lawful}
use Rattle.bcder.proofs.CharSets.{went_on, went_shorter, stopped, at_end}
use Rattle.bcder.proofs.Utf8.{text_passed}
use Rattle.bcder.proofs.string.restricted.utf8.check_parts.Goals as goal

pub returns-in_err-next_char : goal.returns-in_err-next_char
returns-in_err-next_char c =
    let passed = text_passed c.args.octets.octets c.loop-rest.part.now (concat c.loop-rest.parts) c.from_parts-rest.result.octets _ c.utf8_len-len.ensures.1
    (c.from_parts-rest.ensures ∙ ap (λ (w : List ℕ). w ++ concat c.loop-rest.parts) c.split_at.ensures.back) c.loop-rest.invariant in
    stopped utf8_step c.args.octets.octets c.from_parts-rest.result.octets c.next_char.new.octets.octets _ c.from_residual.result c.from_residual.ensures.1
    c.in_err-next_char.ensures passed

pub returns-then-is_none : goal.returns-then-is_none
returns-then-is_none c =
    let passed = text_passed c.args.octets.octets c.loop-rest.part.now (concat c.loop-rest.parts) c.from_parts-rest.result.octets _ c.utf8_len-len.ensures.1
    (c.from_parts-rest.ensures ∙ ap (λ (w : List ℕ). w ++ concat c.loop-rest.parts) c.split_at.ensures.back) c.loop-rest.invariant in
    passed.1 (at_end utf8_step c.from_parts-rest.result.octets c.next_char.new.octets.octets _ (sym c.if-is_none.ensures) c.in_ok-next_char.ensures)

pub loop-rest-smaller : goal.loop-rest-smaller
loop-rest-smaller c =
    let shorter = went_shorter utf8_step utf8_lawful c.from_parts-rest.result.octets c.next_char.new.octets.octets _ (sym c.if-is_none.ensures)
    c.in_ok-next_char.ensures in
    let part = c.loop-rest.part.now in
    let more = concat c.loop-rest.parts in
    let len = c.utf8_len-len.result in
    omega (
      arith,
      shorter,
      ap length c.into_parts.ensures,
      ap length (c.from_parts-rest.ensures ∙ ap (λ (w : List ℕ). w ++ more) c.split_at.ensures.back),
      length-append (drop len part) more,
      length-append part more,
      length-drop len part,
    )

pub loop-rest-preserved : goal.loop-rest-preserved
loop-rest-preserved c =
    let passed = text_passed c.args.octets.octets c.loop-rest.part.now (concat c.loop-rest.parts) c.from_parts-rest.result.octets _ c.utf8_len-len.ensures.1
    (c.from_parts-rest.ensures ∙ ap (λ (w : List ℕ). w ++ concat c.loop-rest.parts) c.split_at.ensures.back) c.loop-rest.invariant in
    subst (λ (w : List ℕ). IsOfSet utf8_step c.args.octets.octets ↔ IsOfSet utf8_step w) c.into_parts.ensures
    (went_on utf8_step utf8_lawful c.args.octets.octets c.from_parts-rest.result.octets c.next_char.new.octets.octets _ (sym c.if-is_none.ensures)
    c.in_ok-next_char.ensures passed)
