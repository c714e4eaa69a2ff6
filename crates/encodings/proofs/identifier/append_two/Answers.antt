use Rattle.std.proofs.Common.{refl, subst, rules}
use Rattle.encodings.specs.Buffers.{IsAtFront}
use Rattle.encodings.proofs.Identifiers.{front_starts, text_below_40, text_below_80, text_from_80}
use Rattle.encodings.proofs.identifier.append_two.Goals as goal

pub returns-then-number-lt40-clause-text : goal.returns-then-number-lt40-clause-text
returns-then-number-lt40-clause-text c =
    subst (λ t. IsAtFront t c.args.buffer.now c.append_component.new.buffer c.append_component.new.at)
    (text_below_40 c.args.number (search rules))
    (c.append_component.ensures.text _ _ (c.append_decimal.ensures.text _ _ (front_starts _)))

pub returns-then-number-lt80-clause-text : goal.returns-then-number-lt80-clause-text
returns-then-number-lt80-clause-text c =
    subst (λ t. IsAtFront t c.args.buffer.now c.append_component-then-number-lt80.new.buffer c.append_component-then-number-lt80.new.at)
    (text_below_80 c.args.number _ (search rules) (search rules) refl)
    (c.append_component-then-number-lt80.ensures.text _ _ (c.append_decimal-then-number-lt80.ensures.text _ _ (front_starts _)))

pub returns-else-number-lt80-clause-text : goal.returns-else-number-lt80-clause-text
returns-else-number-lt80-clause-text c =
    subst (λ t. IsAtFront t c.args.buffer.now c.append_component-else-number-lt80.new.buffer c.append_component-else-number-lt80.new.at)
    (text_from_80 c.args.number _ (search rules) refl)
    (c.append_component-else-number-lt80.ensures.text _ _ (c.append_decimal-else-number-lt80.ensures.text _ _ (front_starts _)))
