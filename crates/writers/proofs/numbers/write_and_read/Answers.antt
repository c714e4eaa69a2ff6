use Rattle.std.proofs.Common.{arith, ◌∙◌, ap, ◌≡◌, ◌++◌, Some, rules}
use Rattle.bcder.specs.x690.Identifier.{integer_tag}
use Rattle.bcder.specs.calls.Readers.{IsUnsigned}
use Rattle.bcder.proofs.Lemmas.{decoded_as_written, written_is_not_refused, refused_as_met}
use Rattle.writers.proofs.Targets.{refused_target, written, no_source_error}
use Rattle.std.specs.Prelude.{pos, Err}
use Rattle.writers.specs.Numbers.{IsOfTarget}
use Rattle.writers.proofs.numbers.write_and_read.Goals as goal

pub returns-in_err-write_encoded-clause-refused : goal.returns-in_err-write_encoded-clause-refused
returns-in_err-write_encoded-clause-refused c =
    let back = c.unsigned_integers_are_taken_back.ensures.of_32_bits c.args.mode c.args.number (omega (arith, c.ranges.number.fits)) in
    refused_as_met c.from_residual.result c.in_err-write_encoded.field-0.0 IsOfTarget c.from_residual.ensures.1
    (refused_target pos c.args.mode _ _ c.encode.ensures _ _ back.encoded back.only (Err c.in_err-write_encoded.field-0.0) c.in_err-write_encoded.ensures)

pub unreachable-requires : goal.unreachable-requires
unreachable-requires c =
    let back = c.unsigned_integers_are_taken_back.ensures.of_32_bits c.args.mode c.args.number (omega (arith, c.ranges.number.fits)) in
    let appends = written pos c.args.mode _ _ c.encode.ensures (Some c.new-octets.result.items)
    (Some c.write_encoded.new.target.items) back.encoded back.only c.in_ok-write_encoded.ensures in
    let whole : c.as_slice.result.now ≡ back.encoded.octets =
    c.as_slice.ensures.value ∙ appends ∙ ap (λ z. z ++ back.encoded.octets) c.new-octets.ensures.items in
    let refused = c.in-Err.ensures.refused in
    written_is_not_refused _ _ no_source_error integer_tag (IsUnsigned 32)
    (λ p r q h. search rules) c.args.mode _ c.args.number back _ whole c.in-Err.field-0 refused.0 refused.1

pub returns-clause-number : goal.returns-clause-number
returns-clause-number c =
    let back = c.unsigned_integers_are_taken_back.ensures.of_32_bits c.args.mode c.args.number (omega (arith, c.ranges.number.fits)) in
    let appends = written pos c.args.mode _ _ c.encode.ensures (Some c.new-octets.result.items)
    (Some c.write_encoded.new.target.items) back.encoded back.only c.in_ok-write_encoded.ensures in
    let whole : c.as_slice.result.now ≡ back.encoded.octets =
    c.as_slice.ensures.value ∙ appends ∙ ap (λ z. z ++ back.encoded.octets) c.new-octets.ensures.items in
    let ok = c.in-Ok.ensures.ok in
    decoded_as_written _ _ no_source_error integer_tag (IsUnsigned 32) (λ p r q h. search rules) c.args.mode _ c.args.number back _ whole c.in-Ok.read ok.0 ok.1
