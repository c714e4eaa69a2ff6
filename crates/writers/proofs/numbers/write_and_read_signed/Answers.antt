use Rattle.std.proofs.Common.{arith, ◌∙◌, ap, ◌≡◌, ◌++◌, Some, rules}
use Rattle.bcder.specs.x690.Identifier.{integer_tag}
use Rattle.bcder.specs.calls.Readers.{IsSigned}
use Rattle.bcder.proofs.Lemmas.{decoded_as_written, written_is_not_refused, refused_as_met}
use Rattle.writers.proofs.Targets.{refused_target, written, no_source_error}
use Rattle.std.specs.Prelude.{ℤ, Err}
use Rattle.std.specs.Int.RustNames.{FitsSigned}
use Rattle.std.proofs.lemmas.Int.{to_z-of_z}
use Rattle.bcder.specs.declared.encode.primitive.Primitive.{Primitive}
use Rattle.std.specs.Int.{w32, cast_signed, cast_unsigned}
use Rattle.writers.specs.Numbers.{IsOfTarget}
use Rattle.writers.proofs.numbers.write_and_read_signed.Goals as goal

-- the number that was passed, as its encoder has it
given : (n : ℤ) → FitsSigned w32 n → (p : Primitive ℤ) → ◌≡◌ {A = Primitive ℤ} p (record { tag = integer_tag; prim = cast_signed w32 (cast_unsigned w32 n) })
    → ◌≡◌ {A = Primitive ℤ} p (record { tag = integer_tag; prim = n })
given n h p e = e ∙ ap (λ (z : ℤ). record { tag = integer_tag; prim = z }) (to_z-of_z w32 n h)

pub returns-in_err-write_encoded-clause-refused : goal.returns-in_err-write_encoded-clause-refused
returns-in_err-write_encoded-clause-refused c =
    let back = c.signed_integers_are_taken_back.ensures.of_32_bits c.args.mode c.args.number c.ranges.number in
    refused_as_met c.from_residual.result c.in_err-write_encoded.field-0.0 IsOfTarget c.from_residual.ensures.1
    (refused_target (λ z. z) c.args.mode _ _ (given c.args.number c.ranges.number c.encode.result c.encode.ensures) _ _ back.encoded back.only
    (Err c.in_err-write_encoded.field-0.0) c.in_err-write_encoded.ensures)

pub unreachable-requires : goal.unreachable-requires
unreachable-requires c =
    let back = c.signed_integers_are_taken_back.ensures.of_32_bits c.args.mode c.args.number c.ranges.number in
    let appends = written (λ z. z) c.args.mode _ _ (given c.args.number c.ranges.number c.encode.result c.encode.ensures) (Some c.new-octets.result.items)
    (Some c.write_encoded.new.target.items) back.encoded back.only c.in_ok-write_encoded.ensures in
    let whole : c.as_slice.result.now ≡ back.encoded.octets =
    c.as_slice.ensures.value ∙ appends ∙ ap (λ z. z ++ back.encoded.octets) c.new-octets.ensures.items in
    let refused = c.in-Err.ensures.refused in
    written_is_not_refused _ _ no_source_error integer_tag (IsSigned w32)
    (λ p r q h. search rules) c.args.mode _ c.args.number back _ whole c.in-Err.field-0 refused.0 refused.1

pub returns-clause-number : goal.returns-clause-number
returns-clause-number c =
    let back = c.signed_integers_are_taken_back.ensures.of_32_bits c.args.mode c.args.number c.ranges.number in
    let appends = written (λ z. z) c.args.mode _ _ (given c.args.number c.ranges.number c.encode.result c.encode.ensures) (Some c.new-octets.result.items)
    (Some c.write_encoded.new.target.items) back.encoded back.only c.in_ok-write_encoded.ensures in
    let whole : c.as_slice.result.now ≡ back.encoded.octets =
    c.as_slice.ensures.value ∙ appends ∙ ap (λ z. z ++ back.encoded.octets) c.new-octets.ensures.items in
    let ok = c.in-Ok.ensures.ok in
    let same : c.in-Ok.read ≡ c.args.number =
    decoded_as_written _ _ no_source_error integer_tag (IsSigned w32)
    (λ p r q h. search rules) c.args.mode _ c.args.number back _ whole c.in-Ok.read ok.0 ok.1 in
    ap (λ (z : ℤ). cast_signed w32 (cast_unsigned w32 z)) same ∙ to_z-of_z w32 c.args.number c.ranges.number
