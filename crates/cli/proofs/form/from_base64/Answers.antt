use Rattle.cli.proofs.Bases.{spelled, misspelled, lax_config}
use Rattle.cli.proofs.form.from_base64.Goals as goal

pub returns-in-Ok-clause-spells : goal.returns-in-Ok-clause-spells
returns-in-Ok-clause-spells c = spelled c.new-engine.result c.args.text.now c.as_slice.result.now c.in_ok-digits.digits.items c.in-Ok.octets.items (
  c.new-engine.ensures.symbols,
  c.new-engine.ensures.padding,
  lax_config c.new.result c.with_decode_allow_trailing_bits-config.result c.new-engine.result.config c.new.ensures
      c.with_decode_allow_trailing_bits-config.ensures c.new-engine.ensures.config,
)
    c.as_slice.ensures.value c.in_ok-digits.ensures c.in-Ok.ensures.ok

pub returns-clause-misspelled : goal.returns-clause-misspelled
returns-clause-misspelled c = misspelled c.new-engine.result c.args.text.now c.as_slice.result.now c.in_ok-digits.digits.items c.in-Err-DecodeError.field-0-0 (
  c.new-engine.ensures.symbols,
  c.new-engine.ensures.padding,
  lax_config c.new.result c.with_decode_allow_trailing_bits-config.result c.new-engine.result.config c.new.ensures
      c.with_decode_allow_trailing_bits-config.ensures c.new-engine.ensures.config,
)
    c.as_slice.ensures.value c.in_ok-digits.ensures (rw c.in-Err-DecodeError.field-0-is at c.in-Err-DecodeError.ensures.err)
