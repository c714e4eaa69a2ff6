use Rattle.bcder.specs.x690.OctetString.{octet_string_tag}
use Rattle.bcder.specs.laws.StringMeanings.{octet_string_value}
use Rattle.bcder.proofs.WrittenStrings.{wrapped_written, wrapped_meant}
use Rattle.bcder.proofs.laws.written_strings.wrapped_values_are_written_as_one.Goals as goal

pub returns-clause-one : goal.returns-clause-one
returns-clause-one g c = λ inner meant.
    let x = c.args.encoder.now in
    wrapped_written octet_string_tag c.args.mode x.mode _ (g.met.V.Values.lawful x.values x.mode c.requires) inner meant

pub returns-clause-written : goal.returns-clause-written
returns-clause-written g c = λ inner meant short.
    let x = c.args.encoder.now in
    wrapped_meant octet_string_tag c.args.mode x.mode _ (g.met.V.Values.lawful x.values x.mode c.requires) inner meant octet_string_value short
