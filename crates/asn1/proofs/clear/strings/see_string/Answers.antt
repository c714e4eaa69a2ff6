use Rattle.asn1.proofs.WrittenStrings.{with_each_tag}
use Rattle.asn1.proofs.clear.strings.see_string.Goals as goal

pub returns : goal.returns
returns c = with_each_tag c.args.mode c.args.string.now c.a_string_is_written_as_one.ensures.owned
