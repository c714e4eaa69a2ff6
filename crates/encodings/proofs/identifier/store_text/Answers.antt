use Rattle.std.proofs.Common.{rules}
use Rattle.encodings.specs.Identifiers.{HasText}
use Rattle.encodings.proofs.Storing.{stored_twice}
use Rattle.encodings.proofs.Identifiers.{one_text}
use Rattle.encodings.proofs.identifier.store_text.Goals as goal

pub returns-in-Some-write_text : goal.returns-in-Some-write_text
returns-in-Some-write_text c =
    stored_twice (HasText c.args.octets.now) (one_text _) _ _ _ _ _ _ _ c.in-Some.ensures c.in-Some-write_text.ensures (search rules)
