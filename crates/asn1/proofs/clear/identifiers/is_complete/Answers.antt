use Rattle.bcder.proofs.Subidentifiers.{complete_told}
use Rattle.asn1.proofs.clear.identifiers.is_complete.Goals as goal

pub returns-in-len1-up : goal.returns-in-len1-up
returns-in-len1-up c = complete_told c.args.octets.now c.in-len1-up.len_at_least
