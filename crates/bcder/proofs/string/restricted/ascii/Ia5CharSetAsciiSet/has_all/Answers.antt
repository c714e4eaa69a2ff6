use Rattle.bcder.proofs.AsciiSets.{ascii_told}
use Rattle.bcder.proofs.string.restricted.ascii.Ia5CharSetAsciiSet.has_all.Goals as goal

pub returns : goal.returns
returns c = ascii_told c.args.octets.now c.is_ascii.result c.is_ascii.ensures.cases
