use Rattle.std.proofs.Common.{subst, rules}
use Rattle.bcder.specs.x690.Identifier.{AreOctets}
use Rattle.bcder.proofs.TakenBack.{identifier_taken}
use Rattle.bcder.proofs.laws.taken_back.an_identifier_is_taken_back.Goals as goal

pub returns : goal.returns
returns g c = identifier_taken c.args.x.now c.args.mode c.requires.complete c.requires.short (subst AreOctets c.as_slice-slice.ensures (search rules))
