use Rattle.std.proofs.Common.{refl, subst, rules}
use Rattle.bcder.specs.x690.Identifier.{AreOctets}
use Rattle.bcder.proofs.Contents.{octets_read}
use Rattle.bcder.proofs.laws.read_back.an_identifier_is_read_back.Goals as goal

pub returns : goal.returns
returns g c = octets_read (g.T.AsSlice.items c.args.x.now.0) _ (g.T.AsSlice.items c.args.x.now.0) (subst AreOctets c.as_slice-slice.ensures (search rules))
    (refl, c.requires) (λ y p. p.0)
