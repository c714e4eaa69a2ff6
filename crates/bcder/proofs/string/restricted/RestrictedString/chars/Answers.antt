use Rattle.std.proofs.Common.{subst, sym}
use Rattle.bcder.specs.x690.CharSet.{IsOfSet}
use Rattle.bcder.proofs.Characters.{spells_left}
use Rattle.bcder.proofs.string.restricted.RestrictedString.chars.Goals as goal

pub as_text-requires : goal.as_text-requires
as_text-requires g c = subst (IsOfSet g.L.CharSet.step) (sym c.octets-octets.ensures.octets) c.self.invariant

pub returns : goal.returns
returns g c =
    let step = g.L.CharSet.step in
    let w0 = c.octets-octets.result.octets in
    let accepts = subst (IsOfSet step) (sym c.octets-octets.ensures.octets) c.self.invariant in
    rw (← c.self.view_is, ← c.octets-octets.ensures.octets) (spells_left step g.met.L.CharSet.lawful w0 c.as_text.result accepts c.as_text.ensures)
