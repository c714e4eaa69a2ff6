use Rattle.std.proofs.Common.{subst, sym, All}
use Rattle.bcder.specs.calls.Iterated.{MayMap}
use Rattle.bcder.proofs.encode.values.mapped.SliceEncoder.measured.Goals as goal

pub note_joined-requires : goal.note_joined-requires
note_joined-requires g c = subst (All (MayMap g.F.Fn c.args.self.now.f g.V.Values.can_encode g.V.Values.means)) (sym c.as_slice-items.ensures) c.requires
