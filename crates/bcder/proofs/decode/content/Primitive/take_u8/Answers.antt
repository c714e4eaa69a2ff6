use Rattle.std.proofs.Common.{refl}
use Rattle.bcder.specs.calls.Views.{of_primitive}
use Rattle.bcder.specs.laws.Moved.{moved_carries}
use Rattle.bcder.proofs.OctetTakes.{one_octet}
use Rattle.bcder.proofs.decode.content.Primitive.take_u8.Goals as goal

pub returns-clause-moves : goal.returns-clause-moves
unfolding of_primitive
returns-clause-moves g c =
    moved_carries _ _
    (one_octet _ _ (g.S.Source.stream c.args.self.now.source.now.source) (g.S.Source.stream c.take_u8.new.self.source) c.args.self.now.source.now.limit
    c.take_u8.new.self.limit refl refl refl refl (g.met.S.Source.sound c.args.self.now.source.now.source) c.take_u8.ensures.kept refl refl refl refl refl
    refl refl _ c.take_u8.ensures.ok c.take_u8.ensures.no_fault c.take_u8.ensures.cause c.take_u8.ensures.no_fewer c.take_u8.ensures.err).0

pub returns-clause-took : goal.returns-clause-took
unfolding of_primitive
returns-clause-took g c =
    (one_octet _ _ (g.S.Source.stream c.args.self.now.source.now.source) (g.S.Source.stream c.take_u8.new.self.source) c.args.self.now.source.now.limit
    c.take_u8.new.self.limit refl refl refl refl (g.met.S.Source.sound c.args.self.now.source.now.source) c.take_u8.ensures.kept refl refl refl refl refl
    refl refl _ c.take_u8.ensures.ok c.take_u8.ensures.no_fault c.take_u8.ensures.cause c.take_u8.ensures.no_fewer c.take_u8.ensures.err).1
