use Rattle.std.proofs.Common.{refl}
use Rattle.bcder.specs.calls.Views.{of_primitive}
use Rattle.bcder.specs.laws.Moved.{moved_carries}
use Rattle.bcder.proofs.OctetTakes.{some_octets}
use Rattle.bcder.proofs.decode.content.Primitive.skip.Goals as goal

pub returns-clause-moves : goal.returns-clause-moves
unfolding of_primitive
returns-clause-moves g c =
    moved_carries _ _
    (some_octets _ _ (g.S.Source.stream c.args.self.now.source.now.source) (g.S.Source.stream c.skip.new.self.source) c.args.self.now.source.now.limit
    c.skip.new.self.limit refl refl refl refl (g.met.S.Source.sound c.args.self.now.source.now.source) c.skip.ensures.kept refl refl refl refl refl refl
    refl c.args.len _ c.skip.ensures.count c.skip.ensures.ok c.skip.ensures.no_fault c.skip.ensures.fault c.skip.ensures.err).0

pub returns-clause-passed : goal.returns-clause-passed
unfolding of_primitive
returns-clause-passed g c =
    (some_octets _ _ (g.S.Source.stream c.args.self.now.source.now.source) (g.S.Source.stream c.skip.new.self.source) c.args.self.now.source.now.limit
    c.skip.new.self.limit refl refl refl refl (g.met.S.Source.sound c.args.self.now.source.now.source) c.skip.ensures.kept refl refl refl refl refl refl
    refl c.args.len _ c.skip.ensures.count c.skip.ensures.ok c.skip.ensures.no_fault c.skip.ensures.fault c.skip.ensures.err).1
