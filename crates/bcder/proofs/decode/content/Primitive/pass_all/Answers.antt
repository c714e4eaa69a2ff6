use Rattle.std.proofs.Common.{◌≤◌, length, take, refl, arith}
use Rattle.bcder.specs.calls.Stream.{limited}
use Rattle.bcder.specs.laws.Limits.{limited_sound}
use Rattle.bcder.specs.calls.Views.{of_primitive}
use Rattle.bcder.specs.laws.Moved.{moved_carries}
use Rattle.bcder.proofs.Moving.{moves_octets}
use Rattle.bcder.proofs.Entering.{advances_by}
use Rattle.bcder.proofs.Remaining.{limit_used}
use Rattle.bcder.proofs.decode.content.Primitive.pass_all.Goals as goal

pub returns-clause-moves : goal.returns-clause-moves
unfolding of_primitive
returns-clause-moves g c =
    let s = g.S.Source.stream c.args.self.now.source.now.source in
    let t = g.S.Source.stream c.advance.new.self.source in
    moved_carries _ _ (moves_octets _ _ (take c.args.len (limited c.args.self.now.source.now.limit s).rest) (advances_by _ _ s t
    c.args.self.now.source.now.limit c.advance.new.self.limit c.args.len refl refl refl refl (g.met.S.Source.sound c.args.self.now.source.now.source)
    c.advance.ensures.rest c.advance.ensures.faults c.advance.ensures.kept c.requires.at_hand refl refl refl) refl refl refl refl)

pub returns-clause-none_owed : goal.returns-clause-none_owed
unfolding of_primitive
returns-clause-none_owed g c =
    let s = g.S.Source.stream c.args.self.now.source.now.source in
    let h = limited_sound c.args.self.now.source.now.limit s (g.met.S.Source.sound c.args.self.now.source.now.source) in
    let w : c.args.len ≤ length (limited c.args.self.now.source.now.limit s).rest = omega (arith, c.requires.at_hand, h.at_hand) in
    limit_used c.args.self.now.source.now.limit c.advance.new.self.limit c.args.len s
    (g.S.Source.stream c.advance.new.self.source) c.requires.found.owed c.advance.ensures.rest c.advance.ensures.kept w
