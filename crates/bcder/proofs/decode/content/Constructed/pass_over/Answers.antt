use Rattle.std.proofs.Common.{refl}
use Rattle.bcder.specs.calls.Views.{of_constructed}
use Rattle.bcder.proofs.Entering.{advances_by, within}
use Rattle.bcder.proofs.decode.content.Constructed.pass_over.Goals as goal

pub returns : goal.returns
unfolding of_constructed
returns g c =
    let w = within c.args.self.now.source.now.limit (g.S.Source.stream c.args.self.now.source.now.source) c.args.size
    (g.met.S.Source.sound c.args.self.now.source.now.source) c.requires in
    record {
      advances = advances_by _ _ (g.S.Source.stream c.args.self.now.source.now.source) (g.S.Source.stream c.advance.new.self.source)
          c.args.self.now.source.now.limit c.advance.new.self.limit c.args.size refl refl refl refl (g.met.S.Source.sound c.args.self.now.source.now.source)
          c.advance.ensures.rest c.advance.ensures.faults c.advance.ensures.kept c.requires refl refl refl;
      octets = w.0;
      within = w.1;
      no_fault = c.advance.ensures.faults;
      state = refl;
      marked = refl;
    }
