use Rattle.bcder.specs.calls.Content.{nothing}
use Rattle.bcder.specs.calls.Capturing.{of_captured}
use Rattle.bcder.specs.calls.Cause.{cause_of}
use Rattle.bcder.specs.calls.Sources.{capturing}
use Rattle.bcder.specs.calls.Views.{limited_stream}
use Rattle.bcder.specs.laws.Limits.{ahead_sound, limited_sound}
use Rattle.bcder.proofs.SameBorrow.{within_constructed}
use Rattle.bcder.proofs.Naming.{names_end}
use Rattle.bcder.proofs.CapturingValues.{end_has_none, one_refused}
use Rattle.bcder.proofs.decode.content.fn.Constructed.capture_one.capture.Goals as goal

pub returns-in-Ok-None : goal.returns-in-Ok-None
returns-in-Ok-None g c =
    let n = rw c.in-Ok-None.field-0-is at c.in-Ok-None.ensures.skipped.value in
    record {
      moves = c.skip_one.ensures.moves;
      passed = record {
        passed = tt;
        no_fault = tt;
        refused = nothing (end_has_none (of_captured g.S.Source.stream c.args.cons.now) (of_captured g.S.Source.stream c.skip_one.new.self)
            (within_constructed (capturing (limited_stream g.S.Source.stream)) (λ s. ahead_sound s.source.ghost_name s.pos (limited_stream g.S.Source.stream
            s.source.now) (limited_sound s.source.now.limit (g.S.Source.stream s.source.now.source) (g.met.S.Source.sound s.source.now.source)))
            c.args.cons.now) n.missing.0)
            (names_end (of_captured g.S.Source.stream c.args.cons.now) (cause_of c.refusal.result)
            c.refusal.ensures (of_captured g.S.Source.stream c.skip_one.new.self).stream.rest n.missing.0);
        marked = c.skip_one.ensures.skipped.marked;
      };
    }

pub returns-in-Err : goal.returns-in-Err
returns-in-Err g c = record {
  moves = c.skip_one.ensures.moves;
  passed = record {
    passed = tt;
    no_fault = tt;
    refused = one_refused (of_captured g.S.Source.stream c.args.cons.now)
        (of_captured g.S.Source.stream c.skip_one.new.self) c.in-Err.error c.in-Err.ensures.skipped.refused.1;
    marked = c.skip_one.ensures.skipped.marked;
  };
}
