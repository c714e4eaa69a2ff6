use Rattle.std.proofs.Common.{rules}
use Rattle.bcder.specs.calls.Cause.{cause_of}
use Rattle.bcder.specs.calls.Views.{of_constructed, lent}
use Rattle.bcder.proofs.Decoding.{hands_all, left_kept, left_passed, left_faults, decoded, not_decoded, same_borrow, same_behind}
use Rattle.bcder.proofs.decode.content.Constructed.decode_lent.Goals as goal

pub run_over-result-requires-clause-callable : goal.run_over-result-requires-clause-callable
run_over-result-requires-clause-callable g c = λ p over. c.requires.callable p (_, rw (c.new-limited.ensures.source, c.new-limited.ensures.limit) at over)

pub returns-clause-ok : goal.returns-clause-ok
returns-clause-ok g c =
    let old = lent g.S.Source.stream c.new-limited.result.source in
    let new = lent g.S.Source.stream c.run_over-result.new.source.source in
    let h = hands_all old new _ _ _ _ _ c.new-limited.ensures.limit c.run_over-result.ensures.runs in
    let name = same_borrow g.S.Source.stream c.new-limited.result.source c.run_over-result.new.source.source (left_kept old new _ _ _ h) in
    let d = decoded cause_of (of_constructed (lent g.S.Source.stream)) _ _ _ _ _ _ c.new-limited.ensures.limit _ c.run_over-result.ensures in
    search rules

pub returns-clause-refused : goal.returns-clause-refused
returns-clause-refused g c =
    let old = lent g.S.Source.stream c.new-limited.result.source in
    let new = lent g.S.Source.stream c.run_over-result.new.source.source in
    let h = hands_all old new _ _ _ _ _ c.new-limited.ensures.limit c.run_over-result.ensures.runs in
    let name = same_borrow g.S.Source.stream c.new-limited.result.source c.run_over-result.new.source.source (left_kept old new _ _ _ h) in
    let d = not_decoded cause_of (of_constructed (lent g.S.Source.stream)) _ _ _ _ _ _ c.new-limited.ensures.limit _ c.run_over-result.ensures in
    search rules

pub returns-clause-passed : goal.returns-clause-passed
returns-clause-passed g c =
    let old = lent g.S.Source.stream c.new-limited.result.source in
    let new = lent g.S.Source.stream c.run_over-result.new.source.source in
    let h = hands_all old new _ _ _ _ _ c.new-limited.ensures.limit c.run_over-result.ensures.runs in
    let name = same_borrow g.S.Source.stream c.new-limited.result.source c.run_over-result.new.source.source (left_kept old new _ _ _ h) in
    let d = left_passed old new _ _ _ h in
    search rules

pub returns-clause-faults : goal.returns-clause-faults
returns-clause-faults g c =
    let old = lent g.S.Source.stream c.new-limited.result.source in
    let new = lent g.S.Source.stream c.run_over-result.new.source.source in
    let h = hands_all old new _ _ _ _ _ c.new-limited.ensures.limit c.run_over-result.ensures.runs in
    let name = same_borrow g.S.Source.stream c.new-limited.result.source c.run_over-result.new.source.source (left_kept old new _ _ _ h) in
    let d = left_faults old new _ _ _ h in
    search rules

pub returns-clause-kept : goal.returns-clause-kept
returns-clause-kept g c =
    let old = lent g.S.Source.stream c.new-limited.result.source in
    let new = lent g.S.Source.stream c.run_over-result.new.source.source in
    let h = hands_all old new _ _ _ _ _ c.new-limited.ensures.limit c.run_over-result.ensures.runs in
    let name = same_borrow g.S.Source.stream c.new-limited.result.source c.run_over-result.new.source.source (left_kept old new _ _ _ h) in
    let d = same_behind g.S.Source.stream c.new-limited.result.source c.run_over-result.new.source.source (left_kept old new _ _ _ h) in
    search rules
