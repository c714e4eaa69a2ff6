use Rattle.std.proofs.Common.{arith, rules, string_bytes}
use Rattle.bcder.specs.calls.Content.{EndsBefore}
use Rattle.bcder.specs.calls.Views.{of_constructed}
use Rattle.bcder.specs.laws.Moved.{moved_carries, untouched_is_moved, moved_twice_is_moved}
use Rattle.bcder.proofs.Lemmas.{constructed_is_within_owed, constructed_is_not_octets, refused_as_met, where_some, where_none, shorter_by_a_value}
use Rattle.berlist.specs.Gather.{ListsValue, RefusesAll}
use Rattle.berlist.proofs.Gathering.{begins, goes_on, ends_here, refused_here}
use Rattle.berlist.proofs.gather.all_lines.Goals as goal

pub loop-text-init : goal.loop-text-init
loop-text-init g c = begins _ _ (search rules)

pub returns-in_err-next_lines-clause-moves : goal.returns-in_err-next_lines-clause-moves
returns-in_err-next_lines-clause-moves g c =
    moved_carries _ _ (moved_twice_is_moved _ _ _ c.loop-text.invariant.walks.moves (c.in_err-next_lines.ensures.moves _ (untouched_is_moved _)))

pub returns-in_err-next_lines-clause-refused : goal.returns-in_err-next_lines-clause-refused
returns-in_err-next_lines-clause-refused g c =
    let i = of_constructed g.S.Source.stream c.args.cons.now in
    let j = of_constructed g.S.Source.stream c.loop-text.cons in
    let k = of_constructed g.S.Source.stream c.next_lines.new.cons in
    refused_as_met c.from_residual.result _ (λ e. RefusesAll i e k) c.from_residual.ensures.1
    (refused_here _ i j k (constructed_is_not_octets g.S.Source.stream c.args.cons.now) c.loop-text.invariant.walks c.in_err-next_lines.ensures.refused)

pub loop-text-smaller : goal.loop-text-smaller
loop-text-smaller g c =
    let j = of_constructed g.S.Source.stream c.loop-text.cons in
    let k = of_constructed g.S.Source.stream c.next_lines.new.cons in
    let v = where_some (ListsValue j (string_bytes c.loop-text.text) (string_bytes c.next_lines.new.text) k) _ c.if-is_some.ensures
    c.in_ok-next_lines.ensures.listed in
    let h = shorter_by_a_value j k v.passes in omega (arith, h)

pub loop-text-preserved : goal.loop-text-preserved
loop-text-preserved g c =
    let i = of_constructed g.S.Source.stream c.args.cons.now in
    let j = of_constructed g.S.Source.stream c.loop-text.cons in
    let k = of_constructed g.S.Source.stream c.next_lines.new.cons in
    let v = where_some (ListsValue j (string_bytes c.loop-text.text) (string_bytes c.next_lines.new.text) k) _ c.if-is_some.ensures
    c.in_ok-next_lines.ensures.listed in
    goes_on i j k _ _ (constructed_is_within_owed g.S.Source.stream g.met.S.Source.sound c.loop-text.cons) c.loop-text.invariant
    (c.in_ok-next_lines.ensures.moves _ (untouched_is_moved _)) c.in_ok-next_lines.ensures.mode c.in_ok-next_lines.ensures.marked v

pub returns-clause-moves : goal.returns-clause-moves
returns-clause-moves g c =
    moved_carries _ _ (moved_twice_is_moved _ _ _ c.loop-text.invariant.walks.moves (c.in_ok-next_lines.ensures.moves _ (untouched_is_moved _)))

pub returns-clause-listed : goal.returns-clause-listed
returns-clause-listed g c s =
    let i = of_constructed g.S.Source.stream c.args.cons.now in
    let j = of_constructed g.S.Source.stream c.loop-text.cons in
    let k = of_constructed g.S.Source.stream c.next_lines.new.cons in
    ends_here i j k _ _ (search rules) (constructed_is_not_octets g.S.Source.stream c.args.cons.now) c.loop-text.invariant
    (where_none (EndsBefore j k.stream.rest) _ c.if-is_some.ensures c.in_ok-next_lines.ensures.end) s
