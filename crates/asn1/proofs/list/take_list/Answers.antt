use Rattle.std.proofs.Common.{◌≡◌, ◌++◌, ◌∷◌, [], subst, sym, arith, rules, Some, None}
use Rattle.std.specs.Prelude.{Ok}
use Rattle.bcder.specs.calls.Views.{of_constructed}
use Rattle.bcder.specs.laws.Moved.{untouched_is_moved, moved_carries, moved_twice_is_moved}
use Rattle.bcder.proofs.Lemmas.{constructed_is_within_owed}
use Rattle.asn1.specs.Types.{TakesNextTyped}
use Rattle.asn1.proofs.Reading.{AreTags}
use Rattle.asn1.proofs.Lists.{Runs, runs_none, more_of_list, shorter_list, reads_list, refuses_list, keeps_no_list}
use Rattle.asn1.proofs.list.take_list.Goals as goal

pub loop-value-init : goal.loop-value-init
loop-value-init g c =
    let i = of_constructed g.S.Source.stream c.args.cons.now in
    subst (λ z. Runs (g.T.Type.tags g.T.Type.TAG) (g.T.Type.means i.mode) i z i) (sym c.new-all.ensures.items)
    (runs_none (g.T.Type.tags g.T.Type.TAG) (g.T.Type.means i.mode) i)

pub loop-value-preserved : goal.loop-value-preserved
loop-value-preserved g c =
    let Tags = g.T.Type.tags g.T.Type.TAG in
    let i = of_constructed g.S.Source.stream c.args.cons.now in
    let d = of_constructed g.S.Source.stream c.loop-value.cons in
    let e = of_constructed g.S.Source.stream c.trace_opt_from.new.cons in
    let r : Runs Tags (g.T.Type.means i.mode) i c.loop-value.all.items d = c.loop-value.invariant in
    let w = constructed_is_within_owed g.S.Source.stream g.met.S.Source.sound c.loop-value.cons in
    let m = c.trace_opt_from.ensures.moves d (untouched_is_moved d) in
    let n : TakesNextTyped Tags (g.T.Type.means d.mode) g.T.Decode.may_lack {X = g.row.S-Error.Denot} d (Ok (Some c.in-Ok-Some.value)) e =
    rw c.in-Ok-Some.field-0-is at c.in-Ok-Some.ensures.took in
    let q : c.push.new.self.items ≡ c.loop-value.all.items ++ (c.in-Ok-Some.value ∷ []) = search rules in
    subst (λ z. Runs Tags (g.T.Type.means i.mode) i z e) (sym q) (more_of_list Tags g.T.Type.means i c.loop-value.all.items d e r w m c.in-Ok-Some.value n)

pub loop-value-smaller : goal.loop-value-smaller
loop-value-smaller g c =
    let Tags = g.T.Type.tags g.T.Type.TAG in
    let i = of_constructed g.S.Source.stream c.args.cons.now in
    let d = of_constructed g.S.Source.stream c.loop-value.cons in
    let e = of_constructed g.S.Source.stream c.trace_opt_from.new.cons in
    let r : Runs Tags (g.T.Type.means i.mode) i c.loop-value.all.items d = c.loop-value.invariant in
    let w = constructed_is_within_owed g.S.Source.stream g.met.S.Source.sound c.loop-value.cons in
    let m = c.trace_opt_from.ensures.moves d (untouched_is_moved d) in
    let n : TakesNextTyped Tags (g.T.Type.means d.mode) g.T.Decode.may_lack {X = g.row.S-Error.Denot} d (Ok (Some c.in-Ok-Some.value)) e =
    rw c.in-Ok-Some.field-0-is at c.in-Ok-Some.ensures.took in
    let h = shorter_list Tags g.T.Type.means i c.loop-value.all.items d e r w m c.in-Ok-Some.value n in
    omega (arith, h)

pub returns-in-Ok-None-clause-moves : goal.returns-in-Ok-None-clause-moves
returns-in-Ok-None-clause-moves g c =
    let d = of_constructed g.S.Source.stream c.loop-value.cons in
    moved_carries _ _ (moved_twice_is_moved _ _ _ c.loop-value.invariant.moves (c.trace_opt_from.ensures.moves d (untouched_is_moved d)))

pub returns-in-Ok-None-clause-took : goal.returns-in-Ok-None-clause-took
returns-in-Ok-None-clause-took g c =
    let Tags = g.T.Type.tags g.T.Type.TAG in
    let i = of_constructed g.S.Source.stream c.args.cons.now in
    let d = of_constructed g.S.Source.stream c.loop-value.cons in
    let e = of_constructed g.S.Source.stream c.trace_opt_from.new.cons in
    let r : Runs Tags (g.T.Type.means i.mode) i c.loop-value.all.items d = c.loop-value.invariant in
    let w = constructed_is_within_owed g.S.Source.stream g.met.S.Source.sound c.loop-value.cons in
    let m = c.trace_opt_from.ensures.moves d (untouched_is_moved d) in
    let v : AreTags Tags = record { own = g.T.Type.TAG; is_own = g.met.T.Type.tagged; value_tags = g.met.T.Type.value_tags } in
    let n : TakesNextTyped Tags (g.T.Type.means d.mode) g.T.Decode.may_lack {X = g.row.S-Error.Denot} d (Ok None) e =
    rw c.in-Ok-None.field-0-is at c.in-Ok-None.ensures.took in
    reads_list Tags g.T.Type.means i c.loop-value.all.items d e r w m v n

pub returns-in-Err-clause-moves : goal.returns-in-Err-clause-moves
returns-in-Err-clause-moves g c =
    let d = of_constructed g.S.Source.stream c.loop-value.cons in
    moved_carries _ _ (moved_twice_is_moved _ _ _ c.loop-value.invariant.moves (c.trace_opt_from.ensures.moves d (untouched_is_moved d)))

pub returns-in-Err-clause-took : goal.returns-in-Err-clause-took
returns-in-Err-clause-took g c =
    let Tags = g.T.Type.tags g.T.Type.TAG in
    let i = of_constructed g.S.Source.stream c.args.cons.now in
    let d = of_constructed g.S.Source.stream c.loop-value.cons in
    let e = of_constructed g.S.Source.stream c.trace_opt_from.new.cons in
    let r : Runs Tags (g.T.Type.means i.mode) i c.loop-value.all.items d = c.loop-value.invariant in
    let w = constructed_is_within_owed g.S.Source.stream g.met.S.Source.sound c.loop-value.cons in
    let m = c.trace_opt_from.ensures.moves d (untouched_is_moved d) in
    let v : AreTags Tags = record { own = g.T.Type.TAG; is_own = g.met.T.Type.tagged; value_tags = g.met.T.Type.value_tags } in
    refuses_list Tags g.T.Type.means i c.loop-value.all.items d e r w m v c.in-Err.error c.in-Err.ensures.took

pub returns-then-is_err-clause-moves : goal.returns-then-is_err-clause-moves
returns-then-is_err-clause-moves g c =
    let d = of_constructed g.S.Source.stream c.loop-value.cons in
    moved_carries _ _ (moved_twice_is_moved _ _ _ c.loop-value.invariant.moves (c.trace_opt_from.ensures.moves d (untouched_is_moved d)))

pub returns-then-is_err-clause-took : goal.returns-then-is_err-clause-took
returns-then-is_err-clause-took g c =
    let Tags = g.T.Type.tags g.T.Type.TAG in
    let i = of_constructed g.S.Source.stream c.args.cons.now in
    let d = of_constructed g.S.Source.stream c.loop-value.cons in
    let e = of_constructed g.S.Source.stream c.trace_opt_from.new.cons in
    let r : Runs Tags (g.T.Type.means i.mode) i c.loop-value.all.items d = c.loop-value.invariant in
    let w = constructed_is_within_owed g.S.Source.stream g.met.S.Source.sound c.loop-value.cons in
    let m = c.trace_opt_from.ensures.moves d (untouched_is_moved d) in
    let n : TakesNextTyped Tags (g.T.Type.means d.mode) g.T.Decode.may_lack {X = g.row.S-Error.Denot} d (Ok (Some c.in-Ok-Some.value)) e =
    rw c.in-Ok-Some.field-0-is at c.in-Ok-Some.ensures.took in
    keeps_no_list Tags g.T.Type.means i c.loop-value.all.items d e r w m c.no_memory.result c.no_memory.ensures c.in-Ok-Some.value n
