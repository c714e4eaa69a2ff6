use Rattle.std.proofs.Common.{◌≢◌, subst, sym, ◌∙◌, Some, None}
use Rattle.std.specs.Prelude.{Ok}
use Rattle.bcder.specs.declared.mode.Mode.TheVariants.{Ber}
use Rattle.bcder.specs.calls.Views.{of_constructed}
use Rattle.asn1.specs.Types.{IsOptional, ReadsFields}
use Rattle.asn1.proofs.Defaulted.{reads_given, reads_left_out, refuses_default, no_memory, refuses_defaulted}
use Rattle.asn1.proofs.default.OrDefaultDecodeFields.trace_fields.Goals as goal

pub returns-then-is_left_out-clause-took : goal.returns-then-is_left_out-clause-took
returns-then-is_left_out-clause-took g c =
    let Tags = g.T.Type.tags g.T.Type.TAG in
    let i = of_constructed g.S.Source.stream c.args.cons.now in
    let d = of_constructed g.S.Source.stream c.trace_fields.new.cons in
    let r : ReadsFields (IsOptional Tags (g.T.Type.means i.mode)) g.T.Decode.may_lack {X = g.row.S-Error.Denot} i (Ok (Some c.in-Ok-Some.value)) d =
    rw c.in-Ok-Some.field-0-is at c.in-Ok-Some.ensures.took in
    let yes = c.is_left_out.ensures.yes c.if-is_left_out.true in
    let ne : i.mode ≢ Ber = subst (λ z. z ≢ Ber) (c.mode-mode.ensures ∙ r.mode) yes.0 in
    refuses_default i.mode Tags (g.T.Type.means i.mode) g.T.Type.key (g.T.Type.key g.D.DefaultValue.default) (λ x. x) i d
    g.T.Decode.may_lack g.D.DefaultValue.may_lack (c.values_are_one.ensures.one i.mode)
    ne c.in-Ok-Some.value r yes.1 _ c.default_is_encoded.ensures.refusal

pub returns-else-is_left_out-clause-took : goal.returns-else-is_left_out-clause-took
returns-else-is_left_out-clause-took g c =
    let Tags = g.T.Type.tags g.T.Type.TAG in
    let i = of_constructed g.S.Source.stream c.args.cons.now in
    let d = of_constructed g.S.Source.stream c.trace_fields.new.cons in
    let r : ReadsFields (IsOptional Tags (g.T.Type.means i.mode)) g.T.Decode.may_lack {X = g.row.S-Error.Denot} i (Ok (Some c.in-Ok-Some.value)) d =
    rw c.in-Ok-Some.field-0-is at c.in-Ok-Some.ensures.took in
    let no = c.is_left_out.ensures.no c.if-is_left_out.false in
    reads_given i.mode Tags (g.T.Type.means i.mode) g.T.Type.key (g.T.Type.key g.D.DefaultValue.default) (λ x. x) i d
    g.T.Decode.may_lack g.D.DefaultValue.may_lack _ r
    (λ ne. no (subst (λ z. z ≢ Ber) (sym (c.mode-mode.ensures ∙ r.mode)) ne))

pub returns-in-Ok-clause-took : goal.returns-in-Ok-clause-took
returns-in-Ok-clause-took g c =
    let Tags = g.T.Type.tags g.T.Type.TAG in
    let i = of_constructed g.S.Source.stream c.args.cons.now in
    let d = of_constructed g.S.Source.stream c.trace_fields.new.cons in
    let r : ReadsFields (IsOptional Tags (g.T.Type.means i.mode)) g.T.Decode.may_lack {X = g.row.S-Error.Denot} i (Ok None) d =
    rw c.in-Ok-None.field-0-is at c.in-Ok-None.ensures.took in
    reads_left_out i.mode Tags (g.T.Type.means i.mode) g.T.Type.key (g.T.Type.key g.D.DefaultValue.default) (λ x. x) i d
    g.T.Decode.may_lack g.D.DefaultValue.may_lack _ r c.in-Ok.ensures.made

pub returns-in-Err-clause-took : goal.returns-in-Err-clause-took
returns-in-Err-clause-took g c =
    let Tags = g.T.Type.tags g.T.Type.TAG in
    let i = of_constructed g.S.Source.stream c.args.cons.now in
    let d = of_constructed g.S.Source.stream c.trace_fields.new.cons in
    refuses_defaulted i.mode Tags (g.T.Type.means i.mode) g.T.Type.key (g.T.Type.key g.D.DefaultValue.default) (λ x. x) i d
    g.T.Decode.may_lack g.D.DefaultValue.may_lack _ c.in-Err.ensures.took

pub returns-in-Err-make-clause-took : goal.returns-in-Err-make-clause-took
returns-in-Err-make-clause-took g c =
    let Tags = g.T.Type.tags g.T.Type.TAG in
    let i = of_constructed g.S.Source.stream c.args.cons.now in
    let d = of_constructed g.S.Source.stream c.trace_fields.new.cons in
    let r : ReadsFields (IsOptional Tags (g.T.Type.means i.mode)) g.T.Decode.may_lack {X = g.row.S-Error.Denot} i (Ok None) d =
    rw c.in-Ok-None.field-0-is at c.in-Ok-None.ensures.took in
    no_memory i.mode Tags (g.T.Type.means i.mode) g.T.Type.key (g.T.Type.key g.D.DefaultValue.default) (λ x. x) i d
    g.T.Decode.may_lack g.D.DefaultValue.may_lack r c.no_memory.result c.no_memory.ensures c.in-Err-make.ensures.lacks
