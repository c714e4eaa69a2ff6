use Rattle.std.proofs.Common.{ℤ, false, Some, rules, sym, ◌∙◌}
use Rattle.std.specs.Int.{w64}
use Rattle.std.specs.Prelude.{Ok}
use Rattle.bcder.specs.calls.Cause.{IsRefusal}
use Rattle.bcder.specs.calls.Readers.{IsSigned}
use Rattle.bcder.specs.calls.Views.{of_constructed}
use Rattle.bcder.proofs.Lemmas.{constructed_is_within_owed}
use Rattle.asn1.specs.declared.leaves.enumerated.Enumerated.{Enumerated}
use Rattle.asn1.specs.Types.{IsLeaf, Only, TakesTyped, TakesNextTyped}
use Rattle.asn1.proofs.Narrowed.{narrow_refuses, narrow_not}
use Rattle.asn1.proofs.Numbered.{IsNumbered, number_of, is_not_numbered, leaf_number}
use Rattle.asn1.proofs.leaves.enumerated.EnumeratedDecode.trace_opt_if.Goals as goal

pub returns-in-None-clause-took : goal.returns-in-None-clause-took
returns-in-None-clause-took g c =
    let i = of_constructed g.S.Source.stream c.args.cons.now in
    let j = of_constructed g.S.Source.stream c.trace_opt_if.new.cons in
    let k = of_constructed g.S.Source.stream c.fail.new.self in
    let w = constructed_is_within_owed g.S.Source.stream g.met.S.Source.sound c.args.cons.now in
    let number : Enumerated g.row.E.Denot → ℤ = λ x. g.E.Enumeration.number x.0 in
    let n : TakesNextTyped (Only c.args.tag) (IsLeaf (IsSigned w64)) false {X = g.row.S-Error.Denot} i (Ok (Some c.in-Ok-Some.number)) j =
    rw c.in-Ok-Some.field-0-is at c.in-Ok-Some.ensures.took in
    let v : TakesTyped (Only c.args.tag) (IsLeaf (IsSigned w64)) i c.in-Ok-Some.number j = n.value in
    let same = leaf_number w64 v.tree c.in-Ok-Some.number v.means in
    let refusal : IsRefusal c.next_err-unknown.result = search rules in
    narrow_not (Only c.args.tag) (IsSigned w64) (IsNumbered w64 number) (number_of w64 number) i j w c.in-Ok-Some.number
    (is_not_numbered w64 number c.in-Ok-Some.number (λ x e. c.in-None.ensures x.0 (e ∙ sym same))) n k c.fail.ensures.failed c.fail.ensures.mode
    c.fail.ensures.marked c.next_err-unknown.result refusal

pub returns-in-Err-clause-took : goal.returns-in-Err-clause-took
returns-in-Err-clause-took g c =
    let i = of_constructed g.S.Source.stream c.args.cons.now in
    let j = of_constructed g.S.Source.stream c.trace_opt_if.new.cons in
    let number : Enumerated g.row.E.Denot → ℤ = λ x. g.E.Enumeration.number x.0 in
    narrow_refuses (Only c.args.tag) (IsSigned w64) (IsNumbered w64 number) (number_of w64 number) i j c.in-Err.error c.in-Err.ensures.took
