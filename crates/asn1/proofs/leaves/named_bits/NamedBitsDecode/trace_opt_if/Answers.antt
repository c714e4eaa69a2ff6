use Rattle.std.proofs.Common.{◌≡◌, true, Some, rules, subst, ◌∙◌}
use Rattle.std.specs.Prelude.{Ok}
use Rattle.bcder.specs.x690.BitString.{IsBitString}
use Rattle.bcder.specs.calls.Cause.{IsRefusal}
use Rattle.bcder.specs.calls.Views.{of_constructed}
use Rattle.bcder.proofs.Lemmas.{constructed_is_within_owed}
use Rattle.asn1.specs.NamedBitLists.{AreNamedBits, MayEnd}
use Rattle.asn1.specs.Types.{IsLeaf, Only, TakesNextTyped}
use Rattle.asn1.proofs.Narrowed.{narrow_refuses, narrow_not}
use Rattle.asn1.proofs.NamedBack.{as_bits, not_named}
use Rattle.asn1.proofs.leaves.named_bits.NamedBitsDecode.trace_opt_if.Goals as goal

pub returns-else-may_end-clause-took : goal.returns-else-may_end-clause-took
returns-else-may_end-clause-took g c =
    let i = of_constructed g.S.Source.stream c.args.cons.now in
    let j = of_constructed g.S.Source.stream c.trace_opt_if.new.cons in
    let k = of_constructed g.S.Source.stream c.fail.new.self in
    let w = constructed_is_within_owed g.S.Source.stream g.met.S.Source.sound c.args.cons.now in
    let n : TakesNextTyped (Only c.args.tag) (IsLeaf (IsBitString i.mode)) true {X = g.row.S-Error.Denot} i (Ok (Some c.in-Ok-Some.string)) j =
    rw c.in-Ok-Some.field-0-is at c.in-Ok-Some.ensures.took in
    let not = not_named i.mode c.in-Ok-Some.string c.may_end.result c.if-may_end.false
    (subst (λ m. MayEnd m c.in-Ok-Some.string → c.may_end.result ≡ true) (c.mode-mode.ensures ∙ n.mode) c.may_end.ensures.1) in
    let refusal : IsRefusal c.next_err-zeros.result = search rules in
    narrow_not (Only c.args.tag) (IsBitString i.mode) (AreNamedBits i.mode) (as_bits i.mode) i j w c.in-Ok-Some.string not n k c.fail.ensures.failed
    c.fail.ensures.mode c.fail.ensures.marked c.next_err-zeros.result refusal

pub returns-in-Err-clause-took : goal.returns-in-Err-clause-took
returns-in-Err-clause-took g c =
    let i = of_constructed g.S.Source.stream c.args.cons.now in
    let j = of_constructed g.S.Source.stream c.trace_opt_if.new.cons in
    narrow_refuses (Only c.args.tag) (IsBitString i.mode) (AreNamedBits i.mode) (as_bits i.mode) i j c.in-Err.error c.in-Err.ensures.took
