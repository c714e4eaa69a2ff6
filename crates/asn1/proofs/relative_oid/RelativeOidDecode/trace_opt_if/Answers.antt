use Rattle.std.proofs.Common.{◌≡◌, ℕ, List, Some, true, rules, sym, subst}
use Rattle.std.specs.Prelude.{Ok}
use Rattle.bcder.specs.declared.oid.Oid.{Oid}
use Rattle.bcder.specs.x690.ObjectIdentifier.{IsComplete}
use Rattle.bcder.specs.calls.Cause.{IsRefusal}
use Rattle.bcder.specs.calls.Views.{of_constructed}
use Rattle.bcder.proofs.Lemmas.{constructed_is_within_owed}
use Rattle.asn1.specs.RelativeIdentifiers.{AreRelative, IsRelative}
use Rattle.asn1.specs.Types.{IsLeaf, Only, TakesNextTyped}
use Rattle.asn1.proofs.Narrowed.{narrow_refuses, narrow_not}
use Rattle.asn1.proofs.relative_oid.RelativeOidDecode.trace_opt_if.Goals as goal

abbrev IsOid : List ℕ → Oid (List ℕ) → Type 0
IsOid w x = (x.0 ≡ w) × IsComplete w

as_oid : (w x : List ℕ) → AreRelative w x → (a : Oid (List ℕ)) × IsOid w a
as_oid w x k = (record { 0 = x }, (k.0, k.1.complete))

pub returns-in-None-clause-took : goal.returns-in-None-clause-took
returns-in-None-clause-took g c =
    let i = of_constructed g.S.Source.stream c.args.cons.now in
    let j = of_constructed g.S.Source.stream c.trace_opt_if.new.cons in
    let k = of_constructed g.S.Source.stream c.fail.new.self in
    let w = constructed_is_within_owed g.S.Source.stream g.met.S.Source.sound c.args.cons.now in
    let n : TakesNextTyped (Only c.args.tag) (IsLeaf IsOid) true {X = g.row.S-Error.Denot} i (Ok (Some c.in-Ok-Some.oid)) j =
    rw c.in-Ok-Some.field-0-is at c.in-Ok-Some.ensures.took in
    let refusal : IsRefusal c.next_err-padded.result = search rules in
    narrow_not (Only c.args.tag) IsOid AreRelative as_oid i j w c.in-Ok-Some.oid
    (λ v x h l. c.in-None.ensures (subst IsRelative (sym h.0) l.1)) n k c.fail.ensures.failed c.fail.ensures.mode
    c.fail.ensures.marked c.next_err-padded.result refusal

pub returns-in-Err-clause-took : goal.returns-in-Err-clause-took
returns-in-Err-clause-took g c =
    let i = of_constructed g.S.Source.stream c.args.cons.now in
    let j = of_constructed g.S.Source.stream c.trace_opt_if.new.cons in
    narrow_refuses (Only c.args.tag) IsOid AreRelative as_oid i j c.in-Err.error c.in-Err.ensures.took
