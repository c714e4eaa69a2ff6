use Rattle.std.proofs.Common.{◌≡◌, ◌≢◌, ◌++◌, ◌∷◌, [], true, false, subst, sym, ◌∙◌, rules, Some, None}
use Rattle.std.specs.Prelude.{Ok}
use Rattle.std.specs.declared.vec.Vec.{Vec}
use Rattle.std.specs.declared.alloc.Global.{Global}
use Rattle.bcder.specs.declared.mode.Mode.TheVariants.{Ber}
use Rattle.bcder.specs.calls.Views.{of_constructed}
use Rattle.bcder.specs.calls.Capturing.{CapturesNext}
use Rattle.bcder.specs.laws.Moved.{untouched_is_moved, moved_carries, moved_twice_is_moved}
use Rattle.bcder.proofs.Lemmas.{constructed_is_within_owed, constructed_is_not_octets}
use Rattle.asn1.specs.Decoded.{IsValueOf}
use Rattle.asn1.specs.SetsOf.{IsNotAfter, AreSetOf, RefusesOctets}
use Rattle.asn1.proofs.Pairs.{reads_seen, refuses_seen}
use Rattle.asn1.proofs.SetsRead.{SetSoFar, no_set_yet, one_more, reads_set, refuses_set, refuses_value, refuses_order}
use Rattle.asn1.proofs.set_of.take_values.Goals as goal

pub loop-captured-init : goal.loop-captured-init
loop-captured-init g c =
    let Tags = g.T.Type.tags g.T.Type.TAG in
    let i = of_constructed g.S.Source.stream c.args.cons.now in
    subst (λ z. SetSoFar Tags (g.T.Type.means i.mode) i z c.new-last.result i) (sym c.new-all.ensures.items)
    (subst (λ z. SetSoFar Tags (g.T.Type.means i.mode) i [] z i) (sym c.new-last.ensures) (no_set_yet Tags (g.T.Type.means i.mode) i))

pub returns-in_default-clause-moves : goal.returns-in_default-clause-moves
returns-in_default-clause-moves g c =
    let d = of_constructed g.S.Source.stream c.loop-captured.cons in
    moved_carries _ _ (moved_twice_is_moved _ _ _ c.loop-captured.invariant.moves (c.capture_opt_one.ensures.moves d (untouched_is_moved d)))

pub returns-then-not-may_follow-clause-moves : goal.returns-then-not-may_follow-clause-moves
returns-then-not-may_follow-clause-moves g c =
    let d = of_constructed g.S.Source.stream c.loop-captured.cons in
    moved_carries _ _ (moved_twice_is_moved _ _ _ c.loop-captured.invariant.moves (c.capture_opt_one.ensures.moves d (untouched_is_moved d)))

pub returns-then-is_err-clause-moves : goal.returns-then-is_err-clause-moves
returns-then-is_err-clause-moves g c =
    let d = of_constructed g.S.Source.stream c.loop-captured.cons in
    moved_carries _ _ (moved_twice_is_moved _ _ _ c.loop-captured.invariant.moves (c.capture_opt_one.ensures.moves d (untouched_is_moved d)))

pub returns-in-Err-read_value-clause-moves : goal.returns-in-Err-read_value-clause-moves
returns-in-Err-read_value-clause-moves g c =
    let d = of_constructed g.S.Source.stream c.loop-captured.cons in
    moved_carries _ _ (moved_twice_is_moved _ _ _ c.loop-captured.invariant.moves (c.capture_opt_one.ensures.moves d (untouched_is_moved d)))

pub returns-in-Ok-None-clause-moves : goal.returns-in-Ok-None-clause-moves
returns-in-Ok-None-clause-moves g c =
    let d = of_constructed g.S.Source.stream c.loop-captured.cons in
    moved_carries _ _ (moved_twice_is_moved _ _ _ c.loop-captured.invariant.moves (c.capture_opt_one.ensures.moves d (untouched_is_moved d)))

pub returns-in-Err-clause-moves : goal.returns-in-Err-clause-moves
returns-in-Err-clause-moves g c =
    let d = of_constructed g.S.Source.stream c.loop-captured.cons in
    moved_carries _ _ (moved_twice_is_moved _ _ _ c.loop-captured.invariant.moves (c.capture_opt_one.ensures.moves d (untouched_is_moved d)))

pub loop-captured-preserved : goal.loop-captured-preserved
loop-captured-preserved g c =
    let Tags = g.T.Type.tags g.T.Type.TAG in
    let i = of_constructed g.S.Source.stream c.args.cons.now in
    let d = of_constructed g.S.Source.stream c.loop-captured.cons in
    let e = of_constructed g.S.Source.stream c.capture_opt_one.new.self in
    let xs = c.loop-captured.all.items in
    let last = c.loop-captured.last in
    let k = c.in-Ok-Some.captured in
    let r : SetSoFar Tags (g.T.Type.means i.mode) i xs last d = c.loop-captured.invariant in
    let w = constructed_is_within_owed g.S.Source.stream g.met.S.Source.sound c.loop-captured.cons in
    let m = c.capture_opt_one.ensures.moves d (untouched_is_moved d) in
    let n : CapturesNext {X = g.row.S-Error.Denot} d (Ok (Some k)) e = rw c.in-Ok-Some.field-0-is at c.in-Ok-Some.ensures.captured in
    let x = c.in-Ok-read_value.value in
    let v : IsValueOf i.mode Tags (g.T.Type.means i.mode) k.octets x =
    subst (λ z. IsValueOf z Tags (g.T.Type.means z) k.octets x) c.mode-mode.ensures c.in-Ok-read_value.ensures.value in
    let o : c.in-Ok.octets ≡ k.octets = c.in-Ok.ensures.value in
    let t : c.may_follow.result ≡ true = search rules in
    let f = λ (ne : i.mode ≢ Ber).
    subst (λ z. IsNotAfter z k.octets) c.as_slice.ensures
    (subst (IsNotAfter c.as_slice.result.now) (c.as_slice-in-Ok-Some.ensures ∙ o) (c.may_follow.ensures.yes t (λ z. ne (sym c.mode-mode.ensures ∙ z)))) in
    let q : c.push.new.self.items ≡ xs ++ (x ∷ []) = search rules in
    subst (λ z. SetSoFar Tags (g.T.Type.means i.mode) i z c.in-Ok.octets e) (sym q)
    (subst (λ z. SetSoFar Tags (g.T.Type.means i.mode) i (xs ++ (x ∷ [])) z e) (sym o)
    (one_more Tags (g.T.Type.means i.mode) i xs last d e r w m n.mode k n.value x v f n.no_fault n.marked))

pub returns-then-not-may_follow-clause-took : goal.returns-then-not-may_follow-clause-took
returns-then-not-may_follow-clause-took g c =
    let Tags = g.T.Type.tags g.T.Type.TAG in
    let i = of_constructed g.S.Source.stream c.args.cons.now in
    let d = of_constructed g.S.Source.stream c.loop-captured.cons in
    let e = of_constructed g.S.Source.stream c.capture_opt_one.new.self in
    let xs = c.loop-captured.all.items in
    let last = c.loop-captured.last in
    let k = c.in-Ok-Some.captured in
    let r : SetSoFar Tags (g.T.Type.means i.mode) i xs last d = c.loop-captured.invariant in
    let w = constructed_is_within_owed g.S.Source.stream g.met.S.Source.sound c.loop-captured.cons in
    let m = c.capture_opt_one.ensures.moves d (untouched_is_moved d) in
    let n : CapturesNext {X = g.row.S-Error.Denot} d (Ok (Some k)) e = rw c.in-Ok-Some.field-0-is at c.in-Ok-Some.ensures.captured in
    let o : c.in-Ok.octets ≡ k.octets = c.in-Ok.ensures.value in
    let t : c.may_follow.result ≡ false = search rules in
    let ne = λ (z : i.mode ≡ Ber). c.may_follow.ensures.no t (c.mode-mode.ensures ∙ z) in
    let f = λ (z : IsNotAfter last k.octets).
    c.may_follow.ensures.none t
    (subst (λ y. IsNotAfter y c.as_slice-in-Ok-Some.result.now) (sym c.as_slice.ensures)
    (subst (IsNotAfter last) (sym (c.as_slice-in-Ok-Some.ensures ∙ o)) z)) in
    refuses_seen (AreSetOf i.mode Tags (g.T.Type.means i.mode)) (λ (z : Vec g.row.T.Denot Global). z.items) i e c.out_of_order.result
    (refuses_order Tags (g.T.Type.means i.mode) i xs last d e r w m n.mode c.out_of_order.result k n.value ne f c.out_of_order.ensures n.marked)

pub returns-in-Err-read_value-clause-took : goal.returns-in-Err-read_value-clause-took
returns-in-Err-read_value-clause-took g c =
    let Tags = g.T.Type.tags g.T.Type.TAG in
    let i = of_constructed g.S.Source.stream c.args.cons.now in
    let d = of_constructed g.S.Source.stream c.loop-captured.cons in
    let e = of_constructed g.S.Source.stream c.capture_opt_one.new.self in
    let xs = c.loop-captured.all.items in
    let last = c.loop-captured.last in
    let k = c.in-Ok-Some.captured in
    let r : SetSoFar Tags (g.T.Type.means i.mode) i xs last d = c.loop-captured.invariant in
    let w = constructed_is_within_owed g.S.Source.stream g.met.S.Source.sound c.loop-captured.cons in
    let m = c.capture_opt_one.ensures.moves d (untouched_is_moved d) in
    let n : CapturesNext {X = g.row.S-Error.Denot} d (Ok (Some k)) e = rw c.in-Ok-Some.field-0-is at c.in-Ok-Some.ensures.captured in
    let f = c.in-Err-read_value.error in
    let v : RefusesOctets i.mode Tags (g.T.Type.means i.mode) k.octets f =
    subst (λ z. RefusesOctets z Tags (g.T.Type.means z) k.octets f) c.mode-mode.ensures c.in-Err-read_value.ensures.refused in
    refuses_seen (AreSetOf i.mode Tags (g.T.Type.means i.mode)) (λ (z : Vec g.row.T.Denot Global). z.items) i e f
    (refuses_value Tags (g.T.Type.means i.mode) i xs last d e r w m n.mode f k n.value v n.marked)

pub returns-in-Ok-None-clause-took : goal.returns-in-Ok-None-clause-took
returns-in-Ok-None-clause-took g c =
    let Tags = g.T.Type.tags g.T.Type.TAG in
    let i = of_constructed g.S.Source.stream c.args.cons.now in
    let d = of_constructed g.S.Source.stream c.loop-captured.cons in
    let e = of_constructed g.S.Source.stream c.capture_opt_one.new.self in
    let xs = c.loop-captured.all.items in
    let last = c.loop-captured.last in
    let r : SetSoFar Tags (g.T.Type.means i.mode) i xs last d = c.loop-captured.invariant in
    let w = constructed_is_within_owed g.S.Source.stream g.met.S.Source.sound c.loop-captured.cons in
    let m = c.capture_opt_one.ensures.moves d (untouched_is_moved d) in
    let n : CapturesNext {X = g.row.S-Error.Denot} d (Ok None) e = rw c.in-Ok-None.field-0-is at c.in-Ok-None.ensures.captured in
    reads_seen (AreSetOf i.mode Tags (g.T.Type.means i.mode)) (λ (z : Vec g.row.T.Denot Global). z.items) i e c.loop-captured.all
    (reads_set Tags (g.T.Type.means i.mode) i xs last d e r w m n.mode (constructed_is_not_octets g.S.Source.stream c.loop-captured.cons)
    (constructed_is_not_octets g.S.Source.stream c.capture_opt_one.new.self) n)

pub returns-in-Err-clause-took : goal.returns-in-Err-clause-took
returns-in-Err-clause-took g c =
    let Tags = g.T.Type.tags g.T.Type.TAG in
    let i = of_constructed g.S.Source.stream c.args.cons.now in
    let d = of_constructed g.S.Source.stream c.loop-captured.cons in
    let e = of_constructed g.S.Source.stream c.capture_opt_one.new.self in
    let xs = c.loop-captured.all.items in
    let last = c.loop-captured.last in
    let r : SetSoFar Tags (g.T.Type.means i.mode) i xs last d = c.loop-captured.invariant in
    let w = constructed_is_within_owed g.S.Source.stream g.met.S.Source.sound c.loop-captured.cons in
    let m = c.capture_opt_one.ensures.moves d (untouched_is_moved d) in
    refuses_seen (AreSetOf i.mode Tags (g.T.Type.means i.mode)) (λ (z : Vec g.row.T.Denot Global). z.items) i e c.in-Err.error
    (refuses_set Tags (g.T.Type.means i.mode) i xs last d e r w m c.in-Err.ensures.captured.mode c.in-Err.error c.in-Err.ensures.captured)
