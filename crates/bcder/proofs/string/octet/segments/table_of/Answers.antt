use Rattle.std.proofs.Common.{◌≡◌, ℕ, ◌≤◌, ◌-◌, true, false, [], ◌∷◌, ◌++◌, length, arith, rules, subst, sym, refl, ◌∙◌}
use Rattle.bcder.specs.declared.string.octet.Segment.{Segment}
use Rattle.bcder.specs.declared.mode.Mode.TheVariants.{Cer, Der}
use Rattle.bcder.proofs.Segments.{MayCome, Fills, passed_all, passed_piece, passed_mark, passed_none, passed_other, passed_nested, passed_few, passed_cut}
use Rattle.bcder.proofs.Segments.{left_shorter, left_room, fills_all, fills_piece, fills_goes, fills_table}
use Rattle.bcder.proofs.string.octet.segments.table_of.Goals.{then-is_err, else-is_err}
use Rattle.bcder.proofs.string.octet.segments.table_of.Goals.{else-is_cer-2-via-then-is_cer-2+else-count-lt2, else-is_cer-2-via-else-is_cer-2}
use Rattle.bcder.proofs.string.octet.segments.table_of.Goals as goal

pub loop-rest-init : goal.loop-rest-init
loop-rest-init c =
    let other : c.args.mode ≡ Der → ⊥ = search rules in
    let none = c.new-table.ensures.items in
    (passed_all _ _ other c.requires, λ e. subst (λ t. Fills c.args.mode c.args.octets.now c.args.octets.now t) (sym none) (fills_all _ _ c.requires))

pub returns-then-not-may_come-clause-found : goal.returns-then-not-may_come-clause-found
returns-then-not-may_come-clause-found c =
    let n : 1 ≤ length c.loop-rest.rest.now = search rules in
    let other : MayCome c.args.mode c.loop-rest.full c.in-Some-Some-default.len → ⊥ = search rules in
    passed_other _ _ _ _ _ _ _ c.loop-rest.invariant.0 n (rw c.in-Some-Some-default.field-0-0-is at c.in-Some-Some-default.ensures) other

pub overflow_sub-start : goal.overflow_sub-start
overflow_sub-start c =
    let n : 1 ≤ length c.loop-rest.rest.now = search rules in
    let room = left_room _ _ _ _ _ _ _ c.loop-rest.invariant.0 n (rw c.in-Some-Some-default.field-0-0-is at c.in-Some-Some-default.ensures) in
    omega (arith, room)

pub overflow_sub-start-in-Some-Some-default : goal.overflow_sub-start-in-Some-Some-default
overflow_sub-start-in-Some-Some-default c =
    let n : 1 ≤ length c.loop-rest.rest.now = search rules in
    let room = left_room _ _ _ _ _ _ _ c.loop-rest.invariant.0 n (rw c.in-Some-Some-default.field-0-0-is at c.in-Some-Some-default.ensures) in
    omega (arith, room)

pub loop-rest-smaller-in-Some-Some-default : goal.loop-rest-smaller-in-Some-Some-default
loop-rest-smaller-in-Some-Some-default c =
    let n : 1 ≤ length c.loop-rest.rest.now = search rules in
    omega (arith, left_shorter _ _ _ _ _ _ _ c.loop-rest.invariant.0 n c.in-Some-Some-default.ensures)

pub loop-rest-preserved-in-Some-Some-default : goal.loop-rest-preserved-in-Some-Some-default
loop-rest-preserved-in-Some-Some-default c =
    let n : 1 ≤ length c.loop-rest.rest.now = search rules in
    let may : MayCome c.args.mode c.loop-rest.full c.in-Some-Some-default.len = search rules in
    let read = rw c.in-Some-Some-default.field-0-0-is at c.in-Some-Some-default.ensures in (
      passed_piece _ _ _ _ _ _ _ c.loop-rest.invariant.0 n may read,
      λ e. elim c.if-is_err.branch [
        | then-is_err w ↦ absurd (let x : true ≡ false = sym e ∙ w.complete-is in cc)
        | else-is_err w ↦
            let whole : c.loop-rest.complete ≡ true = sym w.complete-is ∙ e in
            let len : ℕ = c.in-Some-Some-default.len in
            let found : Segment = record { start = length c.args.octets.now - length c.in-Some-Some-default.after.now - len; len = len } in
            let pushed : c.push.new.self.items ≡ c.loop-rest.table.items ++ found ∷ [] = search rules in
            subst (λ t. Fills c.args.mode c.args.octets.now c.in-Some-Some-default.after.now t) (sym pushed)
            (fills_piece _ _ _ _ _ _ (c.loop-rest.invariant.1 whole) n read refl)
      ],
    )

pub returns-then-is_cer-clause-found : goal.returns-then-is_cer-clause-found
returns-then-is_cer-clause-found c =
    let n : 1 ≤ length c.loop-rest.rest.now = search rules in
    let cer : c.args.mode ≡ Cer = search rules in
    passed_nested _ _ _ _ _ _ c.loop-rest.invariant.0 n cer (rw c.in-Some-None-default.field-0-0-is at c.in-Some-None-default.ensures)

pub loop-rest-smaller : goal.loop-rest-smaller
loop-rest-smaller c =
    let n : 1 ≤ length c.loop-rest.rest.now = search rules in
    omega (arith, left_shorter _ _ _ _ _ _ _ c.loop-rest.invariant.0 n c.in-Some-None-default.ensures)

pub loop-rest-preserved : goal.loop-rest-preserved
loop-rest-preserved c =
    let n : 1 ≤ length c.loop-rest.rest.now = search rules in
    let other : c.args.mode ≡ Cer → ⊥ = search rules in
    let read = rw c.in-Some-None-default.field-0-0-is at c.in-Some-None-default.ensures in
    (passed_mark _ _ _ _ _ _ c.loop-rest.invariant.0 n other read, λ e. fills_goes _ _ _ _ _ (c.loop-rest.invariant.1 e) n read)

pub returns-in-None-clause-found : goal.returns-in-None-clause-found
returns-in-None-clause-found c =
    let n : 1 ≤ length c.loop-rest.rest.now = search rules in
    passed_none _ _ _ _ _ c.loop-rest.invariant.0 n c.in-None.ensures

pub returns-then-count-lt2-clause-found : goal.returns-then-count-lt2-clause-found
returns-then-count-lt2-clause-found c =
    let z : length c.loop-rest.rest.now ≡ 0 = search rules in
    let cer : c.args.mode ≡ Cer = search rules in
    passed_few _ _ _ _ _ c.loop-rest.invariant.0 z cer c.if-count-lt2.true

pub returns-then-complete-clause-found : goal.returns-then-complete-clause-found
returns-then-complete-clause-found c =
    let z : length c.loop-rest.rest.now ≡ 0 = search rules in
    let two : c.args.mode ≡ Cer → 2 ≤ c.loop-rest.count = λ e. elim c.else-is_cer-2.branch [
      | else-is_cer-2-via-then-is_cer-2+else-count-lt2 w ↦ w.if-count-lt2.false
      | else-is_cer-2-via-else-is_cer-2 w ↦ search rules
    ] in
    fills_table _ _ _ _ (c.loop-rest.invariant.1 c.if-complete.true) z (passed_cut _ _ _ _ _ c.loop-rest.invariant.0 z two)

pub returns-else-complete-clause-memory : goal.returns-else-complete-clause-memory
returns-else-complete-clause-memory c =
    let z : length c.loop-rest.rest.now ≡ 0 = search rules in
    let two : c.args.mode ≡ Cer → 2 ≤ c.loop-rest.count = λ e. elim c.else-is_cer-2.branch [
      | else-is_cer-2-via-then-is_cer-2+else-count-lt2 w ↦ w.if-count-lt2.false
      | else-is_cer-2-via-else-is_cer-2 w ↦ search rules
    ] in
    passed_cut _ _ _ _ _ c.loop-rest.invariant.0 z two
