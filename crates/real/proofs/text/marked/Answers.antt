use Rattle.std.proofs.Common.{rules, arith, length, take, drop, get_or, ◌-◌, refl, subst, sym, pos, w64, SFits}
use Rattle.std.proofs.lemmas.Int.{to_z-of_z}
use Rattle.std.proofs.lemmas.List.{take_rest}
use Rattle.real.specs.Decimal.{IsScale, IsMarked}
use Rattle.real.proofs.Texts.{headed, marked_with, marked_without}
use Rattle.real.proofs.Decimals.{with_scale, without_scale}
use Rattle.real.proofs.text.marked.Goals as goal

pub returns-in_default-scale-clause-same : goal.returns-in_default-scale-clause-same
returns-in_default-scale-clause-same c = λ f z h.
    let w = c.args.octets.now in
    let v = take (length w - 1) (drop 1 w) in
    let s = with_scale c.args.form (get_or w 0 0) w v f z (headed w c.in-len1-up.len_at_least) c.if-form-eq3.true h in
    let t = subst (λ n. IsScale (drop n v) z) (sym c.digits-count.ensures.same) s in
    c.in_default-scale.ensures.same z (subst (λ t. IsScale t z) (sym (take_rest v c.digits-count.result)) t)

pub returns-then-form-eq3-clause-same : goal.returns-then-form-eq3-clause-same
returns-then-form-eq3-clause-same c =
    let f : SFits w64 c.in-Some.exponent = search rules in
    let w = c.args.octets.now in
    let v = take (length w - 1) (drop 1 w) in
    let z = c.in-Some.exponent in
    let t = subst (λ t. IsScale t z) (take_rest v c.digits-count.result) c.in-Some.ensures.same in
    let s = subst (λ n. IsScale (drop n v) z) c.digits-count.ensures.same t in
    let e = headed w c.in-len1-up.len_at_least in
    let m = marked_with c.args.form (get_or w 0 0) w v z e (c.is_mark.ensures.0 c.if-not-is_mark.false) c.if-form-eq3.true s in
    rw (to_z-of_z w64 c.in-Some.exponent f) (subst (λ n. IsMarked c.args.form w (take n v) z) (sym c.digits-count.ensures.same) m)

pub returns-then-count-rest-clause-same : goal.returns-then-count-rest-clause-same
returns-then-count-rest-clause-same c = λ f z h.
    let w = c.args.octets.now in
    let v = take (length w - 1) (drop 1 w) in
    let s = without_scale c.args.form (get_or w 0 0) w v f z (headed w c.in-len1-up.len_at_least) c.if-form-ne2.false h in
    let e = c.digits-count.ensures.same in
    let t = c.if-count-rest.true in
    omega arith

pub returns-clause-same : goal.returns-clause-same
returns-clause-same c =
    let w = c.args.octets.now in
    let v = take (length w - 1) (drop 1 w) in
    let e = c.digits-count.ensures.same in
    let t = c.if-count-rest.false in
    marked_without c.args.form (get_or w 0 0) w v (pos 0) (headed w c.in-len1-up.len_at_least) (c.is_mark.ensures.0 c.if-not-is_mark.false)
    c.if-form-ne2.false (omega arith) refl
