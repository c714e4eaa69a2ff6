use Rattle.std.proofs.Common.{◌≡◌, ◌≤◌, ◌∙◌, true, false, length, arith, refl, sym, subst}
use Rattle.bcder.specs.declared.decode.header.Peeked.TheVariants as peeked
use Rattle.bcder.specs.x690.Identifier.{end_of_contents}
use Rattle.bcder.specs.calls.Content.{IsAsked}
use Rattle.bcder.specs.steps.Peek.{asked, IsPeeked}
use Rattle.bcder.proofs.Beginnings.{short_stands, indefinite_stands, end_stands}
use Rattle.bcder.proofs.Peeking.{at_hand, front_shown}
use Rattle.bcder.proofs.decode.header.peek.Goals as goal
use Rattle.bcder.proofs.decode.header.peek.Goals.{in-Any, in_default}

pub returns-in-len2-up-clause-peeked : goal.returns-in-len2-up-clause-peeked
returns-in-len2-up-clause-peeked g c =
    let enough : c.in_ok-found.found ≤ length c.slice.result.now = omega (arith, c.in_ok-found.ensures.ok.count, c.slice.ensures.enough) in
    at_hand (IsPeeked c.args.mode (asked c.args.wanted.now) (peeked.End 2)) _ _ _ _ c.slice.ensures.front enough c.in_ok-found.ensures.ok.count
    (λ x. (
      (c.in-len2-up.len_at_least, end_stands c.args.mode _ x c.in-len2-up.len_at_least c.if-leading-eq0.true c.if-len-eq0.true),
      elim c.match-matches.branch [
        | in-Any w ↦ subst (λ z. IsAsked (asked z) end_of_contents) (sym w.in-Any.is) refl
        | in_default w ↦ absurd (let z : false ≡ true = sym w.matches-is ∙ c.if-any.true in cc)
      ],
    ))

pub returns-in-Some-clause-peeked : goal.returns-in-Some-clause-peeked
returns-in-Some-clause-peeked g c =
    let enough : c.in_ok-found.found ≤ length c.slice.result.now = omega (arith, c.in_ok-found.ensures.ok.count, c.slice.ensures.enough) in
    at_hand (IsPeeked c.args.mode (asked c.args.wanted.now) c.in-Some.seen) _ _ _ _ c.slice.ensures.front enough c.in_ok-found.ensures.ok.count
    (front_shown c.args.mode (asked c.args.wanted.now) _ 2 _ c.in-Some.seen c.in-len2-up.len_at_least c.in-Some.ensures
    (λ x. short_stands c.args.mode _ x _ _ _ c.in-len2-up.len_at_least c.if-leading-lt31.true c.if-len-lt128.true refl refl c.from.ensures))

pub returns-in-Some-short_front-clause-peeked : goal.returns-in-Some-short_front-clause-peeked
returns-in-Some-short_front-clause-peeked g c =
    let enough : c.in_ok-found.found ≤ length c.slice.result.now = omega (arith, c.in_ok-found.ensures.ok.count, c.slice.ensures.enough) in
    at_hand (IsPeeked c.args.mode (asked c.args.wanted.now) c.in-Some-short_front.seen) _ _ _ _ c.slice.ensures.front enough c.in_ok-found.ensures.ok.count
    (front_shown c.args.mode (asked c.args.wanted.now) _ 2 _ c.in-Some-short_front.seen c.in-len2-up.len_at_least c.in-Some-short_front.ensures
    (λ x. indefinite_stands c.args.mode _ x _ _ c.in-len2-up.len_at_least c.if-leading-lt31-2.true c.if-len.true refl refl))
