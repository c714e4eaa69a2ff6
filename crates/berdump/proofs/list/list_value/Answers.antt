use Rattle.std.proofs.Common.{rules, ◌+◌, ◌-◌, ◌<◌, length, ◌∷◌, []}
use Rattle.berdump.specs.Answers.{Written, IsUnwritten}
use Rattle.berdump.specs.Listing.{heading}
use Rattle.berdump.specs.Walk.{PassesContents, Meets, Stops, left}
use Rattle.berdump.proofs.Steps.{front_of, step_indefinite, step_definite, step_primitive, stops_unwritten, less_indefinite}
use Rattle.berdump.proofs.Steps.{less_definite, less_primitive, stops_at_contents, stops_at_header, ok_step, err_step}
use Rattle.berdump.proofs.list.list_value.Goals as goal

pub returns-in_default-clause-stops : goal.returns-in_default-clause-stops
returns-in_default-clause-stops g c = stops_at_header c.args.scope c.args.mode
    (g.W.Write.contents c.args.target.now) c.args.opened.now.items c.args.rest.now c.args.at c.requires.goes_on c.requires.some
    c.in_default.ensures.none c.reason_at.result c.reason_at.ensures

pub returns-in-Err-clause-stops : goal.returns-in-Err-clause-stops
returns-in-Err-clause-stops g c = stops_unwritten c.args.scope c.args.mode (g.W.Write.contents c.args.target.now) (g.W.Write.contents c.open_value.new.target)
    c.args.opened.now.items c.args.rest.now c.in-Some.front.rest.now c.args.at c.in-Some.front.tag c.in-Some.front.constructed c.in-Some.front.len
    (front_of c.args.mode c.in-Some.front.tag c.in-Some.front.constructed c.in-Some.front.len c.args.rest.now c.in-Some.front.rest.now c.in-Some.ensures.found)
    c.requires.goes_on c.requires.some c.len.result (search rules) c.in-Err.error c.in-Err.ensures.unwritten

pub returns-in_default-len-clause-meets : goal.returns-in_default-len-clause-meets
returns-in_default-len-clause-meets g c =
    step_indefinite c.args.scope c.args.mode (g.W.Write.contents c.args.target.now) (g.W.Write.contents c.open_value.new.target) c.args.opened.now.items
    c.args.rest.now c.in-Some.front.rest.now c.args.at c.in-Some.front.tag c.in-Some.front.constructed c.in-Some.front.len
    (front_of c.args.mode c.in-Some.front.tag c.in-Some.front.constructed c.in-Some.front.len c.args.rest.now c.in-Some.front.rest.now c.in-Some.ensures.found)
    c.requires.goes_on c.requires.some c.len.result
    (search rules) c.open_value.new.opened.items c.in_default-len.is c.in_default-open_value.ensures.written c.in_default-open_value.ensures.opens

pub returns-in_default-len-clause-less : goal.returns-in_default-len-clause-less
returns-in_default-len-clause-less g c =
    less_indefinite c.args.scope c.args.mode (g.W.Write.contents c.args.target.now) (g.W.Write.contents c.open_value.new.target) c.args.opened.now.items
    c.args.rest.now c.in-Some.front.rest.now c.args.at c.in-Some.front.tag c.in-Some.front.constructed c.in-Some.front.len
    (front_of c.args.mode c.in-Some.front.tag c.in-Some.front.constructed c.in-Some.front.len c.args.rest.now c.in-Some.front.rest.now c.in-Some.ensures.found)
    c.requires.goes_on c.requires.some c.len.result (search rules) c.open_value.new.opened.items c.in_default-open_value.ensures.opens

pub returns-then-front-len-clause-stops : goal.returns-then-front-len-clause-stops
returns-then-front-len-clause-stops g c = stops_at_contents c.args.scope c.args.mode (g.W.Write.contents c.args.target.now) c.args.opened.now.items
    c.args.rest.now c.in-Some.front.rest.now c.args.at c.in-Some.front.tag c.in-Some.front.constructed c.in-Some.front.len
    (front_of c.args.mode c.in-Some.front.tag c.in-Some.front.constructed c.in-Some.front.len c.args.rest.now c.in-Some.front.rest.now c.in-Some.ensures.found)
    c.requires.goes_on c.requires.some c.in-Some-len.len c.in-Some-len.is c.if-front-len.true c.shortness.result c.shortness.ensures

pub returns-in-Err-open_value-clause-stops : goal.returns-in-Err-open_value-clause-stops
returns-in-Err-open_value-clause-stops g c =
    stops_unwritten c.args.scope c.args.mode (g.W.Write.contents c.args.target.now) (g.W.Write.contents c.open_value-then-front.new.target)
    c.args.opened.now.items c.args.rest.now c.in-Some.front.rest.now c.args.at c.in-Some.front.tag c.in-Some.front.constructed c.in-Some.front.len
    (front_of c.args.mode c.in-Some.front.tag c.in-Some.front.constructed c.in-Some.front.len c.args.rest.now c.in-Some.front.rest.now c.in-Some.ensures.found)
    c.requires.goes_on c.requires.some c.len.result (search rules) c.in-Err-open_value.error c.in-Err-open_value.ensures.unwritten

pub returns-then-front-clause-meets : goal.returns-then-front-clause-meets
returns-then-front-clause-meets g c =
    step_definite c.args.scope c.args.mode (g.W.Write.contents c.args.target.now) (g.W.Write.contents c.open_value-then-front.new.target)
    c.args.opened.now.items c.args.rest.now c.in-Some.front.rest.now c.args.at c.in-Some.front.tag c.in-Some.front.constructed c.in-Some.front.len
    (front_of c.args.mode c.in-Some.front.tag c.in-Some.front.constructed c.in-Some.front.len c.args.rest.now c.in-Some.front.rest.now c.in-Some.ensures.found)
    c.requires.goes_on c.requires.some c.len.result (search rules) c.open_value-then-front.new.opened.items c.split_at.result.1 c.split_at.result.0.now
    c.in-Some-len.len c.in-Some-len.is c.if-front.true c.if-front-len.false (search rules)
    (search rules) c.in_default-open_value-2.ensures.written c.in_default-open_value-2.ensures.opens

pub returns-then-front-clause-less : goal.returns-then-front-clause-less
returns-then-front-clause-less g c =
    less_definite c.args.scope c.args.mode (g.W.Write.contents c.args.target.now) (g.W.Write.contents c.open_value-then-front.new.target)
    c.args.opened.now.items c.args.rest.now c.in-Some.front.rest.now c.args.at c.in-Some.front.tag c.in-Some.front.constructed c.in-Some.front.len
    (front_of c.args.mode c.in-Some.front.tag c.in-Some.front.constructed c.in-Some.front.len c.args.rest.now c.in-Some.front.rest.now c.in-Some.ensures.found)
    c.requires.goes_on c.requires.some c.len.result (search rules) c.open_value-then-front.new.opened.items c.split_at.result.1 c.split_at.result.0.now
    c.in-Some-len.len c.if-front-len.false (search rules) (search rules) c.in_default-open_value-2.ensures.opens

pub returns-clause-meets : goal.returns-clause-meets
returns-clause-meets g c = ok_step c.list_primitive.result
    (λ p. PassesContents c.args.scope c.args.mode c.in-Some.front.tag c.split_at.result.0.now c.split_at.result.1.now
    (c.args.at + (length c.args.rest.now - length c.in-Some.front.rest.now)) c.args.opened.now.items c.list_primitive.new.opened.items p.rest.now p.at)
    (λ p. Meets c.args.scope c.args.mode c.args.opened.now.items c.args.rest.now c.args.at
    (g.W.Write.contents c.args.target.now) c.list_primitive.new.opened.items p.rest.now p.at (g.W.Write.contents c.list_primitive.new.target))
    (Written c.args.scope (heading c.in-Some.front.tag c.in-Some.front.constructed c.len.result c.args.at
    (length c.args.rest.now - length c.in-Some.front.rest.now)
    c.in-Some.front.len ∷ []) (g.W.Write.contents c.args.target.now) (g.W.Write.contents c.list_primitive.new.target))
    c.list_primitive.ensures.passes c.list_primitive.ensures.written
    (λ p h k. step_primitive c.args.scope c.args.mode (g.W.Write.contents c.args.target.now) (g.W.Write.contents c.list_primitive.new.target)
    c.args.opened.now.items c.args.rest.now c.in-Some.front.rest.now c.args.at c.in-Some.front.tag c.in-Some.front.constructed c.in-Some.front.len
    (front_of c.args.mode c.in-Some.front.tag c.in-Some.front.constructed c.in-Some.front.len c.args.rest.now c.in-Some.front.rest.now c.in-Some.ensures.found)
    c.requires.goes_on c.requires.some c.len.result (search rules) c.list_primitive.new.opened.items c.split_at.result.0.now c.split_at.result.1.now
    p.rest.now c.in-Some-len.len p.at c.in-Some-len.is c.if-front.false c.if-front-len.false (search rules) (search rules) k h)

pub returns-clause-less : goal.returns-clause-less
returns-clause-less g c = ok_step c.list_primitive.result
    (λ p. PassesContents c.args.scope c.args.mode c.in-Some.front.tag c.split_at.result.0.now c.split_at.result.1.now
    (c.args.at + (length c.args.rest.now - length c.in-Some.front.rest.now)) c.args.opened.now.items c.list_primitive.new.opened.items p.rest.now p.at)
    (λ p. left c.list_primitive.new.opened.items p.rest.now < left c.args.opened.now.items c.args.rest.now)
    (Written c.args.scope (heading c.in-Some.front.tag c.in-Some.front.constructed c.len.result c.args.at
    (length c.args.rest.now - length c.in-Some.front.rest.now)
    c.in-Some.front.len ∷ []) (g.W.Write.contents c.args.target.now) (g.W.Write.contents c.list_primitive.new.target))
    c.list_primitive.ensures.passes c.list_primitive.ensures.written
    (λ p h k. less_primitive c.args.scope c.args.mode (g.W.Write.contents c.args.target.now) (g.W.Write.contents c.list_primitive.new.target)
    c.args.opened.now.items c.args.rest.now c.in-Some.front.rest.now c.args.at c.in-Some.front.tag c.in-Some.front.constructed c.in-Some.front.len
    (front_of c.args.mode c.in-Some.front.tag c.in-Some.front.constructed c.in-Some.front.len c.args.rest.now c.in-Some.front.rest.now c.in-Some.ensures.found)
    c.requires.goes_on c.requires.some c.len.result (search rules) c.list_primitive.new.opened.items c.split_at.result.0.now c.split_at.result.1.now
    p.rest.now c.in-Some-len.len p.at c.if-front-len.false (search rules) (search rules) h)

pub returns-clause-stops : goal.returns-clause-stops
returns-clause-stops g c = err_step c.list_primitive.result
    (IsUnwritten c.args.scope (heading c.in-Some.front.tag c.in-Some.front.constructed c.len.result c.args.at
    (length c.args.rest.now - length c.in-Some.front.rest.now)
    c.in-Some.front.len) (g.W.Write.contents c.args.target.now) (g.W.Write.contents c.list_primitive.new.target))
    (Stops c.args.scope c.args.mode c.args.opened.now.items c.args.rest.now c.args.at (g.W.Write.contents c.args.target.now)
    (g.W.Write.contents c.list_primitive.new.target))
    c.list_primitive.ensures.unwritten
    (λ e u. stops_unwritten c.args.scope c.args.mode (g.W.Write.contents c.args.target.now) (g.W.Write.contents c.list_primitive.new.target)
    c.args.opened.now.items c.args.rest.now c.in-Some.front.rest.now c.args.at c.in-Some.front.tag c.in-Some.front.constructed c.in-Some.front.len
    (front_of c.args.mode c.in-Some.front.tag c.in-Some.front.constructed c.in-Some.front.len c.args.rest.now c.in-Some.front.rest.now c.in-Some.ensures.found)
    c.requires.goes_on c.requires.some c.len.result (search rules) e u)
