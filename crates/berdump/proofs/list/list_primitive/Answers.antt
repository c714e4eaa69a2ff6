use Rattle.std.proofs.Common.{refl}
use Rattle.berdump.proofs.Steps.{passes_opened, passes_over}
use Rattle.berdump.proofs.list.list_primitive.Goals as goal

pub returns-in_default-clause-passes : goal.returns-in_default-clause-passes
returns-in_default-clause-passes g c = passes_over c.args.scope c.args.mode c.args.heading.tag c.args.contents.now c.args.behind.now c.args.at
    c.args.opened.now.items c.args.opened.now.items c.in-Ok.held c.in_default.ensures.none c.in-Ok.ensures.none refl

pub returns-clause-passes : goal.returns-clause-passes
returns-clause-passes g c =
    passes_opened c.args.scope c.args.mode c.args.heading.tag c.args.contents.now c.args.behind c.args.at c.args.opened.now.items c.open_value.new.opened.items
    c.in-Some.rest c.in-Ok.held c.in-Some.ensures.inside c.in-Some.ensures.some c.in-Ok.ensures.some c.in_default-open_value.ensures.opens
