use Rattle.bcder.proofs.Joining.{sum_with, sum_over}
use Rattle.bcder.proofs.Noting.{then_noted}
use Rattle.bcder.proofs.encode.values.parts.ChainParts.note_parts.Goals as goal

pub returns-in-Some-clause-sized : goal.returns-in-Some-clause-sized
returns-in-Some-clause-sized g c =
    let mode = c.args.mode in
    let chain = c.args.self.now in
    sum_with (g.V.Values.means chain.first.now mode)
    (g.R.Parts.all chain.rest mode) _ _ _ _ c.in_ok-first.ensures.sized c.in_ok-rest.ensures.sized c.in-Some.is c.checked_add.ensures

pub returns-in-None-clause-sized : goal.returns-in-None-clause-sized
returns-in-None-clause-sized g c =
    let mode = c.args.mode in
    let chain = c.args.self.now in
    sum_over (g.V.Values.means chain.first.now mode) (g.R.Parts.all chain.rest mode) _ _ c.in_ok-first.ensures.sized c.in_ok-rest.ensures.sized c.in-None.is

pub returns-in-Some-clause-noted : goal.returns-in-Some-clause-noted
returns-in-Some-clause-noted g c =
    let mode = c.args.mode in
    let chain = c.args.self.now in
    then_noted (g.V.Values.reads chain.first.now mode) (g.R.Parts.reads chain.rest mode) c.in_ok-first.ensures.noted c.in_ok-rest.ensures.noted

pub returns-in-None-clause-noted : goal.returns-in-None-clause-noted
returns-in-None-clause-noted g c =
    let mode = c.args.mode in
    let chain = c.args.self.now in
    then_noted (g.V.Values.reads chain.first.now mode) (g.R.Parts.reads chain.rest mode) c.in_ok-first.ensures.noted c.in_ok-rest.ensures.noted
