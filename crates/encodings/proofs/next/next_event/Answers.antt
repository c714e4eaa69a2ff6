use Rattle.std.proofs.Common.{◌<◌, length, arith, rules}
use Rattle.bcder.specs.x690.Identifier.{AreOctets}
use Rattle.encodings.specs.Next.{no_offset}
use Rattle.encodings.proofs.Standing.{stands_for_none, stands_for_some}
use Rattle.encodings.proofs.WholeSteps.{starts}
use Rattle.encodings.proofs.Refusing.{decided}
use Rattle.encodings.proofs.next.next_event.Goals as goal

pub returns-clause-start : goal.returns-clause-start
returns-clause-start c = λ e. starts _ _ _ _ e

pub returns-clause-misused : goal.returns-clause-misused
returns-clause-misused c =
    let small : length c.args.octets.now < no_offset = search rules in (
      λ e. stands_for_none c.args.mode _ _ _ (c.advance.ensures.misused.0 e),
      λ none. c.advance.ensures.misused.1 (λ stands. stands_for_some _ _ _ small stands none),
    )

pub returns-clause-decides : goal.returns-clause-decides
returns-clause-decides c =
    let o : AreOctets c.args.octets.now = λ i. omega (arith, c.type_inv.octets i) in
    λ passed met w. decided _ _ _ _ _ _ _ _ passed met o w (c.advance.ensures.advances w.opened w.rest w.stands)
