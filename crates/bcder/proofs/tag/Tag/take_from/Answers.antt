use Rattle.std.proofs.Common.{sym, ◌∙◌, rules}
use Rattle.bcder.specs.calls.Violations.{BeginsNoIdentifier}
use Rattle.bcder.proofs.Beginnings.{end_begins_no_identifier}
use Rattle.bcder.proofs.tag.Tag.take_from.Goals as goal

pub returns-in-Nothing-clause-cause : goal.returns-in-Nothing-clause-cause
returns-in-Nothing-clause-cause g c =
    let nothing : BeginsNoIdentifier (g.S.Source.stream c.args.source.now).rest =
    end_begins_no_identifier _ (sym c.in_ok-peek.ensures.rest ∙ rw c.in-Nothing.is at c.in_ok-peek.ensures.peeked) in
    rw c.content_err.ensures.cause (c.in_ok-peek.ensures.no_fault, nothing, search rules)
