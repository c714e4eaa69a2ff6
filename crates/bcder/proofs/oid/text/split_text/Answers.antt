use Rattle.std.proofs.Common.{◌∙◌, ap, [], arith, Some, None}
use Rattle.std.proofs.lemmas.Str.Pattern.{split_parts}
use Rattle.bcder.specs.calls.Identifiers.{between_dots}
use Rattle.bcder.proofs.Texts.{split_dot, split_none}
use Rattle.bcder.proofs.oid.text.split_text.Goals as goal

pub returns-in-Some : goal.returns-in-Some
returns-in-Some c =
    let parts = split_parts 46 c.args.text.now (Some (c.in-Some.first, c.in-Some.rest)) c.in-Some.ensures.cases (omega arith) in
    ap between_dots parts.0 ∙ split_dot [] _ _ parts.1

pub returns-in-None : goal.returns-in-None
returns-in-None c = split_none [] _ (split_parts 46 c.args.text.now None c.in-None.ensures.cases (omega arith))
