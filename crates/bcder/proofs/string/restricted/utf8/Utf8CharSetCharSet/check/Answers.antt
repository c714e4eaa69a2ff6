use Rattle.std.proofs.Common.{subst, sym}
use Rattle.std.specs.Str.{IsUtf8}
use Rattle.bcder.proofs.Utf8.{a_text, not_text}
use Rattle.bcder.proofs.string.restricted.utf8.Utf8CharSetCharSet.check.Goals as goal

pub returns-then-is_text : goal.returns-then-is_text
returns-then-is_text c = a_text c.args.octets.octets (subst IsUtf8 c.in-Some.ensures.octets (c.is_text.ensures.0 c.if-is_text.true))

pub returns-else-is_text : goal.returns-else-is_text
returns-else-is_text c =
    not_text c.args.octets.octets (λ u. let t = c.is_text.ensures.1 (subst IsUtf8 (sym c.in-Some.ensures.octets) u) in let f = c.if-is_text.false in cc)
