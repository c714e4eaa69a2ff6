use Rattle.std.proofs.Common.{◌≡◌, true, refl, rules}
use Rattle.bcder.specs.steps.Segments.{is_octet_string}
use Rattle.bcder.proofs.Segments.{is_tag, is_other}
use Rattle.encodings.proofs.Segments.{segment_is, nested_is, no_segment}
use Rattle.encodings.proofs.convert.item_inside.Goals as goal

pub returns-then-not-is_octet_string-clause-none : goal.returns-then-not-is_octet_string-clause-none
returns-then-not-is_octet_string-clause-none c = no_segment _ _ _ _ _ c.requires.inside (is_other _ (search rules))

pub returns-then-constructed-clause-some : goal.returns-then-constructed-clause-some
returns-then-constructed-clause-some c =
    let e : is_octet_string c.args.tag ≡ true = search rules in
    rw c.if-constructed.true (nested_is _ _ _ _ c.requires.inside refl (is_tag _ e))

pub returns-clause-some : goal.returns-clause-some
returns-clause-some c =
    let e : is_octet_string c.args.tag ≡ true = search rules in
    rw c.if-constructed.false (segment_is _ _ _ _ c.requires.inside (is_tag _ e))
