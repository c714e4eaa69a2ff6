use Rattle.std.proofs.Common.{rules}
use Rattle.encodings.specs.Strings.{nothing}
use Rattle.encodings.proofs.Strings.{end_passed, other_tag, header_passed, too_short, segment_passed}
use Rattle.encodings.proofs.string.next_piece.Goals as goal

pub returns-in_err-rest-clause-none : goal.returns-in_err-rest-clause-none
returns-in_err-rest-clause-none c = rw c.from_residual.ensures (nothing c.in_default.ensures.none c.in_err-rest.ensures.none)

pub returns-in_default-clause-passed : goal.returns-in_default-clause-passed
returns-in_default-clause-passed c = let f = c.in_ok-rest.ensures.found in end_passed _ _ f.0 _ f.1 f.2

pub returns-then-not-is_octet_string-clause-none : goal.returns-then-not-is_octet_string-clause-none
returns-then-not-is_octet_string-clause-none c =
    let f = c.in-Some.ensures.found in
    other_tag _ _ _ _ _ f.0 _ f.1 f.2 (search rules)

pub returns-then-front-clause-passed : goal.returns-then-front-clause-passed
returns-then-front-clause-passed c =
    let f = c.in-Some.ensures.found in
    header_passed _ _ _ _ _ f.0 _ f.1 f.2 (search rules) (search rules)

pub returns-then-front-len-clause-none : goal.returns-then-front-len-clause-none
returns-then-front-len-clause-none c =
    let f = c.in-Some.ensures.found in
    too_short _ _ _ _ _ f.0 _ f.1 f.2 (search rules) _ (search rules) c.in-Some-len.is (search rules)

pub returns-else-front-len-clause-passed : goal.returns-else-front-len-clause-passed
returns-else-front-len-clause-passed c =
    let f = c.in-Some.ensures.found in
    segment_passed _ _ _ _ _ f.0 _ f.1 f.2 (search rules) _ _ _ (search rules) c.in-Some-len.is (search rules) c.split_at.ensures.front c.split_at.ensures.back
