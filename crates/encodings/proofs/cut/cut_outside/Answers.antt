use Rattle.std.proofs.Common.{◌≡◌, true, false, sym, ◌∙◌}
use Rattle.std.specs.Prelude.{nat_lt}
use Rattle.encodings.specs.Cutting.{total_of}
use Rattle.encodings.specs.Pieces.{all_made}
use Rattle.encodings.proofs.Cutting.{long_cut, short_kept, string_kept, string_cut, other_stays, begun_cut}
use Rattle.encodings.proofs.cut.cut_outside.Goals as goal

pub returns-in-Ok : goal.returns-in-Ok
returns-in-Ok c = long_cut c.args.item.now _ _ _ c.in-Value.is (c.is_long.ensures.yes c.if-is_long.true) c.in-Ok.ensures

pub returns-in-Ok-push : goal.returns-in-Ok-push
returns-in-Ok-push c = short_kept c.args.item.now _ _ _ c.in-Value.is (c.is_long.ensures.no c.if-is_long.false) c.requires c.in-Ok-push.ensures

pub returns-in-Ok-push-2 : goal.returns-in-Ok-push-2
returns-in-Ok-push-2 c =
    let e : nat_lt 1000 (total_of (all_made c.args.rest.now)) ≡ true = sym c.are_long.ensures ∙ c.if-are_long.true in
    string_cut c.args.item.now _ _ _ _ c.in-Whole.is e (begun_cut _ _ _ _ c.in-Ok-push-2.ensures)

pub returns-in-Ok-push-3 : goal.returns-in-Ok-push-3
returns-in-Ok-push-3 c =
    let e : nat_lt 1000 (total_of (all_made c.args.rest.now)) ≡ false = sym c.are_long.ensures ∙ c.if-are_long.false in
    string_kept c.args.item.now _ _ _ c.in-Whole.is e c.requires c.in-Ok-push-3.ensures

pub returns-in-Ok-push-4 : goal.returns-in-Ok-push-4
returns-in-Ok-push-4 c = other_stays c.args.item.now _ _ _ c.in_default.not-Value c.in_default.not-Whole c.requires c.in-Ok-push-4.ensures
