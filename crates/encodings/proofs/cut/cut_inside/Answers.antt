use Rattle.std.proofs.Common.{refl}
use Rattle.encodings.proofs.Cutting.{part_cut, end_cut, to_state}
use Rattle.encodings.proofs.cut.cut_inside.Goals as goal

pub returns-else-left : goal.returns-else-left
returns-else-left c = λ qs. to_state _ _ _ _ _ _ refl (part_cut c.args.item.now qs _ _ _ _ c.in-Part.is c.in-Ok.ensures)

pub returns-in-Ok-end_string : goal.returns-in-Ok-end_string
returns-in-Ok-end_string c = λ qs. end_cut c.args.item.now qs _ _ _ c.in_default.not-Part c.in-Ok-end_string.ensures
