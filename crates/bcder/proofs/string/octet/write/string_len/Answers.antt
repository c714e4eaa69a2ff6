use Rattle.std.proofs.Common.{sym}
use Rattle.bcder.proofs.Segmenting.{cut_size, whole_size}
use Rattle.bcder.proofs.string.octet.write.string_len.Goals as goal

pub returns-then-is_cut : goal.returns-then-is_cut
returns-then-is_cut c = cut_size c.args.tag c.args.mode c.args.len _ (sym c.if-is_cut.ensures) c.cut_len.ensures

pub returns-else-is_cut : goal.returns-else-is_cut
returns-else-is_cut c =
    whole_size c.args.tag c.args.mode c.args.len _ (sym c.if-is_cut.ensures) c.total_encoded_len.ensures.ok c.total_encoded_len.ensures.refused
