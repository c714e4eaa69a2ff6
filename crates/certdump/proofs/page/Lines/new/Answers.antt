use Rattle.std.proofs.Common.{string_bytes}
use Rattle.certdump.proofs.Adding.{no_lines}
use Rattle.certdump.proofs.page.Lines.new.Goals as goal

pub invariant_of-result : goal.invariant_of-result
invariant_of-result c = no_lines (string_bytes c.new.result) c.new.ensures.bytes
