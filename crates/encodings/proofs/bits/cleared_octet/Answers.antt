use Rattle.std.proofs.Common.{arith}
use Rattle.bcder.proofs.Bits.{none_left}
use Rattle.encodings.proofs.bits.cleared_octet.Goals as goal

pub returns-else-unused-lt8 : goal.returns-else-unused-lt8
returns-else-unused-lt8 c = none_left c.args.unused c.args.octet c.if-unused-lt8.false (omega arith)
