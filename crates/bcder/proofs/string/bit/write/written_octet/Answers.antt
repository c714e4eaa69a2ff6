use Rattle.bcder.proofs.WrittenBits.{written_push}
use Rattle.bcder.proofs.string.bit.write.written_octet.Goals as goal

pub returns-in-Cer : goal.returns-in-Cer
returns-in-Cer c = written_push c.args.mode c.args.unused c.args.last c.cleared_octet.result c.in-Cer.is c.cleared_octet.ensures
