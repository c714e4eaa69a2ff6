use Rattle.std.proofs.Common.{refl, sym}
use Rattle.std.proofs.lemmas.List.{length-replicate}
use Rattle.support.specs.Counted.{zeros}
use Rattle.support.proofs.encoders.ZerosPrimitiveContent.encoded_len.Goals as goal

pub returns : goal.returns
returns c = (zeros c.args.self.now.0, refl, sym (length-replicate c.args.self.now.0 0x00))
