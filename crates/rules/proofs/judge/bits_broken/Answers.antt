use Rattle.rules.proofs.Contents.{no_bits}
use Rattle.rules.proofs.judge.bits_broken.Goals as goal

pub bits_rule-requires : goal.bits_rule-requires
bits_rule-requires c = no_bits _ _ c.in-None.ensures
