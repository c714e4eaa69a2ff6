use Rattle.std.proofs.Common.{refl, rules}
use Rattle.encodings.proofs.Unused.{unused_told}
use Rattle.encodings.proofs.bits.unused_bits.Goals as goal

pub returns-in-len1-up : goal.returns-in-len1-up
returns-in-len1-up c = unused_told _ c.args.contents.now _ (c.is_bit_string.ensures.0 (search rules)) refl
