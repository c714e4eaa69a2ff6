use Rattle.asn1.proofs.Trimmed.{trimmed_by_count}
use Rattle.asn1.proofs.leaves.named_bits.is_trimmed.Goals as goal

pub returns : goal.returns
returns c = trimmed_by_count c.args.string.now c.named_len.result c.bit_len.result c.named_len.ensures c.bit_len.ensures
