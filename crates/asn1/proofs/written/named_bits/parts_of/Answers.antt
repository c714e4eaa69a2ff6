use Rattle.asn1.proofs.Trimmed.{fits_named}
use Rattle.asn1.proofs.written.named_bits.parts_of.Goals as goal

pub slice_bounds-result-end : goal.slice_bounds-result-end
slice_bounds-result-end c =
    fits_named c.args.string.now c.named_len-len.result c.octets_for.result c.in-Some.octets.now c.named_len-len.ensures c.octets_for.ensures
    c.in-Some.ensures
