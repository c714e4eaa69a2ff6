use Rattle.std.proofs.Common.{◌-◌, refl, sym, ◌∙◌, arith}
use Rattle.bcder.specs.x690.BitString.{bits}
use Rattle.asn1.proofs.Trimmed.{all_left, one_less}
use Rattle.asn1.proofs.leaves.named_bits.named_len.Goals as goal

pub returns-then-bit : goal.returns-then-bit
returns-then-bit c =
    all_left (bits c.args.string.now) c.loop-len.len (c.loop-len.len - 1) refl c.loop-len.invariant.within (λ p. sym c.bit.ensures ∙ c.if-bit.true)
    c.loop-len.invariant.left

pub loop-len-preserved : goal.loop-len-preserved
loop-len-preserved c = record {
  within = (let w = c.loop-len.invariant.within in omega (arith, w));
  left = one_less (bits c.args.string.now) c.loop-len.len (c.loop-len.len - 1) refl c.loop-len-test.true (sym c.bit.ensures ∙ c.if-bit.false)
      c.loop-len.invariant.left;
}
