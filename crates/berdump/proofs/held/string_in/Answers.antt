use Rattle.std.proofs.Common.{◌≡◌, rules}
use Rattle.bcder.specs.x690.BitString.{bit_string_tag}
use Rattle.berdump.proofs.Steps.{string_bits}
use Rattle.berdump.proofs.Holding.{no_string_if}
use Rattle.berdump.proofs.held.string_in.Goals as goal

pub returns-then-eq-2-clause-some : goal.returns-then-eq-2-clause-some
returns-then-eq-2-clause-some c =
    let e : c.args.tag ≡ bit_string_tag = search rules in
    string_bits c.args.tag c.args.contents.now c.bits_in.result e c.bits_in.ensures.some

pub returns-then-eq-2-clause-none : goal.returns-then-eq-2-clause-none
returns-then-eq-2-clause-none c =
    let e : c.args.tag ≡ bit_string_tag = search rules in
    no_string_if c.args.tag c.args.contents.now c.bits_in.result e c.bits_in.ensures.none
