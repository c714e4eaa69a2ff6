use Rattle.std.specs.Int.{w8, w16, w32, w64, w128}
use Rattle.bcder.proofs.Contents.{signed_read}
use Rattle.bcder.proofs.laws.read_back.signed_integers_are_read_back.Goals as goal

pub returns-clause-of_8_bits : goal.returns-clause-of_8_bits
returns-clause-of_8_bits c = λ mode x h. signed_read w8 x h

pub returns-clause-of_16_bits : goal.returns-clause-of_16_bits
returns-clause-of_16_bits c = λ mode x h. signed_read w16 x h

pub returns-clause-of_32_bits : goal.returns-clause-of_32_bits
returns-clause-of_32_bits c = λ mode x h. signed_read w32 x h

pub returns-clause-of_64_bits : goal.returns-clause-of_64_bits
returns-clause-of_64_bits c = λ mode x h. signed_read w64 x h

pub returns-clause-of_128_bits : goal.returns-clause-of_128_bits
returns-clause-of_128_bits c = λ mode x h. signed_read w128 x h
