use Rattle.std.proofs.Common.{arith}
use Rattle.bcder.proofs.TakenBack.{unsigned_taken}
use Rattle.bcder.proofs.laws.taken_back.unsigned_integers_are_taken_back.Goals as goal

pub returns-clause-of_8_bits : goal.returns-clause-of_8_bits
returns-clause-of_8_bits g c = λ mode x h. unsigned_taken 8 x mode h (omega (arith, h))

pub returns-clause-of_16_bits : goal.returns-clause-of_16_bits
returns-clause-of_16_bits g c = λ mode x h. unsigned_taken 16 x mode h (omega (arith, h))

pub returns-clause-of_32_bits : goal.returns-clause-of_32_bits
returns-clause-of_32_bits g c = λ mode x h. unsigned_taken 32 x mode h (omega (arith, h))

pub returns-clause-of_64_bits : goal.returns-clause-of_64_bits
returns-clause-of_64_bits g c = λ mode x h. unsigned_taken 64 x mode h (omega (arith, h))

pub returns-clause-of_128_bits : goal.returns-clause-of_128_bits
returns-clause-of_128_bits g c = λ mode x h. unsigned_taken 128 x mode h (omega (arith, h))
