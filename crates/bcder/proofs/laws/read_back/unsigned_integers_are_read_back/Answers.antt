use Rattle.bcder.proofs.Contents.{unsigned_read}
use Rattle.bcder.proofs.laws.read_back.unsigned_integers_are_read_back.Goals as goal

pub returns-clause-of_8_bits : goal.returns-clause-of_8_bits
returns-clause-of_8_bits c = λ mode x h. unsigned_read 8 x h

pub returns-clause-of_16_bits : goal.returns-clause-of_16_bits
returns-clause-of_16_bits c = λ mode x h. unsigned_read 16 x h

pub returns-clause-of_32_bits : goal.returns-clause-of_32_bits
returns-clause-of_32_bits c = λ mode x h. unsigned_read 32 x h

pub returns-clause-of_64_bits : goal.returns-clause-of_64_bits
returns-clause-of_64_bits c = λ mode x h. unsigned_read 64 x h

pub returns-clause-of_128_bits : goal.returns-clause-of_128_bits
returns-clause-of_128_bits c = λ mode x h. unsigned_read 128 x h
