use Rattle.std.specs.Int.{w8, w16, w32, w64, w128}
use Rattle.bcder.specs.laws.Numbers.{i8_magnitude, i16_magnitude, i32_magnitude, i64_magnitude, i128_magnitude}
use Rattle.bcder.proofs.TakenBack.{signed_taken}
use Rattle.bcder.proofs.laws.taken_back.signed_integers_are_taken_back.Goals as goal

pub returns-clause-of_8_bits : goal.returns-clause-of_8_bits
returns-clause-of_8_bits g c = λ mode x h. signed_taken w8 x mode h (i8_magnitude x h)

pub returns-clause-of_16_bits : goal.returns-clause-of_16_bits
returns-clause-of_16_bits g c = λ mode x h. signed_taken w16 x mode h (i16_magnitude x h)

pub returns-clause-of_32_bits : goal.returns-clause-of_32_bits
returns-clause-of_32_bits g c = λ mode x h. signed_taken w32 x mode h (i32_magnitude x h)

pub returns-clause-of_64_bits : goal.returns-clause-of_64_bits
returns-clause-of_64_bits g c = λ mode x h. signed_taken w64 x mode h (i64_magnitude x h)

pub returns-clause-of_128_bits : goal.returns-clause-of_128_bits
returns-clause-of_128_bits g c = λ mode x h. signed_taken w128 x mode h (i128_magnitude x h)
