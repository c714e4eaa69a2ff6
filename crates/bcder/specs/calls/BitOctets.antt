-- What is left in the iterator over the octets of a bit string.
use Rattle.std.specs.Prelude.{ℕ, List}
use Rattle.std.specs.Slice.Iter.{iter_rest}
use Rattle.bcder.specs.declared.{string.bit.BitStringIter.BitStringIter}

-- the octets that are still to come
abbrev pub octets_left : BitStringIter → List ℕ
octets_left i = iter_rest i.0
