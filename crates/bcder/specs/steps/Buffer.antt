-- The octets of a header that were gathered so far.
use Rattle.std.specs.Prelude.{ℕ, List, take}
use Rattle.bcder.specs.declared.encode.buffer.Buffer.{Buffer}

abbrev pub buffered : Buffer → List ℕ
buffered b = take b.len b.octets
