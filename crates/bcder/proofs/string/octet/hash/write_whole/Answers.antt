use Rattle.std.proofs.Common.{refl, arith}
use Rattle.std.proofs.lemmas.Grind.{common_steps}
use Rattle.bcder.proofs.Hashing.{block_written, last_written}
use Rattle.bcder.proofs.string.octet.hash.write_whole.Goals as goal

pub loop-octets-preserved : goal.loop-octets-preserved
loop-octets-preserved g c =
    let split = c.split_at.ensures in
    block_written g.H.Hasher.write _ _ _ _ _ _ c.write.ensures split.front_len split.by_index.0 c.loop-octets.invariant

pub returns-then-not-is_empty : goal.returns-then-not-is_empty
returns-then-not-is_empty g c =
    last_written g.H.Hasher.write _ _ _ _ _ c.write-then-not-is_empty.ensures (grind (arith, common_steps, c.if-not-is_empty.ensures))
    (omega (arith, c.loop-octets-test.false)) refl c.loop-octets.invariant
