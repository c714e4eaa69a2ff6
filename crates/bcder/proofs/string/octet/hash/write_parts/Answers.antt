use Rattle.std.proofs.Common.{ap, ◌∙◌}
use Rattle.bcder.proofs.Hashing.{block_passed, together_passed}
use Rattle.bcder.proofs.string.octet.hash.write_parts.Goals as goal

-- a block within a part
pub loop-parts-preserved-then-part-ge-BLOCK : goal.loop-parts-preserved-then-part-ge-BLOCK
loop-parts-preserved-then-part-ge-BLOCK g c =
    let split = c.split_at.ensures in
    let next = c.front-part-then-part-ge-BLOCK.ensures in
    record {
      written = block_passed g.H.Hasher.write _ _ _ _ _ _ _ _ c.write.ensures split.by_index.0 split.front_len next.joined c.loop-parts.invariant.written;
      all = next.all;
    }

-- a block that is put together
pub loop-parts-preserved : goal.loop-parts-preserved
loop-parts-preserved g c =
    let filled = c.fill-part.ensures in
    record {
      written = together_passed g.H.Hasher.write _ _ _ _ _ _ _ (c.write-else-part-ge-BLOCK.ensures ∙ ap (g.H.Hasher.write _) c.as_slice.ensures) filled.joined
          filled.some filled.within filled.full filled.all c.loop-parts.invariant.written;
      all = filled.all;
    }
