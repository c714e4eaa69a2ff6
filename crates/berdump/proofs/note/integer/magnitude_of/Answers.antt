use Rattle.std.proofs.Common.{inl}
use Rattle.encodings.specs.Contents.{IsMagnitude}
use Rattle.berdump.proofs.Numbers.{stored_front}
use Rattle.berdump.proofs.note.integer.magnitude_of.Goals as goal

pub returns : goal.returns
returns c = inl (stored_front (IsMagnitude c.args.octets.now) c.store_magnitude.result c.deref_mut.result.now c.store_magnitude.new.buffer _
    c.truncate.new.self.items 0 c.store_magnitude.new.size c.resize.new.self.len c.store_magnitude.ensures c.if-store_magnitude-ne-DONE.false
    c.deref_mut.ensures.len c.truncate.ensures.items)
