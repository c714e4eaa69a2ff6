use Rattle.std.proofs.Common.{refl, rules}
use Rattle.encodings.proofs.Converting.{stored_all, too_small_for_all}
use Rattle.encodings.proofs.convert.store_items.Goals as goal

pub returns-then-len-buffer : goal.returns-then-len-buffer
returns-then-len-buffer c = too_small_for_all _ _ _ _ _ c.in-Ok.ensures.fit c.in-Ok.ensures.stored.count (search rules)

pub returns-in-Ok-write : goal.returns-in-Ok-write
returns-in-Ok-write c =
    stored_all _ _ _ _ _ _ _ _ c.in-Ok.ensures.fit c.in-Ok.ensures.stored.count c.in-Ok-write.ensures.stored (search rules) refl
