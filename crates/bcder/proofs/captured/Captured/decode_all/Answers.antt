use Rattle.std.proofs.Common.{refl, ap}
use Rattle.bcder.specs.calls.Captured.{Kept}
use Rattle.bcder.proofs.Decoding.{refuses_same}
use Rattle.bcder.proofs.captured.Captured.decode_all.Goals as goal

pub returns-clause-ok : goal.returns-clause-ok
returns-clause-ok g c = rw (← ap (λ (k : Kept). k.mode) c.self.view_is) c.decode_all.ensures.ok

pub returns-clause-refused : goal.returns-clause-refused
returns-clause-refused g c =
    refuses_same _ _ _ _ _ _ refl (ap (λ (k : Kept). k.mode) c.self.view_is) _ c.decode_all.ensures.refused
