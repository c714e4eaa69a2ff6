use Rattle.std.proofs.Common.{[], sym, ap, subst}
use Rattle.encodings.specs.Cutting.{Adds, cut_written}
use Rattle.encodings.specs.Pieces.{all_made}
use Rattle.encodings.proofs.Converting.{cut_stored}
use Rattle.encodings.proofs.convert.store_cut.Goals as goal

pub returns-in-Ok : goal.returns-in-Ok
returns-in-Ok c =
    cut_stored _ _ _ _ _ _ _
    (subst (λ v. Adds [] v (cut_written []) (cut_written (all_made c.args.items.now))) (sym (ap all_made c.as_slice.ensures.value)) c.in-Ok.ensures)
    c.store_items.ensures
