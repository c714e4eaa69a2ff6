use Rattle.std.proofs.Common.{subst, sym, ◌∙◌}
use Rattle.std.specs.declared.vec.Vec.{Vec}
use Rattle.std.specs.declared.alloc.Global.{Global}
use Rattle.std.specs.Vec.{with_items}
use Rattle.std.proofs.lemmas.List.{with_items_is}
use Rattle.asn1.specs.Writing.{IsReadAs}
use Rattle.asn1.proofs.ListsBack.{list_read_back}
use Rattle.asn1.proofs.written.lists.VecEncodeFields.are_read_back.Goals as goal

pub returns : goal.returns
returns g c = λ x k.
    let mode = c.args.mode in
    let M = λ (v : g.row.T.Denot). g.T.Encode.writes g.T.Type.TAG v mode in
    let one =
    subst
    (λ t. (x : g.row.T.Denot) → g.T.Encode.is_clear x mode
    → IsReadAs (g.T.Type.tags t) (g.T.Type.means mode) g.T.Type.key x (g.T.Encode.writes t x mode))
    c.tag.ensures c.is_read_back.ensures in
    list_read_back (g.T.Type.tags g.T.Type.TAG) (g.T.Type.means mode) g.T.Type.key (λ (v : Vec g.row.T.Denot Global). v.items) x (with_items x)
    (λ ws n. with_items_is x ws (n ∙ sym x.ok.0)) M (λ i v h. one _ (k i v h))
