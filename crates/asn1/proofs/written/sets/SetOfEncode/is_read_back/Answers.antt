use Rattle.std.proofs.Common.{◌≡◌, refl, subst, sym, ◌∙◌}
use Rattle.std.specs.declared.vec.Vec.{Vec}
use Rattle.std.specs.declared.alloc.Global.{Global}
use Rattle.std.specs.Vec.{with_items}
use Rattle.std.proofs.lemmas.List.{with_items_is}
use Rattle.bcder.specs.x690.Tree.{Trees, no_trees}
use Rattle.asn1.specs.Keys.{list_key}
use Rattle.asn1.specs.SetsOf.{AreSetOf, in_any_order}
use Rattle.asn1.specs.SetsWritten.{WritesSetOf}
use Rattle.asn1.specs.Writing.{IsReadAs}
use Rattle.asn1.proofs.ReadingBack.{inside_read_back}
use Rattle.asn1.proofs.SetsBack.{set_read_back}
use Rattle.asn1.proofs.written.sets.SetOfEncode.is_read_back.Goals as goal

pub returns : goal.returns
returns g c = λ x k.
    let mode = c.args.mode in
    let tag = c.args._tag in
    let Tags = g.T.Type.tags g.T.Type.TAG in
    let Means = g.T.Type.means mode in
    let key = g.T.Type.key in
    let W = λ (v : g.row.T.Denot). g.T.Encode.writes g.T.Type.TAG v mode in
    let one =
    subst (λ t. (v : g.row.T.Denot) → g.T.Encode.is_clear v mode → IsReadAs (g.T.Type.tags t) Means key v (g.T.Encode.writes t v mode)) c.tag.ensures
    c.is_read_back.ensures in
    let back =
    set_read_back mode Tags Means key (c.values_are_one.ensures.one mode) W (λ v. g.met.T.Encode.lawful g.T.Type.TAG v mode)
    (λ (v : Vec g.row.T.Denot Global). v.items) x (with_items x) (λ ws n. with_items_is x ws (n ∙ sym x.ok.0)) (λ i v h. one _ (k i v h)) in
    inside_read_back tag (λ (v : Vec g.row.T.Denot Global). in_any_order (list_key key v.items)) x
    (λ (ts : Trees) (y : Vec g.row.T.Denot Global) (us : Trees). AreSetOf mode Tags Means ts y.items us) (λ us. us ≡ no_trees) mode (WritesSetOf mode W x.items)
    refl back
