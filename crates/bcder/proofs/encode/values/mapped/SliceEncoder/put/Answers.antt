use Rattle.std.proofs.Common.{subst, sym, All, List, Any}
use Rattle.bcder.specs.calls.Iterated.{MayMap, ItemMeans, ItemLacks}
use Rattle.bcder.specs.calls.Meaning.{EachOf, Joined}
use Rattle.bcder.specs.calls.Encoders.{WritesEncoding, into_result}
use Rattle.bcder.specs.calls.Meaning.{IsOne}
use Rattle.bcder.proofs.encode.values.mapped.SliceEncoder.put.Goals as goal

pub write_known_parts-requires-clause-can : goal.write_known_parts-requires-clause-can
write_known_parts-requires-clause-can g c =
    subst (All (MayMap g.F.Fn c.args.self.now.f g.V.Values.can_encode g.V.Values.means)) (sym c.as_slice-items.ensures) c.requires.can

pub returns-clause-written : goal.returns-clause-written
returns-clause-written g c =
    let M = ItemMeans g.F.Fn c.args.self.now.f g.V.Values.means c.args.mode in
    let L = ItemLacks g.F.Fn c.args.self.now.f g.V.Values.may_lack c.args.mode in
    subst (λ (xs : List g.row.U.Denot). IsOne (Joined (EachOf M xs)) → WritesEncoding (Joined (EachOf M xs)) (Any L xs) (g.W.Write.contents c.args.target.now)
    (g.W.Write.contents c.write_known_parts.new.target) (into_result c.write_known_parts.result c.write_known_parts.new.why))
    c.as_slice-items.ensures c.write_known_parts.ensures.written
