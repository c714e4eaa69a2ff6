use Rattle.std.proofs.Common.{subst, sym, List, Any}
use Rattle.std.specs.Prelude.{IfOk}
use Rattle.bcder.specs.calls.Meaning.{EachOf, Joined}
use Rattle.bcder.specs.calls.Encoders.{WritesEncoding, into_result}
use Rattle.bcder.specs.calls.Meaning.{IsOne}
use Rattle.bcder.specs.calls.Noted.{ReadsEach, MayRead, HasRead}
use Rattle.bcder.proofs.encode.values.lists.VecEncoder.put.Goals as goal

pub returns-clause-written : goal.returns-clause-written
returns-clause-written g c =
    subst (λ (xs : List g.row.V.Denot). IsOne (Joined (EachOf (λ v. g.V.Values.means v c.args.mode) xs))
    → WritesEncoding (Joined (EachOf (λ v. g.V.Values.means v c.args.mode) xs)) (Any (λ v. g.V.Values.may_lack v c.args.mode) xs)
    (g.W.Write.contents c.args.target.now) (g.W.Write.contents c.write_known.new.target) (into_result c.write_known.result c.write_known.new.why))
    c.as_slice.ensures.value c.write_known.ensures.written

pub write_known-requires-clause-sized : goal.write_known-requires-clause-sized
write_known-requires-clause-sized g c =
    subst (λ (xs : List g.row.V.Denot). MayRead (ReadsEach (λ v. g.V.Values.reads v c.args.mode) xs) c.args.sizes.now.sizes.now)
    (sym c.as_slice.ensures.value) c.requires.sized

pub returns-clause-left : goal.returns-clause-left
returns-clause-left g c =
    subst (λ (xs : List g.row.V.Denot). IfOk c.write_known.result
    (λ _. HasRead (ReadsEach (λ v. g.V.Values.reads v c.args.mode) xs) c.args.sizes.now.sizes.now c.write_known.new.sizes.sizes.now))
    c.as_slice.ensures.value c.write_known.ensures.left
