use Rattle.std.proofs.Common.{subst, List, Any}
use Rattle.std.specs.Prelude.{IfOk}
use Rattle.bcder.specs.calls.Meaning.{Encoded}
use Rattle.bcder.specs.calls.Meaning.{EachOf, Joined}
use Rattle.bcder.specs.calls.Encoders.{TellsSize}
use Rattle.bcder.specs.calls.Noted.{ReadsEach, Notes}
use Rattle.bcder.proofs.encode.values.lists.VecEncoder.measured.Goals as goal

pub returns-clause-sized : goal.returns-clause-sized
returns-clause-sized g c =
    subst (λ (xs : List g.row.V.Denot). TellsSize (λ (e : Encoded). e.octets) (Joined (EachOf (λ v. g.V.Values.means v c.args.mode) xs))
    (Any (λ v. g.V.Values.may_lack v c.args.mode) xs) c.note_sizes.result)
    c.as_slice.ensures.value c.note_sizes.ensures.sized

pub returns-clause-noted : goal.returns-clause-noted
returns-clause-noted g c =
    subst (λ (xs : List g.row.V.Denot). IfOk c.note_sizes.result
    (λ _. Notes (ReadsEach (λ v. g.V.Values.reads v c.args.mode) xs) c.args.sizes.now c.note_sizes.new.sizes))
    c.as_slice.ensures.value c.note_sizes.ensures.noted
