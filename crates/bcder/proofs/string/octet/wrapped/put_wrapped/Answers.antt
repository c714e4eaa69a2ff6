use Rattle.std.proofs.Common.{sym}
use Rattle.bcder.proofs.Writing.{lacks_more}
use Rattle.bcder.proofs.Wrapping.{or_gathered}
use Rattle.bcder.proofs.string.octet.wrapped.put_wrapped.Goals as goal

pub returns-then-is_cut-clause-written : goal.returns-then-is_cut-clause-written
returns-then-is_cut-clause-written g c = λ x meant. lacks_more _ (or_gathered c.args.mode
    (g.V.Values.means c.args.wrapped.now.values c.args.wrapped.now.mode) c.args.len (sym c.if-is_cut.ensures) c.requires.size) (c.put_gathered.ensures x meant)
