use Rattle.std.proofs.Common.{refl, subst, sym}
use Rattle.cli.specs.Shown.{IsLine}
use Rattle.cli.specs.declared.status.Status.TheVariants.{Refused}
use Rattle.bercheck.proofs.Going.{goes_alone, goes_cut, goes_line, failed_told, refused_told}
use Rattle.bercheck.proofs.run.write_breach.Goals as goal

pub returns-in-Err-clause-goes : goal.returns-in-Err-clause-goes
returns-in-Err-clause-goes g c = goes_alone (g.W.Write.contents c.args.out.now) (g.E.Write.contents c.args.err.now)
    (g.E.Write.contents c.tell_no_memory.new.err) c.tell_no_memory.result
    (failed_told c.tell_no_memory.result c.tell_no_memory.ensures.failed) c.tell_no_memory.ensures.told

pub returns-in-Ok-write_octets-clause-goes : goal.returns-in-Ok-write_octets-clause-goes
returns-in-Ok-write_octets-clause-goes g c = goes_line (g.W.Write.contents c.args.out.now) (g.W.Write.contents c.write_octets.new.target)
    (g.E.Write.contents c.args.err.now) c.as_bytes.result.now Refused (refused_told Refused refl)
    (subst IsLine (sym c.as_bytes.ensures.value) c.in-Ok.ensures) c.in-Ok-write_octets.ensures.ok

pub returns-clause-goes : goal.returns-clause-goes
returns-clause-goes g c = goes_cut (g.W.Write.contents c.args.out.now) (g.W.Write.contents c.write_octets.new.target)
    (g.E.Write.contents c.args.err.now) (g.E.Write.contents c.tell_unwritten.new.err) c.as_bytes.result.now c.tell_unwritten.result
    (failed_told c.tell_unwritten.result c.tell_unwritten.ensures.failed) c.in-Err-write_octets.ensures.refused c.tell_unwritten.ensures.told
