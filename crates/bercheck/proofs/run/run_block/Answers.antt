use Rattle.std.proofs.Common.{◌≢◌, inl, rules}
use Rattle.cli.specs.declared.pem.BlockError.TheVariants.{NoMemory}
use Rattle.bercheck.proofs.Going.{failed_told, goes_alone, refused_told}
use Rattle.bercheck.proofs.run.run_block.Goals as goal

pub returns-in-Err-NoMemory-clause-goes : goal.returns-in-Err-NoMemory-clause-goes
returns-in-Err-NoMemory-clause-goes g c = goes_alone (g.W.Write.contents c.args.out.now) (g.E.Write.contents c.args.err.now)
    (g.E.Write.contents c.tell_no_memory.new.err) c.tell_no_memory.result
    (failed_told c.tell_no_memory.result c.tell_no_memory.ensures.failed) c.tell_no_memory.ensures.told

pub returns-in-Err : goal.returns-in-Err
returns-in-Err g c =
    let n : c.in-Err.error ≢ NoMemory = search rules in record {
      goes = goes_alone (g.W.Write.contents c.args.out.now) (g.E.Write.contents c.args.err.now) (g.E.Write.contents c.refuse.new.err) c.refuse.result
          (refused_told c.refuse.result c.refuse.ensures.refused) c.refuse.ensures.told;
      right = λ z. absurd (refused_told c.refuse.result c.refuse.ensures.refused z);
      broken = λ _. inl (c.in-Err.error, n, c.in-Err.ensures.none);
    }
