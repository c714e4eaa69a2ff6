use Rattle.std.proofs.Common.{◌+◌, length, take, subst, codes, arith}
use Rattle.cli.specs.Pem.{IsBlock, IsNoBlock}
use Rattle.cli.proofs.Parts.{found_in, lacks_in, stands, start_fits, first_there, passed_too, none_left}
use Rattle.cli.proofs.pem.next_block.Goals as goal

pub returns-in-Some-block_between-clause-next : goal.returns-in-Some-block_between-clause-next
returns-in-Some-block_between-clause-next c =
    let found = found_in c.args.octets.now (codes "-----BEGIN ") c.in-Some.passed.now c.in-Some.behind.now c.split_at.result.1.now c.loop-passed.at
    c.split_at.ensures.back c.in-Some.ensures.split in
    record {
      before = take (c.loop-passed.at + length c.in-Some.passed.now) c.args.octets.now;
      behind = c.in-Some.behind.now;
      are = stands c.args.octets.now (codes "-----BEGIN ") c.in-Some.passed.now c.in-Some.behind.now c.loop-passed.at c.loop-passed.invariant.0 found;
      block = subst (λ z. IsBlock z c.in-Some.behind.now c.in-Some-block_between.block) c.split_at-in-Some.ensures.front
          c.in-Some-block_between.ensures.block;
      first = first_there c.args.octets.now (codes "-----BEGIN ") c.in-Some.passed.now c.in-Some.behind.now c.loop-passed.at c.loop-passed.invariant.0
          found IsNoBlock c.loop-passed.invariant.1;
    }

pub loop-passed-preserved : goal.loop-passed-preserved
loop-passed-preserved c =
    let found = found_in c.args.octets.now (codes "-----BEGIN ") c.in-Some.passed.now c.in-Some.behind.now c.split_at.result.1.now c.loop-passed.at
    c.split_at.ensures.back c.in-Some.ensures.split in (
      start_fits c.args.octets.now (codes "-----BEGIN ") c.in-Some.passed.now c.in-Some.behind.now c.loop-passed.at c.loop-passed.invariant.0 found
          (omega arith),
      passed_too c.args.octets.now (codes "-----BEGIN ") c.in-Some.passed.now c.in-Some.behind.now c.loop-passed.at c.loop-passed.invariant.0 found
          IsNoBlock c.loop-passed.invariant.1
          (subst (λ z. IsNoBlock z c.in-Some.behind.now) c.split_at-in-Some.ensures.front c.in_default-block_between.ensures.none),
    )

pub returns-clause-none : goal.returns-clause-none
returns-clause-none c = none_left c.args.octets.now (codes "-----BEGIN ") c.loop-passed.at IsNoBlock c.loop-passed.invariant.1
    (lacks_in c.args.octets.now (codes "-----BEGIN ") c.split_at.result.1.now c.loop-passed.at c.split_at.ensures.back c.in_default.ensures.none)
