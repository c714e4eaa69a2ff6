use Rattle.std.proofs.Common.{◌<◌, ◌^◌, ◌-◌, length, refl, arith, rules}
use Rattle.bcder.specs.x690.Identifier.{AreOctets}
use Rattle.encodings.proofs.Checking.{checks_start, checks_on, told_depth, shrinks, goes_further, all_done, stopped}
use Rattle.encodings.proofs.check.pass_on.Goals as goal

pub loop-checked-init : goal.loop-checked-init
loop-checked-init c = checks_start _ _ _ _ _ refl c.requires

pub count-requires-clause-depth : goal.count-requires-clause-depth
count-requires-clause-depth c =
    let i = c.loop-checked.invariant in
    let a = goes_further _ _ _ _ _ _ i _ _ _ _ c.advance.ensures.advances c.in-0.is in
    let small : length c.args.stack.now < 2 ^ 64 - 1 = search rules in
    omega (arith, told_depth _ _ _ _ _ _ i _ _ _ a, small)

pub loop-checked-smaller : goal.loop-checked-smaller
loop-checked-smaller c =
    let i = c.loop-checked.invariant in
    shrinks _ _ _ _ _ _ i _ _ _ (goes_further _ _ _ _ _ _ i _ _ _ _ c.advance.ensures.advances c.in-0.is)

pub loop-checked-preserved : goal.loop-checked-preserved
loop-checked-preserved c =
    let i = c.loop-checked.invariant in
    checks_on _ _ _ _ _ _ i _ _ _ (goes_further _ _ _ _ _ _ i _ _ _ _ c.advance.ensures.advances c.in-0.is) _ (c.count.ensures.end, c.count.ensures.value)

pub returns-in-7 : goal.returns-in-7
returns-in-7 c =
    let o : AreOctets c.args.octets.now = λ i. omega (arith, c.type_inv.octets i) in
    all_done _ _ _ _ _ _ c.loop-checked.invariant _ _ _ _ c.advance.ensures.advances o c.in-7.is

pub returns-in_default : goal.returns-in_default
returns-in_default c =
    let o : AreOctets c.args.octets.now = λ i. omega (arith, c.type_inv.octets i) in
    stopped _ _ _ _ _ _ c.loop-checked.invariant _ _ _ _ c.advance.ensures.advances o (search rules) (search rules)
