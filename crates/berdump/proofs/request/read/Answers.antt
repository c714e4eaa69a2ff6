use Rattle.std.proofs.Common.{map, string_bytes, refl, rules, subst}
use Rattle.cli.specs.Arguments.{Reads}
use Rattle.berdump.specs.Asked.{Does, read_of}
use Rattle.berdump.proofs.Asking.{other_asked}
use Rattle.berdump.proofs.request.read.Goals as goal

pub loop-argument-preserved : goal.loop-argument-preserved
loop-argument-preserved c = λ s h. c.loop-argument.invariant s
    (Reads.more c.in-Some.argument c.in-Some.ensures.comes (rw c.in-Ok-None.field-0-is at c.in-Ok-None.ensures.does)
    (subst (λ b. Reads Does b (map string_bytes c.take.new.args.words.now) (read_of c.take.new.request c.take.new.files.items) s) c.in-Ok-None.ensures.same h))

pub returns : goal.returns
returns c =
    let r = read_of c.loop-argument.request c.loop-argument.files.items in
    (r, c.loop-argument.invariant r (Reads.end c.in_default.ensures.none), refl, c.in_ok-names.ensures, search rules)

pub returns-in-Ok-Some : goal.returns-in-Ok-Some
returns-in-Ok-Some c = other_asked c.in-Some.argument c.in-Ok-Some.asked _ (rw c.in-Ok-Some.field-0-is at c.in-Ok-Some.ensures.other)
