use Rattle.std.proofs.Common.{map, string_bytes, refl, subst}
use Rattle.cli.specs.Arguments.{Reads}
use Rattle.bercheck.specs.Asked.{Does, read_of}
use Rattle.bercheck.proofs.Asking.{other_asked}
use Rattle.bercheck.proofs.request.read.Goals as goal

pub loop-argument-preserved : goal.loop-argument-preserved
loop-argument-preserved c = λ s h. c.loop-argument.invariant s
    (Reads.more c.in-Some.argument c.in-Some.ensures.comes (rw c.in-Ok-None.field-0-is at c.in-Ok-None.ensures.does)
    (subst (λ b. Reads Does b (map string_bytes c.take.new.args.words.now) (read_of c.take.new.settings) s) c.in-Ok-None.ensures.same h))

pub returns : goal.returns
returns c = (
  read_of c.loop-argument.settings,
  c.loop-argument.invariant (read_of c.loop-argument.settings) (Reads.end c.in_default.ensures.none),
  refl,
  c.in_contents.ensures,
  refl,
  c.in_ok-names.ensures,
)

pub returns-in-Ok-Some : goal.returns-in-Ok-Some
returns-in-Ok-Some c = other_asked c.in-Some.argument c.in-Ok-Some.asked _ (rw c.in-Ok-Some.field-0-is at c.in-Ok-Some.ensures.other)
