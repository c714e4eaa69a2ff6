use Rattle.std.proofs.Common.{rules, ◌≡◌}
use Rattle.std.specs.Str.Iter.{lines_steps}
use Rattle.std.specs.Str.Lines.{lines}
use Rattle.std.proofs.lemmas.Iterator.Splits.{YieldsList-from_lines}
use Rattle.names.specs.Names.{line_of}
use Rattle.names.proofs.Naming.{gives_all, gives_one, gives_others, gives_none}
use Rattle.names.proofs.name_in.Goals as goal

pub loop-line-init : goal.loop-line-init
loop-line-init c = (
  tt,
  tt,
  gives_all lines_steps (λ x. x.now) (lines c.args.text.now) (λ name line. line ≡ line_of c.args.number.now name)
      c.into_iter-line-iterator.result (YieldsList-from_lines c.args.text.now (search rules)).runs,
)

pub returns-in-Some-name_on-clause-some : goal.returns-in-Some-name_on-clause-some
returns-in-Some-name_on-clause-some c =
    gives_one lines_steps (λ x. x.now) (lines c.args.text.now) (λ name line. line ≡ line_of c.args.number.now name)
    c.loop-line.line-iterator c.next.new.self c.in-Some.line c.in-Some-name_on.name.now c.loop-line.invariant.2 c.in-Some.ensures.steps
    c.in-Some-name_on.ensures.some

pub loop-line-preserved : goal.loop-line-preserved
loop-line-preserved c = (
  tt,
  tt,
  gives_others lines_steps (λ x. x.now) (lines c.args.text.now) (λ name line. line ≡ line_of c.args.number.now name)
      c.loop-line.line-iterator c.next.new.self c.in-Some.line c.loop-line.invariant.2 c.in-Some.ensures.steps c.in_default.ensures.none,
)

pub returns-clause-none : goal.returns-clause-none
returns-clause-none c = λ name. gives_none lines_steps (λ x. x.now) (lines c.args.text.now)
    (λ name line. line ≡ line_of c.args.number.now name) c.loop-line.line-iterator c.next.new.self name c.loop-line.invariant.2
    c.in-None.ensures.steps
