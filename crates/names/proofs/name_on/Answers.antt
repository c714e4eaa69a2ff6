use Rattle.std.proofs.Common.{rules, lit<}
use Rattle.std.proofs.lemmas.Str.Pattern.{strip_prefix_char}
use Rattle.names.proofs.Naming.{no_name}
use Rattle.names.proofs.name_on.Goals as goal

pub returns-clause-none : goal.returns-clause-none
returns-clause-none c =
    no_name c.args.line.now c.args.number.now c.in-Some.rest.now _ c.strip_prefix-2.result (search rules)
    (strip_prefix_char 32 c.in-Some.rest.now c.strip_prefix-2.result c.strip_prefix-2.ensures.cases (lit< tt))
