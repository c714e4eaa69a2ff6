use Rattle.std.proofs.Common.{rules}
use Rattle.names.specs.Names.{table_for}
use Rattle.names.specs.Tables.{text_of}
use Rattle.names.proofs.Naming.{no_name_in}
use Rattle.names.proofs.name_of.Goals as goal

pub returns-clause-none : goal.returns-clause-none
returns-clause-none c =
    no_name_in c.text.result.now (text_of (table_for c.args.number.now)) c.args.number.now c.name_in.result (search rules) c.name_in.ensures.none
