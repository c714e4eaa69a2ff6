use Rattle.bcder.proofs.WrittenStrings.{string_written, string_meant}
use Rattle.bcder.proofs.laws.written_strings.a_string_is_written_as_one.Goals as goal

pub returns-clause-owned : goal.returns-clause-owned
returns-clause-owned c = string_written c.args.tag c.args.mode c.args.string.now c.see_string.ensures

pub returns-clause-borrowed : goal.returns-clause-borrowed
returns-clause-borrowed c = string_written c.args.tag c.args.mode c.args.string.now c.see_string.ensures

pub returns-clause-owned_written : goal.returns-clause-owned_written
returns-clause-owned_written c = string_meant c.args.tag c.args.mode c.args.string.now c.see_string.ensures

pub returns-clause-borrowed_written : goal.returns-clause-borrowed_written
returns-clause-borrowed_written c = string_meant c.args.tag c.args.mode c.args.string.now c.see_string.ensures
