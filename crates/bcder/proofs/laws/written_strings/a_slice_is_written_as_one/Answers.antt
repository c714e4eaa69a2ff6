use Rattle.bcder.proofs.WrittenStrings.{octets_written, octets_meant}
use Rattle.bcder.proofs.laws.written_strings.a_slice_is_written_as_one.Goals as goal

pub returns-clause-one : goal.returns-clause-one
returns-clause-one g c = octets_written c.args.encoder.now.tag c.args.mode _

pub returns-clause-written : goal.returns-clause-written
returns-clause-written g c = octets_meant c.args.encoder.now.tag c.args.mode (g.T.AsSlice.items c.args.encoder.now.slice) c.see.ensures
