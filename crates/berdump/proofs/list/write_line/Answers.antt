use Rattle.std.proofs.Common.{string_bytes, rules}
use Rattle.berdump.proofs.Walking.{written_line, unwritten_line}
use Rattle.berdump.proofs.list.write_line.Goals as goal

pub returns-in-Ok-write_octets-clause-written : goal.returns-in-Ok-write_octets-clause-written
returns-in-Ok-write_octets-clause-written g c =
    written_line c.args.scope c.args.heading (string_bytes c.in-Ok.text) c.as_bytes.result.now (g.W.Write.contents c.args.target.now)
    (g.W.Write.contents c.write_octets.new.target) (search rules) c.in-Ok.ensures c.as_bytes.ensures.value c.in-Ok-write_octets.ensures.ok

pub returns-clause-unwritten : goal.returns-clause-unwritten
returns-clause-unwritten g c =
    unwritten_line c.args.scope c.args.heading (string_bytes c.in-Ok.text) c.as_bytes.result.now (g.W.Write.contents c.args.target.now)
    (g.W.Write.contents c.write_octets.new.target) (search rules) c.in-Ok.ensures c.as_bytes.ensures.value c.in-Err-write_octets.ensures.refused
