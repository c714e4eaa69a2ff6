use Rattle.std.proofs.Common.{string_bytes}
use Rattle.berdump.proofs.Running.{title_written, title_cut_off, title_unflushed}
use Rattle.berdump.proofs.title.write_title.Goals as goal

pub returns-in-Err-write_octets-clause-untitled : goal.returns-in-Err-write_octets-clause-untitled
returns-in-Err-write_octets-clause-untitled g c =
    title_cut_off c.args.is_first (string_bytes c.in-Ok.title) c.as_bytes.result.now (g.W.Write.contents c.args.out.now)
    (g.W.Write.contents c.write_octets.new.target) c.in-Ok.ensures c.as_bytes.ensures.value c.in-Err-write_octets.ensures.refused

pub returns-in-Ok-flush-clause-titled : goal.returns-in-Ok-flush-clause-titled
returns-in-Ok-flush-clause-titled g c =
    title_written c.args.is_first (string_bytes c.in-Ok.title) c.as_bytes.result.now (g.W.Write.contents c.args.out.now)
    (g.W.Write.contents c.write_octets.new.target) (g.W.Write.contents c.flush.new.self)
    c.in-Ok.ensures c.as_bytes.ensures.value c.in_default.ensures.ok c.flush.ensures.bytes

pub returns-clause-untitled : goal.returns-clause-untitled
returns-clause-untitled g c =
    title_unflushed c.args.is_first (string_bytes c.in-Ok.title) c.as_bytes.result.now (g.W.Write.contents c.args.out.now)
    (g.W.Write.contents c.write_octets.new.target) (g.W.Write.contents c.flush.new.self)
    c.in-Ok.ensures c.as_bytes.ensures.value c.in_default.ensures.ok c.flush.ensures.bytes
