use Rattle.bcder.proofs.Writing.{stops, follows_on, halts}
use Rattle.bcder.proofs.encode.short.put_header_then_contents.Goals as goal

pub returns-in_err-put_header : goal.returns-in_err-put_header
returns-in_err-put_header g c = halts _ c.from_residual.ensures (stops c.args.contents.now c.in_err-put_header.ensures)

pub returns : goal.returns
returns g c = follows_on c.in_ok-put_header.ensures c.put_all.ensures
