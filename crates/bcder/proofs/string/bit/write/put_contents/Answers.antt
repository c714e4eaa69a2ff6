use Rattle.bcder.specs.x690.BitString.{Bits, as_written}
use Rattle.bcder.proofs.WrittenBits.{contents_split}
use Rattle.bcder.proofs.Writing.{stops, follows_on, halts, same_octets}
use Rattle.bcder.proofs.string.bit.write.put_contents.Goals as goal

pub returns-in_err-put_all : goal.returns-in_err-put_all
returns-in_err-put_all g c =
    let x : Bits = record { unused = c.args.unused; octets = c.args.octets.now } in
    halts _ c.from_residual.ensures (same_octets (contents_split c.args.mode x) (stops (as_written c.args.mode x).octets c.in_err-put_all.ensures))

pub returns : goal.returns
returns g c =
    let x : Bits = record { unused = c.args.unused; octets = c.args.octets.now } in
    same_octets (contents_split c.args.mode x) (follows_on c.in_ok-put_all.ensures c.put_octets.ensures)
