use Rattle.bcder.specs.x690.BitString.{Bits, as_written}
use Rattle.bcder.proofs.WrittenBits.{value_split}
use Rattle.bcder.proofs.Writing.{stops, follows_on, halts, same_octets}
use Rattle.bcder.proofs.string.bit.write.put_value.Goals as goal

pub returns-in_err-put_header_and : goal.returns-in_err-put_header_and
returns-in_err-put_header_and g c =
    let x : Bits = record { unused = c.args.unused; octets = c.args.octets.now } in
    halts _ c.from_residual.ensures (same_octets (value_split c.args.tag c.args.mode x c.args.len c.requires.contents)
    (stops (as_written c.args.mode x).octets c.in_err-put_header_and.ensures))

pub returns : goal.returns
returns g c =
    let x : Bits = record { unused = c.args.unused; octets = c.args.octets.now } in
    same_octets (value_split c.args.tag c.args.mode x c.args.len c.requires.contents) (follows_on c.in_ok-put_header_and.ensures c.put_octets.ensures)
