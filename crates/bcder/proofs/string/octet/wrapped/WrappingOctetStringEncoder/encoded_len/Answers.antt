use Rattle.bcder.specs.x690.OctetString.{octet_string_tag}
use Rattle.bcder.proofs.Wrapping.{lawful_octets, wrapped_size}
use Rattle.bcder.proofs.string.octet.wrapped.WrappingOctetStringEncoder.encoded_len.Goals as goal

pub returns-clause-sized : goal.returns-clause-sized
returns-clause-sized g c =
    let wrapped = c.args.self.now in
    let (e, meant, is) = c.in_ok-len.ensures in
    let lawful = g.met.V.Values.lawful wrapped.values wrapped.mode c.requires in
    wrapped_size octet_string_tag c.args.mode _ _ e meant _ (c.string_len.ensures e.octets (lawful_octets wrapped.mode lawful e meant) is)

pub returns-clause-memory : goal.returns-clause-memory
returns-clause-memory g c =
    let wrapped = c.args.self.now in
    let (e, meant, is) = c.in_ok-len.ensures in
    let lawful = g.met.V.Values.lawful wrapped.values wrapped.mode c.requires in
    wrapped_size octet_string_tag c.args.mode _ _ e meant _ (c.string_len.ensures e.octets (lawful_octets wrapped.mode lawful e meant) is)
