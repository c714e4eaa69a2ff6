use Rattle.std.proofs.Common.{ap, ◌∙◌, Err}
use Rattle.bcder.specs.x690.OctetString.{octet_string_tag}
use Rattle.bcder.specs.calls.Captured.{Kept}
use Rattle.bcder.proofs.Writing.{lacks_more, lacked, same_answer}
use Rattle.bcder.proofs.Wrapping.{lawful_octets, gathered_as, wrapped_inside, not_kept}
use Rattle.bcder.proofs.string.octet.wrapped.put_gathered.Goals as goal

pub put_octets-requires : goal.put_octets-requires
put_octets-requires g c =
    let lawful = g.met.V.Values.lawful c.args.values.now c.args.inner c.requires.can in
    let held = c.in-Ok.ensures in
    let octets = lawful_octets c.args.inner lawful held.what held.meant in
    let same = c.as_slice.ensures.value ∙ ap (λ (k : Kept). k.octets) held.holds in
    (c.requires.known.0, gathered_as octet_string_tag c.args.mode _ lawful.one held.what held.meant octets _ same _ c.requires.known.1)

pub returns-in-Ok : goal.returns-in-Ok
returns-in-Ok g c = λ x meant.
    let lawful = g.met.V.Values.lawful c.args.values.now c.args.inner c.requires.can in
    let held = c.in-Ok.ensures in
    let octets = lawful_octets c.args.inner lawful held.what held.meant in
    let same = c.as_slice.ensures.value ∙ ap (λ (k : Kept). k.octets) held.holds in
    lacks_more _ (λ h. absurd h) (c.put_octets.ensures x (gathered_as octet_string_tag c.args.mode _ lawful.one held.what held.meant octets _ same x meant))

pub returns-in-Err : goal.returns-in-Err
returns-in-Err g c = λ x meant.
    let lawful = g.met.V.Values.lawful c.args.values.now c.args.inner c.requires.can in
    let inside = wrapped_inside octet_string_tag c.args.mode _ x meant in
    same_answer (ap Err c.store_refusal.ensures) (lacks_more _ (not_kept (g.V.Values.means c.args.values.now c.args.inner))
    (lacked _ lawful.one.same inside.0 x.octets inside.1 c.in-Err.ensures))
