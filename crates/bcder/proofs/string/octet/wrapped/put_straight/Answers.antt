use Rattle.std.proofs.Common.{◌++◌, ap, ◌∙◌, false}
use Rattle.bcder.specs.declared.length.Length.TheVariants.{Definite}
use Rattle.bcder.specs.x690.Identifier.{identifier}
use Rattle.bcder.specs.x690.Octets.{header, length_octets}
use Rattle.bcder.specs.x690.OctetString.{octet_string_tag}
use Rattle.bcder.proofs.Enclosing.{definite_some}
use Rattle.bcder.proofs.Writing.{elsewhere, halts, lacks_more, stops, follows_on, same_octets}
use Rattle.bcder.proofs.string.octet.wrapped.put_straight.Goals as goal

pub returns-in_err-put_header-clause-written : goal.returns-in_err-put_header-clause-written
returns-in_err-put_header-clause-written g c = λ e meant.
    let head = same_octets (ap (λ n. header octet_string_tag false (Definite n)) (c.requires.size e meant)) c.in_err-put_header.ensures in
    halts _ c.from_residual.ensures (lacks_more _ (λ h. absurd h) (stops e.octets head))

pub returns-then-len-gt64-clause-written : goal.returns-then-len-gt64-clause-written
returns-then-len-gt64-clause-written g c = λ e meant.
    let one = (g.met.V.Values.lawful c.args.values.now c.args.inner c.requires.can).one in
    let head = same_octets (ap (λ n. header octet_string_tag false (Definite n)) (c.requires.size e meant)) c.in_ok-put_header.ensures in
    follows_on head (c.write_known.ensures.written one e meant)

pub returns-in_err-write_known-clause-written : goal.returns-in_err-write_known-clause-written
returns-in_err-write_known-clause-written g c = λ e meant.
    let one = (g.met.V.Values.lawful c.args.values.now c.args.inner c.requires.can).one in
    halts _ c.from_residual-in_err-write_known.ensures
    (elsewhere _ _ (definite_some octet_string_tag false e.octets) (c.in_err-write_known.ensures.written one e meant))

pub returns-clause-written : goal.returns-clause-written
returns-clause-written g c = λ e meant.
    let one = (g.met.V.Values.lawful c.args.values.now c.args.inner c.requires.can).one in
    let tag = c.spell.ensures.octets ∙ ap (λ l. l ++ identifier octet_string_tag false) c.new-buffer.ensures.none in
    let head = c.spell-2.ensures.octets ∙ ap (λ l. l ++ length_octets (Definite c.args.len)) tag in
    let told = head ∙ ap (λ n. header octet_string_tag false (Definite n)) (c.requires.size e meant) in
    let all = c.as_slice.ensures ∙ (c.in_ok-write_known.ensures.written one e meant).done ∙ ap (λ l. l ++ e.octets) told in
    lacks_more _ (λ h. absurd h) (same_octets all c.put_all.ensures)
