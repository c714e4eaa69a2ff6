use Rattle.std.proofs.Common.{◌++◌, length, ap, ◌∙◌, false}
use Rattle.bcder.specs.declared.length.Length.TheVariants.{Definite}
use Rattle.bcder.specs.x690.Identifier.{identifier}
use Rattle.bcder.specs.x690.Octets.{header, length_octets}
use Rattle.bcder.proofs.Enclosing.{definite_some}
use Rattle.bcder.proofs.Writing.{elsewhere, stops, follows_on, same_ok, wrote_what, halts, lacks_more, same_octets, same_answer}
use Rattle.bcder.proofs.encode.primitive.PrimitiveContent.write_value.Goals as goal

pub returns-in_err-put_header : goal.returns-in_err-put_header
returns-in_err-put_header g c = λ one w meant.
    let (v, m, len_is) = c.requires.contents in
    let len_of = len_is ∙ ap length (same_ok _ one.same v w m meant) in
    let head = same_octets (ap (λ n. header c.args.tag false (Definite n)) len_of) c.in_err-put_header.ensures in
    halts _ c.from_residual.ensures (lacks_more _ (λ h. absurd h) (stops w head))

pub returns-then-len-gt64 : goal.returns-then-len-gt64
returns-then-len-gt64 g c = λ one w meant.
    let (v, m, len_is) = c.requires.contents in
    let len_of = len_is ∙ ap length (same_ok _ one.same v w m meant) in
    let head = same_octets (ap (λ n. header c.args.tag false (Definite n)) len_of) c.in_ok-put_header.ensures in
    follows_on head (same_answer c.store.ensures (wrote_what _ one.same (λ x. x) _ w _ _ _ meant c.write_encoded.ensures))

pub returns-in_err-store : goal.returns-in_err-store
returns-in_err-store g c = λ one w meant.
    let wrote = same_answer c.in_err-store.ensures (wrote_what _ one.same (λ x. x) _ w _ _ _ meant c.write_encoded-2.ensures) in
    halts _ c.from_residual-in_err-store.ensures (elsewhere _ _ (definite_some c.args.tag false w) wrote)

pub returns : goal.returns
returns g c = λ one w meant.
    let (v, m, len_is) = c.requires.contents in
    let len_of = len_is ∙ ap length (same_ok _ one.same v w m meant) in
    let tag = c.spell.ensures.octets ∙ ap (λ l. l ++ identifier c.args.tag false) c.new-buffer.ensures.none in
    let head = c.spell-2.ensures.octets ∙ ap (λ l. l ++ length_octets (Definite c.args.len)) tag in
    let told = head ∙ ap (λ n. header c.args.tag false (Definite n)) len_of in
    let wrote = same_answer c.in_ok-store.ensures (wrote_what _ one.same (λ x. x) _ w _ _ _ meant c.write_encoded-2.ensures) in
    let all = c.as_slice.ensures ∙ wrote.done ∙ ap (λ l. l ++ w) told in
    lacks_more _ (λ h. absurd h) (same_octets all c.put_all.ensures)
