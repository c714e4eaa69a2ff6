use Rattle.std.proofs.Common.{◌∷◌, [], ◌++◌, encode_utf8_all, ap, sym, ◌∙◌, append-nil, append_assoc, rules}
use Rattle.std.proofs.Output.{has_written_append, has_written_of_eq}
use Rattle.bcder.specs.x690.Characters.{characters}
use Rattle.bcder.specs.calls.StringOctets.{octets_of}
use Rattle.bcder.proofs.Characters.{encoded_behind, characters_spelled}
use Rattle.bcder.proofs.string.restricted.chars.RestrictedStringDisplay.fmt.Goals as goal

pub loop-c-preserved : goal.loop-c-preserved
loop-c-preserved g c =
    λ plain.
    let now = c.loop-c.invariant plain in
    let all = append_assoc now.0 (c.in-Some-c.c ∷ []) c.next.new.self ∙ ap (λ w. now.0 ++ w) (sym c.in-Some-c.ensures.steps) ∙ now.1 in (
      now.0 ++ c.in-Some-c.c ∷ [],
      all,
      has_written_of_eq _ _ _ _ _ (sym (encoded_behind now.0 c.in-Some-c.c)) (has_written_append _ _ _ _ _ _ now.2 (search rules)),
    )

pub returns-in-Some-clause-writes : goal.returns-in-Some-clause-writes
returns-in-Some-clause-writes g c =
    λ plain ok.
    let step = g.L.CharSet.step in
    let own = c.in-Some.ensures ∙ ap (λ w. encode_utf8_all (characters step w)) c.octets.ensures.octets in
    let is = own ∙ ap (λ s. encode_utf8_all (characters step (octets_of s))) c.self.view_is in
    has_written_of_eq _ _ _ _ _ is (c.write_str.ensures.writes plain ok)

pub returns-clause-writes : goal.returns-clause-writes
returns-clause-writes g c =
    λ plain _.
    let now = c.loop-c.invariant plain in
    let all = sym (append-nil now.0) ∙ ap (λ w. now.0 ++ w) (sym c.in-None.ensures.steps.0) ∙ now.1 in
    let are = characters_spelled g.L.CharSet.step g.met.L.CharSet.lawful (octets_of c.args.self.now) c.chars-c-items.result c.chars-c-items.ensures in
    has_written_of_eq _ _ _ _ _ (ap encode_utf8_all (all ∙ c.into_iter-c-iterator.ensures.into_iter_gives ∙ sym are)) now.2
