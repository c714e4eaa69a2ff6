use Rattle.std.proofs.Common.{◌≡◌, ◌++◌, length, sym, ap, subst, ◌∙◌}
use Rattle.std.proofs.lemmas.Iterator.{YieldsList-from_chars}
use Rattle.std.proofs.lemmas.Iterator.Consumers.{YieldsList-turn, YieldsList-end}
use Rattle.std.proofs.lemmas.List.{map-id}
use Rattle.std.specs.Str.{chars}
use Rattle.bcder.specs.x690.CharSet.{Spells}
use Rattle.asn1.specs.CharacterSets.{is_code_point, code_point_octets, code_point_step, each_octets}
use Rattle.asn1.proofs.Spelled.{have_push, each_push, each_spelled, code_point_reads, scalar_is_code_point, is_scalar_at}
use Rattle.asn1.proofs.char_sets.universal.UniversalCharSetCharSet.from_str.Goals as goal

pub loop-character-preserved : goal.loop-character-preserved
loop-character-preserved c =
    let t = YieldsList-turn (YieldsList-from_chars c.args.text.now c.utf8.text cc) c.loop-character.yielded _ c.loop-character.yielded_by _ _
    c.in-Some.character c.in-Some.is c.next.ensures.steps in
    let scalar = is_scalar_at c.args.text.now (length c.loop-character.yielded) c.in-Some.character c.utf8.text t.0 t.1 in
    record {
      same = c.in-Ok.ensures ∙ ap (λ n. c.loop-character.octets.items ++ code_point_octets n) c.from.ensures
          ∙ ap (λ w. w ++ code_point_octets c.in-Some.character) c.loop-character.invariant.same
          ∙ sym (each_push code_point_octets c.loop-character.yielded c.in-Some.character);
      code_points = have_push is_code_point c.loop-character.yielded c.in-Some.character c.loop-character.invariant.code_points
          (scalar_is_code_point c.in-Some.character scalar);
    }

pub returns : goal.returns
returns c =
    let t = YieldsList-end (YieldsList-from_chars c.args.text.now c.utf8.text cc) c.loop-character.yielded _ c.loop-character.yielded_by _ _ c.in-None.is
    c.next.ensures.steps in
    let all : c.loop-character.yielded ≡ chars c.args.text.now = sym (map-id c.loop-character.yielded) ∙ t.0 in
    let spelled = each_spelled is_code_point code_point_octets code_point_step code_point_reads c.loop-character.yielded
    c.loop-character.invariant.code_points in
    subst (λ w. Spells code_point_step w (chars c.args.text.now)) (sym c.loop-character.invariant.same)
    (subst (Spells code_point_step (each_octets code_point_octets c.loop-character.yielded)) all spelled)
