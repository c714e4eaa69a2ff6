use Rattle.std.proofs.Common.{◌≡◌, ◌<◌, ℕ, List, [], ◌∷◌, ◌++◌, length, true, sym, ap, subst, ◌∙◌, arith}
use Rattle.std.proofs.lemmas.Iterator.{YieldsList-from_chars}
use Rattle.std.proofs.lemmas.Iterator.Consumers.{YieldsList-turn, YieldsList-end}
use Rattle.std.proofs.lemmas.List.{map-id}
use Rattle.std.proofs.lemmas.Bool.Decides.{nat_tests}
use Rattle.std.specs.Str.{chars}
use Rattle.bcder.specs.x690.AsciiSets.{one_octet_step}
use Rattle.bcder.specs.x690.CharSet.{Spells}
use Rattle.bcder.specs.laws.CharSets.{AllHave, self_spelled}
use Rattle.user.specs.Latin1.{is_octet}
use Rattle.user.proofs.Latin1.{spells_self, have_push, have_at, too_large, small}
use Rattle.user.proofs.latin_1.Latin1CharSet.from_str.Goals as goal

pub returns-then-character-gt255 : goal.returns-then-character-gt255
returns-then-character-gt255 c w s =
    let t = YieldsList-turn (YieldsList-from_chars c.args.text.now c.utf8.text cc) c.loop-character.yielded _ c.loop-character.yielded_by _ _
    c.in-Some.character c.in-Some.is c.next.ensures.steps in
    let spelled = self_spelled is_octet (chars c.args.text.now) w s in
    let had = have_at is_octet (chars c.args.text.now) (length c.loop-character.yielded) c.in-Some.character t.0
    (subst (AllHave is_octet) (sym spelled.0) spelled.1) in
    too_large c.in-Some.character (omega (arith, c.if-character-gt255.true)) (subst (λ x. is_octet x ≡ true) (sym t.1) had)

pub loop-character-preserved : goal.loop-character-preserved
loop-character-preserved c = record {
  same = c.in-Ok.ensures.items ∙ ap (λ w. w ++ c.in-Some.character ∷ []) c.loop-character.invariant.same;
  octets = have_push is_octet c.loop-character.yielded c.in-Some.character c.loop-character.invariant.octets
      (small c.in-Some.character (omega (arith, c.if-character-gt255.false)));
}

pub returns : goal.returns
returns c =
    let t = YieldsList-end (YieldsList-from_chars c.args.text.now c.utf8.text cc) c.loop-character.yielded _ c.loop-character.yielded_by _ _ c.in-None.is
    c.next.ensures.steps in
    let all : c.loop-character.yielded ≡ chars c.args.text.now = sym (map-id c.loop-character.yielded) ∙ t.0 in
    let spelled = spells_self is_octet c.loop-character.yielded c.loop-character.invariant.octets in
    subst (λ w. Spells (one_octet_step is_octet) w (chars c.args.text.now)) (sym c.loop-character.invariant.same)
    (subst (Spells (one_octet_step is_octet) c.loop-character.yielded) all spelled)
