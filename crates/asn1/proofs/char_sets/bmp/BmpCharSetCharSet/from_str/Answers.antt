use Rattle.std.proofs.Common.{◌≡◌, ◌++◌, length, true, sym, ap, subst, ◌∙◌, arith}
use Rattle.std.proofs.lemmas.Iterator.{YieldsList-from_chars}
use Rattle.std.proofs.lemmas.Iterator.Consumers.{YieldsList-turn, YieldsList-end}
use Rattle.std.proofs.lemmas.List.{map-id}
use Rattle.std.specs.Str.{chars}
use Rattle.bcder.specs.x690.CharSet.{Spells}
use Rattle.asn1.specs.CharacterSets.{is_cell, cell_octets, cell_step, each_octets}
use Rattle.asn1.proofs.Spelled.{have_push, have_at, each_push, each_spelled, spelled_have, cell_reads, cell_has, large_is_no_cell, small_is_cell, is_scalar_at}
use Rattle.asn1.proofs.char_sets.bmp.BmpCharSetCharSet.from_str.Goals as goal

pub returns-then-number-gt65533 : goal.returns-then-number-gt65533
returns-then-number-gt65533 c w s =
    let t = YieldsList-turn (YieldsList-from_chars c.args.text.now c.utf8.text cc) c.loop-character.yielded _ c.loop-character.yielded_by _ _
    c.in-Some.character c.in-Some.is c.next.ensures.steps in
    let had = have_at is_cell (chars c.args.text.now) (length c.loop-character.yielded) c.in-Some.character t.0
    (spelled_have is_cell cell_step cell_has (chars c.args.text.now) w s) in
    large_is_no_cell c.in-Some.character (omega (arith, c.if-number-gt65533.true, c.from-number.ensures)) (subst (λ x. is_cell x ≡ true) (sym t.1) had)

pub loop-character-preserved : goal.loop-character-preserved
loop-character-preserved c =
    let t = YieldsList-turn (YieldsList-from_chars c.args.text.now c.utf8.text cc) c.loop-character.yielded _ c.loop-character.yielded_by _ _
    c.in-Some.character c.in-Some.is c.next.ensures.steps in
    let scalar = is_scalar_at c.args.text.now (length c.loop-character.yielded) c.in-Some.character c.utf8.text t.0 t.1 in
    record {
      same = c.in-Ok.ensures ∙ ap (λ n. c.loop-character.octets.items ++ cell_octets n) c.from-number.ensures
          ∙ ap (λ w. w ++ cell_octets c.in-Some.character) c.loop-character.invariant.same
          ∙ sym (each_push cell_octets c.loop-character.yielded c.in-Some.character);
      cells = have_push is_cell c.loop-character.yielded c.in-Some.character c.loop-character.invariant.cells
          (small_is_cell c.in-Some.character (omega (arith, c.if-number-gt65533.false, c.from-number.ensures)) scalar);
    }

pub returns : goal.returns
returns c =
    let t = YieldsList-end (YieldsList-from_chars c.args.text.now c.utf8.text cc) c.loop-character.yielded _ c.loop-character.yielded_by _ _ c.in-None.is
    c.next.ensures.steps in
    let all : c.loop-character.yielded ≡ chars c.args.text.now = sym (map-id c.loop-character.yielded) ∙ t.0 in
    let spelled = each_spelled is_cell cell_octets cell_step cell_reads c.loop-character.yielded c.loop-character.invariant.cells in
    subst (λ w. Spells cell_step w (chars c.args.text.now)) (sym c.loop-character.invariant.same)
    (subst (Spells cell_step (each_octets cell_octets c.loop-character.yielded)) all spelled)
