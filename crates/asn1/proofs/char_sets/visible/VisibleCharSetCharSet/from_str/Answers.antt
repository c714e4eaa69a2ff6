use Rattle.asn1.specs.CharacterSets.{is_visible}
use Rattle.asn1.specs.CharacterLaws.{visible_ascii}
use Rattle.asn1.proofs.Spelled.{text_of_set, text_not_of_set}
use Rattle.asn1.proofs.char_sets.visible.VisibleCharSetCharSet.from_str.Goals as goal

pub returns-then-are_visible : goal.returns-then-are_visible
returns-then-are_visible c =
    text_of_set is_visible visible_ascii c.args.text.now c.as_bytes.result.now c.as_bytes-then-are_visible.result.now c.are_visible.result
    c.as_bytes.ensures.value c.as_bytes-then-are_visible.ensures.value c.if-are_visible.true c.are_visible.ensures

pub returns-else-are_visible : goal.returns-else-are_visible
returns-else-are_visible c =
    text_not_of_set is_visible visible_ascii c.args.text.now c.as_bytes.result.now c.are_visible.result c.utf8.text c.as_bytes.ensures.value
    c.if-are_visible.false c.are_visible.ensures
