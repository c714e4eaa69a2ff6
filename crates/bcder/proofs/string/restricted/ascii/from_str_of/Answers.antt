use Rattle.bcder.proofs.AsciiSets.{lent, refused}
use Rattle.bcder.proofs.string.restricted.ascii.from_str_of.Goals as goal

pub returns-then-has_all : goal.returns-then-has_all
returns-then-has_all g c =
    lent g.S.AsciiSet.test g.met.S.AsciiSet.ascii c.args.text.now _ _ _ c.as_bytes.ensures.value c.as_bytes-then-has_all.ensures.value
    c.if-has_all.true c.has_all.ensures

pub returns-else-has_all : goal.returns-else-has_all
returns-else-has_all g c =
    refused g.S.AsciiSet.test g.met.S.AsciiSet.ascii c.args.text.now _ _ c.utf8.text c.as_bytes.ensures.value c.if-has_all.false c.has_all.ensures
