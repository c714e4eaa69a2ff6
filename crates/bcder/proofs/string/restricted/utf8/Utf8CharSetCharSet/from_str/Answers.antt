use Rattle.bcder.proofs.Utf8.{text_spelled}
use Rattle.bcder.proofs.string.restricted.utf8.Utf8CharSetCharSet.from_str.Goals as goal

pub returns : goal.returns
returns c = text_spelled c.args.text.now _ c.utf8.text c.as_bytes.ensures.value
