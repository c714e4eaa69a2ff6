use Rattle.bcder.specs.laws.Utf8.{utf8_encodes, encodes_utf8, utf8_accepts, utf8_text}
use Rattle.bcder.proofs.laws.char_sets.utf8_is_text.Goals as goal

pub returns-clause-encoded : goal.returns-clause-encoded
returns-clause-encoded c = λ w cs. (utf8_encodes cs w, λ h. encodes_utf8 cs w h.0 h.1)

pub returns-clause-accepted : goal.returns-clause-accepted
returns-clause-accepted c = utf8_accepts

pub returns-clause-texts : goal.returns-clause-texts
returns-clause-texts c = utf8_text
