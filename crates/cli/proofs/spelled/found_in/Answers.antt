use Rattle.std.proofs.Common.{inr}
use Rattle.cli.proofs.spelled.found_in.Goals as goal

pub returns-in-Ok-from_base64-clause-spells : goal.returns-in-Ok-from_base64-clause-spells
returns-in-Ok-from_base64-clause-spells c = inr (rw c.in-Err-Form.field-0-is at c.in-Err-Form.ensures.misspelled, c.in-Ok-from_base64.ensures.spells)
