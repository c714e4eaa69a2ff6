use Rattle.bcder.specs.calls.Identifiers.{between_dots}
use Rattle.bcder.proofs.ReadBack.{held}
use Rattle.bcder.proofs.Decimal.{read_back}
use Rattle.bcder.proofs.laws.identifiers.text_is_read_back.Goals as goal

pub returns-clause-held : goal.returns-clause-held
returns-clause-held c text w p = held (between_dots text) w p

pub returns-clause-read : goal.returns-clause-read
returns-clause-read c = read_back
