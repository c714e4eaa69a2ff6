use Rattle.bcder.specs.calls.Identifiers.{between_dots}
use Rattle.bcder.proofs.ReadBack.{one_read, refused}
use Rattle.bcder.proofs.laws.identifiers.a_text_is_one_identifier.Goals as goal

pub returns-clause-one : goal.returns-clause-one
returns-clause-one c text v w p q = one_read (between_dots text) v w p q

pub returns-clause-none : goal.returns-clause-none
returns-clause-none c text w e n r p = refused (between_dots text) w e n r p
