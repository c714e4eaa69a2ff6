use Rattle.bcder.proofs.OneString.{primitive_in_der, primitive_in_cer}
use Rattle.bcder.proofs.laws.octet_strings.strict_strings_have_one_form.Goals as goal

pub returns-clause-der : goal.returns-clause-der
returns-clause-der c = primitive_in_der

pub returns-clause-cer : goal.returns-clause-cer
returns-clause-cer c = primitive_in_cer
