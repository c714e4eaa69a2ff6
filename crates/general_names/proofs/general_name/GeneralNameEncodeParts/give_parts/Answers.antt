use Rattle.general_names.proofs.general_name.GeneralNameEncodeParts.give_parts.Goals as goal

pub returns-in-X400Address : goal.returns-in-X400Address
returns-in-X400Address g c = rw c.in-X400Address.is c.use_alternative-in-X400Address.ensures
