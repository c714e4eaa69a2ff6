use Rattle.extensions.proofs.point_name.DistributionPointNameEncodeParts.give_parts.Goals as goal

pub returns-in-FullName : goal.returns-in-FullName
returns-in-FullName g c = rw c.in-FullName.is c.use_alternative.ensures

pub returns-in-NameRelativeToCrlIssuer : goal.returns-in-NameRelativeToCrlIssuer
returns-in-NameRelativeToCrlIssuer g c = rw c.in-NameRelativeToCrlIssuer.is c.use_alternative-in-NameRelativeToCrlIssuer.ensures
