use Rattle.encodings.proofs.identifier.append_component.Goals as goal

pub returns-clause-text : goal.returns-clause-text
returns-clause-text c = λ first w a. c.append_decimal.ensures.text first _ (c.append.ensures.stored first w a)
