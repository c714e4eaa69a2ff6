use Rattle.berconv.proofs.run.converted.Goals as goal

pub returns-in-3-clause-refused : goal.returns-in-3-clause-refused
returns-in-3-clause-refused c = c.refusal_of.ensures c.args.to
