use Rattle.bcder.proofs.Forwarding.{primitive_content, constructed_content}
use Rattle.bcder.proofs.decode.content.Content.skip_bits.Goals as goal

pub returns-in-Primitive-clause-form : goal.returns-in-Primitive-clause-form
returns-in-Primitive-clause-form g c = λ n. absurd (n (primitive_content g.S.Source.stream c.args.self.now _ c.in-Primitive.is))

pub returns-in-Constructed-clause-read : goal.returns-in-Constructed-clause-read
returns-in-Constructed-clause-read g c = λ e. absurd (constructed_content g.S.Source.stream c.args.self.now _ c.in-Constructed.is e)
