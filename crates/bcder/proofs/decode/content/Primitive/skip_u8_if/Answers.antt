use Rattle.std.proofs.Common.{ℕ, List, subst, inr, rules}
use Rattle.std.specs.Prelude.{pos}
use Rattle.std.specs.Int.{FitsUnsignedBits}
use Rattle.bcder.specs.x690.Number.{IsNoNumber}
use Rattle.bcder.specs.calls.Views.{of_primitive}
use Rattle.bcder.proofs.Reading.{refuses_octets}
use Rattle.bcder.proofs.decode.content.Primitive.skip_u8_if.Goals as goal

pub returns-in-None-clause-read : goal.returns-in-None-clause-read
returns-in-None-clause-read g c =
    let w : List ℕ = (of_primitive g.S.Source.stream c.args.self.now).stream.rest in
    let none : IsNoNumber (FitsUnsignedBits 8) w = subst (IsNoNumber (FitsUnsignedBits 8)) (search rules) c.in-None.ensures.none in
    refuses_octets _ _ _ _ _ (search rules) (inr ((λ x m. none (pos x) m.integer m.fits), search rules)) (search rules) (search rules) (search rules)
    (search rules) (search rules)
