use Rattle.std.proofs.Common.{refl, rules}
use Rattle.bcder.specs.laws.Utf8.{utf8_accepts}
use Rattle.encodings.proofs.text.is_utf8_string.Goals as goal

pub returns-in-Ok : goal.returns-in-Ok
returns-in-Ok c = (λ _. (utf8_accepts c.args.octets.now).1 (search rules), λ _. refl)

pub returns-in-Err : goal.returns-in-Err
returns-in-Err c =
    let none = (utf8_accepts c.args.octets.now).0 in
    (λ e. absurd cc, λ s. (let u = none s in search rules))
