use Rattle.std.proofs.Common.{◌<◌, ◌∷◌, length, drop, sym, ap, ◌∙◌, arith}
use Rattle.bcder.proofs.Enclosing.{short_definite}
use Rattle.bcder.proofs.Writing.{same_octets}
use Rattle.bcder.proofs.encode.short.put_short.Goals as goal

pub returns : goal.returns
returns g c =
    let w = drop c.args.contents.start c.args.contents.buffer in
    let few : length w < 128 = omega (arith, c.requires, c.len-len.ensures.value, c.len-len.ensures.limit) in
    let len = c.put_before.ensures.octets ∙ ap (λ n. n ∷ w) c.len-len.ensures.value in
    let all = c.as_slice-2.ensures ∙ c.put_before-2.ensures.octets ∙ ap (λ l. c.in-Some.identifier ∷ l) len in
    same_octets (all ∙ sym (short_definite c.args.tag c.in-Some.identifier w c.in-Some.ensures few)) c.put_all.ensures
