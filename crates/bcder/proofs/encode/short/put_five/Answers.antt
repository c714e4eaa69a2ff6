use Rattle.std.proofs.Common.{◌≡◌, ℕ, ◌+◌, ◌-◌, ◌≤◌, List, ◌∷◌, drop, ap, ◌∙◌, arith}
use Rattle.std.proofs.lemmas.List.{drop-drop}
use Rattle.bcder.proofs.Writing.{same_octets}
use Rattle.bcder.proofs.encode.short.put_five.Goals as goal

-- the last octets of a buffer of 24 are those of its last five
last_octets : (start len : ℕ) (buffer five : List ℕ) → five ≡ drop 19 buffer → len + start ≡ 24 → 19 ≤ start → drop (5 - len) five ≡ drop start buffer
last_octets start len buffer five is sum least =
    let at : 19 + (5 - len) ≡ start = omega (arith, sum, least) in
    ap (drop (5 - len)) is ∙ drop-drop (5 - len) 19 buffer ∙ ap (λ k. drop k buffer) at

pub returns : goal.returns
returns g c =
    let contents = c.args.contents in
    let w = drop contents.start contents.buffer in
    let n = c.len-len.result in
    let same : drop (5 - n) c.last_five.result ≡ w =
    last_octets contents.start n contents.buffer c.last_five.result c.last_five.ensures c.len-len.ensures.limit c.requires in
    same_octets (ap (λ v. c.args.identifier ∷ n ∷ v) same ∙ ap (λ k. c.args.identifier ∷ k ∷ w) c.len-len.ensures.value) c.put_last.ensures
