use Rattle.std.proofs.Common.{◌≡◌, ◌++◌, string_bytes, codes, rules, sym, subst}
use Rattle.berdump.specs.Runs.{IsTitle}
use Rattle.berdump.proofs.Running.{title_later}
use Rattle.berdump.proofs.title.title_of.Goals as goal

pub returns : goal.returns
returns c =
    let e : string_bytes c.write.new.self ≡ string_bytes c.new-title.result ++ (codes "\n" ++ string_bytes c.in_ok-line.line) = search rules in
    subst (λ b. IsTitle b (string_bytes c.write.new.self)) (sym c.if-is_first.false)
    (title_later (string_bytes c.in_ok-line.line) (string_bytes c.new-title.result) (string_bytes c.write.new.self)
    c.in_ok-line.ensures c.new-title.ensures.bytes e)
