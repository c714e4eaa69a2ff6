use Rattle.std.proofs.Common.{◌≡◌, ◌++◌, ◌<◌, length, take, drop, codes, min, rules, ap, ◌∙◌}
use Rattle.cli.specs.Armor.{lines}
use Rattle.cli.proofs.Lines.{one_line, no_line}
use Rattle.cli.proofs.armor.append_lines.Goals as goal

pub loop-rest-preserved : goal.loop-rest-preserved
loop-rest-preserved c =
    let r = c.loop-rest.rest.now in
    let t = c.loop-rest.text.items in
    let h : 0 < length r = search rules in
    let n : c.min.result ≡ min (length r) 64 = search rules in
    let f : c.split_at.result.0.now ≡ take c.min.result r = search rules in
    let b : c.split_at.result.1.now ≡ drop c.min.result r = search rules in
    let e : c.extend_from_slice-in-loop-rest.new.self.items ≡ (t ++ c.split_at.result.0.now) ++ codes "\n" = search rules in
    ap (λ z. z ++ lines c.split_at.result.1.now) e ∙ ap (λ z. ((t ++ z) ++ codes "\n") ++ lines c.split_at.result.1.now) f
    ∙ ap (λ z. ((t ++ take c.min.result r) ++ codes "\n") ++ lines z) b ∙ one_line t r c.min.result h n ∙ c.loop-rest.invariant

pub returns : goal.returns
returns c =
    let h : length c.loop-rest.rest.now ≡ 0 = search rules in
    no_line c.loop-rest.text.items c.loop-rest.rest.now _ h c.loop-rest.invariant
