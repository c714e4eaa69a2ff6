use Rattle.std.proofs.Common.{◌≡◌, ◌++◌, List, ℕ, codes, ap, ◌∙◌, rules}
use Rattle.base64.specs.Engines.{standard}
use Rattle.base64.specs.GeneralPurpose.{encode_of}
use Rattle.cli.specs.Armor.{dashes, lines}
use Rattle.cli.proofs.Lines.{whole}
use Rattle.cli.proofs.armor.append_block.Goals as goal

pub returns : goal.returns
returns c =
    let t = c.args.text.now.items in
    let b : List ℕ = codes "-----BEGIN " ++ (c.args.label.now ++ dashes) in
    let e : List ℕ = codes "-----END " ++ (c.args.label.now ++ dashes) in
    let s = c.as_bytes.result.now in
    let d : s ≡ encode_of standard c.args.octets.now = search rules in
    let f : c.append_boundary.new.text.items ≡ t ++ b = c.in_ok-append_boundary.ensures in
    let g : c.append_lines.new.text.items ≡ c.append_boundary.new.text.items ++ lines s = search rules in
    let h : c.append_boundary-2.new.text.items ≡ c.append_lines.new.text.items ++ e = c.in_ok-append_boundary-2.ensures in
    h ∙ ap (λ z. z ++ e) g ∙ ap (λ z. (z ++ lines s) ++ e) f ∙ whole t b (lines s) e ∙ ap (λ z. t ++ (b ++ (lines z ++ e))) d
