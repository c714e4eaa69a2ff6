use Rattle.std.proofs.Common.{◌≡◌, true, false, rules}
use Rattle.std.proofs.lemmas.Iterator.{cases_from_all, YieldsList-from_slice}
use Rattle.hex.specs.Hex.{is_hex_digit}
use Rattle.berlist.proofs.Digits.{spells_octets, is_digit, is_no_digit}
use Rattle.berlist.proofs.request.is_hex.Goals as goal

pub returns-then-text-eq0 : goal.returns-then-text-eq0
returns-then-text-eq0 c = spells_octets _ _ c.if-text-eq0.true (cases_from_all _ _ _ (λ d. is_hex_digit d ≡ true) (λ d. is_hex_digit d ≡ false)
    c.all.ensures.ran (YieldsList-from_slice c.args.text.now cc) (λ x q k. search (rules, is_digit)) (λ x q k. search (rules, is_no_digit)))
