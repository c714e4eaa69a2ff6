use Rattle.std.proofs.Common.{◌≡◌, ◌∷◌, ◌++◌, [], ap, option_map, arith, rules}
use Rattle.bcder.specs.x690.Identifier.{AreOctets}
use Rattle.encodings.proofs.Passing.{passes_value, passes_beginning, nothing_passed, passes_nothing}
use Rattle.encodings.proofs.Walking.{open_pushed}
use Rattle.encodings.proofs.convert.enter.Goals as goal

pub returns-in_default-clause-none : goal.returns-in_default-clause-none
returns-in_default-clause-none c =
    let o : AreOctets c.args.rest.now = λ i. omega (arith, c.type_inv.rest i) in
    λ _. nothing_passed _ _ _ _ _ o c.requires c.in_default.ensures.none

pub returns-in_default-item_of-clause-none : goal.returns-in_default-item_of-clause-none
returns-in_default-item_of-clause-none c =
    let o : AreOctets c.args.rest.now = λ i. omega (arith, c.type_inv.rest i) in
    λ _. passes_nothing _ _ _ _ _ _ _ _ _ o c.requires c.in-Some.ensures.some c.in_default-item_of.ensures.none

pub returns-then-begun-clause-passed : goal.returns-then-begun-clause-passed
returns-then-begun-clause-passed c =
    let o : AreOctets c.args.rest.now = λ i. omega (arith, c.type_inv.rest i) in
    let p : c.push.new.self.items ≡ c.args.opened.now.items ++ c.in-Some.begun.behind ∷ [] = search rules in
    passes_beginning _ _ _ _ _ _ _ _ _ _ _ _ o c.requires c.in-Some.ensures.some (search rules) (open_pushed _ _ _ p) c.in-Some-item_of.ensures.some

pub returns-in-Some-behind-clause-passed : goal.returns-in-Some-behind-clause-passed
returns-in-Some-behind-clause-passed c =
    let o : AreOctets c.args.rest.now = λ i. omega (arith, c.type_inv.rest i) in
    passes_value _ _ _ _ _ _ _ _ _ _ _ _ o c.requires c.in-Some.ensures.some (search rules) (ap (option_map (λ s. s.now)) c.in-Some-behind.is)
    c.in-Some-item_of.ensures.some
