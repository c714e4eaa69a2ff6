use Rattle.std.proofs.Common.{◌≡◌, ◌+◌, length, refl, sym, ◌∙◌, arith, rules, Some, None, ◌∷◌, ◌++◌, []}
use Rattle.bcder.specs.x690.Identifier.{AreOctets}
use Rattle.encodings.specs.Open.{open_values}
use Rattle.encodings.proofs.Walking.{nothing_in_nothing, nothing_without_header, nothing_beyond, length_open, open_pushed, begins_primitive}
use Rattle.encodings.proofs.Walking.{begins_definite, begins_indefinite, begins_too_deep, must_be}
use Rattle.encodings.proofs.walk.begin.Goals as goal

pub returns-then-is_empty-clause-none : goal.returns-then-is_empty-clause-none
returns-then-is_empty-clause-none c = λ _ _. nothing_in_nothing _ _ (search rules)

pub returns-in_default-clause-none : goal.returns-in_default-clause-none
returns-in_default-clause-none c =
    let o : AreOctets c.args.rest.now = λ i. omega (arith, c.type_inv.rest i) in
    λ _ _. nothing_without_header _ _ o c.in_default.ensures.none

pub returns-then-front-len-clause-none : goal.returns-then-front-len-clause-none
returns-then-front-len-clause-none c =
    let o : AreOctets c.args.rest.now = λ i. omega (arith, c.type_inv.rest i) in
    let f = c.in-Some.ensures.found in
    λ _ _. nothing_beyond _ _ _ _ _ f.0 _ _ o f.1 f.2 c.in-Some-len.is (search rules)

pub returns-then-not-front-clause-begins : goal.returns-then-not-front-clause-begins
returns-then-not-front-clause-begins c =
    let o : AreOctets c.args.rest.now = λ i. omega (arith, c.type_inv.rest i) in
    let f = c.in-Some.ensures.found in
    let l : c.len.result ≡ length (open_values c.args.opened.now.items) = sym (length_open c.args.opened.now.items ∙ search rules) in
    begins_primitive _ _ _ _ _ f.0 _ o f.1 f.2 _ _ _ _ _ _ _ c.in-Some-len.is (search rules) (search rules) c.split_at.ensures.back
    c.tally.ensures.at refl c.tally.ensures.values c.tally.ensures.depth (omega arith)

pub returns-else-is_err-clause-begins : goal.returns-else-is_err-clause-begins
returns-else-is_err-clause-begins c =
    let o : AreOctets c.args.rest.now = λ i. omega (arith, c.type_inv.rest i) in
    let f = c.in-Some.ensures.found in
    let p : c.push.new.self.items ≡ c.args.opened.now.items ++ Some c.split_at.result.1 ∷ [] = search rules in
    let k : c.len-in-Some-len.result ≡ c.args.opened.now.len + 1 = search rules in
    let n : length c.args.opened.now.items ≡ c.args.opened.now.len = search rules in
    let l : c.len-in-Some-len.result ≡ length (open_values c.args.opened.now.items) + 1 = omega (arith, k, n, length_open c.args.opened.now.items) in
    begins_definite _ _ _ _ _ f.0 _ o f.1 f.2 _ _ _ _ _ _ _ _ _ c.in-Some-len.is (search rules) (search rules) c.split_at.ensures.front
    c.split_at.ensures.back (open_pushed _ _ _ p)
    c.tally-in-Some-len.ensures.at refl c.tally-in-Some-len.ensures.values c.tally-in-Some-len.ensures.depth l

pub returns-else-is_err-2-clause-begins : goal.returns-else-is_err-2-clause-begins
returns-else-is_err-2-clause-begins c =
    let o : AreOctets c.args.rest.now = λ i. omega (arith, c.type_inv.rest i) in
    let f = c.in-Some.ensures.found in
    let p : c.push-in-None.new.self.items ≡ c.args.opened.now.items ++ None ∷ [] = search rules in
    let k : c.len-in-None.result ≡ c.args.opened.now.len + 1 = search rules in
    let n : length c.args.opened.now.items ≡ c.args.opened.now.len = search rules in
    let l : c.len-in-None.result ≡ length (open_values c.args.opened.now.items) + 1 = omega (arith, k, n, length_open c.args.opened.now.items) in
    begins_indefinite _ _ _ _ _ f.0 _ o f.1 f.2 _ _ _ _ _ _ _ c.in-None.is (must_be _ _ _ _ c.in-None.is f.1) refl (open_pushed _ _ _ p)
    c.tally-in-None.ensures.at refl c.tally-in-None.ensures.values c.tally-in-None.ensures.depth l

pub returns-then-len-levels-clause-deep : goal.returns-then-len-levels-clause-deep
returns-then-len-levels-clause-deep c =
    let f = c.in-Some.ensures.found in
    λ _. begins_too_deep _ _ _ _ _ f.0 _ _ _ _ f.1 f.2 (search rules) c.requires.depth c.requires.at
