use Rattle.std.proofs.Common.{rules, ◌≡◌, ℕ, ◌≤◌, List, ◌∷◌, length, drop, Option, IfOk, if◌then◌else◌, Bool, true, false, Result, Ok, Err}
use Rattle.std.specs.Bool.{OnTrue}
use Rattle.bcder.specs.calls.Stream.{cut, past}
use Rattle.bcder.specs.laws.Limits.{first_kept, rest_told, rest_told_after}
use Rattle.support.proofs.borrows.pass_two_within.Goals as goal

-- what a call under a limit tells of the wrapped rest
told : {E : Type 0} (r : Result Bool E) (l m : Option ℕ) (xs ys : List ℕ) → past m ys ≡ past l xs
    → IfOk r (λ b. cut m ys ≡ (if b then drop 2 (cut l xs) else cut l xs)) → IfOk r (λ b. OnTrue b (2 ≤ length (cut l xs)))
    → IfOk r (λ b. ys ≡ (if b then drop 2 xs else xs))
told (Ok true) l m xs ys p t e = rest_told_after l m xs ys 2 t e p
told (Ok false) l m xs ys p t e = rest_told l m xs ys t p
told (Err x) l m xs ys p t e = tt

pub returns-clause-two : goal.returns-clause-two
returns-clause-two g c =
    let old = c.limit_further.new.self in let new = c.pass_two.new.source in let stream = g.S.Source.stream in
    let q = told c.pass_two.result old.limit new.limit (stream old.source.now).rest (stream new.source.now).rest
    (first_kept c.pass_two.ensures.kept) c.pass_two.ensures.two c.pass_two.ensures.enough in
    search rules
