use Rattle.std.proofs.lemmas.Result.{on_ok_weaker}
use Rattle.rules.proofs.Telling.{looks_told}
use Rattle.rules.proofs.walk.look.Goals as goal

pub returns-in-Some : goal.returns-in-Some
returns-in-Some c =
    on_ok_weaker c.tell.result (λ e. looks_told _ _ _ _ _ _ _ _ _ c.in-Some.rule c.in-Some.place c.if-not-contents.false c.in-Some.ensures.broken
    c.in-Some.ensures.unmeant e) c.tell.ensures
