use Rattle.std.proofs.Common.{refl}
use Rattle.bcder.specs.calls.Calls.{by_closure, unfinished}
use Rattle.bcder.specs.laws.Moved.{moved_twice_is_moved}
use Rattle.bcder.proofs.SameBorrow.{moves_name}
use Rattle.bcder.proofs.decode.content.inside.run.Goals as goal

pub returns-in-Err-clause-name : goal.returns-in-Err-clause-name
returns-in-Err-clause-name g c = moves_name _ _ (c.requires.lawful _ _ _ refl c.op.ensures)

pub returns-in-Ok-finish-clause-name : goal.returns-in-Ok-finish-clause-name
returns-in-Ok-finish-clause-name g c = moves_name _ _ (moved_twice_is_moved _ _ _ (c.requires.lawful _ _ _ refl c.op.ensures) c.finish.ensures.moves)

pub returns-in-Err-finish-clause-name : goal.returns-in-Err-finish-clause-name
returns-in-Err-finish-clause-name g c = moves_name _ _ (moved_twice_is_moved _ _ _ (c.requires.lawful _ _ _ refl c.op.ensures) c.finish.ensures.moves)

pub returns-in-Err-clause-refused : goal.returns-in-Err-clause-refused
returns-in-Err-clause-refused g c = λ t. by_closure (record { handed = _; left = _; handed_is = refl; left_is = refl; called = c.in-Err.ensures })

pub returns-in-Err-finish-clause-refused : goal.returns-in-Err-finish-clause-refused
returns-in-Err-finish-clause-refused g c = λ t.
    unfinished c.in-Ok.value (g.C.Inside.view c.op.new.arg2)
    (record { handed = _; left = _; handed_is = refl; left_is = refl; called = c.in-Ok.ensures })
    c.finish.ensures.moves c.finish.ensures.marked c.in-Err-finish.ensures.refused

pub returns-in-Ok-finish-clause-ok : goal.returns-in-Ok-finish-clause-ok
returns-in-Ok-finish-clause-ok g c = λ t. record {
  left = g.C.Inside.view c.op.new.arg2;
  answered = record { handed = _; left = _; handed_is = refl; left_is = refl; called = c.in-Ok.ensures };
  finishes = c.finish.ensures.moves;
  marked = c.finish.ensures.marked;
  no_fault = c.in-Ok-finish.ensures.no_fault;
  ends = c.in-Ok-finish.ensures.end;
  done = c.in-Ok-finish.ensures.done;
}
