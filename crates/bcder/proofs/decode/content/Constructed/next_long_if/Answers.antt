use Rattle.std.proofs.Common.{inl, inr}
use Rattle.bcder.specs.calls.Views.{of_constructed}
use Rattle.bcder.proofs.Ahead.{constructed_there, primitive_entered}
use Rattle.bcder.proofs.decode.content.Constructed.next_long_if.Goals as goal

pub returns-in-Constructed-clause-entered : goal.returns-in-Constructed-clause-entered
unfolding of_constructed
returns-in-Constructed-clause-entered g c =
    let e = rw c.in-Ok-Some.field-0-is at c.in-Ok-Some.ensures.entered in
    record {
      entered = tt;
      none = tt;
      refused = inr (constructed_there (of_constructed g.S.Source.stream c.args.self.now) _ c.args.tag c.in-Ok-Some.header e.0 e.1 _ c.in-Constructed.is, tt);
      failed = e.1.opened;
      mode = c.next_header.ensures.mode;
      marked = c.next_header.ensures.marked;
    }

pub returns-in-Primitive-clause-entered : goal.returns-in-Primitive-clause-entered
unfolding of_constructed
returns-in-Primitive-clause-entered g c =
    let e = rw c.in-Ok-Some.field-0-is at c.in-Ok-Some.ensures.entered in
    record {
      entered = primitive_entered (of_constructed g.S.Source.stream c.args.self.now) _ c.args.tag c.in-Ok-Some.header e.0 e.1 _ c.in-Primitive.is;
      none = tt;
      refused = tt;
      failed = tt;
      mode = c.next_header.ensures.mode;
      marked = c.next_header.ensures.marked;
    }

pub returns-in-Ok-None-clause-entered : goal.returns-in-Ok-None-clause-entered
unfolding of_constructed
returns-in-Ok-None-clause-entered g c = record {
  entered = tt;
  none = rw c.in-Ok-None.field-0-is at c.in-Ok-None.ensures.none;
  refused = tt;
  failed = tt;
  mode = c.next_header.ensures.mode;
  marked = c.next_header.ensures.marked;
}

pub returns-in-Err-clause-entered : goal.returns-in-Err-clause-entered
unfolding of_constructed
returns-in-Err-clause-entered g c = record {
  entered = tt;
  none = tt;
  refused = inl c.in-Err.ensures.refused;
  failed = c.in-Err.ensures.failed;
  mode = c.next_header.ensures.mode;
  marked = c.next_header.ensures.marked;
}
