use Rattle.std.proofs.Common.{inl, inr, ap, refl}
use Rattle.bcder.specs.steps.Peek.{is_constructed, len_of}
use Rattle.bcder.specs.steps.Stacked.{octets, by_failure, too_few}
use Rattle.bcder.proofs.ContentSteps.{stop_reason}
use Rattle.bcder.proofs.decode.content.skip.go_into.Goals as goal

pub returns-in-Ok-clause-gone : goal.returns-in-Ok-clause-gone
returns-in-Ok-clause-gone g c = record {
  goes = octets c.in-Primitive.len (ap is_constructed c.in-Primitive.is)
      (ap len_of c.in-Primitive.is) c.in-Ok.ensures.enough refl c.in-Ok.ensures.rest c.skip_owed.ensures.kept c.in-Ok.ensures.limit;
  no_fault = c.in-Ok.ensures.no_fault;
  stays = tt;
  entries = tt;
  rest = tt;
  limit = tt;
  kept = c.skip_owed.ensures.kept;
  faults = c.skip_owed.ensures.no_fewer;
}

pub returns-in-Err-clause-gone : goal.returns-in-Err-clause-gone
returns-in-Err-clause-gone g c = record {
  goes = tt;
  no_fault = tt;
  stays = elim (stop_reason _ _ c.in-Err.stop c.in-Err.ensures.cause) [
    | inl x ↦ by_failure x.0 x.1
    | inr x ↦ too_few c.in-Primitive.len (ap is_constructed c.in-Primitive.is) (ap len_of c.in-Primitive.is) x.0 x.1
  ];
  entries = refl;
  rest = c.in-Err.ensures.err;
  limit = c.in-Err.ensures.err_limit;
  kept = c.skip_owed.ensures.kept;
  faults = c.skip_owed.ensures.no_fewer;
}
