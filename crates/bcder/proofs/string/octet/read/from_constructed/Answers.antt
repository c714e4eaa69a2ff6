use Rattle.std.proofs.Common.{◌≡◌, true, false, rules, sym, subst, ◌∙◌}
use Rattle.bcder.specs.x690.OctetString.{AreCut}
use Rattle.bcder.specs.steps.SegmentTable.{IsTable}
use Rattle.bcder.specs.calls.Views.{of_constructed}
use Rattle.bcder.proofs.SameBorrow.{constructed_form}
use Rattle.bcder.proofs.Strings.{read_segments, refuse_segments, refuse_values, refuse_table, refuse_constructed}
use Rattle.bcder.proofs.string.octet.read.from_constructed.Goals as goal

pub returns-then-eq-clause-read : goal.returns-then-eq-clause-read
returns-then-eq-clause-read g c = record {
  at_tag = λ tag.
      let i = of_constructed g.S.Source.stream c.args.values.now in
      refuse_constructed tag i c.refusal.result (sym c.mode-mode.ensures ∙ (search rules))
      (constructed_form g.S.Source.stream c.args.values.now) c.refusal.ensures;
}

pub returns-in-Err-clause-read : goal.returns-in-Err-clause-read
returns-in-Err-clause-read g c = record {
  at_tag = λ tag.
      let i = of_constructed g.S.Source.stream c.args.values.now in
      let j = of_constructed g.S.Source.stream c.capture_all.new.self in
      refuse_values tag i j c.in-Err.error c.in-Err.ensures.captured (constructed_form g.S.Source.stream c.args.values.now)
      (λ m. (let x : false ≡ true = rw (c.mode-mode.ensures ∙ m) at c.if-eq.ensures in cc));
}

pub returns-in-Ok-Some-clause-read : goal.returns-in-Ok-Some-clause-read
returns-in-Ok-Some-clause-read g c = record {
  at_tag = λ tag.
      let i = of_constructed g.S.Source.stream c.args.values.now in
      let j = of_constructed g.S.Source.stream c.capture_all.new.self in
      let t : IsTable i.mode c.in-Ok.captured.octets c.in-Ok-Some.table.items =
      subst (λ w. IsTable i.mode w c.in-Ok-Some.table.items) c.as_slice.ensures.value
      (subst (λ m. IsTable m c.as_slice.result.now c.in-Ok-Some.table.items) c.mode-mode.ensures (rw c.in-Ok-Some.field-0-is at c.in-Ok-Some.ensures.found)) in
      read_segments tag i j c.in-Ok.captured c.in-Ok-Some.table.items c.of_segments.result c.in-Ok.ensures.captured t c.of_segments.ensures;
}

pub returns-in-Ok-None-clause-read : goal.returns-in-Ok-None-clause-read
returns-in-Ok-None-clause-read g c = record {
  at_tag = λ tag.
      let i = of_constructed g.S.Source.stream c.args.values.now in
      let j = of_constructed g.S.Source.stream c.capture_all.new.self in
      let n : AreCut i.mode c.in-Ok.captured.octets → ⊥ =
      subst (λ w. AreCut i.mode w → ⊥) c.as_slice.ensures.value
      (subst (λ m. AreCut m c.as_slice.result.now → ⊥) c.mode-mode.ensures (rw c.in-Ok-None.field-0-is at c.in-Ok-None.ensures.found)) in
      refuse_segments tag i j c.in-Ok.captured c.refusal-in-Ok-None.result c.in-Ok.ensures.captured
      (constructed_form g.S.Source.stream c.args.values.now) n c.refusal-in-Ok-None.ensures;
}

pub returns-in-Err-table_of-clause-read : goal.returns-in-Err-table_of-clause-read
returns-in-Err-table_of-clause-read g c = record {
  at_tag = λ tag.
      let i = of_constructed g.S.Source.stream c.args.values.now in
      let j = of_constructed g.S.Source.stream c.capture_all.new.self in
      let n : AreCut i.mode c.in-Ok.captured.octets =
      subst (λ w. AreCut i.mode w) c.as_slice.ensures.value
      (subst (λ m. AreCut m c.as_slice.result.now) c.mode-mode.ensures c.in-Err-table_of.ensures.memory) in
      refuse_table tag i j c.in-Ok.captured c.no_memory.result c.in-Ok.ensures.captured n c.no_memory.ensures;
}
