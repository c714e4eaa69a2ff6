use Rattle.std.proofs.Common.{◌≤◌, IsTrue, false, refl, subst, sym, ◌∙◌}
use Rattle.bcder.specs.calls.Views.{of_primitive}
use Rattle.bcder.proofs.Typed.{octets_form}
use Rattle.bcder.proofs.Strings.{read_piece, refuse_long}
use Rattle.bcder.proofs.string.octet.read.take_piece.Goals as goal

pub returns-then-not-may_be_whole-clause-read : goal.returns-then-not-may_be_whole-clause-read
returns-then-not-may_be_whole-clause-read g c = record {
  at_tag = λ tag.
      let i = of_primitive g.S.Source.stream c.args.octets.now in
      refuse_long tag i c.refusal.result c.refusal.ensures (octets_form g.S.Source.stream c.args.octets.now) (λ h.
      (let f : IsTrue false = c.if-not-may_be_whole.ensures.1 (λ m. subst (λ z. z ≤ 1000) (sym c.remaining.ensures) (h (sym c.mode.ensures ∙ m))) in cc));
}

pub returns-clause-read : goal.returns-clause-read
returns-clause-read g c = record {
  at_tag = λ tag.
      let i = of_primitive g.S.Source.stream c.args.octets.now in
      let j = of_primitive g.S.Source.stream c.take_all.new.self in
      read_piece tag i j c.take_all.result c.take_all.ensures.read (octets_form g.S.Source.stream c.args.octets.now) (octets_form g.S.Source.stream
      c.take_all.new.self) (λ m. subst (λ z. z ≤ 1000) c.remaining.ensures (c.if-not-may_be_whole.ensures.0 refl (c.mode.ensures ∙ m)));
}
