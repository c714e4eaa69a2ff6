use Rattle.std.proofs.Common.{rules, string_bytes, ap, sym, ◌∙◌}
use Rattle.berlist.proofs.Gathering.{lists_next, refuses_next}
use Rattle.berlist.proofs.gather.next_lines.Goals as goal

pub returns-clause-listed : goal.returns-clause-listed
returns-clause-listed g c = lists_next _ (λ p. string_bytes p.0.now) (λ p. p.1.now) (λ p. p.0.ghost_name) (λ p. p.1.ghost_name)
    (record {
      adds = λ p q h s. search rules;
      tells = λ p q h x s. search rules;
      same_text = λ p q h r s. search rules;
      same_wants =
          λ p q h r s. search rules;
    }) _ _ _ _ c.skip_opt-passed.result _ (λ e. ap string_bytes (c.text-1.given.1 (sym e))) c.skip_opt-passed.ensures.skipped.value

pub returns-clause-refused : goal.returns-clause-refused
returns-clause-refused g c = refuses_next _ (λ p. string_bytes p.0.now) (λ p. p.1.now) (λ p. p.0.ghost_name) (λ p. p.1.ghost_name) (record {
  adds =
      λ p q h s. search rules;
  tells = λ p q h x s. search rules;
  same_text = λ p q h r s. search rules;
  same_wants = λ p q h r s. search rules;
}) _ _ _ _
    c.skip_opt-passed.result (λ e. sym (c.wants_memory-2-1.given.1 (sym e)) ∙ c.if-wants_memory.false) c.skip_opt-passed.ensures.skipped.refused
