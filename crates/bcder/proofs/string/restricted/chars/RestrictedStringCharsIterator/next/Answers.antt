use Rattle.std.specs.Str.Iter.{chars_rest}
use Rattle.bcder.proofs.Characters.{accepts_next, yields_next, yields_text, yields_octets, never_refused, goes_on}
use Rattle.bcder.proofs.string.restricted.chars.RestrictedStringCharsIterator.next.Goals as goal
use Rattle.bcder.proofs.string.restricted.chars.RestrictedStringCharsIterator.next.Goals.{in-Ok, in-Err}

pub returns-in-Some-clause-steps : goal.returns-in-Some-clause-steps
returns-in-Some-clause-steps g c =
    yields_text g.L.CharSet.step chars_rest c.chars-chars.result c.next-next.new.self c.self.inside.text c.in-Some.text _ c.self.inside.octets.octets
    c.as_str.result.now c.next-next.result
    c.in-Some.is c.self.invariant.0 c.self.view_is c.chars-chars.ensures.rest c.as_str.ensures c.next-next.ensures.steps.0

pub returns-in-Some-clause-goes : goal.returns-in-Some-clause-goes
returns-in-Some-clause-goes g c = goes_on (λ cs. tt) _ _ _ (returns-in-Some-clause-steps g c)

pub invariant_of-self-in-None : goal.invariant_of-self-in-None
invariant_of-self-in-None g c = (
  c.self.invariant.0,
  accepts_next g.L.CharSet.step g.met.L.CharSet.lawful c.self.inside.octets.octets c.next_char.new.octets.octets c.next_char.result
      c.next_char.ensures c.self.invariant.1,
)

pub returns-after-next_char-clause-steps : goal.returns-after-next_char-clause-steps
returns-after-next_char-clause-steps g c =
    let step = g.L.CharSet.step in
    let lawful = g.met.L.CharSet.lawful in
    let w0 = c.self.inside.octets.octets in
    let w1 = c.next_char.new.octets.octets in
    elim c.match-next_char.branch [
      | in-Ok w ↦ rw (w.result-is) (yields_octets step c.self.inside.text _ w0 w1 w.in-Ok.next c.in-None.is c.self.view_is
          (yields_next step lawful w0 w1 w.in-Ok.next w.in-Ok.ensures c.self.invariant.1))
      | in-Err w ↦ absurd (never_refused step lawful w0 w1 w.in-Err.field-0 w.in-Err.ensures c.self.invariant.1)
    ]

pub returns-after-next_char-clause-goes : goal.returns-after-next_char-clause-goes
returns-after-next_char-clause-goes g c = goes_on (λ cs. tt) _ _ _ (returns-after-next_char-clause-steps g c)
