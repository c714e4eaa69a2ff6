use Rattle.std.proofs.Common.{◌++◌, refl, arith, rules, inl}
use Rattle.bcder.specs.x690.Identifier.{AreOctets}
use Rattle.bcder.specs.steps.Peek.{header_of, asked}
use Rattle.bcder.specs.laws.Stands.{AreOctets-after}
use Rattle.bcder.proofs.Beginnings.{has_identifier, has_length, has_front, has_end, stays_unread, stays_unended, length_stays}
use Rattle.bcder.proofs.Violations.{form_refused, header_octets, no_end, length_ended, behind_identifier}
use Rattle.bcder.proofs.Headers.{front_of_read, other_of_front}
use Rattle.bcder.proofs.Peeking.{unidentified, unheaded, end_asked, some_followed}
use Rattle.bcder.proofs.decode.header.look.Goals as goal

pub returns-then-not-is_wanted : goal.returns-then-not-is_wanted
returns-then-not-is_wanted c = λ x.
    let o : AreOctets c.args.octets.now = λ i. omega (arith, c.type_inv.octets i) in
    let f = has_front c.args.mode c.args.octets.now (header_of c.in-Some.header) c.in-Some.rest.now o c.in-Some.ensures.read in
    other_of_front c.args.mode (asked c.args.wanted.now) (c.args.octets.now ++ x) (header_of c.in-Some.header) _
    (front_of_read c.args.mode (c.args.octets.now ++ x) (header_of c.in-Some.header) _ (f.read x)) (c.if-not-is_wanted.ensures.no refl)

pub returns-in-Some : goal.returns-in-Some
returns-in-Some c = λ x.
    let o : AreOctets c.args.octets.now = λ i. omega (arith, c.type_inv.octets i) in
    let f = has_front c.args.mode c.args.octets.now (header_of c.in-Some.header) c.in-Some.rest.now o c.in-Some.ensures.read in
    ((omega arith, f.read x), c.if-not-is_wanted.ensures.yes refl)

pub returns-in-Some-identifier_violation : goal.returns-in-Some-identifier_violation
returns-in-Some-identifier_violation c = λ x. let v = c.in-Some-identifier_violation.ensures in
    (some_followed _ x (v.some (search rules)), unidentified _ _ _ (v.refused (search rules) x), v.violates _ x)

pub returns-in-None : goal.returns-in-None
returns-in-None c =
    let l = c.in-None.ensures.short (search rules) in
    (omega arith, unidentified _ _ _ c.in_default-identifier_at.ensures, λ s. inl (c.in-None.ensures.ends (search rules) s))

pub returns-then-not-is_wanted-2 : goal.returns-then-not-is_wanted-2
returns-then-not-is_wanted-2 c = λ x.
    let o : AreOctets c.args.octets.now = λ i. omega (arith, c.type_inv.octets i) in
    let i = has_identifier c.args.octets.now c.in-Some-identifier_at.found.0 c.in-Some-identifier_at.found.1 c.in-Some-identifier_at.found.2.now o
    c.in-Some-identifier_at.ensures in
    (c.in-Some-identifier_at.found.0, c.in-Some-identifier_at.found.1, c.in-Some-identifier_at.found.2.now ++ x, i.read x, c.if-not-is_wanted-2.ensures.no refl)

pub overflow_sub-result-in-Some-after_end : goal.overflow_sub-result-in-Some-after_end
overflow_sub-result-in-Some-after_end c =
    let o : AreOctets c.args.octets.now = λ i. omega (arith, c.type_inv.octets i) in
    (has_end c.args.mode c.args.octets.now c.in-Some-after_end.rest.now o c.in-Some-after_end.ensures).size

pub returns-in-Some-after_end : goal.returns-in-Some-after_end
returns-in-Some-after_end c = λ x.
    let o : AreOctets c.args.octets.now = λ i. omega (arith, c.type_inv.octets i) in
    let f = has_end c.args.mode c.args.octets.now c.in-Some-after_end.rest.now o c.in-Some-after_end.ensures in (
      (omega arith, f.read x),
      end_asked c.args.mode
          (asked c.args.wanted.now) c.args.octets.now _ _ _ _ c.in-Some-after_end.ensures c.in-Some-identifier_at.ensures
          (c.if-not-is_wanted-2.ensures.yes refl),
    )

pub form_violation-violation-requires : goal.form_violation-violation-requires
form_violation-violation-requires c = form_refused _ _ _ _ _ _ c.in-Some-identifier_at.ensures c.in-Some-length_at.ensures c.in_default.ensures.read

pub returns-in-Some-length_at : goal.returns-in-Some-length_at
returns-in-Some-length_at c = λ x.
    let o : AreOctets c.args.octets.now = λ i. omega (arith, c.type_inv.octets i) in
    let i = has_identifier c.args.octets.now c.in-Some-identifier_at.found.0 c.in-Some-identifier_at.found.1 c.in-Some-identifier_at.found.2.now o
    c.in-Some-identifier_at.ensures in
    let l = has_length c.args.mode c.in-Some-identifier_at.found.2.now c.in-Some-length_at.length.0 c.in-Some-length_at.length.1.now
    (AreOctets-after _ _ _ i.is o) c.in-Some-length_at.ensures in
    let s = length_stays c.args.mode c.in-Some-identifier_at.found.2.now x _ c.in-Some-length_at.ensures in
    let n = stays_unended _ _ _ x _ _ o c.in-Some-identifier_at.ensures s c.in_default-after_end.ensures in (
      some_followed _ x i.some,
      unheaded _ _ _ _ _ _ (i.read x) (c.if-not-is_wanted-2.ensures.yes refl)
          (stays_unread _ _ _ x _ _ o c.in-Some-identifier_at.ensures s c.in_default.ensures.read) n,
      c.form_violation-violation.ensures _ (header_octets _ _ _ _ _ _ _ x i l) (no_end _ _ n),
    )

pub returns-in-Some-length_violation : goal.returns-in-Some-length_violation
returns-in-Some-length_violation c = λ x.
    let o : AreOctets c.args.octets.now = λ i. omega (arith, c.type_inv.octets i) in
    let i = has_identifier c.args.octets.now c.in-Some-identifier_at.found.0 c.in-Some-identifier_at.found.1 c.in-Some-identifier_at.found.2.now o
    c.in-Some-identifier_at.ensures in
    let v = c.in-Some-length_violation.ensures in (
      some_followed _ x i.some,
      unheaded _ _ _ _ _ _ (i.read x) (c.if-not-is_wanted-2.ensures.yes refl)
          (stays_unread _ _ _ x _ _ o c.in-Some-identifier_at.ensures (λ _. v.refused (search rules) x) c.in_default.ensures.read)
          (stays_unended _ _ _ x _ _ o c.in-Some-identifier_at.ensures (λ _. v.refused (search rules) x) c.in_default-after_end.ensures),
      v.violates _ _ _ x i.fits (behind_identifier _ _ _ _ x i),
    )

pub returns-in-None-length_violation : goal.returns-in-None-length_violation
returns-in-None-length_violation c =
    let o : AreOctets c.args.octets.now = λ i. omega (arith, c.type_inv.octets i) in
    let i = has_identifier c.args.octets.now c.in-Some-identifier_at.found.0 c.in-Some-identifier_at.found.1 c.in-Some-identifier_at.found.2.now o
    c.in-Some-identifier_at.ensures in
    let l = c.in-None-length_violation.ensures.short (search rules) in (
      omega (arith, i.size),
      unheaded _ _ _ _ _ _ c.in-Some-identifier_at.ensures (c.if-not-is_wanted-2.ensures.yes refl) c.in_default.ensures.read c.in_default-after_end.ensures,
      λ _. length_ended _ _ _ _ i (c.in-None-length_violation.ensures.ends (search rules)),
    )
