use Rattle.std.proofs.Common.{◌≡◌, ◌+◌, ◌≤◌, ◌∙◌, length, ap, arith, rules}
use Rattle.bcder.specs.declared.length.Length.TheVariants.{Definite, Indefinite}
use Rattle.bcder.specs.steps.Peek.{is_constructed, len_of}
use Rattle.bcder.specs.x690.Identifier.{AreOctets}
use Rattle.bcder.proofs.Levels.{list_passes, list_fails, behind_shorter, list_ended, opened, ends_one, end_passes, open_passes, open_goes_on, open_fails}
use Rattle.bcder.proofs.PlainReader.{no_header, octets_behind, too_short, primitive_read, definite_read, bad_contents, indefinite_read, whole_read}
use Rattle.bcder.proofs.plain.+plain.Goals as goal

pub front_within-returns-in_default-clause-none : goal.front_within-returns-in_default-clause-none
front_within-returns-in_default-clause-none t c =
    let o : AreOctets c.args.octets.now = λ i. omega (arith, c.type_inv.octets i) in
    λ _. no_header _ _ o c.in_default.ensures.read

pub front_within-returns-then-rest-len-clause-none :
    goal.front_within-returns-then-rest-len-clause-none
front_within-returns-then-rest-len-clause-none t c =
    let o : AreOctets c.args.octets.now = λ i. omega (arith, c.type_inv.octets i) in
    λ _. too_short _ _ _ _ _ _ o c.in-Some.ensures.read _ (ap len_of c.in-Primitive.is) c.if-rest-len.true

pub front_within-returns-else-rest-len-clause-read :
    goal.front_within-returns-else-rest-len-clause-read
front_within-returns-else-rest-len-clause-read t c =
    let o : AreOctets c.args.octets.now = λ i. omega (arith, c.type_inv.octets i) in
    primitive_read _ _ _ _ _ _ o c.in-Some.ensures.read _ _ (ap len_of c.in-Primitive.is) c.if-rest-len.false
    (ap is_constructed c.in-Primitive.is) c.split_at.ensures.back

pub front_within-returns-then-rest-len-2-clause-none :
    goal.front_within-returns-then-rest-len-2-clause-none
front_within-returns-then-rest-len-2-clause-none t c =
    let o : AreOctets c.args.octets.now = λ i. omega (arith, c.type_inv.octets i) in
    let e : c.in-Constructed-Definite.field-0 ≡ Definite c.in-Constructed-Definite.len =
    rw c.in-Constructed-Definite.is at c.in-Constructed-Definite.field-0-is in
    λ _. too_short _ _ _ _ _ _ o c.in-Some.ensures.read _ (ap len_of c.in-Constructed-Definite.is ∙ e) c.if-rest-len-2.true

pub front_within-returns-then-is_list_within-clause-read :
    goal.front_within-returns-then-is_list_within-clause-read
front_within-returns-then-is_list_within-clause-read t c =
    let o : AreOctets c.args.octets.now = λ i. omega (arith, c.type_inv.octets i) in
    let e : c.in-Constructed-Definite.field-0 ≡ Definite c.in-Constructed-Definite.len =
    rw c.in-Constructed-Definite.is at c.in-Constructed-Definite.field-0-is in
    definite_read _ _ _ _ _ _ o c.in-Some.ensures.read _ _ _ (ap len_of c.in-Constructed-Definite.is ∙ e) c.if-rest-len-2.false
    (ap is_constructed c.in-Constructed-Definite.is) c.split_at-in-Constructed-Definite.ensures.front c.split_at-in-Constructed-Definite.ensures.back
    (c.is_list_within.ensures.list c.if-is_list_within.true)

pub front_within-returns-else-is_list_within-clause-none :
    goal.front_within-returns-else-is_list_within-clause-none
front_within-returns-else-is_list_within-clause-none t c =
    let o : AreOctets c.args.octets.now = λ i. omega (arith, c.type_inv.octets i) in
    let e : c.in-Constructed-Definite.field-0 ≡ Definite c.in-Constructed-Definite.len =
    rw c.in-Constructed-Definite.is at c.in-Constructed-Definite.field-0-is in
    let less : length c.split_at-in-Constructed-Definite.result.0.now + 2 ≤ length c.args.octets.now = search rules in
    λ l. bad_contents _ _ _ _ _ _ o c.in-Some.ensures.read _ _ (ap len_of c.in-Constructed-Definite.is ∙ e) c.if-rest-len-2.false
    (ap is_constructed c.in-Constructed-Definite.is) c.split_at-in-Constructed-Definite.ensures.front
    (c.is_list_within.ensures.none c.if-is_list_within.false (omega (arith, l, less, c.if-levels-eq0.false)))

pub front_within-returns-in-Constructed-Indefinite-clause-read :
    goal.front_within-returns-in-Constructed-Indefinite-clause-read
front_within-returns-in-Constructed-Indefinite-clause-read t c =
    let o : AreOctets c.args.octets.now = λ i. omega (arith, c.type_inv.octets i) in
    let e : c.in-Constructed-Indefinite.field-0 ≡ Indefinite = rw c.in-Constructed-Indefinite.is at c.in-Constructed-Indefinite.field-0-is in
    let h = c.in-Some.ensures.read in
    (octets_behind _ _ _ _ _ _ o h, indefinite_read _ _ _ _ _ _ o h (ap len_of c.in-Constructed-Indefinite.is ∙ e))

pub is_list_within-loop-rest-preserved-in-Some : goal.is_list_within-loop-rest-preserved-in-Some
is_list_within-loop-rest-preserved-in-Some t c =
    list_passes _ _ _ c.loop-rest.invariant _ (search rules) (whole_read _ _ _ _ (c.in-Some.ensures.begins c.args.mode) c.split_at.ensures.back)

pub is_list_within-loop-rest-smaller : goal.is_list_within-loop-rest-smaller
is_list_within-loop-rest-smaller t c = behind_shorter _ _ _ c.loop-rest.invariant _ c.in-Some-value_within.ensures.read

pub is_list_within-loop-rest-preserved : goal.is_list_within-loop-rest-preserved
is_list_within-loop-rest-preserved t c = list_passes _ _ _ c.loop-rest.invariant _ (search rules) c.in-Some-value_within.ensures.read

pub is_list_within-returns-in-None-value_within-clause-none :
    goal.is_list_within-returns-in-None-value_within-clause-none
is_list_within-returns-in-None-value_within-clause-none t c =
    λ _ l. list_fails _ _ _ c.loop-rest.invariant (search rules)
    (c.in-None-value_within.ensures.none (let s = c.loop-rest.invariant.shorter in omega (arith, l)))

pub is_list_within-returns-clause-list : goal.is_list_within-returns-clause-list
is_list_within-returns-clause-list t c = λ _. list_ended _ _ _ c.loop-rest.invariant (search rules)

pub value_within-returns-in-Some-clause-read : goal.value_within-returns-in-Some-clause-read
value_within-returns-in-Some-clause-read t c = whole_read _ _ _ _ (c.in-Some.ensures.begins c.args.mode) c.split_at.ensures.back

pub value_within-loop-depth-init : goal.value_within-loop-depth-init
value_within-loop-depth-init t c =
    let o : AreOctets c.args.octets.now = λ i. omega (arith, c.type_inv.octets i) in
    let e = c.in-Some-front_within.ensures in
    opened _ _ _ _ _ o e.read e.less c.from-depth.ensures

pub value_within-loop-depth-smaller-in-Some-after_end :
    goal.value_within-loop-depth-smaller-in-Some-after_end
value_within-loop-depth-smaller-in-Some-after_end t c = end_passes _ _ _ _ c.loop-depth.invariant _ c.in-Some-after_end.ensures

pub value_within-loop-depth-preserved-in-Some-after_end :
    goal.value_within-loop-depth-preserved-in-Some-after_end
value_within-loop-depth-preserved-in-Some-after_end t c = ends_one _ _ _ _ c.loop-depth.invariant c.loop-depth-test.true _ c.in-Some-after_end.ensures

pub value_within-loop-depth-preserved-in-Some-short_size :
    goal.value_within-loop-depth-preserved-in-Some-short_size
value_within-loop-depth-preserved-in-Some-short_size t c =
    open_passes _ _ _ _ c.loop-depth.invariant c.loop-depth-test.true _ c.in-None.ensures
    (whole_read _ _ _ _ (c.in-Some-short_size.ensures.begins c.args.mode) c.split_at-in-Some-short_size.ensures.back)

pub value_within-loop-depth-preserved : goal.value_within-loop-depth-preserved
value_within-loop-depth-preserved t c =
    let e = c.in-Some-front_within-2.ensures in
    open_goes_on _ _ _ _ c.loop-depth.invariant c.loop-depth-test.true _ _ _ c.in-None.ensures e.read e.less c.from-depth-in-Some-front_within-2.ensures

pub value_within-returns-in-None-front_within-clause-none :
    goal.value_within-returns-in-None-front_within-clause-none
value_within-returns-in-None-front_within-clause-none t c =
    λ l. open_fails _ _ _ _ c.loop-depth.invariant c.loop-depth-test.true c.in-None.ensures
    (c.in-None-front_within.ensures.none (let s = c.loop-depth.invariant.shorter in omega (arith, l)))
