use Rattle.std.proofs.Common.{◌≡◌, ℕ, List, Bool, false, Some, refl, ap, sym, subst, ◌∙◌, inr}
use Rattle.bcder.specs.x690.Integer.{IsSmallest, Leads}
use Rattle.bcder.specs.x690.Length.{big_endian}
use Rattle.bcder.specs.calls.Views.{of_primitive}
use Rattle.bcder.specs.laws.Integers.{number_positive}
use Rattle.bcder.proofs.Reading.{refuses_octets}
use Rattle.bcder.proofs.decode.content.Primitive.take_unsigned.Goals as goal

pub returns-in-Err-bytes_of_all-clause-read : goal.returns-in-Err-bytes_of_all-clause-read
returns-in-Err-bytes_of_all-clause-read g c =
    let i = of_primitive g.S.Source.stream c.args.self.now in
    let all = c.in-Ok.ensures.found in
    let same = c.all.ensures ∙ c.in-Ok.ensures.rest in
    let y = c.if-not-is_unsigned.ensures.yes refl in
    let s : IsSmallest i.stream.rest = subst IsSmallest same y.0 in
    let l : Leads false i.stream.rest = subst (Leads false) same y.1 in
    refuses_octets _ _ i _ _ (all.owed ∙ ap Some (sym all.count))
    (inr (c.no_memory.ensures, (big_endian i.stream.rest, record { smallest = s; is = number_positive i.stream.rest _ l refl }))) c.in-Ok.ensures.no_fault
    c.in-Ok.ensures.rest c.in-Ok.ensures.owed c.in-Ok.ensures.mode c.in-Ok.ensures.marked
