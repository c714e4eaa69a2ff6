use Rattle.std.proofs.Common.{◌≡◌, ◌++◌, ◌<◌, ◌-◌, true, false, length, take, drop, ap, ◌∙◌, sym, subst, rules}
use Rattle.encodings.specs.Sorting.{AreMarks, Arranged}
use Rattle.encodings.proofs.Arranging.{whole_rest, stay, short_stay, put_back}
use Rattle.encodings.proofs.sets.arrange.Goals as goal

pub returns-then-not-value : goal.returns-then-not-value
returns-then-not-value c =
    let s : c.args.value.sorts ≡ false = search rules in
    λ ps m e. subst (λ b. Arranged b ps (take c.args.value.inner c.args.out.now.items) c.args.out.now.items) (sym s)
    (stay c.args.value.inner c.args.out.now.items ps e)

pub returns-then-copied-value-lt2 : goal.returns-then-copied-value-lt2
returns-then-copied-value-lt2 c =
    let s : c.args.value.sorts ≡ true = search rules in
    let l : length c.args.copied.now - c.args.value.first < 2 = search rules in
    λ ps m e. subst (λ b. Arranged b ps (take c.args.value.inner c.args.out.now.items) c.args.out.now.items) (sym s)
    (short_stay c.args.value.inner c.args.value.first c.args.copied.now c.args.out.now.items ps m l e)

pub returns : goal.returns
returns c =
    let s : c.args.value.sorts ≡ true = search rules in
    let v = take c.args.value.inner c.args.out.now.items in
    let u : c.extend_from_slice.new.self.items ≡ v ++ c.in_ok-sorted.sorted.items = search rules in
    λ ps m e. subst (λ b. Arranged b ps v c.extend_from_slice.new.self.items) (sym s)
    (put_back v c.in_ok-sorted.sorted.items c.extend_from_slice.new.self.items ps
    (c.in_ok-sorted.ensures ps (subst (λ z. AreMarks z ps) (sym (whole_rest c.args.value.first c.args.copied.now)) m)
    (whole_rest c.args.value.inner c.deref.result.now ∙ ap (λ z. drop c.args.value.inner z) c.deref.ensures.value ∙ e)) u)
