use Rattle.std.proofs.Common.{◌≡◌, ◌++◌, ◌∷◌, [], ◌+◌, take, take-suc, add-one, take_all, ap, ◌∙◌, subst, sym, rules}
use Rattle.std.proofs.lemmas.List.Sorted.{answers_always}
use Rattle.asn1.proofs.SetsSorted.{KeptSoFar, none_kept_yet, one_kept, kept_sorted, less, less_is_order}
use Rattle.asn1.proofs.written.sets.in_order.Goals as goal

pub loop-item-init : goal.loop-item-init
loop-item-init g c =
    let mode = c.args.mode in
    let W = (λ (v : g.row.T.Denot). g.T.Encode.writes g.T.Type.TAG v mode) in
    subst (λ z. KeptSoFar mode W [] z) (sym c.new-pieces.ensures.items) (none_kept_yet mode W)

pub loop-item-preserved : goal.loop-item-preserved
loop-item-preserved g c =
    let mode = c.args.mode in
    let W = (λ (v : g.row.T.Denot). g.T.Encode.writes g.T.Type.TAG v mode) in
    let xs = c.args.items.now in
    let i = c.loop-item.item-index in
    let x = c.item-item.result in
    let cs = c.loop-item.pieces.items in
    let t : take (i + 1) xs ≡ take i xs ++ (x ∷ []) =
    ap (λ n. take n xs) (add-one i) ∙ take-suc xs i x c.loop-item-test.true ∙ ap (λ z. take i xs ++ (z ∷ [])) (sym c.item-item.is) in
    let q : c.push.new.self.items ≡ cs ++ (c.in-Ok.piece ∷ []) = search rules in
    subst (λ z. KeptSoFar mode W z c.push.new.self.items) (sym t)
    (subst (KeptSoFar mode W (take i xs ++ (x ∷ []))) (sym q) (one_kept mode W (take i xs) cs x c.in-Ok.piece c.loop-item.invariant c.in-Ok.ensures))

pub returns : goal.returns
returns g c =
    let mode = c.args.mode in
    let W = (λ (v : g.row.T.Denot). g.T.Encode.writes g.T.Type.TAG v mode) in
    let xs = c.args.items.now in
    let cs = c.loop-item.pieces.items in
    let s = c.sort_unstable_by.ensures.sorted less less_is_order (answers_always _ _ _ (λ f a r h k. search rules)) in
    kept_sorted mode W xs cs c.sort_unstable_by.new.self.items
    (subst (λ z. KeptSoFar mode W z cs) (take_all c.loop-item.item-index xs c.loop-item-test.false) c.loop-item.invariant)
    c.sort_unstable_by.ensures.permutation s
