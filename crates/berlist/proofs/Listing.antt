-- Lines of lists, and lists read one value after another.
use Rattle.std.proofs.Common.{◌≡◌, ℕ, List, [], ◌∷◌, ◌++◌, refl, sym, ap, ◌∙◌, append_assoc}
use Rattle.bcder.specs.x690.Tree.{Tree, Trees, ◌∷ₜ◌}
use Rattle.bcder.specs.x690.Preorder.{Heading, preorder, preorders}
use Rattle.berlist.specs.Lines.{line, lines}

pub lines-append : (hs gs : List Heading) → lines (hs ++ gs) ≡ lines hs ++ lines gs
lines-append [] gs = refl
lines-append (h ∷ hs) gs = ap (λ l. line h ++ l) (lines-append hs gs) ∙ sym (append_assoc (line h) (lines hs) (lines gs))

pub lines-list : (t : Tree) (ts : Trees) (d : ℕ) → lines (preorders (t ∷ₜ ts) d) ≡ lines (preorder t d) ++ lines (preorders ts d)
lines-list t ts d = lines-append (preorder t d) (preorders ts d)
