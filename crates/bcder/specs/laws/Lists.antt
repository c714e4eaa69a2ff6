-- Lists of values, one after another.
use Rattle.std.proofs.Common.{◌≡◌, ℕ, List, [], ◌++◌, length, refl, sym, ap, append_assoc, append-nil, arith}
use Rattle.std.proofs.lemmas.List.{length-append}
use Rattle.bcder.specs.declared.mode.Mode.{Mode}
use Rattle.bcder.specs.x690.Tree.{Tree, Trees, no_trees, ◌∷ₜ◌, ◌+++◌}
use Rattle.bcder.specs.x690.Encoding.{IsEncoding, AreEncodings}
use Rattle.bcder.specs.laws.Complete.{two_octets}

pub AreEncodings-join : (mode : Mode) (ts us : Trees) (v w : List ℕ) → AreEncodings mode ts v → AreEncodings mode us w
    → AreEncodings mode (ts +++ us) (v ++ w)
AreEncodings-join mode no_trees us v w h k = rw h k
AreEncodings-join mode (t ∷ₜ ts) us v w h k =
    (h.0, h.1 ++ w, h.2, AreEncodings-join mode ts us h.1 w h.3 k, rw h.4 (append_assoc h.0 h.1 w))

pub AreEncodings-one : (mode : Mode) (t : Tree) (w : List ℕ) → IsEncoding mode t w → AreEncodings mode (t ∷ₜ no_trees) w
AreEncodings-one mode t w h = (w, [], h, refl, sym (append-nil w))

-- octets that are not empty begin with a value
pub record First (mode : Mode) (ts : Trees) (w : List ℕ) : Type 0 where
  pub tree : Tree
  pub trees : Trees
  pub front : List ℕ
  pub others : List ℕ
  pub first : IsEncoding mode tree front
  pub rest : AreEncodings mode trees others
  pub are : ts ≡ tree ∷ₜ trees
  pub is : w ≡ front ++ others

pub empty_list : (mode : Mode) (ts : Trees) → AreEncodings mode ts [] → ts ≡ no_trees
empty_list mode no_trees h = refl
empty_list mode (t ∷ₜ ts) h = absurd (let two = two_octets mode t h.0 h.2 in omega (arith, ap length h.4, length-append h.0 h.1))
