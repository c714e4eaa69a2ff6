-- How many values an encoding has.
use Rattle.std.proofs.Common.{ℕ, ◌+◌, ◌*◌, ◌≤◌, List, length, ap, arith}
use Rattle.std.proofs.lemmas.List.{length-append}
use Rattle.bcder.specs.declared.mode.Mode.{Mode}
use Rattle.bcder.specs.x690.Tree.{Tree, primitive, constructed, Trees, no_trees, ◌∷ₜ◌}
use Rattle.bcder.specs.x690.Encoding.{IsEncoding, AreEncodings}
use Rattle.bcder.specs.x690.Preorder.{preorder, preorders}
use Rattle.bcder.specs.laws.Complete.{framed_size, two_octets}

mutual
  -- each value has two octets of its own
  pub values_le : (mode : Mode) (t : Tree) (w : List ℕ) (d : ℕ) → IsEncoding mode t w → 2 * length (preorder t d) ≤ length w
  values_le mode (primitive t contents) w d h = let two = two_octets mode (primitive t contents) w h in omega arith
  values_le mode (constructed t ts) w d h =
      let inner = values_le_each mode ts h.0 (d + 1) h.1 in
      let size = framed_size mode t h.0 w h.2 in
      omega arith

  pub values_le_each : (mode : Mode) (ts : Trees) (w : List ℕ) (d : ℕ) → AreEncodings mode ts w → 2 * length (preorders ts d) ≤ length w
  values_le_each mode no_trees w d h = omega arith
  values_le_each mode (t ∷ₜ ts) w d h =
      let first = values_le mode t h.0 d h.2 in
      let others = values_le_each mode ts h.1 d h.3 in
      omega (arith, length-append (preorder t d) (preorders ts d), length-append h.0 h.1, ap length h.4)
