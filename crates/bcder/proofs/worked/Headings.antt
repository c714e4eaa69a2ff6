-- The headings of values, each before those inside it.
use Rattle.std.proofs.Common.{◌≡◌, ℕ, Bool, true, false, [], ◌∷◌, refl}
use Rattle.bcder.specs.x690.Identifier.{universal}
use Rattle.bcder.specs.x690.Tree.{no_trees, ◌∷ₜ◌}
use Rattle.bcder.specs.x690.Preorder.{Heading, preorder, preorders}
use Rattle.bcder.proofs.worked.Values.{boolean, integer, octet_string, sequence}

abbrev heading : ℕ → Bool → ℕ → Heading
heading n f d = record { tag = record { class = universal; number = n }; constructed = f; depth = d }

-- of 30 06 02 01 05 01 01 FF
sequence_of_two : preorder (sequence (integer (5 ∷ []) ∷ₜ boolean (0xFF ∷ []) ∷ₜ no_trees)) 0 ≡ heading 16 true 0 ∷ heading 2 false 1 ∷ heading 1 false 1 ∷ []
sequence_of_two = refl

-- of 30 80 30 03 02 01 05 04 00 00 00
sequence_in_a_sequence : preorder (sequence (sequence (integer (5 ∷ []) ∷ₜ no_trees) ∷ₜ octet_string [] ∷ₜ no_trees)) 0
    ≡ heading 16 true 0 ∷ heading 16 true 1 ∷ heading 2 false 2 ∷ heading 4 false 1 ∷ []
sequence_in_a_sequence = refl

-- of 02 01 05 02 01 06
two_values : preorders (integer (5 ∷ []) ∷ₜ integer (6 ∷ []) ∷ₜ no_trees) 0 ≡ heading 2 false 0 ∷ heading 2 false 0 ∷ []
two_values = refl

no_values : preorders no_trees 0 ≡ []
no_values = refl
