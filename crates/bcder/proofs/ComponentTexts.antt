-- The text of components as they stand in octets.
use Rattle.std.proofs.Common.{◌≡◌, ℕ, ◌-◌, List, [], ◌∷◌, ◌++◌, map, refl, ap, ◌∙◌, append_assoc, append-nil, nat_lt, true, false, Bool}
use Rattle.std.specs.Prelude.{if◌then◌else◌}
use Rattle.bcder.specs.calls.Identifiers.{Part, part_value, parts_from, component_parts, other}
use Rattle.bcder.specs.x690.ObjectIdentifier.{subidentifier_number, components_of, subidentifiers}
use Rattle.bcder.specs.declared.oid.components.Position.TheVariants.{First}
use Rattle.bcder.specs.calls.Identifiers.{shown, dots_before, dotted, text_of}

abbrev pub shown_part : Part → List ℕ
shown_part p = shown (part_value p)

-- the first two components are held by the first subidentifier
first_two : (b c : Bool) (s : ℕ) (ss : List ℕ) → (if b then 0 else if c then 1 else 2) ∷ (if b then s else if c then s - 40 else s - 80) ∷ ss
    ≡ (if b then 0 ∷ s ∷ ss else if c then 1 ∷ (s - 40) ∷ ss else 2 ∷ (s - 80) ∷ ss)
first_two true c s ss = refl
first_two false true s ss = refl
first_two false false s ss = refl

others : (ws : List (List ℕ)) → map part_value (map other ws) ≡ map subidentifier_number ws
others [] = refl
others (w ∷ ws) = ap (λ l. subidentifier_number w ∷ l) (others ws)

-- the parts have the values that the components are
pub values_of_parts : (ws : List (List ℕ)) → map part_value (parts_from First ws) ≡ components_of (map subidentifier_number ws)
values_of_parts [] = refl
values_of_parts (w ∷ ws) =
    rw (others ws) (first_two (nat_lt (subidentifier_number w) 40) (nat_lt (subidentifier_number w) 80) (subidentifier_number w) (map subidentifier_number ws))

shown_values : (ps : List Part) → map shown_part ps ≡ map shown (map part_value ps)
shown_values [] = refl
shown_values (p ∷ ps) = ap (λ l. shown_part p ∷ l) (shown_values ps)

pub text_of_parts : (w : List ℕ) → dotted (map shown_part (component_parts w)) ≡ text_of w
text_of_parts w = ap dotted (shown_values (component_parts w) ∙ ap (map shown) (values_of_parts (subidentifiers w)))

-- one component more was written
pub shown_more : (w dot t r all : List ℕ) → w ++ (dot ++ (t ++ r)) ≡ all → (w ++ (dot ++ t)) ++ r ≡ all
shown_more w dot t r all e = simp append_assoc e

-- all were written
pub shown_all : (items : List ℕ) (p : Part) (ps qs : List Part) (w : List ℕ) → component_parts items ≡ p ∷ ps → qs ≡ []
    → w ++ dots_before (map shown_part qs) ≡ dots_before (map shown_part ps) → shown_part p ++ w ≡ text_of items
shown_all items p ps qs w e none d =
    let h : w ++ [] ≡ dots_before (map shown_part ps) = rw none at d in
    let k : shown_part p ++ dots_before (map shown_part ps) ≡ text_of items = rw e at (text_of_parts items) in
    let n : w ++ [] ≡ w = append-nil w in
    cc
