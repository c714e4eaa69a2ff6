-- The steps of these sets are steps: a character takes at least one octet, and is one of Unicode's.
use Rattle.std.proofs.Common.{ap, arith, lit<, sym, subst, ◌∙◌}
use Rattle.std.proofs.lemmas.Bool.Decides.{nat_tests}
use Rattle.std.specs.Prelude.{◌≡◌, ℕ, ◌*◌, ◌+◌, ◌<◌, List, [], ◌∷◌, ◌++◌, Bool, true, false, Option, Some, None, refl}
use Rattle.std.specs.Char.{IsScalar}
use Rattle.bcder.specs.x690.CharSet.{Front, IsStep}
use Rattle.bcder.specs.x690.Identifier.{Tag, IsValueTag}
use Rattle.asn1.specs.CharacterSets.{is_visible, is_cell, cell_step, is_code_point, number_of_four, code_point_step}
use Rattle.asn1.specs.CharacterSets.{visible_string_tag, bmp_string_tag, universal_string_tag, teletex_string_tag, general_string_tag}

pub visible_string_tagged : IsValueTag visible_string_tag
visible_string_tagged = record { fits = lit< tt; no_end = λ e. (let n = ap (λ (t : Tag). t.number) e in omega arith) }

pub bmp_string_tagged : IsValueTag bmp_string_tag
bmp_string_tagged = record { fits = lit< tt; no_end = λ e. (let n = ap (λ (t : Tag). t.number) e in omega arith) }

pub universal_string_tagged : IsValueTag universal_string_tag
universal_string_tagged = record { fits = lit< tt; no_end = λ e. (let n = ap (λ (t : Tag). t.number) e in omega arith) }

pub teletex_string_tagged : IsValueTag teletex_string_tag
teletex_string_tagged = record { fits = lit< tt; no_end = λ e. (let n = ap (λ (t : Tag). t.number) e in omega arith) }

pub general_string_tagged : IsValueTag general_string_tag
general_string_tagged = record { fits = lit< tt; no_end = λ e. (let n = ap (λ (t : Tag). t.number) e in omega arith) }

pub visible_ascii : (b : ℕ) → is_visible b ≡ true → b < 128
visible_ascii b h = grind (arith, nat_tests)

cell_scalar : (n : ℕ) → is_cell n ≡ true → IsScalar n
cell_scalar n h = grind (arith, nat_tests)

code_point_scalar : (n : ℕ) → is_code_point n ≡ true → IsScalar n
code_point_scalar n h = grind (arith, nat_tests)

same_front : (x y : Front) → ◌≡◌ {A = Option Front} (Some x) (Some y) → x ≡ y
same_front x y e = cc

-- ---- two octets

cell_taken : (a b : ℕ) (w : List ℕ) (t : Bool) (x : Front) → is_cell (a * 0x100 + b) ≡ t → cell_step (a ∷ b ∷ w) ≡ Some x
    → (is_cell (a * 0x100 + b) ≡ true) × (record { char = a * 0x100 + b; rest = w } ≡ x)
cell_taken a b w true x is e = (is, same_front _ _ (sym (rw is) ∙ e))
cell_taken a b w false x is e = let none : None ≡ Some x = sym (rw is) ∙ e in absurd cc

-- the first two octets are the number of a character, which is taken
pub cell_read : (a b : ℕ) (w : List ℕ) (x : Front) → cell_step (a ∷ b ∷ w) ≡ Some x
    → (is_cell (a * 0x100 + b) ≡ true) × (record { char = a * 0x100 + b; rest = w } ≡ x)
cell_read a b w x e = cell_taken a b w (is_cell (a * 0x100 + b)) x refl e

pub cells_lawful : IsStep cell_step
cells_lawful = record { takes = λ w x e. takes w x e; scalar = λ w x e. scalar w x e }
  where
    takes : (w : List ℕ) (x : Front) → cell_step w ≡ Some x → (b : ℕ) × (bs : List ℕ) × (w ≡ (b ∷ bs) ++ x.rest)
    takes [] x e = let none : None ≡ Some x = e in absurd cc
    takes (a ∷ []) x e = let none : None ≡ Some x = e in absurd cc
    takes (a ∷ b ∷ w) x e = (a, b ∷ [], ap (λ (y : Front). a ∷ b ∷ y.rest) (cell_read a b w x e).1)

    scalar : (w : List ℕ) (x : Front) → cell_step w ≡ Some x → IsScalar x.char
    scalar [] x e = let none : None ≡ Some x = e in absurd cc
    scalar (a ∷ []) x e = let none : None ≡ Some x = e in absurd cc
    scalar (a ∷ b ∷ w) x e = (let t = cell_read a b w x e in subst (λ (y : Front). IsScalar y.char) t.1 (cell_scalar (a * 0x100 + b) t.0))

-- ---- four octets

code_point_taken : (a b c d : ℕ) (w : List ℕ) (t : Bool) (x : Front) → is_code_point (number_of_four a b c d) ≡ t
    → code_point_step (a ∷ b ∷ c ∷ d ∷ w) ≡ Some x
    → (is_code_point (number_of_four a b c d) ≡ true) × (record { char = number_of_four a b c d; rest = w } ≡ x)
code_point_taken a b c d w true x is e = (is, same_front _ _ (sym (rw is) ∙ e))
code_point_taken a b c d w false x is e = let none : None ≡ Some x = sym (rw is) ∙ e in absurd cc

-- the first four octets are the number of a character, which is taken
pub code_point_read : (a b c d : ℕ) (w : List ℕ) (x : Front) → code_point_step (a ∷ b ∷ c ∷ d ∷ w) ≡ Some x
    → (is_code_point (number_of_four a b c d) ≡ true) × (record { char = number_of_four a b c d; rest = w } ≡ x)
code_point_read a b c d w x e = code_point_taken a b c d w (is_code_point (number_of_four a b c d)) x refl e

pub code_points_lawful : IsStep code_point_step
code_points_lawful = record { takes = λ w x e. takes w x e; scalar = λ w x e. scalar w x e }
  where
    takes : (w : List ℕ) (x : Front) → code_point_step w ≡ Some x → (b : ℕ) × (bs : List ℕ) × (w ≡ (b ∷ bs) ++ x.rest)
    takes [] x e = let none : None ≡ Some x = e in absurd cc
    takes (a ∷ []) x e = let none : None ≡ Some x = e in absurd cc
    takes (a ∷ b ∷ []) x e = let none : None ≡ Some x = e in absurd cc
    takes (a ∷ b ∷ c ∷ []) x e = let none : None ≡ Some x = e in absurd cc
    takes (a ∷ b ∷ c ∷ d ∷ w) x e = (a, b ∷ c ∷ d ∷ [], ap (λ (y : Front). a ∷ b ∷ c ∷ d ∷ y.rest) (code_point_read a b c d w x e).1)

    scalar : (w : List ℕ) (x : Front) → code_point_step w ≡ Some x → IsScalar x.char
    scalar [] x e = let none : None ≡ Some x = e in absurd cc
    scalar (a ∷ []) x e = let none : None ≡ Some x = e in absurd cc
    scalar (a ∷ b ∷ []) x e = let none : None ≡ Some x = e in absurd cc
    scalar (a ∷ b ∷ c ∷ []) x e = let none : None ≡ Some x = e in absurd cc
    scalar (a ∷ b ∷ c ∷ d ∷ w) x e =
        let t = code_point_read a b c d w x e in subst (λ (y : Front). IsScalar y.char) t.1 (code_point_scalar (number_of_four a b c d) t.0)
