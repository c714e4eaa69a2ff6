-- What arguments ask for.
use Rattle.std.proofs.Common.{◌≡◌, ℕ, ◌<◌, ◌≤◌, length, map, slice_index_or, arith, List, [], ◌∷◌, Ok, ◌==◌, if◌then◌else◌, refl, sym, ap, subst, ◌∙◌}
use Rattle.bcder.specs.declared.mode.Mode.{Mode}
use Rattle.bcder.specs.declared.mode.Mode.TheVariants.{Ber, Cer, Der}
use Rattle.hex.specs.Hex.{decode_of}
use Rattle.berlist.specs.Requests.{mode_word, Asks, AsksNothing}

-- the words, read back
abbrev mode_of : List ℕ → Mode
mode_of [] = Der
mode_of (c ∷ w) = if c == 98 then Ber else if c == 99 then Cer else Der

mode_of_word : (mode : Mode) → mode_of (mode_word mode) ≡ mode
mode_of_word Ber = refl
mode_of_word Cer = refl
mode_of_word Der = refl

one_mode : (m n : Mode) → mode_word m ≡ mode_word n → m ≡ n
one_mode m n e = sym (mode_of_word m) ∙ ap mode_of e ∙ mode_of_word n

abbrev first_word : List (List ℕ) → List ℕ
first_word [] = []
first_word (w ∷ ws) = w

abbrev second_word : List (List ℕ) → List ℕ
second_word [] = []
second_word (w ∷ ws) = first_word ws

pub asks_text : (args : List (List ℕ)) (word text : List ℕ) (mode : Mode) (octets : List ℕ) → args ≡ word ∷ text ∷ [] → Asks args mode octets
    → decode_of text ≡ Ok octets
asks_text args word text mode octets is a = subst (λ w. decode_of w ≡ Ok octets) (sym (ap second_word a.words) ∙ ap second_word is) a.spells

-- the text spells nothing
pub no_octets : (args : List (List ℕ)) (word text : List ℕ) → args ≡ word ∷ text ∷ [] → ((octets : List ℕ) → decode_of text ≡ Ok octets → ⊥) → AsksNothing args
no_octets args word text is none mode octets a = none octets (asks_text args word text mode octets is a)

pub two_words : {S : Type 0} (bytes : S → List ℕ) (args : List S) (a b : S) → 2 ≤ length args → length args < 3 → a ≡ slice_index_or args 0 a
    → b ≡ slice_index_or args 1 b → map bytes args ≡ bytes a ∷ bytes b ∷ []
two_words bytes [] a b h k p q = absurd (omega arith)
two_words bytes (x ∷ []) a b h k p q = absurd (omega arith)
two_words bytes (x ∷ y ∷ []) a b h k p q = rw (p, q) refl
two_words bytes (x ∷ y ∷ z ∷ zs) a b h k p q = absurd (omega arith)
