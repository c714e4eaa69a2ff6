-- Texts of hexadecimal digits.
use Rattle.std.proofs.Common.{◌≡◌, ℕ, ◌-◌, ◌%◌, ◌<◌, Bool, true, false, List, length, Some, None, is_some, Ok, IsTrue}
use Rattle.std.proofs.Common.{◌↔◌, MatchBool, HoldsAt, ◌||◌, if◌then◌else◌, refl, sym, ◌∙◌, arith}
use Rattle.std.specs.List.{AllWithin}
use Rattle.std.specs.Char.{is_ascii_hexdigit}
use Rattle.std.specs.Int.{is_in_range}
use Rattle.hex.specs.Hex.{decode_of, is_hex_digit}
use Rattle.hex.proofs.HexLemmas.{decode_of-digits, decode_of-ok}

some_of_three : (p q r : Bool) (a b c : ℕ) → ((p || q) || r) ≡ is_some (if q then Some a else if r then Some b else if p then Some c else None)
some_of_three true true r a b c = refl
some_of_three true false true a b c = refl
some_of_three true false false a b c = refl
some_of_three false true r a b c = refl
some_of_three false false true a b c = refl
some_of_three false false false a b c = refl

-- the two crates mean the same digits
pub same_digits : (c : ℕ) → is_ascii_hexdigit c ≡ is_hex_digit c
same_digits c = some_of_three (is_in_range 48 57 c) (is_in_range 65 70 c) (is_in_range 97 102 c) (c - 55) (c - 87) (c - 48)

pub is_digit : (c : ℕ) → is_ascii_hexdigit c ≡ true → is_hex_digit c ≡ true
is_digit c e = sym (same_digits c) ∙ e

pub is_no_digit : (c : ℕ) → is_ascii_hexdigit c ≡ false → is_hex_digit c ≡ false
is_no_digit c e = sym (same_digits c) ∙ e

pub spells_octets : (all : Bool) (text : List ℕ) → length text % 2 ≡ 0 → MatchBool all (AllWithin (λ c. is_hex_digit c ≡ true) text 0 (length text))
    ((k : ℕ) × (k < length text) × HoldsAt (λ c. is_hex_digit c ≡ false) text k) → IsTrue all ↔ (octets : List ℕ) × (decode_of text ≡ Ok octets)
spells_octets true text even h = (λ _. decode_of-digits text even (λ k d l. h k d (omega arith) l), λ _. refl)
spells_octets false text even h = (λ e. cc, λ o. let a = (decode_of-ok text o.0 o.1).1 h.0 0 h.1 in let b = h.2 0 in cc)
