-- Identifier octets (X.690, 8.1.2).
use Rattle.std.proofs.Common.{◌≡◌, ℕ, true, false, List, [], ◌∷◌, refl}
use Rattle.bcder.specs.x690.Identifier.{Class, universal, application, context_specific, private, base128, identifier}
use Rattle.bcder.specs.steps.Reading.{third_digit, second_digit, read_number, class_of, is_marked, read_identifier}
use Rattle.bcder.proofs.worked.Shown.{NoIdentifier, no_identifier}

opened : ℕ
unfolding base128 identifier third_digit second_digit read_number class_of is_marked read_identifier
opened = 0

-- the identifier octets of a primitive value
abbrev spelled : Class → ℕ → List ℕ
spelled class n = identifier (record { class = class; number = n }) false

each_class_has_its_bits : (spelled universal 1 ≡ 0x01 ∷ []) × (spelled application 1 ≡ 0x41 ∷ []) × (spelled context_specific 1 ≡ 0x81 ∷ [])
    × (spelled private 1 ≡ 0xC1 ∷ [])
unfolding opened
each_class_has_its_bits = (refl, refl, refl, refl)

bit_6_marks_constructed_values : (identifier (record { class = universal; number = 16 }) true ≡ 0x30 ∷ [])
    × (identifier (record { class = context_specific; number = 0 }) true ≡ 0xA0 ∷ [])
unfolding opened
bit_6_marks_constructed_values = (refl, refl)

numbers_to_30_take_one_octet : (spelled universal 0 ≡ 0x00 ∷ []) × (spelled universal 30 ≡ 0x1E ∷ []) × (spelled private 30 ≡ 0xDE ∷ [])
unfolding opened
numbers_to_30_take_one_octet = (refl, refl, refl)

numbers_from_31_take_more : (spelled universal 31 ≡ 0x1F ∷ 0x1F ∷ []) × (spelled universal 32 ≡ 0x1F ∷ 0x20 ∷ [])
    × (spelled context_specific 127 ≡ 0x9F ∷ 0x7F ∷ [])
unfolding opened
numbers_from_31_take_more = (refl, refl, refl)

numbers_from_128_take_three : (spelled universal 128 ≡ 0x1F ∷ 0x81 ∷ 0x00 ∷ []) × (spelled application 201 ≡ 0x5F ∷ 0x81 ∷ 0x49 ∷ [])
    × (spelled universal 16383 ≡ 0x1F ∷ 0xFF ∷ 0x7F ∷ [])
unfolding opened
numbers_from_128_take_three = (refl, refl, refl)

numbers_from_16384_take_four : (spelled universal 16384 ≡ 0x1F ∷ 0x81 ∷ 0x80 ∷ 0x00 ∷ []) × (spelled private 2097151 ≡ 0xDF ∷ 0xFF ∷ 0xFF ∷ 0x7F ∷ [])
unfolding opened
numbers_from_16384_take_four = (refl, refl)

-- 8.1.2.4 is for numbers from 31 on alone
small_numbers_have_one_octet_alone : NoIdentifier (0x1F ∷ 0x00 ∷ []) × NoIdentifier (0x1F ∷ 0x05 ∷ []) × NoIdentifier (0x1F ∷ 0x1E ∷ 0x00 ∷ [])
unfolding opened
small_numbers_have_one_octet_alone = (no_identifier refl, no_identifier refl, no_identifier refl)

-- 8.1.2.4.2 c: the first subsequent octet is not 80
no_number_begins_with_zero_bits : NoIdentifier (0x1F ∷ 0x80 ∷ 0x1F ∷ 0x00 ∷ []) × NoIdentifier (0xFF ∷ 0x80 ∷ [])
    × NoIdentifier (0xFF ∷ 0x80 ∷ 0x80 ∷ 0x80 ∷ 0x80 ∷ [])
unfolding opened
no_number_begins_with_zero_bits = (no_identifier refl, no_identifier refl, no_identifier refl)

no_number_is_cut : NoIdentifier [] × NoIdentifier (0x1F ∷ []) × NoIdentifier (0x1F ∷ 0x81 ∷ []) × NoIdentifier (0x1F ∷ 0x81 ∷ 0x80 ∷ [])
unfolding opened
no_number_is_cut = (no_identifier refl, no_identifier refl, no_identifier refl, no_identifier refl)

no_identifier_has_five_octets : NoIdentifier (0x1F ∷ 0x81 ∷ 0x80 ∷ 0x80 ∷ 0x00 ∷ [])
unfolding opened
no_identifier_has_five_octets = no_identifier refl
