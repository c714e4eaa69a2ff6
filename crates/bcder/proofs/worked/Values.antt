-- Values and their encodings (X.690, 8.1.1 to 8.1.5, 9.1, 10.1).
use Rattle.std.proofs.Common.{ℕ, List, [], ◌∷◌, refl}
use Rattle.bcder.specs.x690.Identifier.{universal, context_specific}
use Rattle.bcder.specs.x690.Tree.{Tree, primitive, constructed, Trees, no_trees, ◌∷ₜ◌}
use Rattle.bcder.specs.steps.Reading.{third_digit, second_digit, read_number, class_of, is_marked, read_identifier, may_tell, read_long}
use Rattle.bcder.specs.steps.Reading.{read_length, read_end, read_header, read_value, at_end, read_trees, read_list, read_tree}
use Rattle.bcder.proofs.worked.Shown.{TakenInAll, taken_in_all, TakenInBerAndCer, taken_in_ber_and_cer, TakenInBerAndDer, taken_in_ber_and_der, TakenInBer}
use Rattle.bcder.proofs.worked.Shown.{taken_in_ber, TakenInNone, taken_in_none, ListedInAll, listed_in_all, ListedInNone, listed_in_none}

opened : ℕ
unfolding third_digit second_digit read_number class_of is_marked read_identifier may_tell read_long read_length read_end read_header read_value at_end
    read_trees read_list read_tree
opened = 0

abbrev pub boolean : List ℕ → Tree
boolean w = primitive (record { class = universal; number = 1 }) w

abbrev pub integer : List ℕ → Tree
integer w = primitive (record { class = universal; number = 2 }) w

abbrev pub octet_string : List ℕ → Tree
octet_string w = primitive (record { class = universal; number = 4 }) w

abbrev pub octet_strings : Trees → Tree
octet_strings ts = constructed (record { class = universal; number = 4 }) ts

abbrev pub null : Tree
null = primitive (record { class = universal; number = 5 }) []

abbrev pub sequence : Trees → Tree
sequence ts = constructed (record { class = universal; number = 16 }) ts

-- 8.1.3.6, 10.1: the indefinite form is BER's and CER's
indefinite_form : TakenInBerAndCer (0x30 ∷ 0x80 ∷ 0x02 ∷ 0x01 ∷ 0x05 ∷ 0x00 ∷ 0x00 ∷ []) (sequence (integer (5 ∷ []) ∷ₜ no_trees))
    × TakenInBerAndCer (0x30 ∷ 0x80 ∷ 0x00 ∷ 0x00 ∷ []) (sequence no_trees)
    × TakenInBerAndCer (0x30 ∷ 0x80 ∷ 0x30 ∷ 0x80 ∷ 0x00 ∷ 0x00 ∷ 0x00 ∷ 0x00 ∷ []) (sequence (sequence no_trees ∷ₜ no_trees))
    × TakenInBerAndCer (0x30 ∷ 0x80 ∷ 0x01 ∷ 0x01 ∷ 0xFF ∷ 0x02 ∷ 0x01 ∷ 0x05 ∷ 0x00 ∷ 0x00 ∷ [])
    (sequence (boolean (0xFF ∷ []) ∷ₜ integer (5 ∷ []) ∷ₜ no_trees))
unfolding opened
indefinite_form = (
  taken_in_ber_and_cer refl refl refl refl,
  taken_in_ber_and_cer refl refl refl refl,
  taken_in_ber_and_cer refl refl refl refl,
  taken_in_ber_and_cer refl refl refl refl,
)

-- 9.1: the definite form of a constructed value is BER's and DER's
definite_form : TakenInBerAndDer (0x30 ∷ 0x03 ∷ 0x02 ∷ 0x01 ∷ 0x05 ∷ []) (sequence (integer (5 ∷ []) ∷ₜ no_trees))
    × TakenInBerAndDer (0x30 ∷ 0x00 ∷ []) (sequence no_trees)
    × TakenInBerAndDer (0xA0 ∷ 0x03 ∷ 0x02 ∷ 0x01 ∷ 0x05 ∷ []) (constructed (record { class = context_specific; number = 0 }) (integer (5 ∷ []) ∷ₜ no_trees))
    × TakenInBerAndDer (0x30 ∷ 0x06 ∷ 0x02 ∷ 0x01 ∷ 0x05 ∷ 0x01 ∷ 0x01 ∷ 0xFF ∷ []) (sequence (integer (5 ∷ []) ∷ₜ boolean (0xFF ∷ []) ∷ₜ no_trees))
    × TakenInBerAndDer (0x30 ∷ 0x06 ∷ 0x01 ∷ 0x01 ∷ 0xFF ∷ 0x02 ∷ 0x01 ∷ 0x05 ∷ []) (sequence (boolean (0xFF ∷ []) ∷ₜ integer (5 ∷ []) ∷ₜ no_trees))
    × TakenInBerAndDer (0x30 ∷ 0x06 ∷ 0x02 ∷ 0x01 ∷ 0x05 ∷ 0x04 ∷ 0x01 ∷ 0x41 ∷ []) (sequence (integer (5 ∷ []) ∷ₜ octet_string (0x41 ∷ []) ∷ₜ no_trees))
unfolding opened
definite_form = (
  taken_in_ber_and_der refl refl refl refl,
  taken_in_ber_and_der refl refl refl refl,
  taken_in_ber_and_der refl refl refl refl,
  taken_in_ber_and_der refl refl refl refl,
  taken_in_ber_and_der refl refl refl refl,
  taken_in_ber_and_der refl refl refl refl,
)

-- the octets of a primitive value are not looked at
primitive_values : TakenInAll (0x02 ∷ 0x01 ∷ 0x05 ∷ []) (integer (5 ∷ []))
    × TakenInAll (0x02 ∷ 0x00 ∷ []) (integer [])
    × TakenInAll (0x05 ∷ 0x00 ∷ []) null
    × TakenInAll (0x04 ∷ 0x02 ∷ 0x41 ∷ 0x42 ∷ []) (octet_string (0x41 ∷ 0x42 ∷ []))
    × TakenInAll (0x1F ∷ 0x1F ∷ 0x00 ∷ []) (primitive (record { class = universal; number = 31 }) [])
    × TakenInAll (0x10 ∷ 0x00 ∷ []) (primitive (record { class = universal; number = 16 }) [])
unfolding opened
primitive_values = (
  taken_in_all refl refl refl refl,
  taken_in_all refl refl refl refl,
  taken_in_all refl refl refl refl,
  taken_in_all refl refl refl refl,
  taken_in_all refl refl refl refl,
  taken_in_all refl refl refl refl,
)

-- longer lengths than needed, also in an end marker, are BER's
longer_lengths : TakenInBer (0x30 ∷ 0x81 ∷ 0x03 ∷ 0x02 ∷ 0x01 ∷ 0x05 ∷ []) (sequence (integer (5 ∷ []) ∷ₜ no_trees))
    × TakenInBer (0x30 ∷ 0x82 ∷ 0x00 ∷ 0x03 ∷ 0x02 ∷ 0x01 ∷ 0x05 ∷ []) (sequence (integer (5 ∷ []) ∷ₜ no_trees))
    × TakenInBer (0x04 ∷ 0x84 ∷ 0x00 ∷ 0x00 ∷ 0x00 ∷ 0x01 ∷ 0x41 ∷ []) (octet_string (0x41 ∷ []))
    × TakenInBer (0x30 ∷ 0x80 ∷ 0x00 ∷ 0x81 ∷ 0x00 ∷ []) (sequence no_trees)
    × TakenInBer (0x30 ∷ 0x80 ∷ 0x02 ∷ 0x01 ∷ 0x05 ∷ 0x00 ∷ 0x82 ∷ 0x00 ∷ 0x00 ∷ []) (sequence (integer (5 ∷ []) ∷ₜ no_trees))
unfolding opened
longer_lengths = (
  taken_in_ber refl refl refl refl,
  taken_in_ber refl refl refl refl,
  taken_in_ber refl refl refl refl,
  taken_in_ber refl refl refl refl,
  taken_in_ber refl refl refl refl,
)

-- each form inside each is BER's
mixed_forms : TakenInBer (0x30 ∷ 0x04 ∷ 0x30 ∷ 0x80 ∷ 0x00 ∷ 0x00 ∷ []) (sequence (sequence no_trees ∷ₜ no_trees))
    × TakenInBer (0x30 ∷ 0x80 ∷ 0x30 ∷ 0x03 ∷ 0x02 ∷ 0x01 ∷ 0x05 ∷ 0x04 ∷ 0x00 ∷ 0x00 ∷ 0x00 ∷ [])
    (sequence (sequence (integer (5 ∷ []) ∷ₜ no_trees) ∷ₜ octet_string [] ∷ₜ no_trees))
    × TakenInBer (0x24 ∷ 0x0A ∷ 0x04 ∷ 0x01 ∷ 0x61 ∷ 0x24 ∷ 0x80 ∷ 0x04 ∷ 0x01 ∷ 0x62 ∷ 0x00 ∷ 0x00 ∷ [])
    (octet_strings (octet_string (0x61 ∷ []) ∷ₜ octet_strings (octet_string (0x62 ∷ []) ∷ₜ no_trees) ∷ₜ no_trees))
    × TakenInBer (0x24 ∷ 0x08 ∷ 0x24 ∷ 0x80 ∷ 0x04 ∷ 0x02 ∷ 0x61 ∷ 0x62 ∷ 0x00 ∷ 0x00 ∷ [])
    (octet_strings (octet_strings (octet_string (0x61 ∷ 0x62 ∷ []) ∷ₜ no_trees) ∷ₜ no_trees))
unfolding opened
mixed_forms = (
  taken_in_ber refl refl refl refl,
  taken_in_ber refl refl refl refl,
  taken_in_ber refl refl refl refl,
  taken_in_ber refl refl refl refl,
)

-- a value ends where the length of the value around it says
no_value_passes_its_parent : TakenInNone (0x30 ∷ 0x03 ∷ 0x30 ∷ 0x80 ∷ 0x00 ∷ 0x00 ∷ [])
    × TakenInNone (0x30 ∷ 0x02 ∷ 0x02 ∷ 0x01 ∷ 0x05 ∷ [])
    × TakenInNone (0x30 ∷ 0x05 ∷ 0x02 ∷ 0x01 ∷ 0x05 ∷ [])
unfolding opened
no_value_passes_its_parent = (
  taken_in_none refl refl refl,
  taken_in_none refl refl refl,
  taken_in_none refl refl refl,
)

-- 8.1.5: the tag of the end-of-contents octets is no value's, constructed or not
no_value_is_an_end : TakenInNone (0x00 ∷ 0x00 ∷ [])
    × TakenInNone (0x00 ∷ 0x01 ∷ 0x41 ∷ [])
    × TakenInNone (0x20 ∷ 0x00 ∷ [])
    × TakenInNone (0x30 ∷ 0x02 ∷ 0x20 ∷ 0x00 ∷ [])
    × TakenInNone (0x30 ∷ 0x02 ∷ 0x00 ∷ 0x00 ∷ [])
    × TakenInNone (0x30 ∷ 0x80 ∷ 0x20 ∷ 0x00 ∷ 0x00 ∷ 0x00 ∷ [])
unfolding opened
no_value_is_an_end = (
  taken_in_none refl refl refl,
  taken_in_none refl refl refl,
  taken_in_none refl refl refl,
  taken_in_none refl refl refl,
  taken_in_none refl refl refl,
  taken_in_none refl refl refl,
)

-- 8.1.3.2: the indefinite form is for constructed values alone
no_primitive_value_is_indefinite : TakenInNone (0x04 ∷ 0x80 ∷ 0x00 ∷ 0x00 ∷ [])
    × TakenInNone (0x02 ∷ 0x80 ∷ 0x01 ∷ 0x00 ∷ 0x00 ∷ [])
unfolding opened
no_primitive_value_is_indefinite = (
  taken_in_none refl refl refl,
  taken_in_none refl refl refl,
)

-- 8.1.2.4, and lengths of at most four octets
no_value_has_other_headers : TakenInNone (0x1F ∷ 0x1E ∷ 0x00 ∷ [])
    × TakenInNone (0x1F ∷ 0x80 ∷ 0x1F ∷ 0x00 ∷ [])
    × TakenInNone (0x04 ∷ 0x85 ∷ 0x00 ∷ 0x00 ∷ 0x00 ∷ 0x00 ∷ 0x01 ∷ 0x41 ∷ [])
unfolding opened
no_value_has_other_headers = (
  taken_in_none refl refl refl,
  taken_in_none refl refl refl,
  taken_in_none refl refl refl,
)

-- what is cut is no value
no_value_is_cut : TakenInNone []
    × TakenInNone (0x02 ∷ [])
    × TakenInNone (0x02 ∷ 0x05 ∷ 0x01 ∷ [])
    × TakenInNone (0x30 ∷ 0x80 ∷ 0x02 ∷ 0x01 ∷ 0x05 ∷ [])
    × TakenInNone (0x30 ∷ 0x80 ∷ 0x02 ∷ 0x01 ∷ 0x05 ∷ 0x00 ∷ [])
unfolding opened
no_value_is_cut = (
  taken_in_none refl refl refl,
  taken_in_none refl refl refl,
  taken_in_none refl refl refl,
  taken_in_none refl refl refl,
  taken_in_none refl refl refl,
)

-- a list of values is the whole of the octets
lists_of_values : ListedInAll [] no_trees × ListedInAll (0x02 ∷ 0x01 ∷ 0x05 ∷ 0x02 ∷ 0x01 ∷ 0x06 ∷ []) (integer (5 ∷ []) ∷ₜ integer (6 ∷ []) ∷ₜ no_trees)
unfolding opened
lists_of_values = (listed_in_all refl refl refl refl, listed_in_all refl refl refl refl)

no_octet_is_left_over : ListedInNone (0x05 ∷ 0x00 ∷ 0xFF ∷ []) × ListedInNone (0x05 ∷ 0x00 ∷ 0x00 ∷ 0x00 ∷ [])
unfolding opened
no_octet_is_left_over = (listed_in_none refl refl refl, listed_in_none refl refl refl)
