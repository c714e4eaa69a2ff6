-- Where the segments of an octet string stand that was cut (X.690, 8.7.3.2).
use Rattle.std.proofs.Common.{◌≡◌, ◌<◌, ℕ, false, List, [], ◌∷◌, refl, inl, arith}
use Rattle.bcder.specs.declared.length.Length.TheVariants.{Definite}
use Rattle.bcder.specs.declared.mode.Mode.TheVariants.{Ber}
use Rattle.bcder.specs.declared.string.octet.Segment.{Segment}
use Rattle.bcder.specs.x690.Identifier.{AreOctets, identifier}
use Rattle.bcder.specs.x690.Tree.{primitive, no_trees, ◌∷ₜ◌}
use Rattle.bcder.specs.x690.Encoding.{IsHeader, IsEncoding}
use Rattle.bcder.specs.x690.OctetString.{octet_string_tag}
use Rattle.bcder.specs.laws.Octets.{AreOctets-nil, AreOctets-cons}
use Rattle.bcder.specs.steps.SegmentTable.{IsTable}
use Rattle.bcder.proofs.Segments.{one_table}

abbrev place : ℕ → ℕ → Segment
place start len = record { start = start; len = len }

-- what a string holds that is cut into two empty segments and one of an octet: 04 00 04 00 04 01 61
abbrev cut : List ℕ
cut = 0x04 ∷ 0x00 ∷ 0x04 ∷ 0x00 ∷ 0x04 ∷ 0x01 ∷ 0x61 ∷ []

abbrev places : List Segment
places = place 2 0 ∷ place 4 0 ∷ place 6 1 ∷ []

header : (n : ℕ) → n < 128 → IsHeader Ber octet_string_tag false (Definite n) (0x04 ∷ n ∷ [])
unfolding identifier
header n short = record { is_value_tag = search arith; allowed = search arith; length_octets = n ∷ []; tells = inl (short, refl); is = refl }

empty : IsEncoding Ber (primitive octet_string_tag []) (0x04 ∷ 0x00 ∷ [])
empty = (AreOctets-nil, record { header = 0x04 ∷ 0x00 ∷ []; is_header = header 0 (omega arith); is = refl })

last : IsEncoding Ber (primitive octet_string_tag (0x61 ∷ [])) (0x04 ∷ 0x01 ∷ 0x61 ∷ [])
last = (AreOctets-cons 0x61 [] (omega arith) AreOctets-nil, record { header = 0x04 ∷ 0x01 ∷ []; is_header = header 1 (omega arith); is = refl })

-- each segment stands behind a header of its own
table : IsTable Ber cut places
table = record {
  within = (omega arith, (omega arith, (omega arith, tt)));
  ordered = (
    record { marks = []; header = 0x04 ∷ 0x00 ∷ []; are_marks = tt; is_header = header 0 (omega arith); is = refl },
    (
      record { marks = []; header = 0x04 ∷ 0x00 ∷ []; are_marks = tt; is_header = header 0 (omega arith); is = refl },
      (record { marks = []; header = 0x04 ∷ 0x01 ∷ []; are_marks = tt; is_header = header 1 (omega arith); is = refl }, tt),
    ),
  );
  segmented = record {
    values = primitive octet_string_tag [] ∷ₜ (primitive octet_string_tag [] ∷ₜ (primitive octet_string_tag (0x61 ∷ []) ∷ₜ no_trees));
    encode = (0x04 ∷ 0x00 ∷ [], _, empty, (0x04 ∷ 0x00 ∷ [], _, empty, (0x04 ∷ 0x01 ∷ 0x61 ∷ [], [], last, refl, refl), refl), refl);
    shape = (refl, (refl, (refl, tt)));
    hold = refl;
  };
}

-- and there is no other table
pub only_table : (ss : List Segment) → IsTable Ber cut ss → ss ≡ places
only_table ss t = one_table Ber cut ss places t table
