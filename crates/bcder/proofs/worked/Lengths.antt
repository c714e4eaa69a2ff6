-- Length octets (X.690, 8.1.3, 10.1) and end-of-contents octets (8.1.5).
use Rattle.std.proofs.Common.{ℕ, [], ◌∷◌, refl}
use Rattle.bcder.specs.declared.mode.Mode.{Mode}
use Rattle.bcder.specs.declared.length.Length.TheVariants.{Indefinite}
use Rattle.bcder.specs.x690.Length.{AreLengthOctets}
use Rattle.bcder.specs.steps.Reading.{may_tell, read_long, read_length, read_end}
use Rattle.bcder.proofs.worked.Shown.{TellsInAll, tells_in_all, TellsInBer, tells_in_ber, TellsInNone, tells_in_none, EndsInAll}
use Rattle.bcder.proofs.worked.Shown.{ends_in_all, EndsInBer, ends_in_ber, EndsInNone, ends_in_none}

opened : ℕ
unfolding may_tell read_long read_length read_end
opened = 0

-- 8.1.3.6
indefinite_form : (mode : Mode) → AreLengthOctets mode Indefinite (0x80 ∷ [])
indefinite_form mode = refl

-- 8.1.3.4
short_form : TellsInAll 0 (0x00 ∷ [])
    × TellsInAll 3 (0x03 ∷ [])
    × TellsInAll 127 (0x7F ∷ [])
unfolding opened
short_form = (tells_in_all refl refl refl refl, tells_in_all refl refl refl refl, tells_in_all refl refl refl refl)

-- 8.1.3.5; its example is 201
long_form : TellsInAll 128 (0x81 ∷ 0x80 ∷ [])
    × TellsInAll 201 (0x81 ∷ 0xC9 ∷ [])
    × TellsInAll 256 (0x82 ∷ 0x01 ∷ 0x00 ∷ [])
    × TellsInAll 65536 (0x83 ∷ 0x01 ∷ 0x00 ∷ 0x00 ∷ [])
    × TellsInAll 16777216 (0x84 ∷ 0x01 ∷ 0x00 ∷ 0x00 ∷ 0x00 ∷ [])
    × TellsInAll 4294967295 (0x84 ∷ 0xFF ∷ 0xFF ∷ 0xFF ∷ 0xFF ∷ [])
unfolding opened
long_form = (
  tells_in_all refl refl refl refl,
  tells_in_all refl refl refl refl,
  tells_in_all refl refl refl refl,
  tells_in_all refl refl refl refl,
  tells_in_all refl refl refl refl,
  tells_in_all refl refl refl refl,
)

-- 8.1.3.5, note 2, leaves the choice in BER; 9.1 and 10.1 don't
more_octets_than_needed : TellsInBer 3 (0x81 ∷ 0x03 ∷ [])
    × TellsInBer 127 (0x81 ∷ 0x7F ∷ [])
    × TellsInBer 3 (0x82 ∷ 0x00 ∷ 0x03 ∷ [])
    × TellsInBer 255 (0x82 ∷ 0x00 ∷ 0xFF ∷ [])
    × TellsInBer 1 (0x84 ∷ 0x00 ∷ 0x00 ∷ 0x00 ∷ 0x01 ∷ [])
unfolding opened
more_octets_than_needed = (
  tells_in_ber refl refl refl refl,
  tells_in_ber refl refl refl refl,
  tells_in_ber refl refl refl refl,
  tells_in_ber refl refl refl refl,
  tells_in_ber refl refl refl refl,
)

-- at most four octets are taken; 8.1.3.5 c leaves FF unused
more_than_four_octets : TellsInNone (0x85 ∷ 0x00 ∷ 0x00 ∷ 0x00 ∷ 0x00 ∷ 0x01 ∷ [])
    × TellsInNone (0x85 ∷ 0x01 ∷ 0x00 ∷ 0x00 ∷ 0x00 ∷ 0x00 ∷ [])
    × TellsInNone (0xFF ∷ 0x00 ∷ [])
unfolding opened
more_than_four_octets = (tells_in_none refl refl refl, tells_in_none refl refl refl, tells_in_none refl refl refl)

cut_lengths : TellsInNone []
    × TellsInNone (0x81 ∷ [])
    × TellsInNone (0x82 ∷ 0x01 ∷ [])
unfolding opened
cut_lengths = (tells_in_none refl refl refl, tells_in_none refl refl refl, tells_in_none refl refl refl)

-- 8.1.5
two_zero_octets_are_an_end : EndsInAll (0x00 ∷ 0x00 ∷ [])
unfolding opened
two_zero_octets_are_an_end = ends_in_all refl refl refl refl

-- a length of 0 in the long form
longer_ends : EndsInBer (0x00 ∷ 0x81 ∷ 0x00 ∷ [])
    × EndsInBer (0x00 ∷ 0x82 ∷ 0x00 ∷ 0x00 ∷ [])
    × EndsInBer (0x00 ∷ 0x83 ∷ 0x00 ∷ 0x00 ∷ 0x00 ∷ [])
    × EndsInBer (0x00 ∷ 0x84 ∷ 0x00 ∷ 0x00 ∷ 0x00 ∷ 0x00 ∷ [])
unfolding opened
longer_ends = (ends_in_ber refl refl refl refl, ends_in_ber refl refl refl refl, ends_in_ber refl refl refl refl, ends_in_ber refl refl refl refl)

no_other_ends : EndsInNone []
    × EndsInNone (0x00 ∷ [])
    × EndsInNone (0x00 ∷ 0x01 ∷ 0x00 ∷ [])
    × EndsInNone (0x00 ∷ 0x80 ∷ 0x00 ∷ 0x00 ∷ [])
    × EndsInNone (0x20 ∷ 0x00 ∷ [])
    × EndsInNone (0x00 ∷ 0x85 ∷ 0x00 ∷ 0x00 ∷ 0x00 ∷ 0x00 ∷ 0x00 ∷ [])
unfolding opened
no_other_ends = (
  ends_in_none refl refl refl,
  ends_in_none refl refl refl,
  ends_in_none refl refl refl,
  ends_in_none refl refl refl,
  ends_in_none refl refl refl,
  ends_in_none refl refl refl,
)
