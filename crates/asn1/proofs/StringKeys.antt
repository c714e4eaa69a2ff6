-- Strings, told apart by their octets.
use Rattle.std.proofs.Common.{◌≢◌, sym, ◌∙◌}
use Rattle.bcder.specs.declared.mode.Mode.{Mode}
use Rattle.bcder.specs.declared.mode.Mode.TheVariants.{Ber}
use Rattle.bcder.specs.x690.CharSet.{Step}
use Rattle.bcder.specs.calls.RestrictedString.{MeansRestricted}
use Rattle.bcder.specs.calls.StringOctets.{octets_of, MeansString}
use Rattle.bcder.proofs.Lemmas.{one_string, means_flat}
use Rattle.asn1.specs.Types.{Only}
use Rattle.asn1.specs.Keys.{MeansOne, IsMeantOnce}

pub string_means_one : (mode : Mode) → MeansOne (MeansString mode) octets_of
string_means_one mode t x y h k = means_flat mode t x h.1 ∙ sym (means_flat mode t y k.1)

pub string_meant_once : (mode : Mode) → mode ≢ Ber → IsMeantOnce mode Only (MeansString mode) octets_of
string_meant_once mode ne asked t u x y v w d e a b h k q =
    one_string mode ne t u h.0 k.0 (a ∙ sym b) (sym (means_flat mode t x h.1) ∙ q ∙ means_flat mode u y k.1)

pub restricted_means_one : (step : Step) (mode : Mode) → MeansOne (MeansRestricted step mode) octets_of
restricted_means_one step mode t x y h k = string_means_one mode t x y h.0 k.0

pub restricted_meant_once : (step : Step) (mode : Mode) → mode ≢ Ber → IsMeantOnce mode Only (MeansRestricted step mode) octets_of
restricted_meant_once step mode ne asked t u x y v w d e a b h k q = string_meant_once mode ne asked t u x y v w d e a b h.0 k.0 q
