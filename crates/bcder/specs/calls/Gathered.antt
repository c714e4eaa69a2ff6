-- Kept values as an encoder, and what encoders write, as kept values.
use Rattle.std.specs.Prelude.{◌≡◌, ◌≢◌, ℕ, Bool, true, false, List, [], ◌++◌, Result, Ok, Err}
use Rattle.std.specs.Borrow.{MutBor}
use denote.Triple.Both.{Both}
use Rattle.bcder.specs.declared.{encode.error.EncodeError.EncodeError, encode.error.EncodeError.TheVariants.CapturedMode, mode.Mode.Mode}
use Rattle.bcder.specs.declared.mode.Mode.TheVariants.{Ber, Cer, Der}
use Rattle.bcder.specs.x690.Tree.{Trees}
use Rattle.bcder.specs.x690.Encoding.{AreEncodings}
use Rattle.bcder.specs.calls.Captured.{Kept}
use Rattle.bcder.specs.calls.Meaning.{Encoded, Meaning}
use Rattle.bcder.specs.calls.Encoders.{HasEncoding, RefusesToKeep}

-- ---- kept values, written

-- whether values kept in one mode are written in another: in their own, and in BER, in which encodings of CER and DER are encodings too
abbrev pub suits : Mode → Mode → Bool
suits own Ber = true
suits Cer Cer = true
suits Der Der = true
suits own mode = false

-- the kept values, with their octets unchanged; refused in CER and DER if they are kept in another mode
abbrev pub KeptMeans : Kept → Mode → Meaning → Type 0
KeptMeans c mode (Ok e) = (suits c.mode mode ≡ true) × AreEncodings c.mode e.values c.octets × (e.octets ≡ c.octets)
KeptMeans c mode (Err e) = (suits c.mode mode ≡ false) × (e ≡ CapturedMode)

-- r says whether kept values are written in a mode
abbrev pub MayWrite : Kept → Mode → Result (Unit {0}) EncodeError → Type 0
MayWrite c mode (Ok u) = HasEncoding (KeptMeans c mode)
MayWrite c mode (Err e) = KeptMeans c mode (Err e)

-- ---- what is written, kept

-- octets that began at position 0
abbrev pub kept_from_start : Mode → List ℕ → Kept
kept_from_start mode w = record { mode = mode; octets = w; start = 0 }

abbrev pub none_kept : Mode → Kept
none_kept mode = kept_from_start mode []

-- the kept values, from position 0
abbrev pub from_start : Kept → Kept
from_start c = kept_from_start c.mode c.octets

-- w is an encoding of the values, and in CER and DER the only one
pub record AreTheEncodings (mode : Mode) (values : Trees) (w : List ℕ) : Type 0 where
  pub encode : AreEncodings mode values w
  pub only : mode ≢ Ber → (v : List ℕ) → AreEncodings mode values v → v ≡ w

-- c grew to d: the octets of what is meant follow its own
pub record GrowsBy (M : Meaning → Type 0) (c d : Kept) : Type 0 where
  pub what : Encoded
  pub meant : M (Ok what)
  pub octets : d.octets ≡ c.octets ++ what.octets
  pub mode : d.mode ≡ c.mode
  pub start : d.start ≡ c.start
  pub encode : AreTheEncodings c.mode what.values what.octets

-- c holds exactly what is meant
pub record HoldsMeant (M : Meaning → Type 0) (mode : Mode) (c : Kept) : Type 0 where
  pub what : Encoded
  pub meant : M (Ok what)
  pub holds : c ≡ kept_from_start mode what.octets
  pub encode : AreTheEncodings mode what.values what.octets

-- r is a capture of what is meant, or says why it is not kept
abbrev pub GathersValues : (Meaning → Type 0) → Type 0 → Mode → Result Kept EncodeError → Type 0
GathersValues M lacks mode (Ok c) = HoldsMeant M mode c
GathersValues M lacks mode (Err e) = RefusesToKeep (λ (e : Encoded). e.octets) M lacks e

-- r says whether what is meant was put after the kept values, and otherwise why it is not kept
abbrev pub ExtendsBy : (Meaning → Type 0) → Type 0 → Both (MutBor Kept) (MutBor Kept) → Result (Unit {0}) EncodeError → Type 0
ExtendsBy M lacks c (Ok u) = GrowsBy M c.entry.now c.exit.now
ExtendsBy M lacks c (Err e) = RefusesToKeep (λ (e : Encoded). e.octets) M lacks e
