-- What a piece of octets means, and a primitive value of contents octets that mean one thing.
use Rattle.std.proofs.Common.{◌≡◌, ℕ, Bool, true, false, List, length}
use Rattle.std.specs.Prelude.{Ok, Err, if◌then◌else◌}
use Rattle.bcder.specs.declared.mode.Mode.{Mode}
use Rattle.bcder.specs.declared.encode.error.EncodeError.{EncodeError}
use Rattle.bcder.specs.x690.Tree.{primitive, constructed}
use Rattle.bcder.specs.calls.Meaning.{ContentsMeaning, PieceMeans, fits_primitive}
use Rattle.asn1.specs.Types.{IsLeaf}
use Rattle.asn1.specs.Keys.{ContentsMeanOne, MeansOne}

piece_at : (refusal : EncodeError) (v w : List ℕ) (b : Bool) → ◌≡◌ {A = ContentsMeaning} (Ok w) (if b then Ok v else Err refusal) → w ≡ v
piece_at refusal v w true e = cc
piece_at refusal v w false e = cc

-- what is written of a piece is the piece
pub piece_is : (refusal : EncodeError) (mode : Mode) (v w : List ℕ) → PieceMeans refusal mode v (Ok w) → w ≡ v
piece_is refusal mode v w m = piece_at refusal v w (fits_primitive mode (length v)) m.0

pub leaf_one : {T K : Type 0} (Reads : List ℕ → T → Type 0) (key : T → K) → ContentsMeanOne Reads key → MeansOne (IsLeaf Reads) key
leaf_one Reads key one (primitive t w) x y h k = one w x y h k
leaf_one Reads key one (constructed t ts) x y h k = absurd h
