-- Three fields or more, written in a row, as the first and those behind it.
use Rattle.std.proofs.Common.{◌≡◌, ◌<◌, ◌^◌, length, append-nil, length-append, refl, ap, ◌∙◌, arith}
use Rattle.std.specs.Prelude.{Ok}
use Rattle.bcder.specs.x690.Tree.{Trees, ◌+++◌}
use Rattle.bcder.specs.calls.Meaning.{nothing, join}
use Rattle.bcder.specs.calls.Meaning.{Encoded, Meaning}
use Rattle.asn1.specs.Writing.{AreTaken}
use Rattle.asn1.proofs.ReadingBack.{and_none, fields_back_seen}

-- what M says of one encoding and P of the one behind it, with a size that fits
abbrev Joins : (Encoded → Type 0) → (Encoded → Type 0) → Encoded → Type 0
Joins M P e = ((x : Encoded) × (y : Encoded) × M x × P y × (e ≡ join x y)) × (length e.octets < 2 ^ 64)

-- what P says, as the last part
abbrev AsLast : (Encoded → Type 0) → Encoded → Type 0
AsLast P e = (x : Encoded) × (y : Encoded) × (P x × (length x.octets < 2 ^ 64)) × ◌≡◌ {A = Meaning} (Ok y) (Ok nothing) × (e ≡ join x y)

join_nothing : (e : Encoded) → e ≡ join e nothing
join_nothing e = rw (and_none e.values, append-nil e.octets) refl

fits_behind : (x y e : Encoded) → e ≡ join x y → length e.octets < 2 ^ 64 → length y.octets < 2 ^ 64
fits_behind x y e q s = let n = ap (λ (z : Encoded). length z.octets) q ∙ length-append x.octets y.octets in omega (arith, n, s)

pub behind_as_last : (M P : Encoded → Type 0) (e : Encoded) → Joins M P e → Joins M (AsLast P) e
behind_as_last M P e ((x, y, m, p, q), s) = ((x, y, m, (y, nothing, (p, fits_behind x y e q s), refl, join_nothing y), q), s)

-- what is written in a row is read back, if the first and those behind it are
pub row_read_back : {T V K : Type 0} (view : V → T) (made : (s : T) → (x : V) × (view x ≡ s)) (key : T → K) (x : V) (Takes : Trees → T → Trees → Type 0)
    (F : Trees → Type 0) (M P : Encoded → Type 0)
    → ((e : Encoded) → Joins M (AsLast P) e → (us : Trees) → F us → AreTaken Takes key (key (view x)) (e.values +++ us) us)
    → (e : Encoded) → Joins M P e → (us : Trees) → F us
    → AreTaken (λ (ts : Trees) (y : V) (us : Trees). Takes ts (view y) us) (λ y. key (view y)) (key (view x)) (e.values +++ us) us
row_read_back view made key x Takes F M P k e m us f = fields_back_seen view made key x Takes F (Joins M (AsLast P)) k e (behind_as_last M P e m) us f
