-- What contents octets mean.
use Rattle.std.proofs.Common.{◌≡◌, ◌≢◌, ℕ, ◌<◌, ◌≤◌, ◌^◌, Bool, true, false, List, [], ◌∷◌, length, get_or, drop}
use Rattle.std.proofs.Common.{refl, ap, arith}
use Rattle.bcder.specs.declared.mode.Mode.{Mode}
use Rattle.bcder.specs.declared.mode.Mode.TheVariants.{Ber, Cer, Der}
use Rattle.bcder.specs.x690.Integer.{strict_truth}
use Rattle.bcder.specs.calls.Readers.{IsTruth}
use Rattle.encodings.specs.Contents.{HasUnused}
use Rattle.bcder.specs.x690.BitString.{AreCleared, BitShape, IsBits}

shape : (u : ℕ) (w : List ℕ) → u ≤ 7 → (length (u ∷ w) ≡ 1 → u ≡ 0) → length (u ∷ w) ≤ 2 ^ 61 → IsBits (record { unused = u; octets = w })
shape u [] f n s = record { few = f; none = λ e. n refl; size = omega (arith, s) }
shape u (b ∷ w) f n s = record { few = f; none = λ e. absurd cc; size = omega (arith, s) }

-- only the unused bits can make octets no bit string that are one but for these
pub not_cleared : (mode : Mode) (c : List ℕ) → (BitShape mode c → ⊥) → 0 < length c → get_or c 0 0 ≤ 7 → (length c ≡ 1 → get_or c 0 0 ≡ 0)
    → length c ≤ 2 ^ 61 → (mode ≡ Cer → length c ≤ 1000) → (mode ≢ Ber) × (AreCleared (get_or c 0 0) (drop 1 c) → ⊥)
not_cleared mode [] h l f n s m = absurd (omega (arith, l))
not_cleared Ber (u ∷ w) h l f n s m = absurd (h (shape u w f n s, tt))
not_cleared Cer (u ∷ w) h l f n s m = (λ e. absurd cc, λ k. h (shape u w f n s, (m refl, k)))
not_cleared Der (u ∷ w) h l f n s m = (λ e. absurd cc, λ k. h (shape u w f n s, k))

-- only an octet other than 00 and FF makes one octet no boolean, and not in BER
pub no_truth : (mode : Mode) (c : List ℕ) → ((x : Bool) → IsTruth mode c x → ⊥) → length c ≡ 1
    → (mode ≢ Ber) × (get_or c 0 0 ≢ 0x00) × (get_or c 0 0 ≢ 0xFF)
no_truth mode [] h l = absurd (omega (arith, l))
no_truth mode (a ∷ b ∷ w) h l = absurd (omega (arith, l))
no_truth Ber (b ∷ []) h l = absurd (h _ refl)
no_truth Cer (b ∷ []) h l = (λ e. absurd cc, λ e. h false (ap strict_truth e), λ e. h true (ap strict_truth e))
no_truth Der (b ∷ []) h l = (λ e. absurd cc, λ e. h false (ap strict_truth e), λ e. h true (ap strict_truth e))

pub no_bits : (mode : Mode) (c : List ℕ) → ((unused : ℕ) → HasUnused mode c unused → ⊥) → BitShape mode c → ⊥
no_bits mode [] h b = b
no_bits mode (u ∷ w) h b = h u (record { bits = record { unused = u; octets = w }; string = (refl, b); count = refl })
