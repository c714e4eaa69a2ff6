-- Equal parts are written one after the other.
use Rattle.std.proofs.Common.{◌≡◌, ℕ, zero, suc, ◌+◌, ◌-◌, ◌*◌, ◌^◌, ◌<◌, ◌≤◌, List, [], ◌∷◌, ◌++◌, length, Option}
use Rattle.std.proofs.Common.{Result, Ok, Err, refl, sym, ap, ◌∙◌, subst, inr, arith, length-append}
use Rattle.std.proofs.lemmas.List.{replicate-append-replicate}
use Rattle.std.specs.Io.KnownBytes.{Appends}
use Rattle.bcder.specs.declared.encode.error.EncodeError.TheVariants.{SizeOverflow}
use Rattle.bcder.specs.declared.encode.error.WriteError.{WriteError}
use Rattle.bcder.specs.declared.mode.Mode.TheVariants.{Ber}
use Rattle.bcder.specs.x690.Identifier.{Tag, identifier, null_tag, IsValueTag}
use Rattle.bcder.specs.x690.Octets.{definite_length}
use Rattle.bcder.specs.calls.Meaning.{Encoded, IsOne, Exactly, ValueMeans, primitive_encoded, primitive_meaning}
use Rattle.bcder.specs.calls.Meaning.{nothing, join, Then, NoValues, Joined}
use Rattle.bcder.specs.calls.Encoders.{WroteOf, Writes, WritesEncoding, SizeOfValues, RefusesBy}
use Rattle.bcder.specs.laws.Octets.{AreOctets-nil}
use Rattle.bcder.specs.laws.Meanings.{Exactly_lawful, primitive_lawful}
use Rattle.bcder.proofs.Lemmas.{primitive_means, wrote_what_is_meant, wrote_after, wrote_no_further, wrote_same}
use Rattle.support.specs.Counted.{zeros, NullMeans, NullsMean}

-- ---- zeros

pub zeros_join : (n i : ℕ) → i < n → zeros i ++ 0x00 ∷ zeros (n - (i + 1)) ≡ zeros n
zeros_join n i h =
    let e : i + suc (n - (i + 1)) ≡ n = omega (arith, h) in
    replicate-append-replicate i (suc (n - (i + 1))) 0x00 ∙ ap zeros e

zero_octet : {old new : Option (List ℕ)} {r : Result (Unit {0}) WriteError} → Writes (λ w. w) (Exactly (0x00 ∷ [])) ⊥ old new r
    → WroteOf ⊥ (0x00 ∷ []) old new r
zero_octet w = wrote_what_is_meant (Exactly (0x00 ∷ [])) (λ m n p q. p ∙ sym q) (λ l. l) ⊥ (0x00 ∷ []) _ _ _ refl w

-- after so many, one was not written
pub zero_failed : {old mid new : Option (List ℕ)} {r : Result (Unit {0}) WriteError} {e : WriteError} (n i : ℕ) → i < n → Appends old mid (zeros i)
    → Writes (λ w. w) (Exactly (0x00 ∷ [])) ⊥ mid new r → r ≡ Err e → WroteOf ⊥ (zeros n) old new (Err e)
zero_failed {old} {mid} {new} {r} {e} n i h s w is =
    let failed : WroteOf ⊥ (0x00 ∷ []) mid new (Err e) = subst (λ x. WroteOf ⊥ (0x00 ∷ []) mid new x) is (zero_octet w) in
    let before : WroteOf ⊥ (zeros i) old mid (Ok tt) = record { done = s } in
    wrote_same (zeros_join n i h) (wrote_after before (wrote_no_further (zeros (n - (i + 1))) failed))

-- ---- nulls

pub nulls_all : (n : ℕ) → NullsMean n ≡ NullsMean (n - 0)
nulls_all n = let e : n ≡ n - 0 = omega arith in ap NullsMean e

pub nulls_next : (n i : ℕ) → i < n → NullsMean (n - i) ≡ Then NullMeans (NullsMean (n - (i + 1)))
nulls_next n i h = let e : n - i ≡ suc (n - (i + 1)) = omega (arith, h) in ap NullsMean e

pub nulls_end : (n i : ℕ) → n ≤ i → NullsMean (n - i) ≡ NoValues
nulls_end n i h = let e : n - i ≡ 0 = omega (arith, h) in ap NullsMean e

pub null_one : IsOne NullMeans
null_one = (primitive_lawful null_tag Ber (Exactly_lawful [] AreOctets-nil)).one

pub null_written : {old new : Option (List ℕ)} {r : Result (Unit {0}) WriteError} (t : Tag) → t ≡ null_tag
    → Writes (λ (e : Encoded). e.octets) (ValueMeans t (primitive_meaning t) (Exactly [])) ⊥ old new r → WritesEncoding NullMeans ⊥ old new r
null_written {old} {new} {r} t is w = λ e m.
    let written : Writes (λ (e : Encoded). e.octets) NullMeans ⊥ old new r =
    subst (λ t. Writes (λ (e : Encoded). e.octets) (ValueMeans t (primitive_meaning t) (Exactly [])) ⊥ old new r) is w in
    wrote_what_is_meant NullMeans null_one.same (λ (e : Encoded). e.octets) ⊥ e old new r m written

abbrev null : Encoded
null = primitive_encoded null_tag []

null_size : length null.octets ≡ 2
unfolding definite_length identifier
null_size = refl

null_is_value : IsValueTag null_tag
null_is_value = record { fits = omega arith; no_end = λ e. let five : 5 ≡ 0 = ap (λ (t : Tag). t.number) e in cc }

abbrev nulls : ℕ → Encoded
nulls zero = nothing
nulls (suc n) = join null (nulls n)

nulls_mean : (n : ℕ) → NullsMean n (Ok (nulls n))
nulls_mean zero = refl
nulls_mean (suc n) = (null, nulls n, primitive_means null_tag (Exactly []) [] refl (omega arith) null_is_value, nulls_mean n, refl)

nulls_size : (n : ℕ) → length (nulls n).octets ≡ n * 2
nulls_size zero = refl
nulls_size (suc n) = omega (arith, length-append null.octets (nulls n).octets, null_size, nulls_size n)

pub nulls_fit : (n len : ℕ) → len ≡ n * 2 → n * 2 < 2 ^ 64 → SizeOfValues (Joined (NullsMean n)) ⊥ (Ok len)
nulls_fit n len is fits = (nulls n, (nulls_mean n, omega (arith, nulls_size n, fits)), is ∙ sym (nulls_size n))

pub nulls_overflow : (n : ℕ) → 2 ^ 64 ≤ n * 2 → RefusesBy (Joined (NullsMean n)) ⊥ SizeOverflow
nulls_overflow n over = record { meant = λ ne. inr (refl, (nulls n, nulls_mean n, omega (arith, nulls_size n, over))); lacking = λ e. cc }
