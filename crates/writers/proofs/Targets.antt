-- What was written of a number.
use Rattle.std.proofs.Common.{◌≡◌, ℕ, List, Option, refl, subst, inl, inr}
use Rattle.std.specs.Prelude.{ℤ, Result, Ok, Err, IfErr}
use Rattle.std.specs.Io.KnownBytes.{Appends}
use Rattle.std.specs.declared.string.ParseError.{Infallible}
use Rattle.bcder.specs.declared.encode.error.EncodeError.{EncodeError}
use Rattle.bcder.specs.declared.encode.error.EncodeError.TheVariants.{NoMemory, EndOfValueTag, LengthTooLarge, SizeOverflow}
use Rattle.bcder.specs.declared.encode.error.EncodeError.TheVariants.{CapturedMode, LongCerBitString, LongCerPrimitive}
use Rattle.bcder.specs.declared.encode.error.WriteError.{WriteError}
use Rattle.bcder.specs.declared.encode.error.WriteError.TheVariants.{Refused, Target}
use Rattle.bcder.specs.declared.decode.error.DecodeError.{DecodeError}
use Rattle.bcder.specs.declared.decode.error.DecodeError.TheVariants as decoding
use Rattle.bcder.specs.calls.Cause.{cause_of, of_source}
use Rattle.bcder.specs.declared.mode.Mode.{Mode}
use Rattle.bcder.specs.declared.encode.primitive.Primitive.{Primitive}
use Rattle.bcder.specs.x690.Integer.{integer_octets}
use Rattle.bcder.specs.calls.Meaning.{Encoded, Meaning, Exactly, ValueMeans, primitive_meaning}
use Rattle.bcder.proofs.Lemmas.{written_as_meant}
use Rattle.bcder.specs.calls.Encoders.{Writes, RefusesBy}
use Rattle.writers.specs.Numbers.{IsOfTarget}

-- one that means octets refuses none
never_refused : (M : Meaning → Type 0) (a : Encoded) → ((m : Meaning) → M m → m ≡ Ok a) → (e : EncodeError) → RefusesBy M ⊥ e → ⊥
never_refused M a only NoMemory r = r.lacking refl
never_refused M a only EndOfValueTag r = (let h = only (Err EndOfValueTag) (r.meant (λ e. cc)) in cc)
never_refused M a only LengthTooLarge r = (let h = only (Err LengthTooLarge) (r.meant (λ e. cc)) in cc)
never_refused M a only SizeOverflow r = (let h = only (Err SizeOverflow) (r.meant (λ e. cc)) in cc)
never_refused M a only CapturedMode r = (let h = only (Err CapturedMode) (r.meant (λ e. cc)) in cc)
never_refused M a only LongCerBitString r = (let h = only (Err LongCerBitString) (r.meant (λ e. cc)) in cc)
never_refused M a only LongCerPrimitive r = (let h = only (Err LongCerPrimitive) (r.meant (λ e. cc)) in cc)

-- what the encoder of a number means
abbrev pub number_means : {N : Type 0} → (N → ℤ) → Mode → Primitive N → Meaning → Type 0
number_means value mode p = ValueMeans p.tag (primitive_meaning p.tag) (Exactly (integer_octets (value p.prim)))

module _ {N : Type 0} (value : N → ℤ) (mode : Mode) (p q : Primitive N) (same : p ≡ q) (old new : Option (List ℕ)) (a : Encoded)
    (only : (m : Meaning) → number_means value mode q m → m ≡ Ok a) where
  only_of : (m : Meaning) → number_means value mode p m → m ≡ Ok a
  only_of m h = only m (subst (λ z. number_means value mode z m) same h)

  pub refused_target : (r : Result (Unit {0}) WriteError) → Writes (λ (e : Encoded). e.octets) (number_means value mode p) ⊥ old new r → IfErr r IsOfTarget
  refused_target (Ok u) w = tt
  refused_target (Err (Target e)) w = tt
  refused_target (Err (Refused e)) h = elim h.went [
    | inl w ↦ absurd (w.2.done.1)
    | inr n ↦ absurd (never_refused (number_means value mode p) a only_of n.0 n.2)
  ]

  pub written : Writes (λ (e : Encoded). e.octets) (number_means value mode p) ⊥ old new (Ok tt) → Appends old new a.octets
  written w = written_as_meant (number_means value mode p) ⊥ old new a only_of w

nothing_is_infallible : Infallible → ⊥
nothing_is_infallible e = elim e [ ]

-- a source that can't fail didn't
pub no_source_error : (e : DecodeError Infallible) → cause_of e ≡ of_source → ⊥
no_source_error (decoding.Source e) h = nothing_is_infallible e
no_source_error (decoding.Content e p) h = cc
no_source_error decoding.NoMemory h = cc
