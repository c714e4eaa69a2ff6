-- What is known of what a relation says is known of it with its law.
use Rattle.std.proofs.Common.{ℕ, List, Option, inl, inr}
use Rattle.std.specs.Prelude.{Result, Ok, Err}
use Rattle.bcder.specs.declared.encode.error.EncodeError.{EncodeError}
use Rattle.bcder.specs.declared.encode.error.WriteError.{WriteError}
use Rattle.bcder.specs.declared.mode.Mode.{Mode}
use Rattle.bcder.specs.calls.Encoders.{RefusesBy, SizeOfValues, Writes}
use Rattle.bcder.specs.calls.Meaning.{Encoded, Meaning, IsLawful}
use Rattle.asn1.specs.Lawfully.{Lawfully}

module _ (mode : Mode) (M : Meaning → Type 0) (l : IsLawful mode M) (lacks : Type 0) where
  refuses : (e : EncodeError) → RefusesBy M lacks e → RefusesBy (Lawfully mode M) lacks e
  refuses e r = record { meant = λ n. record { is = r.meant n; law = l }; lacking = r.lacking }

  pub size_lawful : (r : Result ℕ EncodeError) → SizeOfValues M lacks r → SizeOfValues (Lawfully mode M) lacks r
  size_lawful (Ok n) (e, m, q) = (e, record { is = m; law = l }, q)
  size_lawful (Err e) r = refuses e r

  pub written_lawful : (old new : Option (List ℕ)) (r : Result (Unit {0}) WriteError) → Writes (λ (e : Encoded). e.octets) M lacks old new r
      → Writes (λ (e : Encoded). e.octets) (Lawfully mode M) lacks old new r
  written_lawful old new r h = record {
    went = elim h.went [
      | inl w ↦ inl (w.0, record { is = w.1; law = l }, w.2)
      | inr w ↦ inr (w.0, w.1, refuses w.0 w.2, w.3)
    ];
  }
