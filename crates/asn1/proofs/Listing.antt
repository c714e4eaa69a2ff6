-- Items written one after the other.
use Rattle.std.proofs.Common.{◌≡◌, ℕ, List, Option, subst, sym, ap, IsErr, IsErrAnd}
use Rattle.std.specs.Prelude.{Result, Ok, Err}
use Rattle.bcder.specs.declared.encode.error.WriteError.{WriteError}
use Rattle.bcder.specs.calls.Meaning.{Then}
use Rattle.bcder.specs.calls.Meaning.{Encoded, Meaning, IsOne}
use Rattle.bcder.specs.calls.Encoders.{HasEncoding, Writes, WritesEncoding, WroteOf}
use Rattle.bcder.proofs.Lemmas.{wrote_what_is_meant, lacks_more, WrittenSoFar, written_one_more, written_not_one_more}

module _ {M : Meaning → Type 0} (N rest : Meaning → Type 0) (lacks : Type 0) (one : IsOne N) {old now new : Option (List ℕ)} {r : Result (Unit {0}) WriteError}
    (so_far : WrittenSoFar M (Then N rest) old now) (known : HasEncoding M) (w : Writes (λ (e : Encoded). e.octets) N lacks now new r) where
  parts : WritesEncoding N lacks now new r
  parts e m = wrote_what_is_meant _ one.same (λ (e : Encoded). e.octets) _ e _ _ _ m w

  pub written_on : r ≡ Ok tt → WrittenSoFar M rest old new
  written_on i = written_one_more N rest lacks so_far parts i

  pub written_stopped : {L : Type 0} {e : WriteError} → r ≡ Err e → (lacks → L) → (x : Encoded) → M (Ok x) → WroteOf L x.octets old new (Err e)
  written_stopped {L} i f x m = lacks_more L f (written_not_one_more N rest lacks so_far parts i x m)

pub stops : {lacks : Type 0} {w : List ℕ} {a b : Option (List ℕ)} {e : WriteError} (r : Result (Unit {0}) WriteError) → IsErr r × IsErrAnd r (λ d. d ≡ e)
    → WroteOf lacks w a b (Err e) → WroteOf lacks w a b r
stops (Ok u) is_err h = absurd is_err.1
stops {lacks} {w} {a} {b} (Err d) is_err h = subst (λ z. WroteOf lacks w a b z) (sym (ap Err is_err.1)) h
