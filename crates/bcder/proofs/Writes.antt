-- What is written of a constructed value is an encoding of it; and where want of memory is told.
use Rattle.std.proofs.Common.{◌≡◌, ℕ, ◌++◌, Bool, true, false, List, Option, ap, sym, ◌∙◌, append-nil, subst, inl, inr}
use Rattle.std.specs.Prelude.{Result, Ok, Err, IfErr, length, if◌then◌else◌}
use Rattle.std.specs.Borrow.{MutBor}
use denote.Triple.Both.{Both}
use Rattle.bcder.specs.declared.encode.error.EncodeError.{EncodeError}
use Rattle.bcder.specs.declared.encode.error.EncodeError.TheVariants.{NoMemory}
use Rattle.bcder.specs.declared.encode.error.WriteError.{WriteError}
use Rattle.bcder.specs.declared.encode.error.WriteError.TheVariants.{Refused, Target}
use Rattle.bcder.specs.declared.mode.Mode.{Mode}
use Rattle.bcder.specs.x690.Identifier.{Tag}
use Rattle.bcder.specs.x690.Tree.{Tree, constructed, no_trees, ◌∷ₜ◌}
use Rattle.bcder.specs.x690.Encoding.{IsEncoding, AreEncodings}
use Rattle.bcder.specs.calls.Meaning.{Encoded, Meaning, ValueMeans, constructed_meaning, constructed_encoded, fits_enclosed, enclosed_refusal}
use Rattle.bcder.specs.calls.Encoders.{Writes}
use Rattle.bcder.specs.calls.Written.{WritesEncodings, EncodesConstructed, AppendsConstructed, WroteConstructed}

pub one_of : (mode : Mode) (t : Tree) (w : List ℕ) → AreEncodings mode (t ∷ₜ no_trees) w → IsEncoding mode t w
one_of mode t w h = subst (IsEncoding mode t) (sym (h.4 ∙ ap (λ z. h.0 ++ z) h.3 ∙ append-nil h.0)) h.2

constructed_is : (t : Tag) (mode : Mode) (x e : Encoded) (b : Bool) → Ok e ≡ (if b then Ok (constructed_encoded mode t x) else Err (enclosed_refusal mode))
    → AreEncodings mode e.values e.octets → EncodesConstructed t mode e.octets
constructed_is t mode x e false eq h = cc
constructed_is t mode x e true eq h =
    let same : e ≡ constructed_encoded mode t x = cc in
    record { values = x.values; encodes = one_of mode (constructed t x.values) e.octets (subst (λ (z : Encoded). AreEncodings mode z.values e.octets) same h) }

module _ (t : Tag) (mode : Mode) (P : Meaning → Type 0) where
  means_constructed : WritesEncodings mode (ValueMeans t (constructed_meaning t mode) P) → (e : Encoded) → ValueMeans t (constructed_meaning t mode) P (Ok e)
      → EncodesConstructed t mode e.octets
  means_constructed encodes e (inl p) = cc
  means_constructed encodes e (inr (v, (Err d, m, eq))) = cc
  means_constructed encodes e (inr (v, (Ok x, m, eq))) =
      constructed_is t mode x e (fits_enclosed mode t (length x.octets)) eq (encodes e (inr (v, (Ok x, m, eq))))

  appends : (lacks : Type 0) (old new : Option (List ℕ)) (r : Result (Unit {0}) WriteError) → WritesEncodings mode (ValueMeans t (constructed_meaning t mode) P)
      → Writes (λ (e : Encoded). e.octets) (ValueMeans t (constructed_meaning t mode) P) lacks old new r → AppendsConstructed t mode old new r
  appends lacks old new (Ok u) encodes h = elim h.went [
    | inl w ↦ (w.0.octets, means_constructed encodes w.0 w.1, w.2.done)
    | inr n ↦ absurd (let e = n.1 in cc)
  ]
  appends lacks old new (Err (Target e)) encodes h = elim h.went [
    | inl w ↦
        let d = w.2.done in
        inr (w.0.octets, means_constructed encodes w.0 w.1, record { front = d.front; rest = d.rest; appends = d.appends; whole = d.whole })
    | inr n ↦ inl n.3
  ]
  appends lacks old new (Err (Refused e)) encodes h = elim h.went [
    | inl w ↦ inr (w.0.octets, means_constructed encodes w.0 w.1, w.2.done.2)
    | inr n ↦ inl n.3
  ]

-- by an encoder whose tag is known
pub wrote_constructed : {W : Type 0} {contents : W → Option (List ℕ)} {target : Both (MutBor W) (MutBor W)} {u : Tag} {mode : Mode}
    {r : Result (Unit {0}) WriteError} (t : Tag) (P : Meaning → Type 0) (lacks : Type 0) → t ≡ u
    → WritesEncodings mode (ValueMeans t (constructed_meaning t mode) P) → Writes (λ (e : Encoded). e.octets) (ValueMeans t (constructed_meaning t mode) P) lacks
    (contents target.entry.now) (contents target.exit.now) r
    → WroteConstructed contents target u mode r
wrote_constructed {contents = contents} {target = target} {mode = mode} {r = r} t P lacks same encodes w =
    subst (λ z. WroteConstructed contents target z mode r) same
    (record { done = appends t mode P lacks (contents target.entry.now) (contents target.exit.now) r encodes w })

-- want of memory is told only where memory may lack
pub wants_where_it_lacks : {A : Type 0} {octets : A → List ℕ} {M : Result A EncodeError → Type 0} {lacks : Type 0} {old new : Option (List ℕ)}
    (r : Result (Unit {0}) WriteError) → Writes octets M lacks old new r → IfErr r (λ e. e ≡ Refused NoMemory → lacks)
wants_where_it_lacks (Ok u) w = tt
wants_where_it_lacks (Err (Target e)) w = λ is. cc
wants_where_it_lacks (Err (Refused e)) h = λ is. elim h.went [
  | inl w ↦ w.2.done.1
  | inr n ↦ n.2.lacking (let at = n.1 in cc)
]
