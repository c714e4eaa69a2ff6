-- The meaning of a value, from what is inside.
use Rattle.std.proofs.Common.{◌≡◌, ◌≢◌, ℕ, ◌+◌, ◌<◌, ◌^◌, List, [], ◌∷◌, ◌++◌, Bool, true, false, length, nat_lt, Ok}
use Rattle.std.proofs.Common.{Err, refl, ap, ◌∙◌, inl, inr, length-append, if◌then◌else◌}
use Rattle.std.proofs.lemmas.Bool.{cases_lt, lt-ltb, le-ltb, ltb-true}
use Rattle.bcder.specs.declared.mode.Mode.{Mode}
use Rattle.bcder.specs.declared.mode.Mode.TheVariants.{Ber, Cer, Der}
use Rattle.bcder.specs.declared.encode.error.EncodeError.TheVariants.{LengthTooLarge}
use Rattle.bcder.specs.declared.length.Length.{Length}
use Rattle.bcder.specs.declared.length.Length.TheVariants.{Definite}
use Rattle.bcder.specs.x690.Identifier.{Tag, identifier, IsValueTag}
use Rattle.bcder.specs.x690.Octets.{definite_length, length_octets, fits_length, header, definite, constructed_length, closing, enclosed, enclosed_size}
use Rattle.bcder.specs.calls.Meaning.{Encoded, Meaning, ContentsMeaning, ValueMeans, primitive_encoded, primitive_meaning}
use Rattle.bcder.specs.calls.Meaning.{constructed_encoded, constructed_meaning, fits_enclosed, enclosed_refusal}
use Rattle.bcder.proofs.Writing.{append_not_nil}

pub primitive_given : (t : Tag) (M : ContentsMeaning → Type 0) (c : List ℕ) → M (Ok c) → length c < 2 ^ 32 → IsValueTag t
    → ValueMeans t (primitive_meaning t) M (Ok (primitive_encoded t c))
primitive_given t M c m fits v =
    let test : nat_lt (length c) (2 ^ 32) ≡ true = lt-ltb _ _ fits in
    inr (v, (Ok c, m, rw test refl))

pub constructed_given : (t : Tag) (mode : Mode) (M : Meaning → Type 0) (x : Encoded) → M (Ok x) → fits_enclosed mode t (length x.octets) ≡ true → IsValueTag t
    → ValueMeans t (constructed_meaning t mode) M (Ok (constructed_encoded mode t x))
constructed_given t mode M x m fits v = inr (v, (Ok x, m, rw fits refl))

pub header-length : (t : Tag) (f : Bool) (len : Length) → length (header t f len) ≡ length (identifier t f) + length (length_octets len)
header-length t f len = length-append (identifier t f) (length_octets len)

pub definite-length : (t : Tag) (f : Bool) (c : List ℕ)
    → length (definite t f c) ≡ length (identifier t f) + length (length_octets (Definite (length c))) + length c
definite-length t f c = length-append (header t f (Definite (length c))) c ∙ ap (λ n. n + length c) (header-length t f (Definite (length c)))

identifier_some : (t : Tag) (f : Bool) → identifier t f ≢ []
unfolding identifier
identifier_some t f =
    elim (cases_lt t.number 31) [
      | inl lt ↦ rw (lt-ltb t.number 31 lt) (λ e. cc)
      | inr le ↦ rw (le-ltb t.number 31 le) (λ e. cc)
    ]

-- a value has octets
pub definite_some : (t : Tag) (f : Bool) (c : List ℕ) → definite t f c ≢ []
definite_some t f c = append_not_nil _ c (append_not_nil _ (length_octets (Definite (length c))) (identifier_some t f))

pub enclosed-length : (mode : Mode) (t : Tag) (b : List ℕ) → length (enclosed mode t b) ≡ enclosed_size mode t (length b)
enclosed-length mode t b =
    length-append (header t true (constructed_length mode (length b)) ++ b) (closing mode)
    ∙ ap (λ n. n + length (closing mode)) (length-append (header t true (constructed_length mode (length b))) b)

-- ---- a primitive value that has an encoding

-- its contents octets
pub record Contents (t : Tag) (M : ContentsMeaning → Type 0) (e : Encoded) : Type 0 where
  pub octets : List ℕ
  pub meant : M (Ok octets)
  pub is : e ≡ primitive_encoded t octets
  pub fits : length octets < 2 ^ 32

contents_at : (t : Tag) (M : ContentsMeaning → Type 0) (w : List ℕ) (e : Encoded) (b : Bool) → M (Ok w) → nat_lt (length w) (2 ^ 32) ≡ b
    → Ok e ≡ (if b then Ok (primitive_encoded t w) else Err LengthTooLarge) → Contents t M e
contents_at t M w e false meant fits eq = cc
contents_at t M w e true meant fits eq = record { octets = w; meant = meant; is = cc; fits = ltb-true _ _ fits }

pub contents_of : (t : Tag) (M : ContentsMeaning → Type 0) (e : Encoded) → ValueMeans t (primitive_meaning t) M (Ok e) → Contents t M e
contents_of t M e (inl p) = cc
contents_of t M e (inr (v, (Err d, _, eq))) = cc
contents_of t M e (inr (v, (Ok w, m, eq))) = contents_at t M w e (nat_lt (length w) (2 ^ 32)) m refl eq

-- ---- a constructed value that has an encoding

-- what it holds
pub record Inside (t : Tag) (mode : Mode) (M : Meaning → Type 0) (e : Encoded) : Type 0 where
  pub values : Encoded
  pub meant : M (Ok values)
  pub is : e ≡ constructed_encoded mode t values
  pub fits : fits_enclosed mode t (length values.octets) ≡ true

inside_at : (t : Tag) (mode : Mode) (M : Meaning → Type 0) (x e : Encoded) (b : Bool) → M (Ok x) → fits_enclosed mode t (length x.octets) ≡ b
    → Ok e ≡ (if b then Ok (constructed_encoded mode t x) else Err (enclosed_refusal mode)) → Inside t mode M e
inside_at t mode M x e false meant fits eq = cc
inside_at t mode M x e true meant fits eq = record { values = x; meant = meant; is = cc; fits = fits }

pub inside_of : (t : Tag) (mode : Mode) (M : Meaning → Type 0) (e : Encoded) → ValueMeans t (constructed_meaning t mode) M (Ok e) → Inside t mode M e
inside_of t mode M e (inl p) = cc
inside_of t mode M e (inr (v, (Err d, _, eq))) = cc
inside_of t mode M e (inr (v, (Ok x, m, eq))) = inside_at t mode M x e (fits_enclosed mode t (length x.octets)) m refl eq

-- its length can be told
pub length_fits : (mode : Mode) (t : Tag) (n : ℕ) → fits_enclosed mode t n ≡ true → fits_length (constructed_length mode n) ≡ true
length_fits Ber t n h = h
length_fits Cer t n h = refl
length_fits Der t n h = h

-- ---- a short primitive value

-- a length below 128 is one octet
pub short_length : (n : ℕ) → n < 128 → definite_length n ≡ n ∷ []
unfolding definite_length
short_length n few = rw (lt-ltb n 128 few) refl

pub short_definite : (t : Tag) (i : ℕ) (w : List ℕ) → identifier t false ≡ i ∷ [] → length w < 128 → definite t false w ≡ i ∷ length w ∷ w
short_definite t i w one few = ap (λ v. (v ++ definite_length (length w)) ++ w) one ∙ ap (λ v. (i ∷ v) ++ w) (short_length (length w) few)
