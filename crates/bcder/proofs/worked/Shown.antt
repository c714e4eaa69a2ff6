-- What reading a row shows of the definitions.
use Rattle.std.proofs.Common.{◌≡◌, ℕ, Bool, true, false, cond, ltb, List, [], ◌∷◌, ◌++◌, Some, None, refl, sym, ap, subst, ◌∙◌, append-nil}
use Rattle.std.proofs.lemmas.Bool.{ltb-true}
use Rattle.bcder.specs.declared.mode.Mode.{Mode}
use Rattle.bcder.specs.declared.mode.Mode.TheVariants.{Ber, Cer, Der}
use Rattle.bcder.specs.declared.length.Length.{Length}
use Rattle.bcder.specs.declared.length.Length.TheVariants.{Definite}
use Rattle.bcder.specs.x690.Identifier.{AreOctets, Tag, IsTag, identifier}
use Rattle.bcder.specs.x690.Length.{IsDefiniteLength, AreLengthOctets, IsEndOfContents}
use Rattle.bcder.specs.x690.Tree.{Tree, Trees}
use Rattle.bcder.specs.x690.Encoding.{IsEncoding, AreEncodings}
use Rattle.bcder.specs.steps.Reading.{read_identifier, read_length, read_end, read_list, read_tree}
use Rattle.bcder.specs.laws.Octets.{AreOctets-nil, AreOctets-cons}
use Rattle.bcder.specs.laws.Identifiers.{read_identifier-identifier}
use Rattle.bcder.specs.laws.Lengths.{read_length-tells, read_end-complete}
use Rattle.bcder.specs.laws.Complete.{tree_complete}
use Rattle.bcder.specs.laws.Sound.{none_is, length_sound, end_sound}
use Rattle.bcder.specs.laws.Stands.{tree_sound, list_sound, list_complete}

-- whether each number of a row is an octet
abbrev pub are_octets : List ℕ → Bool
are_octets [] = true
are_octets (b ∷ w) = cond (ltb b 256) (are_octets w) false

both : (a b : Bool) → cond a b false ≡ true → (a ≡ true) × (b ≡ true)
both true b e = (refl, e)
both false b e = cc

octets : (w : List ℕ) → are_octets w ≡ true → AreOctets w
octets [] e = AreOctets-nil
octets (b ∷ w) e = let h = both (ltb b 256) (are_octets w) e in AreOctets-cons b w (ltb-true b 256 h.0) (octets w h.1)

-- ---- identifier octets

-- no identifier octets stand at the front
pub record NoIdentifier (w : List ℕ) : Type 0 where
  pub none : (t : Tag) (f : Bool) (x : List ℕ) → IsTag t → w ≡ identifier t f ++ x → ⊥

pub no_identifier : {w : List ℕ} → read_identifier w ≡ None → NoIdentifier w
no_identifier {w} e = record { none = λ t f x h s. none_is _ (sym e ∙ ap read_identifier s ∙ read_identifier-identifier t f x h) }

-- ---- length octets

-- no length octets stand at the front
abbrev NoLength : Mode → List ℕ → Type 0
NoLength mode w = (len : Length) (v x : List ℕ) → AreLengthOctets mode len v → w ≡ v ++ x → ⊥

no_length : (mode : Mode) (w : List ℕ) → read_length mode w ≡ None → NoLength mode w
no_length mode w e len v x h s = none_is _ (sym e ∙ ap (read_length mode) s ∙ read_length-tells mode len v x h)

tells : (mode : Mode) (n : ℕ) (w : List ℕ) → are_octets w ≡ true → read_length mode w ≡ Some (Definite n, []) → IsDefiniteLength mode n w
tells mode n w o e =
    let d = length_sound mode w (Definite n, []) (octets w o) e in
    subst (IsDefiniteLength mode n) (sym (d.is ∙ append-nil d.octets)) d.tells

-- w are length octets of n in all sets of rules
pub record TellsInAll (n : ℕ) (w : List ℕ) : Type 0 where
  pub ber : IsDefiniteLength Ber n w
  pub cer : IsDefiniteLength Cer n w
  pub der : IsDefiniteLength Der n w

pub tells_in_all : {n : ℕ} {w : List ℕ} → are_octets w ≡ true → read_length Ber w ≡ Some (Definite n, []) → read_length Cer w ≡ Some (Definite n, [])
    → read_length Der w ≡ Some (Definite n, []) → TellsInAll n w
tells_in_all {n} {w} o b c d = record { ber = tells Ber n w o b; cer = tells Cer n w o c; der = tells Der n w o d }

-- in BER alone; elsewhere nothing at the front of w is length octets
pub record TellsInBer (n : ℕ) (w : List ℕ) : Type 0 where
  pub ber : IsDefiniteLength Ber n w
  pub cer : NoLength Cer w
  pub der : NoLength Der w

pub tells_in_ber : {n : ℕ} {w : List ℕ} → are_octets w ≡ true → read_length Ber w ≡ Some (Definite n, []) → read_length Cer w ≡ None
    → read_length Der w ≡ None → TellsInBer n w
tells_in_ber {n} {w} o b c d = record { ber = tells Ber n w o b; cer = no_length Cer w c; der = no_length Der w d }

pub record TellsInNone (w : List ℕ) : Type 0 where
  pub ber : NoLength Ber w
  pub cer : NoLength Cer w
  pub der : NoLength Der w

pub tells_in_none : {w : List ℕ} → read_length Ber w ≡ None → read_length Cer w ≡ None → read_length Der w ≡ None → TellsInNone w
tells_in_none {w} b c d = record { ber = no_length Ber w b; cer = no_length Cer w c; der = no_length Der w d }

-- ---- end-of-contents octets

-- no end-of-contents octets stand at the front
abbrev NoEnd : Mode → List ℕ → Type 0
NoEnd mode w = (v x : List ℕ) → IsEndOfContents mode v → w ≡ v ++ x → ⊥

no_end : (mode : Mode) (w : List ℕ) → read_end mode w ≡ None → NoEnd mode w
no_end mode w e v x h s = none_is _ (sym e ∙ ap (read_end mode) s ∙ read_end-complete mode v x h)

ends : (mode : Mode) (w : List ℕ) → are_octets w ≡ true → read_end mode w ≡ Some [] → IsEndOfContents mode w
ends mode w o e =
    let d = end_sound mode w [] (octets w o) e in
    subst (IsEndOfContents mode) (sym (d.is ∙ append-nil d.marker)) d.is_end

-- w are end-of-contents octets in all sets of rules
pub record EndsInAll (w : List ℕ) : Type 0 where
  pub ber : IsEndOfContents Ber w
  pub cer : IsEndOfContents Cer w
  pub der : IsEndOfContents Der w

pub ends_in_all : {w : List ℕ} → are_octets w ≡ true → read_end Ber w ≡ Some [] → read_end Cer w ≡ Some [] → read_end Der w ≡ Some [] → EndsInAll w
ends_in_all {w} o b c d = record { ber = ends Ber w o b; cer = ends Cer w o c; der = ends Der w o d }

-- in BER alone; elsewhere nothing at the front of w is end-of-contents octets
pub record EndsInBer (w : List ℕ) : Type 0 where
  pub ber : IsEndOfContents Ber w
  pub cer : NoEnd Cer w
  pub der : NoEnd Der w

pub ends_in_ber : {w : List ℕ} → are_octets w ≡ true → read_end Ber w ≡ Some [] → read_end Cer w ≡ None → read_end Der w ≡ None → EndsInBer w
ends_in_ber {w} o b c d = record { ber = ends Ber w o b; cer = no_end Cer w c; der = no_end Der w d }

pub record EndsInNone (w : List ℕ) : Type 0 where
  pub ber : NoEnd Ber w
  pub cer : NoEnd Cer w
  pub der : NoEnd Der w

pub ends_in_none : {w : List ℕ} → read_end Ber w ≡ None → read_end Cer w ≡ None → read_end Der w ≡ None → EndsInNone w
ends_in_none {w} b c d = record { ber = no_end Ber w b; cer = no_end Cer w c; der = no_end Der w d }

-- ---- values

-- no front of the octets is an encoding
abbrev NoValue : Mode → List ℕ → Type 0
NoValue mode w = (t : Tree) (v x : List ℕ) → IsEncoding mode t v → w ≡ v ++ x → ⊥

no_value : (mode : Mode) (w : List ℕ) → read_tree mode w ≡ None → NoValue mode w
no_value mode w e t v x h s = none_is _ (sym e ∙ ap (read_tree mode) s ∙ tree_complete mode t v x h)

encodes : (mode : Mode) (t : Tree) (w : List ℕ) → are_octets w ≡ true → read_tree mode w ≡ Some (t, []) → IsEncoding mode t w
encodes mode t w o e =
    let d = tree_sound mode w (t, []) (octets w o) e in
    subst (IsEncoding mode t) (sym (d.is ∙ append-nil d.front)) d.is_encoding

-- w is an encoding of t in all sets of rules
pub record TakenInAll (w : List ℕ) (t : Tree) : Type 0 where
  pub ber : IsEncoding Ber t w
  pub cer : IsEncoding Cer t w
  pub der : IsEncoding Der t w

pub taken_in_all : {w : List ℕ} {t : Tree} → are_octets w ≡ true → read_tree Ber w ≡ Some (t, []) → read_tree Cer w ≡ Some (t, [])
    → read_tree Der w ≡ Some (t, []) → TakenInAll w t
taken_in_all {w} {t} o b c d = record { ber = encodes Ber t w o b; cer = encodes Cer t w o c; der = encodes Der t w o d }

-- in BER and CER; in DER no front of w is an encoding
pub record TakenInBerAndCer (w : List ℕ) (t : Tree) : Type 0 where
  pub ber : IsEncoding Ber t w
  pub cer : IsEncoding Cer t w
  pub der : NoValue Der w

pub taken_in_ber_and_cer : {w : List ℕ} {t : Tree} → are_octets w ≡ true → read_tree Ber w ≡ Some (t, []) → read_tree Cer w ≡ Some (t, [])
    → read_tree Der w ≡ None → TakenInBerAndCer w t
taken_in_ber_and_cer {w} {t} o b c d = record { ber = encodes Ber t w o b; cer = encodes Cer t w o c; der = no_value Der w d }

pub record TakenInBerAndDer (w : List ℕ) (t : Tree) : Type 0 where
  pub ber : IsEncoding Ber t w
  pub cer : NoValue Cer w
  pub der : IsEncoding Der t w

pub taken_in_ber_and_der : {w : List ℕ} {t : Tree} → are_octets w ≡ true → read_tree Ber w ≡ Some (t, []) → read_tree Cer w ≡ None
    → read_tree Der w ≡ Some (t, []) → TakenInBerAndDer w t
taken_in_ber_and_der {w} {t} o b c d = record { ber = encodes Ber t w o b; cer = no_value Cer w c; der = encodes Der t w o d }

pub record TakenInBer (w : List ℕ) (t : Tree) : Type 0 where
  pub ber : IsEncoding Ber t w
  pub cer : NoValue Cer w
  pub der : NoValue Der w

pub taken_in_ber : {w : List ℕ} {t : Tree} → are_octets w ≡ true → read_tree Ber w ≡ Some (t, []) → read_tree Cer w ≡ None
    → read_tree Der w ≡ None → TakenInBer w t
taken_in_ber {w} {t} o b c d = record { ber = encodes Ber t w o b; cer = no_value Cer w c; der = no_value Der w d }

pub record TakenInNone (w : List ℕ) : Type 0 where
  pub ber : NoValue Ber w
  pub cer : NoValue Cer w
  pub der : NoValue Der w

pub taken_in_none : {w : List ℕ} → read_tree Ber w ≡ None → read_tree Cer w ≡ None → read_tree Der w ≡ None → TakenInNone w
taken_in_none {w} b c d = record { ber = no_value Ber w b; cer = no_value Cer w c; der = no_value Der w d }

-- ---- lists of values

-- the octets are no list of values
abbrev NoValues : Mode → List ℕ → Type 0
NoValues mode w = (ts : Trees) → AreEncodings mode ts w → ⊥

no_values : (mode : Mode) (w : List ℕ) → read_list mode false w ≡ None → NoValues mode w
no_values mode w e ts h = none_is _ (sym e ∙ list_complete mode w ts h)

encode : (mode : Mode) (ts : Trees) (w : List ℕ) → are_octets w ≡ true → read_list mode false w ≡ Some (ts, []) → AreEncodings mode ts w
encode mode ts w o e = list_sound mode w ts [] (octets w o) e

-- w are the encodings of ts in all sets of rules
pub record ListedInAll (w : List ℕ) (ts : Trees) : Type 0 where
  pub ber : AreEncodings Ber ts w
  pub cer : AreEncodings Cer ts w
  pub der : AreEncodings Der ts w

pub listed_in_all : {w : List ℕ} {ts : Trees} → are_octets w ≡ true → read_list Ber false w ≡ Some (ts, []) → read_list Cer false w ≡ Some (ts, [])
    → read_list Der false w ≡ Some (ts, []) → ListedInAll w ts
listed_in_all {w} {ts} o b c d = record { ber = encode Ber ts w o b; cer = encode Cer ts w o c; der = encode Der ts w o d }

pub record ListedInNone (w : List ℕ) : Type 0 where
  pub ber : NoValues Ber w
  pub cer : NoValues Cer w
  pub der : NoValues Der w

pub listed_in_none : {w : List ℕ} → read_list Ber false w ≡ None → read_list Cer false w ≡ None → read_list Der false w ≡ None → ListedInNone w
listed_in_none {w} b c d = record { ber = no_values Ber w b; cer = no_values Cer w c; der = no_values Der w d }
