-- What the plain reader's answers say of the octets.
use Rattle.std.proofs.Common.{◌≡◌, ◌↔◌, ℕ, ◌≤◌, Bool, true, false, IsTrue, IsFalse, List, [], ◌++◌, length, Option, Some}
use Rattle.std.proofs.Common.{None, option_map, MatchOption, IfSome, IfNone, refl, sym, ap, subst, ◌∙◌}
use Rattle.bcder.specs.declared.mode.Mode.{Mode}
use Rattle.bcder.specs.declared.length.Length.{Length}
use Rattle.bcder.specs.x690.Identifier.{AreOctets, Tag}
use Rattle.bcder.specs.x690.Length.{IsEndOfContents}
use Rattle.bcder.specs.x690.Tree.{Trees}
use Rattle.bcder.specs.x690.Encoding.{IsHeader, AreEncodings}
use Rattle.bcder.specs.calls.Content.{length_of}
use Rattle.bcder.specs.steps.Reading.{read_header, read_end, read_list, after_list}
use Rattle.bcder.specs.laws.Complete.{header_complete}
use Rattle.bcder.specs.laws.Lengths.{read_end-complete}
use Rattle.bcder.specs.laws.Sound.{end_sound, mapped, none_is}
use Rattle.bcder.specs.laws.Stands.{header_sound, list_sound, list_complete}

-- ---- headers

abbrev pub HeaderFound : Mode → Tag → Bool → Length → List ℕ → List ℕ → Type 0
HeaderFound mode t f len octets rest = (w : List ℕ) × IsHeader mode t f len w × (octets ≡ w ++ rest)

abbrev pub NoHeader : Mode → List ℕ → Type 0
NoHeader mode octets = (t : Tag) (form : Bool) (n : Option ℕ) (w x : List ℕ) → IsHeader mode t form (length_of n) w → octets ≡ w ++ x → ⊥

pub header_found : (mode : Mode) (t : Tag) (f : Bool) (len told_len : Length) (octets rest : List ℕ) → AreOctets octets
    → read_header mode octets ≡ Some (record { tag = t; form = f; len = len }, rest) → told_len ≡ len → HeaderFound mode t f told_len octets rest
header_found mode t f len told_len octets rest o e same =
    let d = header_sound mode octets (record { tag = t; form = f; len = len }, rest) o e in
    (d.octets, subst (λ l. IsHeader mode t f l d.octets) (sym same) d.is_header, d.is)

pub no_header_found : (mode : Mode) (octets : List ℕ) → read_header mode octets ≡ None → NoHeader mode octets
no_header_found mode octets e t form n w x h is = none_is _ (sym e ∙ ap (read_header mode) is ∙ header_complete mode t form (length_of n) w x h)

-- ---- ends

abbrev pub EndFound : Mode → List ℕ → List ℕ → Type 0
EndFound mode octets rest = (w : List ℕ) × IsEndOfContents mode w × (octets ≡ w ++ rest)

abbrev pub NoEnd : Mode → List ℕ → Type 0
NoEnd mode octets = (w x : List ℕ) → IsEndOfContents mode w → octets ≡ w ++ x → ⊥

pub end_found : {X : Type 0} (r : Option X) (now : X → List ℕ) (mode : Mode) (octets : List ℕ) → AreOctets octets
    → MatchOption r (read_end mode octets ≡ None) (λ x. read_end mode octets ≡ Some (now x)) → IfSome r (λ x. EndFound mode octets (now x))
end_found None now mode octets o h = tt
end_found (Some x) now mode octets o h = let d = end_sound mode octets (now x) o h in (d.marker, d.is_end, d.is)

pub no_end_found : {X : Type 0} (r : Option X) (now : X → List ℕ) (mode : Mode) (octets : List ℕ)
    → MatchOption r (read_end mode octets ≡ None) (λ x. read_end mode octets ≡ Some (now x)) → IfNone r (NoEnd mode octets)
no_end_found None now mode octets h = λ w x end is. none_is _ (sym h ∙ ap (read_end mode) is ∙ read_end-complete mode w x end)
no_end_found (Some x) now mode octets h = tt

-- ---- lists

pub list_is_found : (b : Bool) (mode : Mode) (octets : List ℕ) (n : ℕ) → AreOctets octets → length octets ≤ n
    → (IsTrue b → after_list mode false octets ≡ Some []) → (IsFalse b → length octets ≤ n → after_list mode false octets ≡ None)
    → IsTrue b ↔ (ts : Trees) × AreEncodings mode ts octets
unfolding after_list
list_is_found false mode octets n o l list none =
    (λ e. cc, λ ts. absurd (none_is [] (sym (none refl l) ∙ ap (option_map (λ r. r.1)) (list_complete mode octets ts.0 ts.1))))
list_is_found true mode octets n o l list none =
    (λ e. (let m = mapped (λ r. r.1) (read_list mode false octets) [] (list e) in (m.0.0, list_sound mode octets m.0.0 m.0.1 o m.1)), λ ts. refl)
