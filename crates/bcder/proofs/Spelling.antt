-- Octets put together for the components of a text.
use Rattle.std.proofs.Common.{◌≡◌, ℕ, List, [], ◌∷◌, ◌++◌, refl, ap, ◌∙◌, append_assoc, inl, inr}
use Rattle.bcder.specs.x690.ObjectIdentifier.{IsSubidentifier}
use Rattle.bcder.specs.calls.Identifiers.{between_dots, IsComponentText, IsNoComponent, IsTextOf, MayBegin}
use Rattle.bcder.specs.calls.Identifiers.{RefusesTexts, RefusesText, ReadsParts, RefusesParts}
use Rattle.bcder.specs.calls.Identifiers.RefusesTexts.{other_is_none, no_memory}
use Rattle.bcder.specs.declared.oid.text.OidError.{OidError}
use Rattle.bcder.specs.declared.oid.text.OidError.TheVariants.{NotInteger, NoMemory}
use Rattle.bcder.specs.steps.Pushed.{AppendsSubidentifier, AreSpelled, RefusesOthers}

-- octets that spell no texts
pub spelled_none : AreSpelled [] []
spelled_none = ([], tt, refl)

-- the octets of a text, before those of the texts after it
pub spelled_more : (t : List ℕ) (ts : List (List ℕ)) (n : ℕ) (v w : List ℕ) → IsComponentText t n → IsSubidentifier n v → AreSpelled ts w
    → AreSpelled (t ∷ ts) (v ++ w)
spelled_more t ts n v w c s (ns, texts, octets) = (n ∷ ns, (c, texts), (v, w, s, octets, refl))

-- why texts are refused, those behind a component are
abbrev pub RefusedWith : List (List ℕ) → List (List ℕ) → Type 0
RefusedWith us all = (e : OidError) → RefusesOthers us e → RefusesOthers all e

refused_behind : (t : List ℕ) (ts : List (List ℕ)) (n : ℕ) → IsComponentText t n → RefusedWith ts (t ∷ ts)
refused_behind t ts n c e (inl h) = inl (h.0, inr h.1)
refused_behind t ts n c e (inr (h, ns, texts)) = inr (h, n ∷ ns, (c, texts))

module _ (all ts us : List (List ℕ)) (t : List ℕ) (split : us ≡ t ∷ ts) where
  -- one text is none
  pub refused_here : IsNoComponent t → RefusedWith us all → RefusesOthers all NotInteger
  refused_here none refused = refused NotInteger (rw split (inl (refl, inl none)))

  -- one text is a component
  pub refused_later : (n : ℕ) → IsComponentText t n → RefusedWith us all → RefusedWith ts all
  refused_later n c refused e h = refused e (rw split (refused_behind t ts n c e h))

  module _ (old mid new : List ℕ) (n : ℕ) where
    -- one text more
    pub pushed_more : IsComponentText t n → (pushed : AppendsSubidentifier mid new n)
        → (done : (v : List ℕ) × (mid ≡ old ++ v) × ((w : List ℕ) → AreSpelled us w → AreSpelled all (v ++ w)) × RefusedWith us all)
        → (v : List ℕ) × (new ≡ old ++ v) × ((w : List ℕ) → AreSpelled ts w → AreSpelled all (v ++ w)) × RefusedWith ts all
    pushed_more c (x, s, e) (v, d, goes, refused) = (
      v ++ x,
      e ∙ ap (λ l. l ++ x) d ∙ append_assoc old v x,
      λ w h. rw append_assoc (goes (x ++ w) (rw split (spelled_more t ts n x w c s h))),
      refused_later n c refused,
    )

-- why the texts after the first two are refused, all are
pub others_refused : {a b : List ℕ} {ts : List (List ℕ)} {m n : ℕ} {e : OidError} → IsComponentText a m → IsComponentText b n → MayBegin m n
    → RefusesOthers ts e → RefusesTexts a b ts e
others_refused {m = m} {n = n} s t may (inl h) = other_is_none m n h.0 s t may h.1
others_refused {m = m} {n = n} s t may (inr (h, ns, texts)) = no_memory m n ns h s t may texts

-- the texts of a refusal
module _ (text a b : List ℕ) (us ts : List (List ℕ)) (split : between_dots text ≡ a ∷ us) (again : us ≡ b ∷ ts) where
  whole : between_dots text ≡ a ∷ b ∷ ts
  whole = split ∙ ap (λ l. a ∷ l) again

  pub refuses : (e : OidError) → RefusesTexts a b ts e → RefusesText text e
  refuses e r = rw whole r

no_memory_of : (parts : List (List ℕ)) (w : List ℕ) → ReadsParts parts w → RefusesParts parts NoMemory
no_memory_of [] w h = absurd h
no_memory_of (a ∷ []) w h = absurd h
no_memory_of (a ∷ b ∷ ts) w h = no_memory h.first h.second h.others refl h.first_text h.second_text h.may_begin h.other_texts

-- there may be no memory for the octets of an identifier
pub no_memory_for : (text w : List ℕ) → IsTextOf text w → RefusesText text NoMemory
no_memory_for text w h = no_memory_of (between_dots text) w h
