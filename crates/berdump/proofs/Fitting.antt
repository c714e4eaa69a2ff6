-- What encodings of values go on with.
use Rattle.std.proofs.Common.{◌≡◌, ◌≢◌, ℕ, ◌<◌, ◌≤◌, Bool, true, false, List, [], ◌∷◌, ◌++◌, Option, Some, None, length, get_or, take}
use Rattle.std.proofs.Common.{drop, refl, sym, ap, subst, ◌∙◌, append_assoc, arith, length-append, inl, inr}
use Rattle.std.proofs.lemmas.List.{take_at, drop_at}
use Rattle.std.specs.Borrow.{Bor}
use Rattle.bcder.specs.declared.mode.Mode.{Mode}
use Rattle.bcder.specs.x690.Identifier.{Tag}
use Rattle.bcder.specs.x690.Length.{IsEndOfContents}
use Rattle.bcder.specs.x690.Tree.{Tree, primitive, constructed, no_trees, ◌∷ₜ◌}
use Rattle.bcder.specs.x690.Encoding.{IsHeader, IsFramed, IsEncoding}
use Rattle.bcder.specs.calls.Content.{length_of}
use Rattle.bcder.specs.laws.Complete.{one_header, one_end_of_list}
use Rattle.berdump.specs.declared.opened.Open.{Open}
use Rattle.berdump.specs.declared.opened.Open.TheVariants as level
use Rattle.berdump.proofs.Listing.{first_of}
use Rattle.berdump.specs.Listing.{IsList}
use Rattle.berdump.specs.Opened.{Fits, GoesOn}

-- ---- closing

pub fits_behind : (mode : Mode) (es : List Open) (end after w : List ℕ) → IsEndOfContents mode end → w ≡ end ++ after
    → Fits mode (level.Indefinite ∷ es) w → Fits mode es after
fits_behind mode es end after w i e f =
    let (ts, contents, last, others, encode, is_end, is, fits) = f in
    subst (Fits mode es) (sym (one_end_of_list mode no_trees ts [] contents end last after others refl encode i is_end (sym e ∙ is)).1) fits

pub fits_after : (mode : Mode) (es fs : List Open) (end after w : List ℕ) → 0 < length es → level.Indefinite ≡ get_or es 0 level.Indefinite → fs ≡ drop 1 es
    → IsEndOfContents mode end → w ≡ end ++ after → Fits mode es w → Fits mode fs after
fits_after mode es fs end after w p e d i is f =
    subst (λ z. Fits mode z after) (sym d) (fits_behind mode (drop 1 es) end after w i is (subst (λ z. Fits mode z w) (first_of es level.Indefinite p e) f))

-- ---- the next value

-- octets begin with the encoding of a value, behind which the others fit
pub record Begins (mode : Mode) (es : List Open) (w : List ℕ) : Type 0 where
  pub tree : Tree
  pub first : List ℕ
  pub others : List ℕ
  pub encodes : IsEncoding mode tree first
  pub is : w ≡ first ++ others
  pub fits : Fits mode es others

begins : (mode : Mode) (es : List Open) (w : List ℕ) → GoesOn mode es w → (es ≡ [] → w ≢ []) → Fits mode es w → Begins mode es w
begins mode [] w g n (no_trees, e) = absurd (n refl e)
begins mode [] w g n (t ∷ₜ ts, a) = record { tree = t; first = a.0; others = a.1; encodes = a.2; is = a.4; fits = (ts, a.3) }
begins mode (level.Definite b ∷ es) w g n ((no_trees, e), k) = absurd (g e)
begins mode (level.Definite b ∷ es) w g n ((t ∷ₜ ts, a), k) = record { tree = t; first = a.0; others = a.1; encodes = a.2; is = a.4; fits = ((ts, a.3), k) }
begins mode (level.Indefinite ∷ es) w g n (no_trees, contents, end, others, a, i, e, k) = absurd (g end others i (e ∙ ap (λ z. z ++ (end ++ others)) a))
begins mode (level.Indefinite ∷ es) w g n (t ∷ₜ ts, contents, end, others, a, i, e, k) = record {
  tree = t;
  first = a.0;
  others = a.1 ++ (end ++ others);
  encodes = a.2;
  is = e ∙ ap (λ z. z ++ (end ++ others)) a.4 ∙ append_assoc a.0 a.1 (end ++ others);
  fits = (ts, a.1, end, others, a.3, i, refl, k);
}

-- ---- its header

pub record HasHeader (mode : Mode) (w : List ℕ) : Type 0 where
  pub tag : Tag
  pub form : Bool
  pub len : Option ℕ
  pub header : List ℕ
  pub rest : List ℕ
  pub is_header : IsHeader mode tag form (length_of len) header
  pub is : w ≡ header ++ rest

has_header : (mode : Mode) (t : Tree) (w : List ℕ) → IsEncoding mode t w → HasHeader mode w
has_header mode (primitive t contents) w h =
    record { tag = t; form = false; len = Some (length contents); header = h.1.header; rest = contents; is_header = h.1.is_header; is = h.1.is }
has_header mode (constructed t ts) w h = framed h.2
  where
    framed : IsFramed mode t h.0 w → HasHeader mode w
    framed (inl d) = record { tag = t; form = true; len = Some (length h.0); header = d.header; rest = h.0; is_header = d.is_header; is = d.is }
    framed (inr d) = record { tag = t; form = true; len = None; header = d.header; rest = h.0 ++ d.end; is_header = d.is_header; is = d.is }

pub no_list_without_header : (mode : Mode) (es : List Open) (w : List ℕ) → GoesOn mode es w → (es ≡ [] → w ≢ [])
    → ((t : Tag) (form : Bool) (n : Option ℕ) (h x : List ℕ) → IsHeader mode t form (length_of n) h → w ≡ h ++ x → ⊥) → Fits mode es w → ⊥
no_list_without_header mode es w g n none f =
    let b = begins mode es w g n f in
    let h = has_header mode b.tree b.first b.encodes in
    none h.tag h.form h.len h.header (h.rest ++ b.others) h.is_header (b.is ∙ ap (λ z. z ++ b.others) h.is ∙ append_assoc h.header h.rest b.others)

-- ---- its contents

told_some : (len : Option ℕ) (n : ℕ) → length_of len ≡ length_of (Some n) → len ≡ Some n
told_some None n e = cc
told_some (Some m) n e = let p : m ≡ n = cc in ap Some p

told_none : (len : Option ℕ) → length_of len ≡ (length_of None) → len ≡ None
told_none None e = refl
told_none (Some m) e = cc

-- what stands behind a header
data Stands (mode : Mode) (es : List Open) (form : Bool) (len : Option ℕ) (r : List ℕ) : Type 0 where
  octets : (contents others : List ℕ) → form ≡ false → len ≡ Some (length contents) → r ≡ contents ++ others → Fits mode es others → Stands mode es form len r
  values : (contents others : List ℕ) → form ≡ true → len ≡ Some (length contents) → r ≡ contents ++ others → IsList mode contents → Fits mode es others
      → Stands mode es form len r
  ended : form ≡ true → len ≡ None → Fits mode (level.Indefinite ∷ es) r → Stands mode es form len r

module _ (mode : Mode) (es : List Open) (w r header : List ℕ) (t : Tag) (form : Bool) (len : Option ℕ) (d : IsHeader mode t form (length_of len) header)
    (is : w ≡ header ++ r) where
  same : (u : Tag) (g : Bool) (m : Option ℕ) (v y : List ℕ) → IsHeader mode u g (length_of m) v → w ≡ v ++ y
      → (form ≡ g) × (length_of len ≡ length_of m) × (r ≡ y)
  same u g m v y k e =
      let p = one_header mode t u form g (length_of len) (length_of m) header v r y d k (sym is ∙ e) in
      (ap (λ h. h.form) p.0, ap (λ h. h.len) p.0, p.1)

  stands_at : (tree : Tree) (first others : List ℕ) → IsEncoding mode tree first → w ≡ first ++ others → Fits mode es others → Stands mode es form len r
  stands_at (primitive u contents) first others h e f =
      let p = same u false (Some (length contents)) h.1.header (contents ++ others) h.1.is_header
      (e ∙ ap (λ z. z ++ others) h.1.is ∙ append_assoc h.1.header contents others) in
      Stands.octets contents others p.0 (told_some len (length contents) p.1) p.2 f
  stands_at (constructed u ts) first others h e f = framed h.2
    where
      framed : IsFramed mode u h.0 first → Stands mode es form len r
      framed (inl k) =
          let p = same u true (Some (length h.0)) k.header (h.0 ++ others) k.is_header (e ∙ ap (λ z. z ++ others) k.is ∙ append_assoc k.header h.0 others) in
          Stands.values h.0 others p.0 (told_some len (length h.0) p.1) p.2 (ts, h.1) f
      framed (inr k) =
          let p = same u true None k.header ((h.0 ++ k.end) ++ others) k.is_header
          (e ∙ ap (λ z. z ++ others) k.is ∙ append_assoc k.header (h.0 ++ k.end) others) in
          Stands.ended p.0 (told_none len p.1) (ts, h.0, k.end, others, h.1, k.is_end, p.2 ∙ append_assoc h.0 k.end others, f)

  stands : GoesOn mode es w → (es ≡ [] → w ≢ []) → Fits mode es w → Stands mode es form len r
  stands g n f = let b = begins mode es w g n f in stands_at b.tree b.first b.others b.encodes b.is b.fits

  module _ (g : GoesOn mode es w) (n : es ≡ [] → w ≢ []) (f : Fits mode es w) where
    pub contents_are_here : (size : ℕ) → len ≡ Some size → size ≤ length r
    contents_are_here size is_len = here (stands g n f)
      where
        here : Stands mode es form len r → size ≤ length r
        here (Stands.octets contents others a b c k) = let p : size ≡ length contents = cc in omega (arith, p, ap length c, length-append contents others)
        here (Stands.values contents others a b c l k) = let p : size ≡ length contents = cc in omega (arith, p, ap length c, length-append contents others)
        here (Stands.ended a b k) = cc

    pub fits_primitive : (size : ℕ) → len ≡ Some size → form ≡ false → Fits mode es (drop size r)
    fits_primitive size is_len is_form = here (stands g n f)
      where
        here : Stands mode es form len r → Fits mode es (drop size r)
        here (Stands.octets contents others a b c k) =
            let p : length contents ≡ size = cc in
            subst (Fits mode es) (sym (ap (drop size) c ∙ drop_at contents others size p)) k
        here (Stands.values contents others a b c l k) = cc
        here (Stands.ended a b k) = cc

    pub fits_definite : (behind : Bor (List ℕ)) (size : ℕ) → len ≡ Some size → form ≡ true → behind.now ≡ drop size r
        → Fits mode (level.Definite behind ∷ es) (take size r)
    fits_definite behind size is_len is_form is_behind = here (stands g n f)
      where
        here : Stands mode es form len r → Fits mode (level.Definite behind ∷ es) (take size r)
        here (Stands.octets contents others a b c k) = cc
        here (Stands.values contents others a b c l k) =
            let p : length contents ≡ size = cc in (
              subst (IsList mode) (sym (ap (take size) c ∙ take_at contents others size p)) l,
              subst (Fits mode es) (sym (is_behind ∙ ap (drop size) c ∙ drop_at contents others size p)) k,
            )
        here (Stands.ended a b k) = cc

    pub fits_indefinite : len ≡ None → Fits mode (level.Indefinite ∷ es) r
    fits_indefinite is_len = here (stands g n f)
      where
        here : Stands mode es form len r → Fits mode (level.Indefinite ∷ es) r
        here (Stands.octets contents others a b c k) = cc
        here (Stands.values contents others a b c l k) = cc
        here (Stands.ended a b k) = k
