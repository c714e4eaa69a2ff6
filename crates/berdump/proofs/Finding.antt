-- The contents octets of a value that was sought.
use Rattle.std.proofs.Common.{◌≡◌, ◌≢◌, ℕ, ◌+◌, ◌<◌, ◌≤◌, arith, append-nil, Bool, List, [], ◌∷◌}
use Rattle.std.proofs.Common.{◌++◌, Option, Some, None, length, take, drop, refl, sym, ap, subst, ◌∙◌, append_assoc}
use Rattle.std.proofs.Common.{take-append-drop, inl, inr, ◌⊎◌, IfSome, MatchOption}
use Rattle.std.specs.Borrow.{Bor}
use Rattle.std.proofs.lemmas.List.{length-take-le}
use Rattle.bcder.specs.declared.mode.Mode.{Mode}
use Rattle.bcder.specs.x690.Identifier.{Tag}
use Rattle.bcder.specs.x690.Encoding.{IsHeader}
use Rattle.bcder.specs.calls.Content.{length_of}
use Rattle.berdump.specs.declared.heading.Heading.{Heading}
use Rattle.berdump.specs.declared.opened.Open.{Open}
use Rattle.berdump.specs.declared.scope.Scope.{Scope}
use Rattle.berdump.specs.Answers.{HasContents, HasNone, AreElsewhere, IsDefiniteAt, IsIndefiniteAt}
use Rattle.berdump.specs.Listing.{AreListed}
use Rattle.berdump.specs.Opened.{behind_all, Completes}
use Rattle.berdump.specs.Walk.{IsAt, Follows}
use Rattle.berdump.proofs.Walking.{Front, Stays}

-- octets stand behind a header of the indefinite form that is at the offset
pub record HasBegun (scope : Scope) (mode : Mode) (octets : List ℕ) (at : ℕ) (rest : List ℕ) : Type 0 where
  pub tag : Tag
  pub form : Bool
  pub before : List ℕ
  pub header : List ℕ
  pub others : List ℕ
  pub is_header : IsHeader mode tag form (length_of None) header
  pub are : octets ≡ before ++ (header ++ (rest ++ others))
  pub offset : scope.from + length before ≡ at

pub contents_begun : (scope : Scope) (mode : Mode) (octets : List ℕ) (at : ℕ) (r c : List ℕ) (n : ℕ) → HasBegun scope mode octets at r → c ≡ take n r
    → HasContents scope mode octets at c
contents_begun scope mode octets at r c n h e = record {
  tag = h.tag;
  form = h.form;
  len = None;
  before = h.before;
  header = h.header;
  others = drop n r ++ h.others;
  is_header = h.is_header;
  are = h.are ∙ ap (λ z. h.before ++ (h.header ++ (z ++ h.others))) (sym (take-append-drop n r) ∙ ap (λ z. z ++ drop n r) (sym e))
      ∙ ap (λ z. h.before ++ (h.header ++ z)) (append_assoc c (drop n r) h.others);
  offset = h.offset;
  size = inr refl;
}

front : (mode : Mode) (t : Tag) (form : Bool) (len : Option ℕ) (w h r : List ℕ) → IsHeader mode t form (length_of len) h → w ≡ h ++ r
    → Front mode t form len w r
front mode t form len w h r i e = record { header = h; is_header = i; are = e }

module _ (scope : Scope) (mode : Mode) (octets : List ℕ) (a b : Option (List ℕ)) (es : List Open) (w r : List ℕ) (at : ℕ) (t : Tag) (form : Bool)
    (len : Option ℕ) (s : IsAt scope mode octets a b es w at) (f : Front mode t form len w r) (wanted : ℕ) (here : at ≡ wanted) where
  stand : octets ≡ s.passed ++ (f.header ++ (r ++ behind_all es))
  stand = s.are ∙ ap (λ z. s.passed ++ (z ++ behind_all es)) f.are ∙ ap (λ z. s.passed ++ z) (append_assoc f.header r (behind_all es))

  pub begun_here : len ≡ None → HasBegun scope mode octets wanted r
  begun_here e = record {
    tag = t;
    form = form;
    before = s.passed;
    header = f.header;
    others = behind_all es;
    is_header = subst (λ l. IsHeader mode t form (length_of l) f.header) e f.is_header;
    are = stand;
    offset = s.offset ∙ here;
  }

  pub contents_here : (n : ℕ) (c : List ℕ) → len ≡ Some n → n ≤ length r → c ≡ take n r → HasContents scope mode octets wanted c
  contents_here n c e fits k = record {
    tag = t;
    form = form;
    len = len;
    before = s.passed;
    header = f.header;
    others = drop n r ++ behind_all es;
    is_header = f.is_header;
    are = stand ∙ ap (λ z. s.passed ++ (f.header ++ (z ++ behind_all es))) (sym (take-append-drop n r) ∙ ap (λ z. z ++ drop n r) (sym k))
        ∙ ap (λ z. s.passed ++ (f.header ++ z)) (append_assoc c (drop n r) (behind_all es));
    offset = s.offset ∙ here;
    size = inl (e ∙ ap Some (sym (ap length k ∙ length-take-le n r fits)));
  }

pub found_definite : (scope : Scope) (mode : Mode) (octets : List ℕ) (a b : Option (List ℕ)) (es : List Open) (w : List ℕ) (at wanted : ℕ) (c : List ℕ)
    → IsAt scope mode octets a b es w at → at ≡ wanted → IsDefiniteAt mode w c → HasContents scope mode octets wanted c
found_definite scope mode octets a b es w at wanted c s here (t, form, n, h, r, i, e, fits, k) =
    contents_here scope mode octets a b es w r at t form (Some n) s (front mode t form (Some n) w h r i e) wanted here n c refl fits k

found_indefinite : (scope : Scope) (mode : Mode) (octets : List ℕ) (a b : Option (List ℕ)) (es : List Open) (w : List ℕ) (at wanted : ℕ) (r : List ℕ)
    → IsAt scope mode octets a b es w at → at ≡ wanted → IsIndefiniteAt mode w r → HasBegun scope mode octets wanted r
found_indefinite scope mode octets a b es w at wanted r s here (t, form, h, i, e) =
    begun_here scope mode octets a b es w r at t form None s (front mode t form None w h r i e) wanted here refl

pub ended : (scope : Scope) (mode : Mode) (octets : List ℕ) (wanted : ℕ) (o : Option (Bor (List ℕ))) (c : List ℕ)
    → IfSome o (λ r. HasBegun scope mode octets wanted r.now) → (r : Bor (List ℕ)) × (n : ℕ) × (o ≡ Some r) × (c ≡ take n r.now)
    → HasContents scope mode octets wanted c
ended scope mode octets wanted o c h (r, n, e, k) =
    contents_begun scope mode octets wanted r.now c n (subst (λ z. IfSome z (λ r. HasBegun scope mode octets wanted r.now)) e h) k

-- ---- the search

-- none of the headings that were met stands at the offset, or the value that does is open, at a depth
abbrev pub Sought : ℕ → ℕ → Option (Bor (List ℕ)) → List Open → List Heading → Type 0
Sought wanted depth behind es hs = AreElsewhere wanted hs ⊎ (behind ≢ None) × (depth < length es)

pub record Searches (scope : Scope) (mode : Mode) (octets : List ℕ) (a b : Option (List ℕ)) (es : List Open) (w : List ℕ) (at wanted depth : ℕ)
    (behind : Option (Bor (List ℕ))) : Type 0 where
  pub here : IsAt scope mode octets a b es w at
  pub sought : Sought wanted depth behind es here.headings
  pub begun : IfSome behind (λ r. HasBegun scope mode octets wanted r.now)

elsewhere_join : (at : ℕ) (hs : List Heading) (h : Heading) → AreElsewhere at hs → h.offset ≢ at → AreElsewhere at (hs ++ (h ∷ []))
elsewhere_join at [] h k n = (n, tt)
elsewhere_join at (x ∷ hs) h k n = (k.0, elsewhere_join at hs h k.1 n)

pub search_begins : (scope : Scope) (mode : Mode) (octets : List ℕ) (a b : Option (List ℕ)) (es : List Open) (w : List ℕ) (at wanted depth : ℕ)
    → Stays scope mode octets a b es w at [] → Searches scope mode octets a b es w at wanted depth None
search_begins scope mode octets a b es w at wanted depth s =
    record { here = s.next; sought = inl (subst (AreElsewhere wanted) (sym s.same) tt); begun = tt }

module _ (scope : Scope) (mode : Mode) (octets : List ℕ) (a b c : Option (List ℕ)) (es fs : List Open) (w v : List ℕ) (at d wanted depth : ℕ)
    (behind : Option (Bor (List ℕ))) (s : Searches scope mode octets a b es w at wanted depth behind) where
  still_sought : (hs : List Heading) → length fs + 1 ≡ length es → (behind ≡ None) ⊎ (depth ≢ length fs) → Sought wanted depth behind es hs
      → Sought wanted depth behind fs hs
  still_sought hs e k (inl m) = inl m
  still_sought hs e (inl k) (inr m) = absurd (m.0 k)
  still_sought hs e (inr k) (inr m) = let (some, less) = m in inr (some, omega (arith, e, less, k))

  pub search_closes : Stays scope mode octets a b fs v d s.here.headings → length fs + 1 ≡ length es → (behind ≡ None) ⊎ (depth ≢ length fs)
      → Searches scope mode octets a b fs v d wanted depth behind
  search_closes t e k =
      record { here = t.next; sought = subst (Sought wanted depth behind fs) (sym t.same) (still_sought s.here.headings e k s.sought); begun = s.begun }

  -- a value was listed that isn't the one that is sought
  passed_by : (h : Heading) → h.offset ≢ wanted → length es ≤ length fs → Sought wanted depth behind es s.here.headings
      → Sought wanted depth behind fs (s.here.headings ++ (h ∷ []))
  passed_by h n e (inl k) = inl (elsewhere_join wanted s.here.headings h k n)
  passed_by h n e (inr k) = let (some, less) = k in inr (some, omega (arith, e, less))

  pub search_passes : Follows scope mode octets a c s.here.headings at fs v d → at ≢ wanted → length es ≤ length fs
      → Searches scope mode octets a c fs v d wanted depth behind
  search_passes t n e = record {
    here = t.next;
    sought = subst (Sought wanted depth behind fs) (sym t.adds) (passed_by t.heading (λ k. n (sym t.offset ∙ k)) e s.sought);
    begun = s.begun;
  }

  -- the value that is sought was opened
  pub search_opens : (r : Bor (List ℕ)) (p : Option (Bor (List ℕ))) (m : ℕ) → Follows scope mode octets a c s.here.headings at fs v d → at ≡ wanted
      → length es < length fs → IsIndefiniteAt mode w r.now → m ≡ length es → p ≡ Some r → Searches scope mode octets a c fs v d wanted m p
  search_opens r p m t e k i q x = record {
    here = t.next;
    sought = inr (λ n. (let z : Some r ≡ None = sym x ∙ n in cc), omega (arith, k, q));
    begun = subst (λ o. IfSome o (λ r. HasBegun scope mode octets wanted r.now)) (sym x)
        (found_indefinite scope mode octets a b es w at wanted r.now s.here e i);
  }

  pub search_ends : es ≡ [] → w ≡ [] → HasNone scope mode octets wanted
  search_ends n e = (s.here.headings ++ [], s.here.goes [] complete, subst (AreElsewhere wanted) (sym (append-nil s.here.headings)) (none s.sought))
    where
      complete : Completes scope mode es w at []
      complete = subst (λ z. Completes scope mode z w at []) (sym n) (AreListed.none e refl)

      none : Sought wanted depth behind es s.here.headings → AreElsewhere wanted s.here.headings
      none (inl k) = k
      none (inr k) = let (some, less) = k in absurd (omega (arith, less, ap length n))

module _ (scope : Scope) (mode : Mode) (octets : List ℕ) (a b c : Option (List ℕ)) (es fs : List Open) (w : List ℕ) (at d wanted depth : ℕ)
    (behind : Option (Bor (List ℕ))) (s : Searches scope mode octets a b es w at wanted depth behind) (r : Bor (List ℕ)) (contents : Option (Bor (List ℕ)))
    (t : Follows scope mode octets a c s.here.headings at fs r.now d) where
  no_less : (o : Option (Bor (List ℕ))) → MatchOption o (length es < length fs) (λ _. length es ≤ length fs) → length es ≤ length fs
  no_less None k = omega (arith, k)
  no_less (Some x) k = k

  -- a value was listed; if it is the one that is sought, its length is indefinite
  pub search_goes : MatchOption contents (IsIndefiniteAt mode w r.now) (λ x. IsDefiniteAt mode w x.now)
      → MatchOption contents (length es < length fs) (λ _. length es ≤ length fs) → (at ≡ wanted → contents ≡ None) → (n : ℕ) → n ≡ length es → (m : ℕ)
      → (p : Option (Bor (List ℕ))) → (at ≡ wanted) × (m ≡ n) × (p ≡ Some r) ⊎ (at ≢ wanted) × (m ≡ depth) × (p ≡ behind)
      → Searches scope mode octets a c fs r.now d wanted m p
  search_goes is less none n size m p (inl (here, e, k)) =
      let empty : contents ≡ None = none here in
      search_opens scope mode octets a b c es fs w r.now at d wanted depth behind s r p m t here
      (subst (λ o. MatchOption o (length es < length fs) (λ _. length es ≤ length fs)) empty less)
      (subst (λ o. MatchOption o (IsIndefiniteAt mode w r.now) (λ x. IsDefiniteAt mode w x.now)) empty is) (e ∙ size) k
  search_goes is less none n size m p (inr (there, e, k)) =
      subst (λ z. Searches scope mode octets a c fs r.now d wanted z p) (sym e) (subst (λ z. Searches scope mode octets a c fs r.now d wanted depth z) (sym k)
      (search_passes scope mode octets a b c es fs w r.now at d wanted depth behind s t there (no_less contents less)))

pub found_in : (scope : Scope) (mode : Mode) (octets : List ℕ) (a b : Option (List ℕ)) (es : List Open) (w : List ℕ) (at wanted depth : ℕ)
    (behind contents : Option (Bor (List ℕ))) (r : Bor (List ℕ)) (x : List ℕ) → Searches scope mode octets a b es w at wanted depth behind → at ≡ wanted
    → contents ≡ Some r → MatchOption contents (IsIndefiniteAt mode w x) (λ c. IsDefiniteAt mode w c.now) → HasContents scope mode octets wanted r.now
found_in scope mode octets a b es w at wanted depth behind contents r x s here e k =
    found_definite scope mode octets a b es w at wanted r.now s.here here
    (subst (λ o. MatchOption o (IsIndefiniteAt mode w x) (λ c. IsDefiniteAt mode w c.now)) e k)
