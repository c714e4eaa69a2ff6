-- The steps of the loop over octets.
use Rattle.std.proofs.Common.{◌≡◌, ◌≢◌, ℕ, ◌+◌, ◌-◌, ◌<◌, ◌≤◌, Bool, true, false, List, [], ◌∷◌, ◌++◌, Option, Some, None, length, take, drop}
use Rattle.std.proofs.Common.{refl, sym, ap, subst, ◌∙◌, append_assoc, append-nil, arith, length-append, take-append-drop}
use Rattle.std.proofs.lemmas.List.{length-take-le}
use Rattle.std.proofs.KnownBytes.{Appends-nil, Appends-trans}
use Rattle.std.specs.Borrow.{Bor}
use Rattle.std.specs.Io.KnownBytes.{Appends, Keeps}
use Rattle.bcder.specs.declared.mode.Mode.{Mode}
use Rattle.bcder.specs.x690.Identifier.{Tag}
use Rattle.bcder.specs.x690.Encoding.{IsHeader}
use Rattle.bcder.specs.calls.Content.{length_of}
use Rattle.berdump.specs.declared.heading.Heading.{Heading}
use Rattle.berdump.specs.declared.scope.Scope.{Scope}
use Rattle.berdump.specs.declared.opened.Open.{Open}
use Rattle.berdump.specs.declared.opened.Open.TheVariants as level
use Rattle.std.specs.Bool.{MatchBool}
use Rattle.cli.specs.Shown.{IsShown}
use Rattle.berdump.specs.Scopes.{is_shown}
use Rattle.berdump.specs.Lines.{IsLine, HasLine, AreLines}
use Rattle.berdump.specs.Listing.{heading, IsList, Holds, HoldsNone, IsListed, AreListed}
use Rattle.berdump.specs.Opened.{behind_all, Completes, Goes, Fits, GoesOn}
use Rattle.berdump.specs.declared.list.ListError.{ListError}
use Rattle.berdump.specs.declared.list.ListError.TheVariants.{Refused, NoMemory, Target}
use Rattle.bcder.specs.calls.Encoders.{AppendsShorter}
use Rattle.berdump.specs.Answers.{Stands, AllStand, Written, Listed, ListedInPart, IsUnlisted, IsUnwritten}
use Rattle.berdump.specs.Walk.{IsAt, Follows}
use Rattle.berdump.proofs.Fitting.{contents_are_here, fits_primitive, fits_definite, fits_indefinite, no_list_without_header}
use Rattle.berdump.proofs.Listing.{value_first}

-- ---- lines

lines_join : (scope : Scope) (hs gs : List Heading) (v w : List ℕ) → AreLines scope hs v → AreLines scope gs w → AreLines scope (hs ++ gs) (v ++ w)
lines_join scope [] gs v w h k = subst (λ z. AreLines scope gs (z ++ w)) (sym h) k
lines_join scope (x ∷ hs) gs v w h k = (h.0, h.1 ++ w, h.2, lines_join scope hs gs h.1 w h.3 k, ap (λ z. z ++ w) h.4 ∙ append_assoc h.0 h.1 w)

one_line : (scope : Scope) (h : Heading) (w : List ℕ) → HasLine scope h w → AreLines scope (h ∷ []) w
one_line scope h w l = (w, [], l, refl, sym (append-nil w))

shown_line : (scope : Scope) (h : Heading) (w : List ℕ) → is_shown scope h.depth ≡ true → IsLine h w → AreLines scope (h ∷ []) w
shown_line scope h w e l = one_line scope h w (subst (λ b. MatchBool b (IsLine h w) (w ≡ [])) (sym e) l)

hidden_line : (scope : Scope) (h : Heading) → is_shown scope h.depth ≡ false → AreLines scope (h ∷ []) []
hidden_line scope h e =
    let w : List ℕ = [] in
    let same : w ≡ w = refl in
    one_line scope h w (subst (λ b. MatchBool b (IsLine h w) (w ≡ w)) (sym e) same)

pub unwritten : (scope : Scope) (h : Heading) (a : Option (List ℕ)) → is_shown scope h.depth ≡ false → Written scope (h ∷ []) a a
unwritten scope h a e = record { text = []; lines = hidden_line scope h e; appends = Appends-nil a }

written_join : (scope : Scope) (hs gs : List Heading) (a b c : Option (List ℕ)) → Written scope hs a b → Written scope gs b c → Written scope (hs ++ gs) a c
written_join scope hs gs a b c h k =
    record {
      text = h.text ++ k.text;
      lines = lines_join scope hs gs h.text k.text h.lines k.lines;
      appends = Appends-trans a b c h.text k.text h.appends k.appends;
    }

stand_join : (scope : Scope) (mode : Mode) (octets : List ℕ) (hs gs : List Heading)
    → AllStand scope mode octets hs → AllStand scope mode octets gs → AllStand scope mode octets (hs ++ gs)
stand_join scope mode octets [] gs h k = k
stand_join scope mode octets (x ∷ hs) gs h k = (h.0, stand_join scope mode octets hs gs h.1 k)

-- ---- steps

-- a listing has met these headings
pub record Stays (scope : Scope) (mode : Mode) (octets : List ℕ) (a b : Option (List ℕ)) (es : List Open) (w : List ℕ) (at : ℕ) (hs : List Heading)
    : Type 0 where
  pub next : IsAt scope mode octets a b es w at
  pub same : next.headings ≡ hs

pub begins : (scope : Scope) (mode : Mode) (octets : List ℕ) (a : Option (List ℕ)) → Stays scope mode octets a a [] octets scope.from []
begins scope mode octets a = record {
  next = record {
    headings = [];
    written = record { text = []; lines = refl; appends = Appends-nil a };
    stand = tt;
    goes = λ hs k. k;
    fits = λ h. h;
    passed = [];
    offset = omega arith;
    are = sym (append-nil octets);
  };
  same = refl;
}

pub ends : (scope : Scope) (mode : Mode) (octets w : List ℕ) (a b : Option (List ℕ)) (at : ℕ) → w ≡ [] → IsAt scope mode octets a b [] w at
    → Listed scope mode octets a b
ends scope mode octets w a b at e s = record {
  headings = s.headings;
  listed = subst (λ hs. AreListed scope mode octets scope.from 0 hs) (append-nil s.headings) (s.goes [] (AreListed.none e refl));
  written = s.written;
}

pub in_part : (scope : Scope) (mode : Mode) (octets w : List ℕ) (a b : Option (List ℕ)) (es : List Open) (at : ℕ) → IsAt scope mode octets a b es w at
    → ListedInPart scope mode octets a b
in_part scope mode octets w a b es at s = record { headings = s.headings; stand = s.stand; written = s.written }

pub closes : (scope : Scope) (mode : Mode) (octets : List ℕ) (a b : Option (List ℕ)) (es fs : List Open) (w v p : List ℕ) (at n : ℕ)
    → (s : IsAt scope mode octets a b es w at) → Goes scope mode es w at fs v (at + n) → (Fits mode es w → Fits mode fs v) → length p ≡ n
    → w ++ behind_all es ≡ p ++ (v ++ behind_all fs) → Stays scope mode octets a b fs v (at + n) s.headings
closes scope mode octets a b es fs w v p at n s g m l e = record {
  next = record {
    headings = s.headings;
    written = s.written;
    stand = s.stand;
    goes = λ hs k. s.goes hs (g hs k);
    fits = λ h. m (s.fits h);
    passed = s.passed ++ p;
    offset = (let o = s.offset in omega (arith, length-append s.passed p, o, l));
    are = s.are ∙ ap (λ z. s.passed ++ z) e ∙ sym (append_assoc s.passed p (v ++ behind_all fs));
  };
  same = refl;
}

-- a header stands at the front of the octets, and these are behind it
pub record Front (mode : Mode) (t : Tag) (form : Bool) (len : Option ℕ) (w r : List ℕ) : Type 0 where
  pub header : List ℕ
  pub is_header : IsHeader mode t form (length_of len) header
  pub are : w ≡ header ++ r

header_length : (w h r : List ℕ) → w ≡ h ++ r → length w - length r ≡ length h
header_length w h r e = omega (arith, ap length e, length-append h r)

module _ (scope : Scope) (mode : Mode) (octets : List ℕ) (a b c : Option (List ℕ)) (es : List Open) (w r : List ℕ) (at : ℕ) (t : Tag) (form : Bool)
    (len : Option ℕ) (s : IsAt scope mode octets a b es w at) (f : Front mode t form len w r) (open_here : GoesOn mode es w) (some : es ≡ [] → w ≢ []) where
  abbrev the_heading : Heading
  the_heading = heading t form (length es) at (length w - length r) len

  pub stands : Stands scope mode octets the_heading
  stands = record {
    before = s.passed;
    header = f.header;
    others = r ++ behind_all es;
    is_header = f.is_header;
    are = s.are ∙ ap (λ z. s.passed ++ (z ++ behind_all es)) f.are ∙ ap (λ z. s.passed ++ z) (append_assoc f.header r (behind_all es));
    offset = s.offset;
    size = sym (header_length w f.header r f.are);
  }

  meets : (fs : List Open) (v p : List ℕ) (d : ℕ) → Written scope (the_heading ∷ []) b c
      → ((hs : List Heading) → Completes scope mode fs v d hs → Completes scope mode es w at (the_heading ∷ hs))
      → (Fits mode es w → Fits mode fs v) → d ≡ at + length p
      → w ++ behind_all es ≡ p ++ (v ++ behind_all fs) → Follows scope mode octets a c s.headings at fs v d
  meets fs v p d k g q l e = record {
    next = record {
      headings = s.headings ++ (the_heading ∷ []);
      written = written_join scope s.headings (the_heading ∷ []) a b c s.written k;
      stand = stand_join scope mode octets s.headings (the_heading ∷ []) s.stand (stands, tt);
      goes = λ hs m. subst (AreListed scope mode octets scope.from 0) (sym (append_assoc s.headings (the_heading ∷ []) hs))
          (s.goes (the_heading ∷ hs) (g hs m));
      fits = λ h. q (s.fits h);
      passed = s.passed ++ p;
      offset = (let o = s.offset in omega (arith, length-append s.passed p, o, l));
      are = s.are ∙ ap (λ z. s.passed ++ z) e ∙ sym (append_assoc s.passed p (v ++ behind_all fs));
    };
    heading = the_heading;
    adds = refl;
    offset = refl;
  }

  pub meets_primitive : (n : ℕ) → len ≡ Some n → form ≡ false → n ≤ length r → (scope.inside ≡ true → HoldsNone mode t (take n r))
      → Written scope (the_heading ∷ []) b c
      → Follows scope mode octets a c s.headings at es (drop n r) (at + (length w - length r) + n)
  meets_primitive n is_len is_form fits none k =
      let contents = take n r in
      let size : length contents ≡ n = length-take-le n r fits in
      let split : r ≡ contents ++ drop n r = sym (take-append-drop n r) in
      let whole : w ≡ (f.header ++ contents) ++ drop n r = f.are ∙ ap (λ z. f.header ++ z) split ∙ sym (append_assoc f.header contents (drop n r)) in
      let hl = header_length w f.header r f.are in
      let same : length_of len ≡ length_of (Some (length contents)) = ap length_of is_len ∙ ap (λ z. length_of (Some z)) (sym size) in
      let listed : IsListed scope mode (f.header ++ contents) at (length es) (the_heading ∷ []) = IsListed.primitive t f.header contents
      (subst (λ g. IsHeader mode t g (length_of (Some (length contents))) f.header) is_form (subst (λ l. IsHeader mode t form l f.header) same f.is_header))
      none refl (rw (is_form, is_len, hl, size) refl) in
      meets es (drop n r) (f.header ++ contents) (at + (length w - length r) + n) k
      (λ hs m. subst (λ z. Completes scope mode es z at (the_heading ∷ hs)) (sym whole)
      (value_first scope mode es (f.header ++ contents) (drop n r) at (the_heading ∷ []) hs listed
      (subst (λ d. Completes scope mode es (drop n r) d hs) (omega (arith, length-append f.header contents, hl, size)) m)))
      (λ h. fits_primitive mode es w r f.header t form len f.is_header f.are open_here some h n is_len is_form)
      (omega (arith, length-append f.header contents, hl, size))
      (ap (λ z. z ++ behind_all es) whole ∙ append_assoc (f.header ++ contents) (drop n r) (behind_all es))

  pub meets_definite : (behind : Bor (List ℕ)) (v : List ℕ) (n : ℕ) → len ≡ Some n → form ≡ true → n ≤ length r → behind.now ≡ drop n r → v ≡ take n r
      → Written scope (the_heading ∷ []) b c
      → Follows scope mode octets a c s.headings at (level.Definite behind ∷ es) v (at + (length w - length r))
  meets_definite behind v n is_len is_form fits is_behind is_v k =
      let size : length v ≡ n = ap length is_v ∙ length-take-le n r fits in
      let split : r ≡ v ++ behind.now = sym (take-append-drop n r) ∙ ap (λ z. z ++ drop n r) (sym is_v) ∙ ap (λ z. v ++ z) (sym is_behind) in
      let whole : w ≡ (f.header ++ v) ++ behind.now = f.are ∙ ap (λ z. f.header ++ z) split ∙ sym (append_assoc f.header v behind.now) in
      let hl = header_length w f.header r f.are in
      let same : length_of len ≡ length_of (Some (length v)) = ap length_of is_len ∙ ap (λ z. length_of (Some z)) (sym size) in
      let header : IsHeader mode t true (length_of (Some (length v))) f.header =
      subst (λ g. IsHeader mode t g (length_of (Some (length v))) f.header) is_form (subst (λ l. IsHeader mode t form l f.header) same f.is_header) in
      meets (level.Definite behind ∷ es) v f.header (at + (length w - length r)) k
      (λ hs m. let (inside, more, listed, completes, all) = m in
      subst (λ gs. Completes scope mode es w at (the_heading ∷ gs)) (sym all) (subst (λ z. Completes scope mode es z at ((the_heading ∷ inside) ++ more))
      (sym whole) (value_first scope mode es (f.header ++ v) behind.now at (the_heading ∷ inside) more
      (IsListed.definite t f.header v inside header (subst (λ d. AreListed scope mode v d (length es + 1) inside) (ap (λ d. at + d) hl) listed) refl
      (rw (is_form, is_len, hl, size) refl))
      (subst (λ d. Completes scope mode es behind.now d more) (omega (arith, length-append f.header v, hl)) completes))))
      (λ h. subst (Fits mode (level.Definite behind ∷ es)) (sym is_v)
      (fits_definite mode es w r f.header t form len f.is_header f.are open_here some h behind n is_len is_form is_behind))
      (omega (arith, hl))
      (ap (λ z. z ++ behind_all es) f.are ∙ append_assoc f.header r (behind_all es) ∙ ap (λ z. f.header ++ (z ++ behind_all es)) split
      ∙ ap (λ z. f.header ++ z) (append_assoc v behind.now (behind_all es)))

  pub meets_opened : (behind : Bor (List ℕ)) (v : List ℕ) (n : ℕ) → scope.inside ≡ true → len ≡ Some n → form ≡ false → n ≤ length r → behind.now ≡ drop n r
      → Holds mode t (take n r) v → Written scope (the_heading ∷ []) b c
      → Follows scope mode octets a c s.headings at (level.Definite behind ∷ es) v (at + (length w - length r) + (n - length v))
  meets_opened behind v n is_deep is_len is_form fits is_behind held k =
      let front = held.front in
      let is_v : take n r ≡ front ++ v = held.are in
      let size : length (front ++ v) ≡ n = ap length (sym is_v) ∙ length-take-le n r fits in
      let split : r ≡ (front ++ v) ++ behind.now = sym (take-append-drop n r) ∙ ap (λ z. z ++ drop n r) is_v ∙ ap (λ z. (front ++ v) ++ z) (sym is_behind) in
      let whole : w ≡ (f.header ++ (front ++ v)) ++ behind.now = f.are ∙ ap (λ z. f.header ++ z) split ∙ sym (append_assoc f.header (front ++ v) behind.now) in
      let hl = header_length w f.header r f.are in
      let same : length_of len ≡ length_of (Some (length (front ++ v))) = ap length_of is_len ∙ ap (λ z. length_of (Some z)) (sym size) in
      let header : IsHeader mode t false (length_of (Some (length (front ++ v)))) f.header = subst
      (λ g. IsHeader mode t g (length_of (Some (length (front ++ v)))) f.header) is_form (subst (λ l. IsHeader mode t form l f.header) same f.is_header) in
      let place : at + (length w - length r) + (n - length v) ≡ at + length f.header + length front = omega (arith, hl, size, length-append front v) in
      meets (level.Definite behind ∷ es) v (f.header ++ front) (at + (length w - length r) + (n - length v)) k
      (λ hs m. let (inside, more, listed, completes, all) = m in
      subst (λ gs. Completes scope mode es w at (the_heading ∷ gs)) (sym all) (subst (λ z. Completes scope mode es z at ((the_heading ∷ inside) ++ more))
      (sym whole) (value_first scope mode es (f.header ++ (front ++ v)) behind.now at (the_heading ∷ inside) more
      (IsListed.opened t f.header front v inside is_deep header held.is_front held.some
      (subst (λ d. AreListed scope mode v d (length es + 1) inside) place listed) refl (rw (is_form, is_len, hl, size) refl))
      (subst (λ d. Completes scope mode es behind.now d more) (omega (arith, place, length-append f.header (front ++ v), length-append front v)) completes))))
      (λ h. (
        held.list,
        subst (Fits mode es) (sym is_behind)
            (fits_primitive mode es w r f.header t form len f.is_header f.are open_here some h n is_len is_form),
      ))
      (omega (arith, place, length-append f.header front))
      (ap (λ z. z ++ behind_all es) whole ∙ append_assoc (f.header ++ (front ++ v)) behind.now (behind_all es) ∙ ap (λ z. z ++ (behind.now ++ behind_all es))
      (sym (append_assoc f.header front v)) ∙ append_assoc (f.header ++ front) v (behind.now ++ behind_all es))

  always_constructed : (g : Bool) → IsHeader mode t g (length_of None) f.header → g ≡ true
  always_constructed true h = refl
  always_constructed false h = let a : false ≡ true = h.allowed in cc

  pub meets_indefinite : len ≡ None → Written scope (the_heading ∷ []) b c
      → Follows scope mode octets a c s.headings at (level.Indefinite ∷ es) r (at + (length w - length r))
  meets_indefinite is_len k =
      let hl = header_length w f.header r f.are in
      let header : IsHeader mode t form (length_of None) f.header = subst (λ l. IsHeader mode t form l f.header) (ap length_of is_len) f.is_header in
      let is_form = always_constructed form header in
      meets (level.Indefinite ∷ es) r f.header (at + (length w - length r)) k
      (λ hs m. let (contents, end, others, inside, more, listed, is_end, completes, is, all) = m in
      let whole : w ≡ (f.header ++ (contents ++ end)) ++ others =
      f.are ∙ ap (λ z. f.header ++ z) (is ∙ sym (append_assoc contents end others)) ∙ sym (append_assoc f.header (contents ++ end) others) in
      subst (λ gs. Completes scope mode es w at (the_heading ∷ gs)) (sym all) (subst (λ z. Completes scope mode es z at ((the_heading ∷ inside) ++ more))
      (sym whole) (value_first scope mode es (f.header ++ (contents ++ end)) others at (the_heading ∷ inside) more
      (IsListed.indefinite t f.header contents end inside (subst (λ g. IsHeader mode t g (length_of None) f.header) is_form header)
      (subst (λ d. AreListed scope mode contents d (length es + 1) inside) (ap (λ d. at + d) hl) listed) is_end refl (rw (is_form, is_len, hl) refl))
      (subst (λ d. Completes scope mode es others d more) (omega (arith, length-append f.header (contents ++ end), length-append contents end, hl))
      completes))))
      (λ h. fits_indefinite mode es w r f.header t form len f.is_header f.are open_here some h is_len)
      (omega (arith, hl))
      (ap (λ z. z ++ behind_all es) f.are ∙ append_assoc f.header r (behind_all es))

  pub no_list_at_contents : (n : ℕ) → len ≡ Some n → length r < n → IsList mode octets → ⊥
  no_list_at_contents n is_len short h =
      let fits = contents_are_here mode es w r f.header t form len f.is_header f.are open_here some (s.fits h) n is_len in
      absurd (omega (arith, fits, short))

pub no_list_at_header : (scope : Scope) (mode : Mode) (octets w : List ℕ) (a b : Option (List ℕ)) (es : List Open) (at : ℕ) → IsAt scope mode octets a b es w at
    → GoesOn mode es w → (es ≡ [] → w ≢ [])
    → ((t : Tag) (form : Bool) (n : Option ℕ) (h x : List ℕ) → IsHeader mode t form (length_of n) h → w ≡ h ++ x → ⊥) → IsList mode octets → ⊥
no_list_at_header scope mode octets w a b es at s g n none h = no_list_without_header mode es w g n none (s.fits h)

pub within : (scope : Scope) (mode : Mode) (octets w : List ℕ) (a b : Option (List ℕ)) (es : List Open) (at : ℕ) → IsAt scope mode octets a b es w at
    → at + length w + length (behind_all es) ≡ scope.from + length octets
within scope mode octets w a b es at s =
    let o = s.offset in
    omega (arith, ap length s.are, length-append s.passed (w ++ behind_all es), length-append w (behind_all es), o)

-- ---- the text of a line

pub line_text : (old new text note end : List ℕ) → IsShown note → old ≡ [] → new ≡ old ++ (text ++ (note ++ end))
    → (x : List ℕ) × IsShown x × (new ≡ (text ++ x) ++ end)
line_text old new text note end o n e = (note, o, e ∙ ap (λ z. z ++ (text ++ (note ++ end))) n ∙ sym (append_assoc text note end))

-- ---- lines that weren't written

pub written_line : (scope : Scope) (h : Heading) (w v : List ℕ) (a b : Option (List ℕ)) → is_shown scope h.depth ≡ true → IsLine h w → v ≡ w → Appends a b v
    → Written scope (h ∷ []) a b
written_line scope h w v a b t l e k = record { text = w; lines = shown_line scope h w t l; appends = subst (Appends a b) e k }

pub unwritten_line : (scope : Scope) (h : Heading) (w v : List ℕ) (a b : Option (List ℕ)) → is_shown scope h.depth ≡ true → IsLine h w → v ≡ w
    → AppendsShorter a b v
    → (text : List ℕ) × AreLines scope (h ∷ []) text × AppendsShorter a b text
unwritten_line scope h w v a b t l e k = (w, shown_line scope h w t l, subst (AppendsShorter a b) e k)

pub keeps_nil : (b c : Option (List ℕ)) → Keeps b c → Appends b c []
keeps_nil None c k = tt
keeps_nil (Some x) None k = absurd k
keeps_nil (Some x) (Some y) k = k ∙ sym (append-nil x)

pub written_kept : (scope : Scope) (hs : List Heading) (a b c : Option (List ℕ)) → Written scope hs a b → Keeps b c → Written scope hs a c
written_kept scope hs a b c h k =
    record { text = h.text; lines = h.lines; appends = subst (Appends a c) (append-nil h.text) (Appends-trans a b c h.text [] h.appends (keeps_nil b c k)) }

pub unlisted_by : (scope : Scope) (mode : Mode) (octets w : List ℕ) (a b c : Option (List ℕ)) (es : List Open) (at : ℕ) (h : Heading) (e : ListError)
    → IsAt scope mode octets a b es w at → Stands scope mode octets h → IsUnwritten scope h b c e → IsUnlisted scope mode octets a c e
unlisted_by scope mode octets w a b c es at h (Refused n why) s k u = absurd u
unlisted_by scope mode octets w a b c es at h NoMemory s k u =
    record { headings = s.headings; stand = s.stand; written = written_kept scope s.headings a b c s.written u }
unlisted_by scope mode octets w a b c es at h (Target e) s k u =
    let (text, lines, shorter) = u in
    record {
      headings = s.headings ++ (h ∷ []);
      text = s.written.text ++ text;
      stand = stand_join scope mode octets s.headings (h ∷ []) s.stand (k, tt);
      lines = lines_join scope s.headings (h ∷ []) s.written.text text s.written.lines lines;
      appends = record {
        front = s.written.text ++ shorter.front;
        rest = shorter.rest;
        appends = Appends-trans a b c s.written.text shorter.front s.written.appends shorter.appends;
        whole = ap (λ z. s.written.text ++ z) shorter.whole ∙ sym (append_assoc s.written.text shorter.front shorter.rest);
      };
    }
