-- What reading a value gives, at each way that it can go.
use Rattle.std.proofs.Common.{◌≡◌, ◌≢◌, ℕ, zero, suc, ◌+◌, ◌*◌, ◌%◌, ◌<◌, ◌≤◌, Bool, true, false, List, [], ◌∷◌, ◌++◌, length, get_or, take, drop}
use Rattle.std.proofs.Common.{Option, Some, None, option_map, IfSome, IfNone, refl, sym, ap, subst, ◌∙◌, arith, inl, inr}
use Rattle.std.proofs.lemmas.Bool.{cases_lt, lt-ltb, le-ltb, lt-leb, le-leb}
use Rattle.std.proofs.lemmas.List.{length-append, length-drop, take_at, take-append-drop}
use Rattle.bcder.specs.declared.mode.Mode.{Mode}
use Rattle.bcder.specs.declared.mode.Mode.TheVariants.{Ber, Cer, Der}
use Rattle.bcder.specs.declared.length.Length.{Length}
use Rattle.bcder.specs.declared.length.Length.TheVariants.{Definite, Indefinite}
use Rattle.bcder.specs.x690.Identifier.{universal, AreOctets, Tag, is_value_tag}
use Rattle.bcder.specs.x690.Length.{big_endian}
use Rattle.bcder.specs.x690.Tree.{Tree, constructed, Trees}
use Rattle.bcder.specs.x690.Encoding.{may_have, IsEncoding, Header}
use Rattle.bcder.specs.x690.Grammar.{IsOnly, BeginsWhole}
use Rattle.bcder.specs.steps.Reading.{class_of, is_marked, read_identifier, read_length, read_long, may_tell, BeginPrimitive, read_front}
use Rattle.bcder.specs.steps.Reading.{read_header, read_contents, read_value, read_list, read_tree, after_tree, after_list}
use Rattle.bcder.specs.laws.Complete.{header_size, two_octets, tree_complete, one_encoding}
use Rattle.bcder.specs.laws.Sound.{mapped, none_is}
use Rattle.bcder.specs.laws.Stands.{AreOctets-after, header_sound, tree_sound}
use Rattle.bcder.proofs.ReadingSteps.{read_tree_step}
use Rattle.bcder.proofs.Ends.{from_header}

-- what is read of octets is the value in front of these
abbrev TreeRead : Mode → List ℕ → List ℕ → Type 0
TreeRead mode w x = (t : Tree) × (read_tree mode w ≡ Some (t, x))

pub tree_read : (mode : Mode) (w x : List ℕ) → after_tree mode w ≡ Some x → TreeRead mode w x
unfolding after_tree
tree_read mode w x e = let m = mapped (λ t. t.1) (read_tree mode w) x e in (m.0.0, m.1 ∙ ap (λ z. Some (m.0.0, z)) m.2)

pub header_less : (mode : Mode) (h : Header) (w z : List ℕ) → AreOctets w → read_header mode w ≡ Some (h, z) → length z + 2 ≤ length w
header_less mode h w z o e =
    let d = header_sound mode w (h, z) o e in
    omega (arith, header_size mode h.tag h.form h.len d.octets d.is_header, ap length d.is, length-append d.octets z)

marked_form : (mode : Mode) (f : Bool) → may_have mode f Indefinite ≡ true → f ≡ true
marked_form mode false e = e
marked_form mode true e = refl

pub no_header : (mode : Mode) (w : List ℕ) → AreOctets w → read_header mode w ≡ None → after_tree mode w ≡ None
unfolding after_tree read_value
no_header mode w o e = ap (option_map (λ t. t.1)) (read_tree_step mode w o) ∙ rw e refl

-- ---- behind a header

module _ (mode : Mode) (w : List ℕ) (t : Tag) (f : Bool) (len : Length) (z : List ℕ) (o : AreOctets w)
    (h : read_header mode w ≡ Some (record { tag = t; form = f; len = len }, z)) where
  behind : after_tree mode w ≡ option_map (λ t. t.1) (read_contents (read_list mode) t f len z)
  unfolding after_tree
  behind = ap (option_map (λ t. t.1)) (from_header mode (record { tag = t; form = f; len = len }) w z o h)

  pub octets_behind : AreOctets z
  octets_behind = let d = header_sound mode w (record { tag = t; form = f; len = len }, z) o h in AreOctets-after d.octets w z d.is o

  pub too_short : (n : ℕ) → len ≡ Definite n → length z < n → after_tree mode w ≡ None
  too_short n e l = behind ∙ short f
    where
      short : (f : Bool) → option_map (λ t. t.1) (read_contents (read_list mode) t f len z) ≡ None
      short false = rw (e, lt-ltb _ _ l) refl
      short true = rw (e, lt-ltb _ _ l) refl

  pub primitive_read : (n : ℕ) (rest : List ℕ) → len ≡ Definite n → n ≤ length z → f ≡ false → rest ≡ drop n z → after_tree mode w ≡ Some rest
  primitive_read n rest e l form is = behind ∙ rw (form, e, le-ltb _ _ l) (ap Some (sym is))

  contents_read : (n : ℕ) → len ≡ Definite n → n ≤ length z → f ≡ true → after_tree mode w ≡ option_map (λ _. drop n z) (after_list mode false (take n z))
  unfolding after_list
  contents_read n e l form = behind ∙ rw (form, e, le-ltb _ _ l) (go (read_list mode false (take n z)))
    where
      go : (r : Option (Trees × List ℕ)) → option_map (λ t. t.1)
          (option_map {U = Tree × List ℕ} (λ ts. (constructed t ts.0, drop n z)) r) ≡ option_map (λ _. drop n z) (option_map (λ ts. ts.1) r)
      go None = refl
      go (Some ts) = refl

  pub definite_read : (n : ℕ) (contents rest : List ℕ) → len ≡ Definite n → n ≤ length z → f ≡ true → contents ≡ take n z → rest ≡ drop n z
      → after_list mode false contents ≡ Some [] → after_tree mode w ≡ Some rest
  definite_read n contents rest e l form front back r = contents_read n e l form ∙ rw (sym front, r) (ap Some (sym back))

  pub bad_contents : (n : ℕ) (contents : List ℕ) → len ≡ Definite n → n ≤ length z → f ≡ true → contents ≡ take n z → after_list mode false contents ≡ None
      → after_tree mode w ≡ None
  bad_contents n contents e l form front r = contents_read n e l form ∙ rw (sym front, r) refl

  pub indefinite_read : len ≡ Indefinite → after_tree mode w ≡ after_list mode true z
  unfolding after_list
  indefinite_read e =
      let d = header_sound mode w (record { tag = t; form = f; len = len }, z) o h in
      let m : f ≡ true = marked_form mode f (rw e at d.is_header.allowed) in
      behind ∙ rw (m, e) (go (read_list mode true z))
    where
      go : (r : Option (Trees × List ℕ))
          → option_map (λ t. t.1) (option_map {U = Tree × List ℕ} (λ ts. (constructed t ts.0, ts.1)) r) ≡ option_map (λ ts. ts.1) r
      go None = refl
      go (Some ts) = refl

-- ---- a primitive value with a header of two octets

pub value_octet : (b : ℕ) → b % 64 < 31 → b ≢ 0 → is_value_tag (record { class = class_of b; number = b % 32 }) ≡ true
unfolding class_of
value_octet b l z =
    elim (cases_lt b 64) [
      | inl lt ↦ rw (lt-ltb b 64 lt) (numbered (b % 32) (let q : b % 32 ≡ b = omega arith in λ e. z (sym q ∙ e)))
      | inr le ↦ elim (cases_lt b 128) [
        | inl lt ↦ rw (le-ltb b 64 le, lt-ltb b 128 lt) refl
        | inr more ↦ elim (cases_lt b 192) [
          | inl lt ↦ rw (le-ltb b 64 le, le-ltb b 128 more, lt-ltb b 192 lt) refl
          | inr most ↦ rw (le-ltb b 64 le, le-ltb b 128 more, le-ltb b 192 most) refl
        ]
      ]
    ]
  where
    numbered : (n : ℕ) → n ≢ 0 → is_value_tag (record { class = universal; number = n }) ≡ true
    numbered zero h = absurd (h refl)
    numbered (suc n) h = refl

pub unmarked_octet : (b : ℕ) → b % 64 < 31 → is_marked b ≡ false
unfolding is_marked
unmarked_octet b l = lt-leb 32 (b % 64) (omega arith)

pub short_header : (b n : ℕ) → 1 ≤ b % 64 → b % 64 ≤ 30 → n < 128 → BeginPrimitive b n
unfolding read_header read_identifier is_marked read_length
short_header b n some l k mode x =
    let p : b % 32 < 31 = omega arith in
    let z : b ≢ 0 = λ e. (let m : b % 64 ≡ 0 = rw e refl in omega arith) in (
      record { class = class_of b; number = b % 32 },
      rw (lt-ltb (b % 32) 31 p, lt-leb 32 (b % 64) (omega arith), value_octet b (omega arith) z, lt-ltb n 128 k) refl,
    )

pub value_shorter : (mode : Mode) (w x : List ℕ) → AreOctets w → after_tree mode w ≡ Some x → length x + 2 ≤ length w
value_shorter mode w x o e =
    let r = tree_read mode w x e in
    let s = tree_sound mode w (r.0, x) o r.1 in
    omega (arith, two_octets mode r.0 s.front s.is_encoding, ap length s.is, length-append s.front x)

-- what is read of octets is their front
pub begins_read : (mode : Mode) (w rest : List ℕ) (n : ℕ) → AreOctets w → after_tree mode w ≡ Some rest → n + length rest ≡ length w → BeginsWhole mode w n
begins_read mode w rest n o e l =
    let r = tree_read mode w rest e in
    let s = tree_sound mode w (r.0, rest) o r.1 in
    let k : length s.front ≡ n = omega (arith, ap length s.is, length-append s.front rest) in
    record { tree = r.0; encodes = subst (λ v. IsEncoding mode r.0 v) (sym (ap (take n) s.is ∙ take_at s.front rest n k)) s.is_encoding; fits = omega arith }

-- a primitive value whose header was read
primitive_begins : (mode : Mode) (w x : List ℕ) (t : Tag) (n m : ℕ) → AreOctets w
    → read_header mode w ≡ Some (record { tag = t; form = false; len = Definite m }, x) → m ≤ length x → n + length (drop m x) ≡ length w → BeginsWhole mode w n
primitive_begins mode w x t n m o e l k = begins_read mode w (drop m x) n o (primitive_read mode w t false (Definite m) x o e m (drop m x) refl l refl refl) k

pub short_begins : (w : List ℕ) (n m : ℕ) → AreOctets w → 2 ≤ length w → BeginPrimitive (get_or w 0 0) (get_or w 1 0) → m ≡ get_or w 1 0 → 2 + m ≤ length w
    → n ≡ 2 + m → (mode : Mode) → BeginsWhole mode w n
short_begins [] n m o two k e h r mode = absurd (omega arith)
short_begins (b ∷ []) n m o two k e h r mode = absurd (omega arith)
short_begins (b ∷ l ∷ x) n m o two k e h r mode =
    let f : l ≤ length x = omega (arith, h, e) in
    let c : n ≡ suc (suc l) = omega (arith, r, e) in
    let d = k mode x in
    primitive_begins mode (b ∷ l ∷ x) x d.0 n l o d.1 f (omega (arith, length-drop l x, c))

-- ---- a primitive value with a header of four octets

-- two octets may tell a length from 256 on in each mode
two_may_tell : (mode : Mode) (n : ℕ) → 256 ≤ n → may_tell mode 2 n ≡ true
unfolding may_tell
two_may_tell Ber n l = refl
two_may_tell Cer n l = le-leb 256 n l
two_may_tell Der n l = le-leb 256 n l

two_digits : (h l : ℕ) → big_endian (h ∷ (l ∷ [])) ≡ h * 256 + l
two_digits h l = omega arith

pub two_read : (mode : Mode) (h l n : ℕ) (x : List ℕ) → h * 256 + l ≡ n → 256 ≤ n → read_long mode 2 (h ∷ (l ∷ x)) ≡ Some (Definite n, x)
unfolding read_long
two_read mode h l n x e k = rw (le-ltb (suc (suc (length x))) 2 (omega arith), two_digits h l, e, two_may_tell mode n k) refl

long_header : (mode : Mode) (b h l n : ℕ) (x : List ℕ) → 1 ≤ b % 64 → b % 64 ≤ 30 → h * 256 + l ≡ n → 256 ≤ n
    → (t : Tag) × (read_header mode (b ∷ 130 ∷ h ∷ l ∷ x) ≡ Some (record { tag = t; form = false; len = Definite n }, x))
unfolding read_header read_identifier is_marked read_length
long_header mode b h l n x some k e m =
    let p : b % 32 < 31 = omega arith in
    let z : b ≢ 0 = λ e. (let m : b % 64 ≡ 0 = rw e refl in omega arith) in (
      record { class = class_of b; number = b % 32 },
      rw (lt-ltb (b % 32) 31 p, lt-leb 32 (b % 64) (omega arith), value_octet b (omega arith) z, two_read mode h l n x e m) refl,
    )

-- a leading octet and a length of three octets
pub long_stands : (mode : Mode) (w x : List ℕ) (t : Tag) (f : Bool) (n : ℕ) → 4 ≤ length w → get_or w 0 0 % 32 < 31 → get_or w 1 0 ≡ 130 → get_or w 2 0 ≢ 0
    → t ≡ record { class = class_of (get_or w 0 0); number = get_or w 0 0 % 32 } → f ≡ is_marked (get_or w 0 0) → n ≡ get_or w 2 0 * 256 + get_or w 3 0
    → read_front mode (w ++ x) ≡ Some (record { tag = t; form = f; len = Definite n }, drop 4 (w ++ x))
unfolding read_front read_identifier read_length
long_stands mode [] x t f n four low same some tag mark len = absurd (omega arith)
long_stands mode (b ∷ []) x t f n four low same some tag mark len = absurd (omega arith)
long_stands mode (b ∷ c ∷ []) x t f n four low same some tag mark len = absurd (omega arith)
long_stands mode (b ∷ c ∷ h ∷ []) x t f n four low same some tag mark len = absurd (omega arith)
long_stands mode (b ∷ c ∷ h ∷ l ∷ w) x t f n four low same some tag mark len =
    rw (same, lt-ltb (b % 32) 31 low, tag, mark, two_read mode h l n (w ++ x) (sym len) (omega (arith, len, some))) refl

pub long_begins : (w : List ℕ) (n m : ℕ) → AreOctets w → 4 ≤ length w → 1 ≤ get_or w 0 0 % 64 → get_or w 0 0 % 64 ≤ 30 → get_or w 1 0 ≡ 130
    → m ≡ get_or w 2 0 * 256 + get_or w 3 0 → 256 ≤ m → n ≡ 4 + m → n ≤ length w → (mode : Mode) → BeginsWhole mode w n
long_begins [] n m o four s k c e l r h mode = absurd (omega arith)
long_begins (b ∷ []) n m o four s k c e l r h mode = absurd (omega arith)
long_begins (b ∷ b2 ∷ []) n m o four s k c e l r h mode = absurd (omega arith)
long_begins (b ∷ b2 ∷ b3 ∷ []) n m o four s k c e l r h mode = absurd (omega arith)
long_begins (b ∷ b2 ∷ b3 ∷ b4 ∷ x) n m o four s k c e l r h mode =
    let d : n ≡ suc (suc (suc (suc m))) = omega arith in
    let f : m ≤ length x = omega (arith, h, d) in
    let w = b ∷ b2 ∷ b3 ∷ b4 ∷ x in
    let t = long_header mode b b3 b4 m x s k (sym e) l in
    let g : read_header mode w ≡ Some (record { tag = t.0; form = false; len = Definite m }, x) = ap (λ z. read_header mode (b ∷ z ∷ b3 ∷ b4 ∷ x)) c ∙ t.1 in
    primitive_begins mode w x t.0 n m o g f (omega (arith, length-drop m x, d))

pub whole_read : (mode : Mode) (w rest : List ℕ) (n : ℕ) → BeginsWhole mode w n → rest ≡ drop n w → after_tree mode w ≡ Some rest
unfolding after_tree
whole_read mode w rest n b e = ap (λ v. option_map (λ t. t.1) (read_tree mode v)) (sym (take-append-drop n w))
    ∙ rw (tree_complete mode b.tree (take n w) (drop n w) b.encodes) (ap Some (sym e))

-- ---- the clauses of a public function

abbrev pub Found : Mode → List ℕ → List ℕ → Type 0
Found mode octets rest = (t : Tree) × (w : List ℕ) × IsEncoding mode t w × (octets ≡ w ++ rest) × IsOnly mode t w octets

abbrev pub NothingFound : Mode → List ℕ → Type 0
NothingFound mode octets = (t : Tree) (w x : List ℕ) → IsEncoding mode t w → octets ≡ w ++ x → ⊥

pub found : (mode : Mode) (octets rest : List ℕ) → AreOctets octets → after_tree mode octets ≡ Some rest → Found mode octets rest
found mode octets rest o e =
    let r = tree_read mode octets rest e in
    let s = tree_sound mode octets (r.0, rest) o r.1 in (
      r.0,
      s.front,
      s.is_encoding,
      s.is,
      λ u v y e is. let same = one_encoding mode u r.0 v s.front y rest e s.is_encoding (sym is ∙ s.is) in
          (same.tree, same.front),
    )

nothing_found : (mode : Mode) (octets : List ℕ) → after_tree mode octets ≡ None → NothingFound mode octets
unfolding after_tree
nothing_found mode octets e t w x h is = none_is x (sym e ∙ rw (is, tree_complete mode t w x h) refl)

pub if_found : {X : Type 0} (r : Option X) (now : X → List ℕ) (mode : Mode) (octets : List ℕ) → AreOctets octets
    → IfSome r (λ x. after_tree mode octets ≡ Some (now x)) → IfSome r (λ x. Found mode octets (now x))
if_found None now mode octets o h = tt
if_found (Some x) now mode octets o h = found mode octets (now x) o h

pub if_nothing_found : {X : Type 0} (r : Option X) (mode : Mode) (octets : List ℕ) → IfNone r (after_tree mode octets ≡ None)
    → IfNone r (NothingFound mode octets)
if_nothing_found None mode octets h = nothing_found mode octets h
if_nothing_found (Some x) mode octets h = tt
