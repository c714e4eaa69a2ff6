-- What stands in front of octets, by what is read there.
use Rattle.std.proofs.Common.{◌≡◌, ℕ, zero, suc, ◌+◌, ◌-◌, ◌≤◌, Bool, true, false, cond, List, [], ◌∷◌, ◌++◌, length, drop, Option, Some, None}
use Rattle.std.proofs.Common.{option_map, option_and_then, refl, ap, sym, ◌∙◌, arith, length-append, append_assoc, subst, inl, inr}
use Rattle.std.proofs.lemmas.Grind.{common_steps}
use Rattle.bcder.specs.declared.mode.Mode.{Mode}
use Rattle.bcder.specs.declared.length.Length.{Length}
use Rattle.bcder.specs.declared.length.Length.TheVariants.{Definite, Indefinite}
use Rattle.bcder.specs.x690.Identifier.{AreOctets, Tag, IsTag, identifier, end_of_contents, is_value_tag}
use Rattle.bcder.specs.x690.Length.{IsEndOfContents}
use Rattle.bcder.specs.x690.Tree.{Tree, primitive, constructed, Trees}
use Rattle.bcder.specs.x690.Encoding.{may_have, IsHeader, IsDefinite, IsFramed, IsEncoding, AreEncodings, Header}
use Rattle.bcder.specs.steps.Reading.{class_of, is_marked, read_identifier, read_length, read_front, read_header, read_end}
use Rattle.bcder.specs.steps.Peek.{HasOtherTag, HasNoHeader}
use Rattle.bcder.specs.calls.Violations.{BeginsOther}
use Rattle.bcder.specs.calls.Content.{Reading, Asked, tagged, IsAsked, HasHeader, HasMarker, Falls, FitsOwed}
use Rattle.bcder.specs.laws.Identifiers.{read_identifier-identifier}
use Rattle.bcder.specs.laws.Lengths.{read_length-tells, read_end-complete}
use Rattle.bcder.specs.laws.Sound.{none_is, mapped, chained, passed, some_inj, identifier_sound, end_sound}
use Rattle.bcder.specs.laws.Complete.{one_header, header_size, header_complete}

-- ---- what stands in front is read

pub front_of_parts : (mode : Mode) (t : Tag) (f : Bool) (len : Length) (l x : List ℕ) → IsTag t → read_length mode (l ++ x) ≡ Some (len, x)
    → read_front mode (identifier t f ++ (l ++ x)) ≡ Some (record { tag = t; form = f; len = len }, x)
unfolding read_front
front_of_parts mode t f len l x i e = rw (read_identifier-identifier t f (l ++ x) i, e) refl

pub front_of_header : (mode : Mode) (t : Tag) (f : Bool) (len : Length) (h w x : List ℕ) → IsHeader mode t f len h → w ≡ h ++ x
    → read_front mode w ≡ Some (record { tag = t; form = f; len = len }, x)
front_of_header mode t f len h w x d e =
    ap (read_front mode) (e ∙ ap (λ z. z ++ x) d.is ∙ append_assoc (identifier t f) d.length_octets x)
    ∙ front_of_parts mode t f len d.length_octets x d.is_value_tag.fits (read_length-tells mode len d.length_octets x d.tells)

-- ---- what is read stands in front

record Parts (mode : Mode) (w : List ℕ) (h : Header) (x : List ℕ) : Type 0 where
  after : List ℕ
  identified : read_identifier w ≡ Some (h.tag, h.form, after)
  told : read_length mode after ≡ Some (h.len, x)

pair_is : {A : Type 0} (a b : A) (x y : List ℕ) → ◌≡◌ {A = A × List ℕ} (a, x) (b, y) → (a ≡ b) × (x ≡ y)
pair_is a b x y e = (ap (λ r. r.0) e, ap (λ r. r.1) e)

parts_at : (mode : Mode) (w : List ℕ) (h : Header) (x after : List ℕ) (t : Tag) (f : Bool) (l : Length) (y : List ℕ) → read_identifier w ≡ Some (t, f, after)
    → read_length mode after ≡ Some (l, y) → ◌≡◌ {A = Header} (record { tag = t; form = f; len = l }) h → y ≡ x → Parts mode w h x
parts_at mode w h x after t f l y i r e s = record {
  after = after;
  identified = i ∙ (let a : t ≡ h.tag = ap (λ z. z.tag) e in let b : f ≡ h.form = ap (λ z. z.form) e in rw (a, b) refl);
  told = r ∙ (let a : l ≡ h.len = ap (λ z. z.len) e in rw (a, s) refl);
}

parts : (mode : Mode) (w : List ℕ) (h : Header) (x : List ℕ) → read_front mode w ≡ Some (h, x) → Parts mode w h x
unfolding read_front
parts mode w h x e =
    let a = chained (λ i. option_map (λ l. (record { tag = i.0; form = i.1; len = l.0 }, l.1)) (read_length mode i.2)) (read_identifier w) (h, x) e in
    let b = mapped (λ (l : Length × List ℕ). (record { tag = a.0.0; form = a.0.1; len = l.0 }, l.1)) (read_length mode a.0.2) (h, x) a.2 in
    let p = pair_is _ h b.0.1 x b.2 in
    parts_at mode w h x a.0.2 a.0.0 a.0.1 b.0.0 b.0.1 a.1 b.1 p.0 p.1

-- a header with another tag is the identifier octets of that one
pub other_of_front : (mode : Mode) (asked : Asked) (w : List ℕ) (h : Header) (x : List ℕ) → read_front mode w ≡ Some (h, x)
    → (IsAsked asked h.tag → ⊥) → HasOtherTag asked w
other_of_front mode asked w h x e d = let p = parts mode w h x e in (h.tag, h.form, p.after, p.identified, d)

header_read : (mode : Mode) (w : List ℕ) (h : Header) (x : List ℕ) → Parts mode w h x → is_value_tag h.tag ≡ true → may_have mode h.form h.len ≡ true
    → read_header mode w ≡ Some (h, x)
unfolding read_header
header_read mode w h x p v a = rw (p.identified, v, p.told, a) refl

pub header_of_front : (mode : Mode) (w : List ℕ) (h : Header) (x : List ℕ) → read_front mode w ≡ Some (h, x) → is_value_tag h.tag ≡ true
    → may_have mode h.form h.len ≡ true → read_header mode w ≡ Some (h, x)
header_of_front mode w h x e v a = header_read mode w h x (parts mode w h x e) v a

header_parts : (mode : Mode) (w : List ℕ) (h : Header) (x : List ℕ) → read_header mode w ≡ Some (h, x) → Parts mode w h x
unfolding read_header
header_parts mode w h x e =
    let a = chained (λ i. cond (is_value_tag i.0)
    (option_and_then (λ l. cond (may_have mode i.1 l.0) (Some (record { tag = i.0; form = i.1; len = l.0 }, l.1)) None) (read_length mode i.2)) None)
    (read_identifier w) (h, x) e in
    let p = passed (is_value_tag a.0.0) _ _ a.2 in
    let b = chained (λ l. cond (may_have mode a.0.1 l.0) (Some (record { tag = a.0.0; form = a.0.1; len = l.0 }, l.1)) None)
    (read_length mode a.0.2) (h, x) p.1 in
    let q = passed (may_have mode a.0.1 b.0.0) _ _ b.2 in
    let r = pair_is _ h b.0.1 x (some_inj _ _ q.1) in
    parts_at mode w h x a.0.2 a.0.0 a.0.1 b.0.0 b.0.1 a.1 b.1 r.0 r.1

-- the header of a value is its identifier octets and its length octets
pub front_of_read : (mode : Mode) (w : List ℕ) (h : Header) (x : List ℕ) → read_header mode w ≡ Some (h, x) → read_front mode w ≡ Some (h, x)
unfolding read_front
front_of_read mode w h x e = let p = header_parts mode w h x e in rw (p.identified, p.told) refl

pub marker_of_end : (mode : Mode) (w x : List ℕ) → AreOctets w → read_end mode w ≡ Some x → HasMarker mode w x
marker_of_end mode w x o e = let m = end_sound mode w x o e in record { marker = m.marker; is_end = m.is_end; rest = m.is }

end_of_marker : (mode : Mode) (w x : List ℕ) → HasMarker mode w x → read_end mode w ≡ Some x
end_of_marker mode w x m = ap (read_end mode) m.rest ∙ read_end-complete mode m.marker x m.is_end

-- end-of-contents octets are no header of a value
pub end_no_header : (mode : Mode) (w x : List ℕ) → read_end mode w ≡ Some x → read_header mode w ≡ None
unfolding read_end read_header read_identifier class_of
end_no_header mode [] x e = absurd (none_is _ e)
end_no_header mode (suc b ∷ w) x e = absurd (none_is _ e)
end_no_header mode (zero ∷ w) x e = refl

pub header_no_end : (mode : Mode) (w : List ℕ) (h : Header) (x : List ℕ) → read_header mode w ≡ Some (h, x) → read_end mode w ≡ None
header_no_end mode w h x e = go (read_end mode w) refl
  where
    go : (r : Option (List ℕ)) → read_end mode w ≡ r → read_end mode w ≡ None
    go None q = q
    go (Some y) q = absurd (none_is _ (sym (end_no_header mode w y q) ∙ e))

-- they begin with identifier octets
pub end_identified : (mode : Mode) (w x : List ℕ) → read_end mode w ≡ Some x → (y : List ℕ) × (read_identifier w ≡ Some (end_of_contents, false, y))
unfolding read_end read_identifier class_of is_marked
end_identified mode [] x e = absurd (none_is _ e)
end_identified mode (suc b ∷ w) x e = absurd (none_is _ e)
end_identified mode (zero ∷ w) x e = (w, refl)

pub other_of : (t : Tag) (w : List ℕ) → AreOctets w → HasOtherTag (tagged t) w → BeginsOther t w
other_of t w o h = let i = identifier_sound w h.0 h.1 h.2 o h.3 in (h.0, h.1, h.2, i.fits, h.4, i.is)

-- ---- what does not stand in front

header_inj : (w : List ℕ) (mode : Mode) (h k : Header) (x y : List ℕ) → read_header mode w ≡ Some (h, x) → read_header mode w ≡ Some (k, y) → (h ≡ k) × (x ≡ y)
header_inj w mode h k x y a b = pair_is h k x y (some_inj (h, x) (k, y) (sym a ∙ b))

pub header_is : (asked : Asked) (c : Reading) (after : List ℕ) → HasHeader asked c after → Header
header_is asked c after d = record { tag = d.tag; form = d.form; len = d.len }

pub has_header : (asked : Asked) (c : Reading) (after : List ℕ) (d : HasHeader asked c after)
    → read_header c.mode c.stream.rest ≡ Some (header_is asked c after d, after)
unfolding header_is
has_header asked c after d = ap (read_header c.mode) d.rest ∙ header_complete c.mode d.tag d.form d.len d.octets after d.is_header

pub no_header_unread : (asked : Asked) (c : Reading) (after : List ℕ) → read_header c.mode c.stream.rest ≡ None → HasHeader asked c after → ⊥
no_header_unread asked c after e d = none_is _ (sym e ∙ has_header asked c after d)

pub no_header_empty : (asked : Asked) (c : Reading) (after : List ℕ) → c.stream.rest ≡ [] → HasHeader asked c after → ⊥
no_header_empty asked c after e d =
    let s : 2 ≤ length d.octets = header_size c.mode d.tag d.form d.len d.octets d.is_header in
    omega (arith, s, ap length e, ap length d.rest, length-append d.octets after)

-- the size of what stands before the rest
pub size_is : (n : ℕ) (h w x : List ℕ) → w ≡ h ++ x → x ≡ drop n w → n ≤ length w → length h ≡ n
size_is n h w x e d l =
    let a : length w ≡ length h + length x = ap length e ∙ length-append h x in
    let b : length x ≡ length w - n = ap length d ∙ (let z : length (drop n w) ≡ length w - n = grind (arith, common_steps) in z) in
    omega arith

falls_at : (c o p : Option ℕ) (k : ℕ) → Falls c k o → Falls c k p → o ≡ p
falls_at None None None k f g = refl
falls_at None (Some a) p k f g = absurd (f refl)
falls_at None None (Some a) k f g = absurd (g refl)
falls_at (Some z) None p k f g = absurd (f refl)
falls_at (Some z) (Some a) None k f g = absurd (g refl)
falls_at (Some z) (Some a) (Some b) k f g = ap Some (omega arith)

pub no_header_long : (asked : Asked) (c : Reading) (after : List ℕ) (h : Header) (n : ℕ) (o : Option ℕ) → read_header c.mode c.stream.rest
    ≡ Some (h, drop n c.stream.rest) → n ≤ length c.stream.rest → Falls c.owed n o → (FitsOwed h.len o → ⊥) → HasHeader asked c after → ⊥
unfolding header_is
no_header_long asked c after h n o e l f unfit d =
    let p = header_inj c.stream.rest c.mode _ h after (drop n c.stream.rest) (has_header asked c after d) e in
    let s : length d.octets ≡ n = size_is n d.octets c.stream.rest after d.rest p.1 l in
    let q : d.owed ≡ o = falls_at c.owed d.owed o n (subst (λ z. Falls c.owed z d.owed) s d.falls) f in
    unfit (subst (λ z. FitsOwed z o) (ap (λ z. z.len) p.0) (subst (λ z. FitsOwed d.len z) q d.fits))

pub no_marker_unread : (mode : Mode) (w after : List ℕ) → read_end mode w ≡ None → HasMarker mode w after → ⊥
no_marker_unread mode w after e m = none_is _ (sym e ∙ end_of_marker mode w after m)

pub no_marker_empty : (mode : Mode) (w after : List ℕ) → w ≡ [] → HasMarker mode w after → ⊥
no_marker_empty mode w after e m = omega (arith, ap length e, ap length m.rest, ap length m.is_end.is, length-append m.marker after)

-- a header is no marker, and no tag of its own is another
pub header_no_marker : (asked : Asked) (c : Reading) (after x : List ℕ) → HasHeader asked c after → HasMarker c.mode c.stream.rest x → ⊥
header_no_marker asked c after x d m = no_header_unread asked c after (end_no_header c.mode c.stream.rest x (end_of_marker c.mode c.stream.rest x m)) d

identified_of : (t : Tag) (w : List ℕ) (o : BeginsOther t w) → read_identifier w ≡ Some (o.0, o.1, o.2)
identified_of t w o = ap read_identifier o.5 ∙ read_identifier-identifier o.0 o.1 o.2 o.3

tag_inj : (a b : Tag) (f g : Bool) (x y : List ℕ) → ◌≡◌ {A = Option (Tag × Bool × List ℕ)} (Some (a, f, x)) (Some (b, g, y)) → a ≡ b
tag_inj a b f g x y e = let p : ◌≡◌ {A = Tag × Bool × List ℕ} (a, f, x) (b, g, y) = cc in ap (λ q. q.0) p

pub no_other_front : (mode : Mode) (t : Tag) (w : List ℕ) (h : Header) (x : List ℕ) → read_front mode w ≡ Some (h, x) → h.tag ≡ t → BeginsOther t w → ⊥
no_other_front mode t w h x e s o =
    let p = parts mode w h x e in
    o.4 (tag_inj o.0 h.tag o.1 h.form o.2 p.after (sym (identified_of t w o) ∙ p.identified) ∙ s)

pub no_other_end : (mode : Mode) (t : Tag) (w x : List ℕ) → read_end mode w ≡ Some x → end_of_contents ≡ t → BeginsOther t w → ⊥
no_other_end mode t w x e s o =
    let i = end_identified mode w x e in
    o.4 (tag_inj o.0 end_of_contents o.1 false o.2 i.0 (sym (identified_of t w o) ∙ i.1) ∙ s)

pub no_other_unread : (mode : Mode) (t : Tag) (w : List ℕ) → HasNoHeader mode (tagged t) w → BeginsOther t w → ⊥
no_other_unread mode t w n o = n.2 (o.0, o.1, o.2, identified_of t w o, o.4)

-- ---- an encoding behind a header

pub data Shape (mode : Mode) (form : Bool) (len : Length) (x y : List ℕ) : Type 0 where
  is_primitive : (b : List ℕ) → form ≡ false → len ≡ Definite (length b) → y ≡ b ++ x → Shape mode form len x y
  is_definite : (ts : Trees) (b : List ℕ) → form ≡ true → len ≡ Definite (length b) → AreEncodings mode ts b → y ≡ b ++ x → Shape mode form len x y
  is_indefinite : (ts : Trees) (b e : List ℕ) → form ≡ true → len ≡ Indefinite → AreEncodings mode ts b → IsEndOfContents mode e → y ≡ b ++ (e ++ x)
      → Shape mode form len x y

module _ (mode : Mode) (u : Tag) (form : Bool) (len : Length) (h y : List ℕ) (d : IsHeader mode u form len h) where
  shape_primitive : (t : Tag) (b v x : List ℕ) → IsDefinite mode t false b v → v ++ x ≡ h ++ y → Shape mode form len x y
  shape_primitive t b v x k e =
      let p = one_header mode u t form false len (Definite (length b)) h k.header y (b ++ x) d k.is_header
      (sym e ∙ ap (λ z. z ++ x) k.is ∙ append_assoc k.header b x) in
      is_primitive b (ap (λ z. z.form) p.0) (ap (λ z. z.len) p.0) p.1

  shape_framed : (t : Tag) (ts : Trees) (b v x : List ℕ) → AreEncodings mode ts b → IsFramed mode t b v → v ++ x ≡ h ++ y → Shape mode form len x y
  shape_framed t ts b v x q (inl k) e =
      let p = one_header mode u t form true len (Definite (length b)) h k.header y (b ++ x) d k.is_header
      (sym e ∙ ap (λ z. z ++ x) k.is ∙ append_assoc k.header b x) in
      is_definite ts b (ap (λ z. z.form) p.0) (ap (λ z. z.len) p.0) q p.1
  shape_framed t ts b v x q (inr k) e =
      let p = one_header mode u t form true len Indefinite h k.header y ((b ++ k.end) ++ x) d k.is_header
      (sym e ∙ ap (λ z. z ++ x) k.is ∙ append_assoc k.header (b ++ k.end) x) in
      is_indefinite ts b k.end (ap (λ z. z.form) p.0) (ap (λ z. z.len) p.0) q k.is_end (p.1 ∙ append_assoc b k.end x)

  pub shape : (t : Tree) (v x : List ℕ) → IsEncoding mode t v → v ++ x ≡ h ++ y → Shape mode form len x y
  shape (primitive t b) v x k e = shape_primitive t b v x k.1 e
  shape (constructed t ts) v x k e = shape_framed t ts k.0 v x k.1 k.2 e

-- the header of an encoding
pub record HeaderOf (mode : Mode) (v : List ℕ) : Type 0 where
  pub tag : Tag
  pub form : Bool
  pub len : Length
  pub octets : List ℕ
  pub body : List ℕ
  pub is_header : IsHeader mode tag form len octets
  pub is : v ≡ octets ++ body
  pub fits : (n : ℕ) → len ≡ Definite n → n ≤ length body

pub definite_inj : (a b : ℕ) → ◌≡◌ {A = Length} (Definite a) (Definite b) → a ≡ b
definite_inj a b e = cc

header_of_definite : (mode : Mode) (t : Tag) (f : Bool) (b v : List ℕ) → IsDefinite mode t f b v → HeaderOf mode v
header_of_definite mode t f b v k = record {
  tag = t;
  form = f;
  len = Definite (length b);
  octets = k.header;
  body = b;
  is_header = k.is_header;
  is = k.is;
  fits = λ n e. (let z : length b ≡ n = definite_inj (length b) n e in omega arith);
}

header_of_framed : (mode : Mode) (t : Tag) (b v : List ℕ) → IsFramed mode t b v → HeaderOf mode v
header_of_framed mode t b v (inl k) = header_of_definite mode t true b v k
header_of_framed mode t b v (inr k) = record {
  tag = t;
  form = true;
  len = Indefinite;
  octets = k.header;
  body = b ++ k.end;
  is_header = k.is_header;
  is = k.is;
  fits = λ n e. absurd (let z : ◌≡◌ {A = Length} Indefinite (Definite n) = e in cc);
}

pub header_of : (mode : Mode) (t : Tree) (v : List ℕ) → IsEncoding mode t v → HeaderOf mode v
header_of mode (primitive t b) v k = header_of_definite mode t false b v k.1
header_of mode (constructed t ts) v k = header_of_framed mode t k.0 v k.2
