-- What follows from passing over a header.
use Rattle.std.proofs.Common.{◌≡◌, ◌≢◌, ◌↔◌, ℕ, ◌-◌, ◌≤◌, List, [], ◌∷◌, ◌++◌, length, take, drop, Option}
use Rattle.std.proofs.Common.{Some, None, refl, ap, sym, ◌∙◌, arith, subst, inl, inr}
use Rattle.std.proofs.lemmas.List.{take-append-drop, length-take-le, take_at}
use Rattle.std.proofs.lemmas.Grind.{common_steps}
use Rattle.bcder.specs.declared.mode.Mode.{Mode}
use Rattle.bcder.specs.declared.length.Length.{Length}
use Rattle.bcder.specs.declared.length.Length.TheVariants.{Definite, Indefinite}
use Rattle.bcder.specs.declared.decode.content.Kind.{Kind}
use Rattle.bcder.specs.declared.decode.content.State.TheVariants.{Open, Ended, Failed}
use Rattle.bcder.specs.x690.Identifier.{AreOctets, Tag, end_of_contents}
use Rattle.bcder.specs.x690.Encoding.{Header, IsHeader}
use Rattle.bcder.specs.steps.Reading.{read_identifier, read_header, read_end}
use Rattle.bcder.specs.declared.decode.header.Wanted.{Wanted}
use Rattle.bcder.specs.declared.decode.header.Wanted.TheVariants.{Any, Tagged}
use Rattle.bcder.specs.steps.Peek.{asked, HasOtherTag, HasNoHeader}
use Rattle.bcder.specs.calls.Stream.{Layer, Stream, IsSound, Grew, cut, past, limited}
use Rattle.bcder.specs.declared.decode.error.ContentError.{ContentError}
use Rattle.bcder.specs.calls.Cause.{Cause}
use Rattle.bcder.specs.declared.decode.content.Kind.TheVariants as kind
use Rattle.bcder.specs.declared.decode.violation.Violation.TheVariants as v
use Rattle.bcder.specs.calls.Violations.{BeginsOther}
use Rattle.bcder.specs.calls.Content.{EndsBefore, Reading, Asked, any, tagged, IsAsked, HasHeader, HasMarker, Falls, FitsOwed}
use Rattle.bcder.specs.steps.Entering.{Advances, Enters, TakesMarker, NoFront}
use Rattle.bcder.specs.calls.Content.{Moves, Resembles, Violates, values, Octets}
use Rattle.bcder.specs.calls.Content.{IsAtEnd, of_octets, of_definite, of_indefinite, of_unbounded, IsElsewhere, none_left}
use Rattle.bcder.specs.calls.Content.{other, marker, IsMissing, NothingThere}
use Rattle.bcder.specs.calls.Calls.{RefusesEnd, left_failed, source_failed, left_open}
use Rattle.bcder.specs.laws.Limits.{limit_told_after, limited_sound}
use Rattle.bcder.specs.laws.Sound.{none_is}
use Rattle.bcder.specs.laws.Stands.{Headed, header_sound}
use Rattle.bcder.specs.laws.Moved.{Falls-refl}
use Rattle.bcder.proofs.Moving.{moves_failed, moves_marker, moves_still, open_not_ended}
use Rattle.bcder.proofs.Headers.{no_header_unread, no_header_empty, header_no_marker, no_marker_unread, no_marker_empty, no_other_front, no_other_end}
use Rattle.bcder.proofs.Headers.{no_other_unread, other_of, front_of_read, marker_of_end, end_no_header, header_no_end, no_header_long, size_is}
use Rattle.bcder.specs.calls.Content.{Refuses, failed, source, nothing, otherwise}
use Rattle.bcder.proofs.Naming.{long_value}

-- ---- an advance of a limited source

taken_within : (n m : ℕ) (xs : List ℕ) → n ≤ length (take m xs) → n ≤ m
taken_within n m xs h = grind (arith, common_steps)

falls_after : (o p : Option ℕ) (xs ys : List ℕ) (n : ℕ) → cut p ys ≡ drop n (cut o xs) → n ≤ length (cut o xs) → past p ys ≡ past o xs → Falls o n p
falls_after None None xs ys n c h p = refl
falls_after None (Some m) xs ys n c h p = absurd (let e = ap (λ (y : Layer). y.number) p in omega arith)
falls_after (Some l) p xs ys n c h q =
    let e : p ≡ Some (l - n) = limit_told_after l p xs ys n c h q in
    let w : n ≤ l = taken_within n l xs h in
    subst (λ z. Falls (Some l) n z) (sym e) (omega arith)

first_layer : (x y : Layer) (xs ys : List Layer) → ◌≡◌ {A = List Layer} (x ∷ xs) (y ∷ ys) → x ≡ y
first_layer x y xs ys e = cc

module _ (c d : Reading) (s s' : Stream) (o o' : Option ℕ) (n : ℕ)
    (cs : c.stream ≡ limited o s) (co : c.owed ≡ o) (ds : d.stream ≡ limited o' s') (do' : d.owed ≡ o') where
  pub advances_by : IsSound s → (limited o' s').rest ≡ drop n (limited o s).rest → (limited o' s').faults ≡ (limited o s).faults → (limited o' s').kept
      ≡ (limited o s).kept → n ≤ (limited o s).avail → d.kind ≡ c.kind → d.mode ≡ c.mode → d.name ≡ c.name → Advances c d (take n c.stream.rest)
  advances_by so r f k a ki mo na =
      let q : IsSound (limited o s) = limited_sound o s so in
      let w : n ≤ length (cut o s.rest) = (let h : (limited o s).avail ≤ length (cut o s.rest) = q.at_hand in omega arith) in
      let e : cut o s.rest ≡ c.stream.rest = ap (λ x. x.rest) (sym cs) in
      record {
        rest = sym (take-append-drop n c.stream.rest) ∙ ap (λ x. take n c.stream.rest ++ drop n x) (sym e)
            ∙ ap (λ x. take n c.stream.rest ++ x) (sym r ∙ ap (λ x. x.rest) (sym ds));
        owed = (let g : Falls o n o' = falls_after o o' s.rest s'.rest n r w (first_layer _ _ _ _ k) in
            let l : length (take n c.stream.rest) ≡ n = length-take-le n c.stream.rest (subst (λ x. n ≤ length x) e w) in
            rw (co, do', l) g);
        kept = ap (λ x. x.kept) ds ∙ k ∙ ap (λ x. x.kept) (sym cs);
        faults = omega (arith, f, ap (λ x. x.faults) cs, ap (λ x. x.faults) ds);
        kind = ki;
        mode = mo;
        name = na;
      }

pub drop_rest : (n : ℕ) (w h : List ℕ) → w ≡ h ++ drop n w → n ≤ length w → h ≡ take n w
drop_rest n w h e l =
    let s : length h ≡ n = size_is n h w (drop n w) e refl l in
    sym (take_at h (drop n w) n s) ∙ ap (take n) (sym e)

-- ---- what was passed over

pub empty_unread : (m : Mode) → read_header m [] ≡ None
unfolding read_header read_identifier
empty_unread m = refl

pub empty_unended : (m : Mode) → read_end m [] ≡ None
unfolding read_end
empty_unended m = refl

module _ (c d : Reading) (n : ℕ) (a : Advances c d (take n c.stream.rest)) (o : AreOctets c.stream.rest) (l : n ≤ length c.stream.rest)
    (s : c.state ≡ Open) where
  rest_is : d.stream.rest ≡ drop n c.stream.rest
  rest_is = after_take (take n c.stream.rest) d.stream.rest (drop n c.stream.rest) (sym a.rest ∙ sym (take-append-drop n c.stream.rest))
    where
      after_take : (x y z : List ℕ) → x ++ y ≡ x ++ z → y ≡ z
      after_take [] y z e = e
      after_take (b ∷ x) y z e = after_take x y z (tail_is b (x ++ y) (x ++ z) e)
        where
          tail_is : (b : ℕ) (u v : List ℕ) → ◌≡◌ {A = List ℕ} (b ∷ u) (b ∷ v) → u ≡ v
          tail_is b u v e = cc

  -- that of a value
  module _ (h : Header) (r : read_header c.mode c.stream.rest ≡ Some (h, drop n c.stream.rest)) where
    pub enters : FitsOwed h.len d.owed → d.stream.faults ≡ c.stream.faults → d.marked ≡ c.marked → d.state ≡ Failed → Enters c h d
    enters k g m f =
        let p : Headed c.mode h c.stream.rest (drop n c.stream.rest) = header_sound c.mode c.stream.rest (h, drop n c.stream.rest) o r in
        record {
          octets = p.octets;
          is_header = p.is_header;
          advances = subst (λ z. Advances c d z) (sym (drop_rest n c.stream.rest p.octets p.is l)) a;
          no_fault = g;
          unmarked = m;
          usable = s;
          opened = f;
          fits = k;
        }

    pub no_front : (FitsOwed h.len d.owed → ⊥) → NoFront c
    no_front x = record {
      some = λ e. none_is _ (sym (empty_unread c.mode) ∙ subst (λ z. read_header c.mode z ≡ Some (h, drop n c.stream.rest)) e r);
      header = λ asked after z. no_header_long asked c after h n d.owed r l (subst (λ k. Falls c.owed k d.owed) (length-take-le n c.stream.rest l) a.owed) x z;
      marker = λ k after m. no_marker_unread c.mode c.stream.rest after (header_no_end c.mode c.stream.rest h (drop n c.stream.rest) r) m;
    }

    pub too_long : (FitsOwed h.len d.owed → ⊥) → Violates c v.ValueTooLong
    too_long x =
        let p : Headed c.mode h c.stream.rest (drop n c.stream.rest) = header_sound c.mode c.stream.rest (h, drop n c.stream.rest) o r in
        long_value c d h (drop n c.stream.rest) p (subst (λ z. Falls c.owed (length z) d.owed) (sym (drop_rest n c.stream.rest p.octets p.is l)) a.owed) x

  -- end-of-contents octets
  module _ (r : read_end c.mode c.stream.rest ≡ Some (drop n c.stream.rest)) where
    pub marker_here : HasMarker c.mode c.stream.rest d.stream.rest
    marker_here = subst (λ z. HasMarker c.mode c.stream.rest z) (sym rest_is) (marker_of_end c.mode c.stream.rest (drop n c.stream.rest) o r)

    pub takes_marker : c.kind ≡ values kind.Indefinite → d.state ≡ Ended → TakesMarker c d
    takes_marker k f = record { usable = s; kind = k; marker = marker_here; ended = f }

    pub marker_moves : c.kind ≡ values kind.Indefinite → d.state ≡ Ended → d.marked ≡ c.marked → Moves c d
    marker_moves k f m =
        let q : HasMarker c.mode c.stream.rest d.stream.rest = marker_here in
        let t : q.marker ≡ take n c.stream.rest = drop_rest n c.stream.rest q.marker (q.rest ∙ ap (λ z. q.marker ++ z) rest_is) l in
        moves_marker c d q.marker (subst (λ z. Advances c d z) (sym t) a) q.is_end m k s f

    pub no_end_here : (c.kind ≡ values kind.Indefinite → ⊥) → NoFront c
    no_end_here x = record {
      some = λ e. none_is _ (sym (empty_unended c.mode) ∙ subst (λ z. read_end c.mode z ≡ Some (drop n c.stream.rest)) e r);
      header = λ asked after z. no_header_unread asked c after (end_no_header c.mode c.stream.rest (drop n c.stream.rest) r) z;
      marker = λ k. absurd (x k);
    }

pub within : (o : Option ℕ) (s : Stream) (n : ℕ) → IsSound s → n ≤ (limited o s).avail → (AreOctets (cut o s.rest)) × (n ≤ length (cut o s.rest))
within o s n so w =
    let q : IsSound (limited o s) = limited_sound o s so in
    (q.octets, (let h : (limited o s).avail ≤ length (cut o s.rest) = q.at_hand in omega arith))

pub advances_to : (c d e : Reading) (p : List ℕ) → Advances c d p → e.stream ≡ d.stream → e.owed ≡ d.owed → e.kind ≡ d.kind → e.mode ≡ d.mode
    → e.name ≡ d.name → Advances c e p
advances_to c d e p a s o k m n = record {
  rest = a.rest ∙ ap (λ x. p ++ x.rest) (sym s);
  owed = rw o a.owed;
  kept = ap (λ x. x.kept) s ∙ a.kept;
  faults = (let f : c.stream.faults ≤ d.stream.faults = a.faults in omega (arith, f, ap (λ x. x.faults) s));
  kind = k ∙ a.kind;
  mode = m ∙ a.mode;
  name = n ∙ a.name;
}

pub kind_of : (a b : Kind) → values a ≡ values b → a ≡ b
kind_of a b e = cc

-- ---- content that was only looked at

-- no more is left than is owed
pub record Within (c : Reading) : Type 0 where
  pub fits : (n : ℕ) → c.owed ≡ Some n → length c.stream.rest ≤ n
  pub octets : AreOctets c.stream.rest

empty_of : (w : List ℕ) → length w ≤ 0 → w ≡ []
empty_of [] h = refl
empty_of (b ∷ w) h = absurd (omega arith)

pub used_rest : (c : Reading) → Within c → c.owed ≡ Some 0 → c.stream.rest ≡ []
used_rest c w e = empty_of c.stream.rest (w.fits 0 e)

module _ (c d : Reading) (s : Resembles c d) (f : c.stream.faults ≤ d.stream.faults) where
  pub looked_moves : Moves c d
  looked_moves = moves_still c d s.rest s.kept f s.owed s.kind (λ _. s.mode) s.name s.state (λ e. s.marked ∙ e)

  -- and then failed
  pub looked_failed : (e : Reading) → c.state ≡ Open → e.stream ≡ d.stream → e.owed ≡ d.owed → e.kind ≡ d.kind → e.mode ≡ d.mode → e.name ≡ d.name
      → e.marked ≡ d.marked → e.state ≡ Failed → Moves c e
  looked_failed e o a b k m n g st =
      moves_failed c e []
      (record {
        rest = sym s.rest ∙ ap (λ x. x.rest) (sym a);
        owed = (let x : Falls c.owed 0 c.owed = Falls-refl c.owed in rw (b, s.owed) x);
        kept = ap (λ x. x.kept) a ∙ s.kept;
        faults = omega (arith, f, ap (λ x. x.faults) a);
        kind = k ∙ s.kind;
        mode = m ∙ s.mode;
        name = n ∙ s.name;
      })
      (λ x. g ∙ s.marked ∙ x) (open_not_ended c.state o) st

  pub looked_enters : d.stream.faults ≡ c.stream.faults → (h : Header) (e : Reading) → Enters d h e → Enters c h e
  looked_enters n h e x = record {
    octets = x.octets;
    is_header = subst (λ m. IsHeader m h.tag h.form h.len x.octets) s.mode x.is_header;
    advances = record {
      rest = sym s.rest ∙ x.advances.rest;
      owed = subst (λ o. Falls o (length x.octets) e.owed) s.owed x.advances.owed;
      kept = x.advances.kept ∙ s.kept;
      faults = (let y : d.stream.faults ≤ e.stream.faults = x.advances.faults in omega (arith, f, y));
      kind = x.advances.kind ∙ s.kind;
      mode = x.advances.mode ∙ s.mode;
      name = x.advances.name ∙ s.name;
    };
    no_fault = x.no_fault ∙ n;
    unmarked = x.unmarked ∙ s.marked;
    usable = sym s.state ∙ x.usable;
    opened = x.opened;
    fits = x.fits;
  }

  looked_header : (asked : Asked) (after : List ℕ) → HasHeader asked c after → HasHeader asked d after
  looked_header asked after x = record {
    tag = x.tag;
    form = x.form;
    len = x.len;
    octets = x.octets;
    is_header = subst (λ m. IsHeader m x.tag x.form x.len x.octets) (sym s.mode) x.is_header;
    is_asked = x.is_asked;
    rest = s.rest ∙ x.rest;
    owed = x.owed;
    falls = subst (λ o. Falls o (length x.octets) x.owed) (sym s.owed) x.falls;
    fits = x.fits;
  }

  pub looked_front : NoFront d → NoFront c
  looked_front x = record {
    some = λ e. x.some (s.rest ∙ e);
    header = λ asked after y. x.header asked after (looked_header asked after y);
    marker = λ k after y. x.marker (s.kind ∙ k) after
        (subst (λ m. HasMarker m d.stream.rest after) (sym s.mode) (subst (λ z. HasMarker c.mode z after) (sym s.rest) y));
  }

-- ---- a value of any tag

pub front_nothing : (c : Reading) → Within c → (c.kind ≢ Octets) → c.state ≡ Open → NoFront c → NothingThere any c
front_nothing c w k o x = record {
  usable = o;
  header = x.header any;
  absent = λ after e. elim e [ inl y ↦ open_not_ended c.state o y | inr y ↦ at_end after y.1 ];
}
  where
    at_end : (after : List ℕ) → IsAtEnd c after → ⊥
    at_end after (of_octets q e) = k q
    at_end after (of_definite q e) = x.some (used_rest c w e)
    at_end after (of_indefinite q m) = x.marker q after m
    at_end after (of_unbounded q e) = x.some e

pub unread_front : (c : Reading) → 1 ≤ length c.stream.rest → read_header c.mode c.stream.rest ≡ None → read_end c.mode c.stream.rest ≡ None → NoFront c
unread_front c l e n = record {
  some = λ z. (let y = ap length z in omega (arith, l, y));
  header = λ asked after h. no_header_unread asked c after e h;
  marker = λ k after m. no_marker_unread c.mode c.stream.rest after n m;
}

pub empty_nothing : (c : Reading) → c.kind ≢ Octets → (c.kind ≡ values kind.Definite → c.owed ≡ Some 0 → ⊥) → (c.kind ≡ values kind.Unbounded → ⊥) → c.state ≡ Open
    → c.stream.rest ≡ [] → NothingThere any c
empty_nothing c k d u o e = record {
  usable = o;
  header = λ after h. no_header_empty any c after e h;
  absent = λ after x. elim x [ inl y ↦ open_not_ended c.state o y | inr y ↦ at_end after y.1 ];
}
  where
    at_end : (after : List ℕ) → IsAtEnd c after → ⊥
    at_end after (of_octets q z) = k q
    at_end after (of_definite q z) = d q z
    at_end after (of_indefinite q m) = no_marker_empty c.mode c.stream.rest after e m
    at_end after (of_unbounded q z) = u q

-- where a header stands in front, content is not at its end
pub header_not_at_end : (c : Reading) (after : List ℕ) → Within c → c.state ≡ Open → HasHeader any c after → (after : List ℕ) → EndsBefore c after → ⊥
header_not_at_end c after w o h = λ b e. elim e [ inl y ↦ open_not_ended c.state o y | inr y ↦ at_end b y.1 ]
  where
    at_end : (b : List ℕ) → IsAtEnd c b → ⊥
    at_end b (of_octets q z) = no_header_empty any c after (used_rest c w z) h
    at_end b (of_definite q z) = no_header_empty any c after (used_rest c w z) h
    at_end b (of_indefinite q m) = header_no_marker any c after b h m
    at_end b (of_unbounded q z) = no_header_empty any c after z h

abbrev pub header_entered : (c : Reading) (h : Header) (d : Reading) (asked : Asked) → IsAsked asked h.tag → Enters c h d → HasHeader asked c d.stream.rest
header_entered c h d asked t x = record {
  tag = h.tag;
  form = h.form;
  len = h.len;
  octets = x.octets;
  is_header = x.is_header;
  is_asked = t;
  rest = x.advances.rest;
  owed = d.owed;
  falls = x.advances.owed;
  fits = x.fits;
}

-- ---- a value of one tag

module _ (c : Reading) (t : Tag) (o : c.state ≡ Open) (n : NoFront c) (no_other : BeginsOther t c.stream.rest → ⊥) where
  front_is_nothing : NothingThere (tagged t) c
  front_is_nothing = record {
    usable = o;
    header = n.header (tagged t);
    absent = λ after y. elim y [ inl z ↦ open_not_ended c.state o z.0 | inr z ↦ elsewhere after z.1 ];
  }
    where
      elsewhere : (after : List ℕ) → IsElsewhere t c after → ⊥
      elsewhere after (none_left z s) = n.some z
      elsewhere after (other z s) = no_other z
      elsewhere after (marker z k m) = n.marker k after m

pub if_nothing : (c : Reading) (t : Tag) (h : Header) (x : List ℕ) → c.state ≡ Open → NoFront c → read_header c.mode c.stream.rest ≡ Some (h, x) → h.tag ≡ t
    → NothingThere (tagged t) c
if_nothing c t h x o n r e = front_is_nothing c t o n (no_other_front c.mode t c.stream.rest h x (front_of_read c.mode c.stream.rest h x r) e)

pub if_ended : (c : Reading) (t : Tag) (x : List ℕ) → c.state ≡ Open → NoFront c → read_end c.mode c.stream.rest ≡ Some x → end_of_contents ≡ t
    → NothingThere (tagged t) c
if_ended c t x o n r e = front_is_nothing c t o n (no_other_end c.mode t c.stream.rest x r e)

pub if_unread : (c : Reading) (t : Tag) → c.state ≡ Open → 1 ≤ length c.stream.rest → HasNoHeader c.mode (tagged t) c.stream.rest → NothingThere (tagged t) c
if_unread c t o l u = front_is_nothing c t o (unread_front c l u.0 u.1) (no_other_unread c.mode t c.stream.rest u)

pub no_fewer : (a b : ℕ) → a ≡ b → b ≤ a
no_fewer a b e = omega arith

pub grew_least : (a b : ℕ) → Grew a b → a ≤ b
grew_least a b g = g.no_smaller

-- ---- whichever headers are looked for

-- what was looked at
module _ (c d : Reading) (s : Resembles c d) (o : c.state ≡ Open) where
  pub other_missing : (w : Wanted) → Within c → HasOtherTag (asked w) d.stream.rest → IsMissing (asked w) c d
  other_missing Any i u = absurd (u.4 refl)
  other_missing (Tagged t) i u =
      (inr (o, other (other_of t c.stream.rest i.octets (subst (λ z. HasOtherTag (tagged t) z) s.rest u)) s.rest), inl (s.state, s.rest))

  pub none_nothing : (w : Wanted) → (w ≡ Any) → c.kind ≢ Octets → (c.kind ≡ values kind.Definite → c.owed ≡ Some 0 → ⊥) → (c.kind ≡ values kind.Unbounded → ⊥)
      → d.stream.rest ≡ [] → NothingThere (asked w) c
  none_nothing Any a k n u e = empty_nothing c k n u o (sym s.rest ∙ e)
  none_nothing (Tagged t) a k n u e = absurd cc

  pub unread_nothing : (w : Wanted) → Within c → c.kind ≢ Octets → 1 ≤ length d.stream.rest → HasNoHeader c.mode (asked w) d.stream.rest
      → NothingThere (asked w) c
  unread_nothing Any i k l u = front_nothing c i k o (unread_front c (subst (λ z. 1 ≤ length z) s.rest l) (subst (λ z. read_header c.mode z ≡ None) s.rest u.0)
      (subst (λ z. read_end c.mode z ≡ None) s.rest u.1))
  unread_nothing (Tagged t) i k l u = if_unread c t o (subst (λ z. 1 ≤ length z) s.rest l) (subst (λ z. HasNoHeader c.mode (tagged t) z) s.rest u)

  pub header_nothing : (w : Wanted) → Within c → c.kind ≢ Octets → NoFront c → (h : Header) (x : List ℕ) → read_header d.mode d.stream.rest ≡ Some (h, x)
      → IsAsked (asked w) h.tag → NothingThere (asked w) c
  header_nothing Any i k n h x r e = front_nothing c i k o n
  header_nothing (Tagged t) i k n h x r e =
      if_nothing c t h x o n (subst (λ m. read_header m c.stream.rest ≡ Some (h, x)) s.mode (subst (λ z. read_header d.mode z ≡ Some (h, x)) s.rest r)) e

  pub end_nothing : (w : Wanted) → Within c → c.kind ≢ Octets → NoFront c → (x : List ℕ) → read_end c.mode d.stream.rest ≡ Some x
      → IsAsked (asked w) end_of_contents → NothingThere (asked w) c
  end_nothing Any i k n x r e = front_nothing c i k o n
  end_nothing (Tagged t) i k n x r e = if_ended c t x o n (subst (λ z. read_end c.mode z ≡ Some x) s.rest r) e

  -- the end marker was taken
  pub marker_missing : (w : Wanted) → IsAsked (asked w) end_of_contents → (e : Reading) → TakesMarker d e → IsMissing (asked w) c e
  marker_missing w i e m = by w i
    where
      here : HasMarker c.mode c.stream.rest e.stream.rest
      here = subst (λ z. HasMarker z c.stream.rest e.stream.rest) s.mode (subst (λ z. HasMarker d.mode z e.stream.rest) s.rest m.marker)

      is_kind : c.kind ≡ values kind.Indefinite
      is_kind = sym s.kind ∙ m.kind

      by : (w : Wanted) → IsAsked (asked w) end_of_contents → IsMissing (asked w) c e
      by Any i = (inr (o, of_indefinite is_kind here), inl m.ended)
      by (Tagged t) i = (inr (o, marker (sym i) is_kind here), inr (sym i, o, m.ended))

-- ---- why content is not left at its end

pub end_refused : {E : Type 0} (why : E → Cause ContentError) (c d : Reading) (e : E) → Refuses why any (NothingThere any) ⊥ c e d → RefusesEnd why c e d
end_refused why c d e (failed s o) = left_failed s o
end_refused why c d e (source k g) = source_failed k g
end_refused why c d e (nothing n o) = left_open n.absent o.refused
end_refused why c d e (otherwise n) = absurd n

-- ---- whether the octets that a length promises are within what is owed

pub fits_owed : (l : Length) (o : Option ℕ) → FitsOwed l o ↔ ((n m : ℕ) → l ≡ Definite n → o ≡ Some m → n ≤ m)
fits_owed (Definite n) (Some m) = (λ h k j e f. let x : n ≡ k = cc in let y : m ≡ j = cc in omega (arith, h, x, y), λ h. h n m refl refl)
fits_owed (Definite n) None = (λ h k j e f. absurd cc, λ h. refl)
fits_owed Indefinite o = (λ h k j e f. absurd cc, λ h. refl)
