-- Strings that are cut into segments again.
use Rattle.std.proofs.Common.{◌≡◌, ℕ, zero, suc, ◌+◌, ◌-◌, ◌^◌, ◌<◌, ◌≤◌, Bool, true, false, List, [], ◌∷◌, ◌++◌, length, take, drop, get_or}
use Rattle.std.proofs.Common.{refl, sym, ap, ap₂, subst, ◌∙◌, append_assoc, append-nil, Some, arith}
use Rattle.std.specs.List.{concat}
use Rattle.std.proofs.lemmas.List.{length-append, length-take, length-drop, length-take-le, take-append-drop, take_all}
use Rattle.std.proofs.Math.Seq.{take-append-add}
use Rattle.bcder.specs.declared.mode.Mode.TheVariants.{Cer}
use Rattle.bcder.specs.x690.Identifier.{Tag}
use Rattle.bcder.specs.x690.OctetString.{octet_string_tag, segments_of, FollowFull, AreSegmentsIn}
use Rattle.bcder.specs.x690.Octets.{definite, header}
use Rattle.bcder.specs.calls.Content.{length_of}
use Rattle.bcder.specs.x690.Tree.{primitive, no_trees, ◌∷ₜ◌}
use Rattle.encodings.specs.declared.convert.Item.{Item}
use Rattle.encodings.specs.declared.convert.Kind.{Kind}
use Rattle.encodings.specs.declared.convert.Kind.TheVariants.{Boolean, Bits, Text, Other}
use Rattle.encodings.specs.declared.convert.Sort.{Sort}
use Rattle.encodings.specs.declared.convert.Sort.TheVariants.{Value, Begin, End, Whole, Part, WholeEnd}
use Rattle.encodings.specs.Conversion.{kind_of}
use Rattle.std.specs.Prelude.{⊤, nat_lt, if◌then◌else◌}
use Rattle.std.proofs.lemmas.Bool.{lt-ltb}
use Rattle.std.proofs.Common.{ltb-true}
use Rattle.encodings.specs.Cutting.{CutFit, cut_value, value_written}
use Rattle.encodings.specs.Cutting.{cut_from, cut, closed_left, open_left, body_left, total_of, cut_written, inside_cut, state_written}
use Rattle.encodings.specs.Cutting.{Adds, Feeds, Opens, Fills, FeedsSome}
use Rattle.encodings.specs.Pieces.{Made, made_value, made_beginning, made_end, made_string, made_part, made_string_end}
use Rattle.encodings.specs.Pieces.{AreThere, headed, made_as, made_of, all_made}
use Rattle.encodings.specs.Pieces.{Frames, in_front, string_headed, string_ended, ended, with_made, written, FitsBefore, Fit, all_spelled}

-- ---- segments

drop_small : (b : ℕ) (s : List ℕ) → length (drop 1000 (b ∷ s)) ≤ length s
drop_small b s = omega (arith, length-drop 1000 (b ∷ s))

no_octets : (s : List ℕ) → length s ≡ 0 → s ≡ []
no_octets [] l = refl
no_octets (b ∷ s) l = absurd (omega (arith, l))

cut_nil : (n : ℕ) → cut_from n [] ≡ no_trees
unfolding cut_from
cut_nil zero = refl
cut_nil (suc n) = refl

-- no more segments are needed
pub enough : (n m : ℕ) (s : List ℕ) → length s ≤ n → length s ≤ m → cut_from n s ≡ cut_from m s
unfolding cut_from
enough n m [] l k = cut_nil n ∙ sym (cut_nil m)
enough zero m (b ∷ s) l k = absurd (omega (arith, l))
enough (suc n) zero (b ∷ s) l k = absurd (omega (arith, k))
enough (suc n) (suc m) (b ∷ s) l k =
    ap (λ ts. primitive octet_string_tag (take 1000 (b ∷ s)) ∷ₜ ts)
    (enough n m (drop 1000 (b ∷ s)) (omega (arith, drop_small b s, l)) (omega (arith, drop_small b s, k)))

pub cut_next : (s : List ℕ) → 0 < length s → cut s ≡ (primitive octet_string_tag (take 1000 s) ∷ₜ cut (drop 1000 s))
unfolding cut_from
cut_next [] l = absurd (omega (arith, l))
cut_next (b ∷ s) l =
    ap (λ ts. primitive octet_string_tag (take 1000 (b ∷ s)) ∷ₜ ts)
    (enough (length s) (length (drop 1000 (b ∷ s))) (drop 1000 (b ∷ s)) (drop_small b s) (omega arith))

pub cut_holds : (n : ℕ) (s : List ℕ) → length s ≤ n → concat (segments_of (cut_from n s)) ≡ s
unfolding cut_from
cut_holds n [] l = ap (λ ts. concat (segments_of ts)) (cut_nil n)
cut_holds zero (b ∷ s) l = absurd (omega (arith, l))
cut_holds (suc n) (b ∷ s) l =
    ap (λ w. take 1000 (b ∷ s) ++ w) (cut_holds n (drop 1000 (b ∷ s)) (omega (arith, drop_small b s, l))) ∙ take-append-drop 1000 (b ∷ s)

followed : (n : ℕ) (c s : List ℕ) → length s ≤ n → 1 ≤ length c → length c ≤ 1000 → (0 < length s → length c ≡ 1000)
    → (0 < length s → FollowFull (cut_from n s)) → FollowFull (primitive octet_string_tag c ∷ₜ cut_from n s)
unfolding cut_from
followed zero c s l some few full more = (refl, (some, few))
followed (suc n) c [] l some few full more = (refl, (some, few))
followed (suc n) c (b ∷ s) l some few full more = ((refl, full (omega arith)), more (omega arith))

pub cut_follows : (n : ℕ) (s : List ℕ) → length s ≤ n → 0 < length s → FollowFull (cut_from n s)
unfolding cut_from
cut_follows n [] l p = absurd (omega (arith, p))
cut_follows zero (b ∷ s) l p = absurd (omega (arith, l))
cut_follows (suc n) (b ∷ s) l p =
    followed n (take 1000 (b ∷ s)) (drop 1000 (b ∷ s)) (omega (arith, drop_small b s, l)) (omega (arith, length-take 1000 (b ∷ s)))
    (omega (arith, length-take 1000 (b ∷ s))) (λ q. omega (arith, q, length-take 1000 (b ∷ s), length-drop 1000 (b ∷ s)))
    (λ q. cut_follows n (drop 1000 (b ∷ s)) (omega (arith, drop_small b s, l)) q)

pub cut_shape : (s : List ℕ) → 1000 < length s → AreSegmentsIn Cer (cut s)
cut_shape s l =
    subst (AreSegmentsIn Cer) (sym (cut_next s (omega (arith, l)))) (
      (refl, length-take-le 1000 s (omega (arith, l))),
      cut_follows (length (drop 1000 s)) (drop 1000 s) (omega arith) (omega (arith, l, length-drop 1000 s)),
    )

-- ---- adding items

pub adds_nothing : (old new : List Made) (f : Frames) → new ≡ old → Adds old new f f
adds_nothing old new f e = record { added = []; is = e ∙ sym (append-nil old); same = λ z w. w; fit = λ z w h. h }

pub adds_both : (a b c : List Made) (f g h : Frames) → Adds a b g h → Adds b c f g → Adds a c f h
adds_both a b c f g h x y = record {
  added = x.added ++ y.added;
  is = y.is ∙ ap (λ l. l ++ y.added) x.is ∙ append_assoc a x.added y.added;
  same = λ z w. ap (written Cer) (append_assoc x.added y.added z) ∙ x.same (y.added ++ z) (y.same z w);
  fit = λ z w k. subst (Fit Cer) (sym (append_assoc x.added y.added z)) (x.fit (y.added ++ z) (y.same z w) (y.fit z w k));
}

pub adds_one : (q : Made) (old new : List Made) (f : Frames) → new ≡ old ++ q ∷ [] → FitsBefore Cer q f → Adds old new f (with_made Cer q f)
adds_one q old new f e h = record {
  added = q ∷ [];
  is = e;
  same = λ z w. ap (with_made Cer q) w;
  fit = λ z w k. (subst (FitsBefore Cer q) (sym w) h, k);
}

pub adds_as : (old new : List Made) (f g h k : Frames) → f ≡ g → h ≡ k → Adds old new f h → Adds old new g k
adds_as old new f g h k e d a = rw (← e, ← d) a

-- ---- octets of a string

few_left : (s : List ℕ) → length (take 1000 s) < 2 ^ 32
few_left s = omega (arith, length-take 1000 s)

opened : (s : List ℕ) (f : Frames) → 0 < length s → string_headed octet_string_tag (open_left 1000 s f) ≡ closed_left s f
opened s f l =
    let d = definite octet_string_tag false (take 1000 s) in
    ap (λ w. record { inner = w; outer = f.outer })
    (sym (append_assoc (header octet_string_tag false (length_of (Some (length (take 1000 s))))) (take 1000 s)
    (all_spelled Cer (cut (drop 1000 s)) ++ f.inner))
    ∙ sym (append_assoc d (all_spelled Cer (cut (drop 1000 s))) f.inner)
    ∙ ap (λ ts. all_spelled Cer ts ++ f.inner) (sym (cut_next s l)))

pub opens_segment : (k : ℕ) (old new : List Made) → k ≡ 0 → new ≡ old ++ made_string octet_string_tag ∷ [] → Opens k 1000 old new
unfolding body_left
opens_segment (suc k) old new z e s f l = absurd (omega (arith, z))
opens_segment zero old new z e s f l =
    adds_as old new _ _ _ _ refl (opened s f l) (adds_one (made_string octet_string_tag) old new (open_left 1000 s f) e (few_left s, tt))

pub opens_more : (k : ℕ) (old new : List Made) → 0 < k → new ≡ old → Opens k k old new
unfolding body_left
opens_more zero old new p e s f l = absurd (omega (arith, p))
opens_more (suc k) old new p e s f l = adds_nothing old new (open_left (suc k) s f) e

drop_more : (c s : List ℕ) (n : ℕ) → drop (length c + n) (c ++ s) ≡ drop n s
drop_more [] s n = (let e : 0 + n ≡ n = omega arith in ap (λ k. drop k s) e)
drop_more (b ∷ c) s n = rw (suc_add (length c) n) (drop_more c s n)
  where
    suc_add : (a b : ℕ) → suc a + b ≡ suc (a + b)
    suc_add a b = omega arith

filled : (k m : ℕ) (c s : List ℕ) (f : Frames) → k ≡ length c + m → in_front c (open_left m s f) ≡ open_left k (c ++ s) f
filled k m c s f e =
    ap₂ (λ v w. record { inner = v; outer = (all_spelled Cer (cut w) ++ f.inner) ∷ f.outer })
    (sym (ap (λ n. take n (c ++ s)) e ∙ take-append-add c s m)) (sym (ap (λ n. drop n (c ++ s)) e ∙ drop_more c s m))

pub fills_some : (k m : ℕ) (c : List ℕ) (old new : List Made) → 0 < m → k ≡ length c + m → new ≡ old ++ made_part c ∷ [] → Fills k c m old new
unfolding body_left
fills_some k zero c old new p e is s f = absurd (omega (arith, p))
fills_some k (suc m) c old new p e is s f =
    adds_as old new _ _ _ _ refl (filled k (suc m) c s f e) (adds_one (made_part c) old new (open_left (suc m) s f) is tt)

pub fills_all : (k : ℕ) (c : List ℕ) (old mid new : List Made) → k ≡ length c → mid ≡ old ++ made_part c ∷ [] → new ≡ mid ++ made_string_end ∷ []
    → Fills k c 0 old new
unfolding body_left
fills_all k c old mid new e is end s f =
    adds_both old mid new (closed_left s f) (open_left 0 s f) (open_left k (c ++ s) f)
    (adds_as old mid _ _ _ _ refl (filled k 0 c s f (omega (arith, e))) (adds_one (made_part c) old mid (open_left 0 s f) is tt))
    (adds_one made_string_end mid new (closed_left s f) end tt)

pub feeds_nothing : (k : ℕ) (old new : List Made) → new ≡ old → Feeds k [] k old new
feeds_nothing k old new e s f = adds_nothing old new (body_left k s f) e

pub feeds_both : (k m n : ℕ) (a b : List ℕ) (x y z : List Made) → Feeds k a m x y → Feeds m b n y z → Feeds k (a ++ b) n x z
feeds_both k m n a b x y z h i s f =
    adds_as x z _ _ _ _ refl (ap (λ w. body_left k w f) (sym (append_assoc a b s)))
    (adds_both x y z (body_left n s f) (body_left m (b ++ s) f) (body_left k (a ++ (b ++ s)) f) (h (b ++ s) f) (i s f))

pub feeds_open : (k o m : ℕ) (c : List ℕ) (x y z : List Made) → 0 < length c → Opens k o x y → Fills o c m y z → Feeds k c m x z
feeds_open k o m c x y z l h i s f =
    adds_both x y z (body_left m s f) (open_left o (c ++ s) f) (body_left k (c ++ s) f)
    (h (c ++ s) f (omega (arith, l, length-append c s))) (i s f)

-- ---- the end of a string

take_nil : (k : ℕ) → take {A = ℕ} k [] ≡ []
take_nil zero = refl
take_nil (suc k) = refl

drop_nil : (k : ℕ) → drop {A = ℕ} k [] ≡ []
drop_nil zero = refl
drop_nil (suc k) = refl

closed_nil : (f : Frames) → ended Cer f ≡ closed_left [] (ended Cer f)
unfolding cut_from
closed_nil f = refl

open_nil : (k : ℕ) (f : Frames) → string_ended (ended Cer f) ≡ open_left k [] (ended Cer f)
unfolding cut_from
open_nil k f = rw (take_nil k, drop_nil k) refl

pub ends_closed : (k : ℕ) (old new : List Made) → k ≡ 0 → new ≡ old ++ made_end ∷ [] → (f : Frames)
    → Adds old new f (body_left k [] (ended Cer f))
unfolding body_left
ends_closed (suc k) old new z e f = absurd (omega (arith, z))
ends_closed zero old new z e f = adds_as old new _ _ _ _ refl (closed_nil f) (adds_one made_end old new f e tt)

pub ends_open : (k : ℕ) (old mid new : List Made) → 0 < k → mid ≡ old ++ made_string_end ∷ [] → new ≡ mid ++ made_end ∷ [] → (f : Frames)
    → Adds old new f (body_left k [] (ended Cer f))
unfolding body_left
ends_open zero old mid new l e is f = absurd (omega (arith, l))
ends_open (suc k) old mid new l e is f =
    adds_both old mid new f (ended Cer f) (open_left (suc k) [] (ended Cer f))
    (adds_as old mid _ _ _ _ refl (open_nil (suc k) f) (adds_one made_string_end old mid (ended Cer f) e tt))
    (adds_one made_end mid new f is tt)

-- ---- all octets of a string

pub record InFeed (k : ℕ) (v : List ℕ) (m : ℕ) (w : List ℕ) (old new : List Made) : Type 0 where
  pub front : List ℕ
  pub is : v ≡ front ++ w
  pub feeds : Feeds k front m old new

pub feed_starts : (k : ℕ) (v : List ℕ) (old : List Made) → InFeed k v k v old old
feed_starts k v old = record { front = []; is = refl; feeds = feeds_nothing k old old refl }

pub feed_on : (k m n : ℕ) (v w x : List ℕ) (old mid new : List Made) → InFeed k v m w old mid → FeedsSome m w n x mid new → InFeed k v n x old new
feed_on k m n v w x old mid new i s = record {
  front = i.front ++ s.front;
  is = i.is ∙ ap (λ l. i.front ++ l) s.is ∙ sym (append_assoc i.front s.front x);
  feeds = feeds_both k m n i.front s.front old mid new i.feeds s.feeds;
}

pub feed_ends : (k m : ℕ) (v w : List ℕ) (old new : List Made) → InFeed k v m w old new → length w ≡ 0 → Feeds k v m old new
feed_ends k m v w old new i l =
    subst (λ c. Feeds k c m old new) (sym (i.is ∙ ap (λ x. i.front ++ x) (no_octets w l) ∙ append-nil i.front)) i.feeds

begun : (t : Tag) (old new : List Made) (c : List ℕ) (f : Frames) → new ≡ old ++ made_beginning t ∷ []
    → Adds old new (body_left 0 c (ended Cer f)) (cut_value t c f)
unfolding body_left
begun t old new c f e = adds_one (made_beginning t) old new (closed_left c (ended Cer f)) e (tt, tt)

pub contents_cut : (t : Tag) (c : List ℕ) (m : ℕ) (x y z w : List Made) → y ≡ x ++ made_beginning t ∷ [] → Feeds 0 c m y z
    → ((f : Frames) → Adds z w f (body_left m [] (ended Cer f))) → (f : Frames) → Adds x w f (cut_value t c f)
contents_cut t c m x y z w e h i f =
    adds_both x y w f (body_left 0 c (ended Cer f)) (cut_value t c f) (begun t x y c f e)
    (adds_both y z w f (body_left m [] (ended Cer f)) (body_left 0 c (ended Cer f))
    (adds_as y z _ _ _ _ refl (ap (λ v. body_left 0 v (ended Cer f)) (append-nil c)) (h [] (ended Cer f))) (i f))

-- ---- parts of a string

pub record InCount (all rest : List Made) (count : ℕ) : Type 0 where
  pub same : total_of all ≡ count + total_of rest
  pub few : count ≤ 1000

-- an item that is no part
abbrev pub NoPart : Made → Type 0
NoPart (made_value t c) = ⊤
NoPart (made_beginning t) = ⊤
NoPart made_end = ⊤
NoPart (made_string t) = ⊤
NoPart (made_part c) = ⊥
NoPart made_string_end = ⊤

pub no_part : (i : Item) → (i.sort ≡ Part → ⊥) → NoPart (made_of i)
no_part i none = go i.sort none
  where
    go : (s : Sort) → (s ≡ Part → ⊥) → NoPart (made_as s i.tag i.contents.now)
    go Value n = tt
    go Begin n = tt
    go End n = tt
    go Whole n = tt
    go Part n = n refl
    go WholeEnd n = tt

pub part_of : (i : Item) → i.sort ≡ Part → made_of i ≡ made_part i.contents.now
part_of i e = rw e refl

pub none_counted : (q : Made) (qs : List Made) → NoPart q → total_of (q ∷ qs) ≡ 0
none_counted (made_value t c) qs n = refl
none_counted (made_beginning t) qs n = refl
none_counted made_end qs n = refl
none_counted (made_string t) qs n = refl
none_counted (made_part c) qs n = absurd n
none_counted made_string_end qs n = refl

ends_there : (k : ℕ) (q : Made) (qs : List Made) → NoPart q → inside_cut k (q ∷ qs) [] ≡ body_left k [] (ended Cer (cut_written qs))
unfolding cut_written
ends_there k (made_value t c) qs n = refl
ends_there k (made_beginning t) qs n = refl
ends_there k made_end qs n = refl
ends_there k (made_string t) qs n = refl
ends_there k (made_part c) qs n = absurd n
ends_there k made_string_end qs n = refl

pub fit_behind : (q : Made) (qs : List Made) → CutFit (q ∷ qs) → CutFit qs
unfolding CutFit
fit_behind (made_value t c) qs h = h.1
fit_behind (made_beginning t) qs h = h.1
fit_behind made_end qs h = h
fit_behind (made_string t) qs h = h.1
fit_behind (made_part c) qs h = h
fit_behind made_string_end qs h = h

feeds_inside : (k m : ℕ) (c : List ℕ) (old new : List Made) → Feeds k c m old new → (qs : List Made) (s : List ℕ)
    → Adds old new (inside_cut m qs s) (inside_cut k qs (c ++ s))
unfolding cut_written
feeds_inside k m c old new h [] s = h s (ended Cer (record { inner = []; outer = [] }))
feeds_inside k m c old new h (made_value t d ∷ qs) s = h s (ended Cer (cut_written qs))
feeds_inside k m c old new h (made_beginning t ∷ qs) s = h s (ended Cer (cut_written qs))
feeds_inside k m c old new h (made_end ∷ qs) s = h s (ended Cer (cut_written qs))
feeds_inside k m c old new h (made_string t ∷ qs) s = h s (ended Cer (cut_written qs))
feeds_inside k m c old new h (made_part d ∷ qs) s =
    adds_as old new _ _ _ _ refl (ap (λ v. inside_cut k qs v) (sym (append_assoc c s d))) (feeds_inside k m c old new h qs (s ++ d))
feeds_inside k m c old new h (made_string_end ∷ qs) s = h s (ended Cer (cut_written qs))

one_part : (k : ℕ) (c : List ℕ) (qs : List Made) → inside_cut k (made_part c ∷ qs) [] ≡ inside_cut k qs c
unfolding cut_written
one_part k c qs = refl

pub part_cut : (i : Item) (qs : List Made) (k m : ℕ) (old new : List Made) → i.sort ≡ Part → Feeds k i.contents.now m old new
    → Adds old new (inside_cut m qs []) (inside_cut k (made_of i ∷ qs) [])
part_cut i qs k m old new e h =
    adds_as old new _ _ _ _ refl
    (ap (λ v. inside_cut k qs v) (append-nil i.contents.now) ∙ sym (one_part k i.contents.now qs) ∙ ap (λ p. inside_cut k (p ∷ qs) []) (sym (part_of i e)))
    (feeds_inside k m i.contents.now old new h qs [])

pub end_cut : (i : Item) (qs : List Made) (k : ℕ) (old new : List Made) → (i.sort ≡ Part → ⊥)
    → ((f : Frames) → Adds old new f (body_left k [] (ended Cer f))) → Adds old new (cut_written qs) (inside_cut k (made_of i ∷ qs) [])
end_cut i qs k old new n h = adds_as old new _ _ _ _ refl (sym (ends_there k (made_of i) qs (no_part i n))) (h (cut_written qs))

none_inside : (k : ℕ) → inside_cut k [] [] ≡ body_left k [] (ended Cer (cut_written []))
unfolding cut_written
none_inside k = refl

inside_there : (k : ℕ) (qs : List Made) (s : List ℕ) → AreThere (inside_cut k qs s).outer
unfolding cut_written body_left
inside_there zero [] s = tt
inside_there zero (made_value t c ∷ qs) s = tt
inside_there zero (made_beginning t ∷ qs) s = tt
inside_there zero (made_end ∷ qs) s = tt
inside_there zero (made_string t ∷ qs) s = tt
inside_there zero (made_part c ∷ qs) s = inside_there zero qs (s ++ c)
inside_there zero (made_string_end ∷ qs) s = tt
inside_there (suc k) [] s = tt
inside_there (suc k) (made_value t c ∷ qs) s = tt
inside_there (suc k) (made_beginning t ∷ qs) s = tt
inside_there (suc k) (made_end ∷ qs) s = tt
inside_there (suc k) (made_string t ∷ qs) s = tt
inside_there (suc k) (made_part c ∷ qs) s = inside_there (suc k) qs (s ++ c)
inside_there (suc k) (made_string_end ∷ qs) s = tt

pub begun_cut : (t : Tag) (qs : List Made) (x y : List Made) → y ≡ x ++ made_beginning t ∷ []
    → Adds x y (inside_cut 0 qs []) (headed Cer t (inside_cut 0 qs []))
begun_cut t qs x y e = adds_one (made_beginning t) x y (inside_cut 0 qs []) e (tt, inside_there 0 qs [])

-- ---- one item

short_value : (k : Kind) (t : Tag) (c : List ℕ) (f : Frames) → (1000 < length c → k ≡ Text → ⊥) → value_written k t c f ≡ in_front (definite t false c) f
short_value Boolean t c f n = refl
short_value Bits t c f n = refl
short_value Other t c f n = refl
short_value Text t c f n = go (nat_lt 1000 (length c)) refl
  where
    go : (b : Bool) → nat_lt 1000 (length c) ≡ b → (if b then cut_value t c f else in_front (definite t false c) f) ≡ in_front (definite t false c) f
    go false e = refl
    go true e = absurd (n (ltb-true 1000 (length c) e) refl)

pub value_stays : (t : Tag) (c : List ℕ) (qs old new : List Made) → (1000 < length c → kind_of t ≡ Text → ⊥) → CutFit (made_value t c ∷ qs)
    → new ≡ old ++ made_value t c ∷ [] → Adds old new (cut_written qs) (cut_written (made_value t c ∷ qs))
unfolding cut_written CutFit
value_stays t c qs old new n h e =
    adds_as old new _ _ _ _ refl (sym (short_value (kind_of t) t c (cut_written qs) n)) (adds_one (made_value t c) old new (cut_written qs) e h.0)

pub value_is_cut : (t : Tag) (c : List ℕ) (qs old new : List Made) → kind_of t ≡ Text → 1000 < length c
    → ((f : Frames) → Adds old new f (cut_value t c f)) → Adds old new (cut_written qs) (cut_written (made_value t c ∷ qs))
unfolding cut_written
value_is_cut t c qs old new k l h = adds_as old new _ _ _ _ refl (rw (k, lt-ltb _ _ l) refl) (h (cut_written qs))

pub string_stays : (t : Tag) (qs old new : List Made) → nat_lt 1000 (total_of qs) ≡ false → CutFit (made_string t ∷ qs)
    → new ≡ old ++ made_string t ∷ [] → Adds old new (cut_written qs) (cut_written (made_string t ∷ qs))
unfolding cut_written CutFit
string_stays t qs old new n h e = adds_as old new _ _ _ _ refl (rw n refl) (adds_one (made_string t) old new (cut_written qs) e (h.0 n))

pub string_is_cut : (t : Tag) (qs old new : List Made) (f : Frames) → nat_lt 1000 (total_of qs) ≡ true
    → Adds old new f (headed Cer t (inside_cut 0 qs [])) → Adds old new f (cut_written (made_string t ∷ qs))
unfolding cut_written
string_is_cut t qs old new f n h = adds_as old new _ _ _ _ refl (rw n refl) h

pub other_stays : (i : Item) (qs old new : List Made) → (i.sort ≡ Value → ⊥) → (i.sort ≡ Whole → ⊥) → CutFit (made_of i ∷ qs)
    → new ≡ old ++ made_of i ∷ [] → Adds old new (cut_written qs) (cut_written (made_of i ∷ qs))
unfolding cut_written CutFit
other_stays i qs old new v s h e = go i.sort v s h e
  where
    go : (o : Sort) → (o ≡ Value → ⊥) → (o ≡ Whole → ⊥) → CutFit (made_as o i.tag i.contents.now ∷ qs)
        → new ≡ old ++ made_as o i.tag i.contents.now ∷ [] → Adds old new (cut_written qs) (cut_written (made_as o i.tag i.contents.now ∷ qs))
    go Value v s h e = absurd (v refl)
    go Begin v s h e = adds_one (made_beginning i.tag) old new (cut_written qs) e (tt, h.0)
    go End v s h e = adds_one made_end old new (cut_written qs) e tt
    go Whole v s h e = absurd (s refl)
    go Part v s h e = adds_one (made_part i.contents.now) old new (cut_written qs) e tt
    go WholeEnd v s h e = adds_one made_string_end old new (cut_written qs) e tt

-- ---- all items

pub in_state : (k m : ℕ) (q : Made) (qs old new : List Made) (f : Frames) → k ≡ m + 1 → Adds old new f (inside_cut m (q ∷ qs) [])
    → Adds old new f (state_written k (q ∷ qs))
in_state zero m q qs old new f e h = absurd (omega (arith, e))
in_state (suc k) m q qs old new f e h = (let same : m ≡ k = omega (arith, e) in subst (λ n. Adds old new f (inside_cut n (q ∷ qs) [])) same h)

pub to_state : (k m : ℕ) (qs old new : List Made) (g : Frames) → k ≡ m + 1 → Adds old new (inside_cut m qs []) g → Adds old new (state_written k qs) g
to_state zero m qs old new g e h = absurd (omega (arith, e))
to_state (suc k) m qs old new g e h = (let same : m ≡ k = omega (arith, e) in subst (λ n. Adds old new (inside_cut n qs []) g) same h)

pub out_of_state : (k : ℕ) (qs old new : List Made) (f : Frames) → k ≡ 0 → Adds old new f (cut_written qs) → Adds old new f (state_written k qs)
out_of_state zero qs old new f e h = h
out_of_state (suc k) qs old new f e h = absurd (omega (arith, e))

pub record InCut (all rest : List Made) (state : ℕ) (out : List Made) : Type 0 where
  pub adds : Adds [] out (state_written state rest) (cut_written all)
  pub fit : CutFit rest

pub cut_starts : (all out : List Made) → out ≡ [] → CutFit all → InCut all all 0 out
cut_starts all out e h = record { adds = adds_nothing [] out (cut_written all) e; fit = h }

pub cut_on : (all : List Made) (q : Made) (qs : List Made) (k m : ℕ) (out new : List Made) → InCut all (q ∷ qs) k out
    → Adds out new (state_written m qs) (state_written k (q ∷ qs)) → InCut all qs m new
cut_on all q qs k m out new i a = record {
  adds = adds_both [] out new (state_written m qs) (state_written k (q ∷ qs)) (cut_written all) i.adds a;
  fit = fit_behind q qs i.fit;
}

pub cut_ends : (all rest : List Made) (k : ℕ) (out : List Made) → InCut all rest k out → rest ≡ [] → k ≡ 0 → Adds [] out (cut_written []) (cut_written all)
cut_ends all rest zero out i e z = rw e at i.adds
cut_ends all rest (suc k) out i e z = absurd (omega (arith, z))

pub cut_closes : (all rest : List Made) (k m : ℕ) (out new : List Made) → InCut all rest k out → rest ≡ [] → k ≡ m + 1
    → ((f : Frames) → Adds out new f (body_left m [] (ended Cer f))) → Adds [] new (cut_written []) (cut_written all)
cut_closes all rest zero m out new i e z h = absurd (omega (arith, z))
cut_closes all rest (suc k) m out new i e z h =
    let same : m ≡ k = omega (arith, z) in
    adds_both [] out new (cut_written []) (inside_cut k [] []) (cut_written all) (rw e at i.adds)
    (subst (λ n. Adds out new (cut_written []) (inside_cut n [] [])) same
    (adds_as out new _ _ _ _ refl (sym (none_inside m)) (h (cut_written []))))

pub first_apart : (w : List Item) (x : Item) → 1 ≤ length w → x ≡ get_or w 0 x → all_made w ≡ made_of x ∷ all_made (take (length w - 1) (drop 1 w))
first_apart [] x l e = absurd (omega (arith, l))
first_apart (a ∷ w) x l e = ap₂ (λ p q. made_of p ∷ all_made q) (sym e) (sym (take_all (length (a ∷ w) - 1) w (omega arith)))

pub no_items : (w : List Item) → length w < 1 → all_made w ≡ []
no_items [] l = refl
no_items (a ∷ w) l = absurd (omega (arith, l))

value_of : (i : Item) → i.sort ≡ Value → made_of i ≡ made_value i.tag i.contents.now
value_of i e = rw e refl

string_of : (i : Item) → i.sort ≡ Whole → made_of i ≡ made_string i.tag
string_of i e = rw e refl

module _ (i : Item) (qs old new : List Made) where
  pub long_cut : i.sort ≡ Value → (1000 < length i.contents.now) × (kind_of i.tag ≡ Text) → ((f : Frames) → Adds old new f (cut_value i.tag i.contents.now f))
      → Adds old new (cut_written qs) (cut_written (made_of i ∷ qs))
  long_cut e l h =
      subst (λ q. Adds old new (cut_written qs) (cut_written (q ∷ qs))) (sym (value_of i e)) (value_is_cut i.tag i.contents.now qs old new l.1 l.0 h)

  pub short_kept : i.sort ≡ Value → (1000 < length i.contents.now → kind_of i.tag ≡ Text → ⊥) → CutFit (made_of i ∷ qs) → new ≡ old ++ made_of i ∷ []
      → Adds old new (cut_written qs) (cut_written (made_of i ∷ qs))
  short_kept e n h is =
      subst (λ q. Adds old new (cut_written qs) (cut_written (q ∷ qs))) (sym (value_of i e))
      (value_stays i.tag i.contents.now qs old new n (subst (λ q. CutFit (q ∷ qs)) (value_of i e) h) (is ∙ ap (λ q. old ++ q ∷ []) (value_of i e)))

  pub string_kept : i.sort ≡ Whole → nat_lt 1000 (total_of qs) ≡ false → CutFit (made_of i ∷ qs) → new ≡ old ++ made_of i ∷ []
      → Adds old new (cut_written qs) (cut_written (made_of i ∷ qs))
  string_kept e n h is =
      subst (λ q. Adds old new (cut_written qs) (cut_written (q ∷ qs))) (sym (string_of i e))
      (string_stays i.tag qs old new n (subst (λ q. CutFit (q ∷ qs)) (string_of i e) h) (is ∙ ap (λ q. old ++ q ∷ []) (string_of i e)))

  pub string_cut : (f : Frames) → i.sort ≡ Whole → nat_lt 1000 (total_of qs) ≡ true → Adds old new f (headed Cer i.tag (inside_cut 0 qs []))
      → Adds old new f (cut_written (made_of i ∷ qs))
  string_cut f e n h = subst (λ q. Adds old new f (cut_written (q ∷ qs))) (sym (string_of i e)) (string_is_cut i.tag qs old new f n h)
