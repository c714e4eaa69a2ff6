-- What a value's content is to the content around it.
use Rattle.std.proofs.Common.{◌≡◌, ◌≢◌, ℕ, ◌+◌, ◌-◌, ◌≤◌, Bool, true, false, List, ◌∷◌, ◌++◌, length, take, drop, refl}
use Rattle.std.proofs.Common.{ap, sym, ◌∙◌, arith, length-append, append-nil, subst, inl, inr}
use Rattle.std.proofs.lemmas.List.{take_at}
use Rattle.std.proofs.Math.Seq.{take-append-add, drop-append-add}
use Rattle.std.proofs.lemmas.Grind.{common_steps}
use Rattle.std.specs.Borrow.{MutBor}
use Rattle.std.specs.Prelude.{Option, Some, None, Result, Ok, Err, ◌||◌, IfOk, IfErr, OnOk}
use Rattle.bcder.specs.declared.mode.Mode.{Mode}
use Rattle.bcder.specs.declared.length.Length.{Length}
use Rattle.bcder.specs.declared.length.Length.TheVariants.{Definite, Indefinite}
use Rattle.bcder.specs.declared.decode.source.limited.LimitedSource.{LimitedSource}
use Rattle.bcder.specs.declared.decode.content.State.TheVariants.{Open, Ended, Failed}
use Rattle.bcder.specs.x690.Identifier.{AreOctets, Tag}
use Rattle.bcder.specs.x690.Length.{IsEndOfContents}
use Rattle.bcder.specs.x690.Tree.{Tree, primitive, constructed}
use Rattle.bcder.specs.x690.Encoding.{may_have, IsHeader, IsEncoding, AreEncodings, Header}
use Rattle.bcder.specs.calls.Stream.{Layer, Stream, IsSound, cut, past, limited}
use Rattle.bcder.specs.declared.decode.error.ContentError.{ContentError}
use Rattle.bcder.specs.calls.Cause.{Cause}
use Rattle.bcder.specs.declared.decode.content.Kind.TheVariants as kind
use Rattle.bcder.specs.calls.Content.{Reading, ContentForm, values, Octets, label, Moves}
use Rattle.bcder.specs.calls.Content.{MovesBy, Whole, Falls, Closes, IsDone, IsUsedUp, FitsOwed}
use Rattle.bcder.specs.steps.Entering.{Advances}
use Rattle.bcder.specs.calls.Calls.{IsFormOf, ContentOf, AnswersDone}
use Rattle.bcder.specs.steps.Inside.{RanOver, TakesContent, popped}
use Rattle.bcder.specs.steps.Inside.{kind_behind, limit_inside, limit_outside, IsTaken}
use Rattle.bcder.specs.calls.Views.{limited_stream}
use Rattle.bcder.specs.laws.Limits.{rest_told_behind, limited_sound}
use Rattle.bcder.specs.laws.Sound.{AreOctets-take}
use Rattle.bcder.specs.laws.Canonical.{header_in_ber}
use Rattle.bcder.proofs.Moving.{open_not_ended, open_not_failed}

-- ---- limits

take_past : (n : ℕ) (p xs : List ℕ) → length p ≤ n → take n (p ++ xs) ≡ p ++ take (n - length p) xs
take_past n p xs h = ap (λ k. take k (p ++ xs)) (let e : n ≡ length p + (n - length p) = omega arith in e) ∙ take-append-add p xs (n - length p)

drop_past : (n : ℕ) (p xs : List ℕ) → length p ≤ n → drop n (p ++ xs) ≡ drop (n - length p) xs
drop_past n p xs h = ap (λ k. drop k (p ++ xs)) (let e : n ≡ length p + (n - length p) = omega arith in e) ∙ drop-append-add p xs (n - length p)

cut_popped : (o : Option ℕ) (n m : ℕ) (p y : List ℕ) → FitsOwed (Definite n) o → n ≡ length p + m → cut o (p ++ y) ≡ p ++ cut (popped o n (Some m)) y
cut_popped None n m p y f e = refl
cut_popped (Some l) n m p y f e = (let h : length p ≤ l = omega arith in let k : n - m ≡ length p = omega arith in rw k (take_past l p y h))

pub layer_is : (x y : List ℕ) (a b : ℕ) → x ≡ y → a ≡ b → ◌≡◌ {A = Layer} (record { octets = x; number = a }) (record { octets = y; number = b })
layer_is x y a b e f = cc

past_popped : (o : Option ℕ) (n m : ℕ) (p y : List ℕ) → FitsOwed (Definite n) o → n ≡ length p + m → past (popped o n (Some m)) y ≡ past o (p ++ y)
past_popped None n m p y f e = refl
past_popped (Some l) n m p y f e =
    (let h : length p ≤ l = omega arith in
    let k : n - m ≡ length p = omega arith in
    let q : l - length p - length y + 1 ≡ l - length (p ++ y) + 1 = omega (arith, length-append p y) in
    rw k (layer_is _ _ _ _ (sym (drop_past l p y h)) q))

falls_popped : (o : Option ℕ) (n m k : ℕ) → FitsOwed (Definite n) o → n ≡ k + m → Falls o k (popped o n (Some m))
falls_popped None n m k f e = refl
falls_popped (Some l) n m k f e = omega arith

falls_some : (n k : ℕ) (o : Option ℕ) → Falls (Some n) k o → (m : ℕ) × (o ≡ Some m) × (n ≡ k + m)
falls_some n k None f = absurd (f refl)
falls_some n k (Some m) f = (m, refl, f)

layers_head : (x y : Layer) (xs ys : List Layer) → ◌≡◌ {A = List Layer} (x ∷ xs) (y ∷ ys) → (x ≡ y) × (xs ≡ ys)
layers_head x y xs ys e = (cc, cc)

pub layers_eq : (x y : Layer) (xs ys : List Layer) → x ≡ y → xs ≡ ys → ◌≡◌ {A = List Layer} (x ∷ xs) (y ∷ ys)
layers_eq x y xs ys e f = cc

module _ (c d i j : Reading) (s s' : Stream) (o l : Option ℕ) (n : ℕ) (fits : FitsOwed (Definite n) o)
    (cs : c.stream ≡ limited o s) (co : c.owed ≡ o) (is : i.stream ≡ limited (Some n) s) (io : i.owed ≡ Some n)
    (js : j.stream ≡ limited l s') (jo : j.owed ≡ l) (ds : d.stream ≡ limited (popped o n l) s') (do' : d.owed ≡ popped o n l)
    (k : d.kind ≡ c.kind) (md : d.mode ≡ c.mode) (nm : d.name ≡ c.name) (m : MovesBy i j) where
  left_is : (z : ℕ) × (l ≡ Some z) × (n ≡ length m.passed + z)
  left_is = falls_some n (length m.passed) l (let f : Falls i.owed (length m.passed) j.owed = m.owed in rw (io, jo) at f)

  kept_is : ◌≡◌ {A = List Layer} (past l s'.rest ∷ s'.kept) (past (Some n) s.rest ∷ s.kept)
  kept_is = ap (λ x. x.kept) (sym js) ∙ m.kept ∙ ap (λ x. x.kept) is

  heads : (past l s'.rest ≡ past (Some n) s.rest) × (s'.kept ≡ s.kept)
  heads = layers_head _ _ _ _ kept_is

  rest_is : s.rest ≡ m.passed ++ s'.rest
  rest_is = sym (rest_told_behind (Some n) l s.rest s'.rest m.passed (ap (λ x. m.passed ++ x.rest) (sym js) ∙ sym m.rest ∙ ap (λ x. x.rest) is) heads.0)

  pub definite_advances : Advances c d m.passed
  definite_advances = record {
    rest = ap (λ x. x.rest) cs ∙ ap (cut o) rest_is ∙ cut_popped o n left_is.0 m.passed s'.rest fits left_is.2
        ∙ ap (λ x. m.passed ++ cut (popped o n x) s'.rest) (sym left_is.1) ∙ ap (λ x. m.passed ++ x.rest) (sym ds);
    owed = rw (co, do', left_is.1) (falls_popped o n left_is.0 (length m.passed) fits left_is.2);
    kept =
        ap (λ x. x.kept) ds
        ∙ layers_eq _ _ s'.kept s.kept
        (ap (λ x. past (popped o n x) s'.rest) left_is.1 ∙ past_popped o n left_is.0 m.passed s'.rest fits left_is.2 ∙ ap (past o) (sym rest_is))
        heads.1
        ∙ ap (λ x. x.kept) (sym cs);
    faults = (let f : i.stream.faults ≤ j.stream.faults = m.faults in
        omega (arith, f, ap (λ x. x.faults) cs, ap (λ x. x.faults) ds, ap (λ x. x.faults) is, ap (λ x. x.faults) js));
    kind = k;
    mode = md;
    name = nm;
  }

-- content that shares the limit of the content around it
pub indefinite_advances : (c d i j : Reading) → i.stream ≡ c.stream → i.owed ≡ c.owed → j.stream ≡ d.stream → j.owed ≡ d.owed → d.kind ≡ c.kind
    → d.mode ≡ c.mode → d.name ≡ c.name → (m : MovesBy i j) → Advances c d m.passed
indefinite_advances c d i j is io js jo k md nm m = record {
  rest = ap (λ x. x.rest) (sym is) ∙ m.rest ∙ ap (λ x. m.passed ++ x.rest) js;
  owed = (let f : Falls i.owed (length m.passed) j.owed = m.owed in rw (io, jo) at f);
  kept = ap (λ x. x.kept) (sym js) ∙ m.kept ∙ ap (λ x. x.kept) is;
  faults = (let f : i.stream.faults ≤ j.stream.faults = m.faults in omega (arith, f, ap (λ x. x.faults) is, ap (λ x. x.faults) js));
  kind = k;
  mode = md;
  name = nm;
}

-- ---- content that is done

-- content of indefinite form is at its end only by the marker
pub closed_whole : (m : Mode) (i j : Reading) (p : List ℕ) (w : Whole m i p j) → i.state ≡ Open → Closes m i w.close j → j.state ≡ Ended
    → (p ≡ w.values ++ w.close) × IsEndOfContents m w.close
closed_whole m i j p w o (inl e) n = absurd (let x : Open ≡ Ended = sym o ∙ sym e.1 ∙ n in cc)
closed_whole m i j p w o (inr e) n = (w.split, e.0)

pub open_whole : (m : Mode) (i j : Reading) (p : List ℕ) (w : Whole m i p j) → (i.kind ≡ values kind.Indefinite → ⊥) → Closes m i w.close j → AreEncodings m w.trees p
open_whole m i j p w o (inl e) = (let x : p ≡ w.values = w.split ∙ ap (λ x. w.values ++ x) e.0 ∙ append-nil w.values in rw x w.encodes)
open_whole m i j p w o (inr e) = absurd (o e.1)

pub used_up : (K : ContentForm) (j : Reading) → j.kind ≡ K → IsDone j → (j.state ≡ Ended → ⊥) → IsUsedUp K j.owed j.stream.rest
used_up K j e (inl d) n = absurd (n d)
used_up K j e (inr d) n = subst (λ k. IsUsedUp k j.owed j.stream.rest) e d.1

-- content of another form never ends by a marker
pub not_ended : (i j : Reading) (m : MovesBy i j) → i.state ≡ Open → (i.kind ≡ values kind.Indefinite → ⊥) → j.state ≡ Ended → ⊥
not_ended i j m o k e = elim (m.ends e) [ inl x ↦ open_not_ended i.state o x | inr x ↦ k x ]

-- nothing is owed, so all was passed
all_passed : (n : ℕ) (i j : Reading) (m : MovesBy i j) → i.owed ≡ Some n → j.owed ≡ Some 0 → length m.passed ≡ n
all_passed n i j m a b =
    (let f : Falls (Some n) (length m.passed) (Some 0) = (let g : Falls i.owed (length m.passed) j.owed = m.owed in rw (a, b) at g) in omega arith)

pub is_open_or : (j : Reading) → IsDone j → j.state ≢ Failed
is_open_or j (inl e) f = (let x : Ended ≡ Failed = sym e ∙ f in cc)
is_open_or j (inr e) f = open_not_failed j.state e.0 f

pub ended_of : (j : Reading) → j.kind ≡ values kind.Indefinite → IsDone j → j.state ≡ Ended
ended_of j k (inl e) = e
ended_of j k (inr e) = absurd (subst (λ x. IsUsedUp x j.owed j.stream.rest) k e.1)

octets_not_indefinite : (k : ContentForm) → k ≡ Octets → k ≡ values kind.Indefinite → ⊥
octets_not_indefinite k e f = (let y : Octets ≡ values kind.Indefinite = sym e ∙ f in cc)

definite_not_indefinite : (k : ContentForm) → k ≡ values kind.Definite → k ≡ values kind.Indefinite → ⊥
definite_not_indefinite k e f = (let y : values kind.Definite ≡ values kind.Indefinite = sym e ∙ f in cc)

-- content of a definite length that is done is taken
pub octets_taken : (i j : Reading) → Moves i j → i.state ≡ Open → i.kind ≡ Octets → IsDone j → j.owed ≡ Some 0
unfolding Moves
octets_taken i j m o k q = used_up Octets j (m.kind ∙ k) q (not_ended i j m o (octets_not_indefinite i.kind k))

pub all_taken : (len : Length) (i j : Reading) → Moves i j → i.state ≡ Open → i.kind ≡ values (kind_behind len) → IsDone j → IsTaken len j.owed
unfolding Moves
all_taken (Definite n) i j m o k q = used_up (values kind.Definite) j (m.kind ∙ k) q (not_ended i j m o (definite_not_indefinite i.kind k))
all_taken Indefinite i j m o k q = tt

AreOctets-front : (u w v : List ℕ) → w ≡ u ++ v → AreOctets w → AreOctets u
AreOctets-front u w v e o = subst AreOctets (ap (take (length u)) e ∙ take_at u v (length u) refl) (AreOctets-take (length u) w o)

header_label : (m : Mode) (b : Bool) (t : Tag) (f : Bool) (len : Length) (h : List ℕ) → IsHeader m t f len h → IsHeader (label m b) t f len h
header_label m false t f len h d = d
header_label m true t f len h d = header_in_ber m t f len h d

abbrev pub Encodes : Mode → Reading → List ℕ → List ℕ → Type 0
Encodes m j octets passed = (tree : Tree) × IsEncoding (label m j.marked) tree (octets ++ passed)

no_indefinite : (m : Mode) (f : Bool) → may_have m f Indefinite ≡ true → f ≡ true
no_indefinite m false e = absurd (let x : false ≡ true = e in cc)
no_indefinite m true e = refl

module _ (md : Mode) (t : Tag) (f : Bool) (len : Length) (octets : List ℕ) (i j : Reading) (h : IsHeader md t f len octets) (s : i.state ≡ Open)
    (mm : i.mode ≡ md) (m : MovesBy i j) (q : IsDone j) where
  whole_here : i.kind ≢ Octets → Whole (label md j.marked) i m.passed j
  whole_here o = subst (λ x. Whole (label x j.marked) i m.passed j) mm (m.whole (is_open_or j q) o)

  pub encodes_primitive : (n : ℕ) → len ≡ Definite n → f ≡ false → i.kind ≡ Octets → i.owed ≡ Some n → AreOctets i.stream.rest → Encodes md j octets m.passed
  encodes_primitive n e g k o a =
      let l : length m.passed ≡ n = all_passed n i j m o (used_up Octets j (m.kind ∙ k) q (not_ended i j m s (octets_not_indefinite i.kind k))) in
      let d : IsHeader (label md j.marked) t false (Definite (length m.passed)) octets =
      subst (λ z. IsHeader (label md j.marked) t false z octets) (e ∙ ap (λ z. Definite z) (sym l))
      (subst (λ z. IsHeader (label md j.marked) t z len octets) g (header_label md j.marked t f len octets h)) in
      (primitive t m.passed, (AreOctets-front m.passed i.stream.rest j.stream.rest m.rest a, record { header = octets; is_header = d; is = refl }))

  pub encodes_definite : (n : ℕ) → len ≡ Definite n → f ≡ true → i.kind ≡ values kind.Definite → i.owed ≡ Some n → Encodes md j octets m.passed
  encodes_definite n e g k o =
      let w : Whole (label md j.marked) i m.passed j = whole_here (λ x. let y : values kind.Definite ≡ Octets = sym k ∙ x in cc) in
      let l : length m.passed ≡ n = all_passed n i j m o (used_up (values kind.Definite) j (m.kind ∙ k) q (not_ended i j m s (definite_not_indefinite i.kind k))) in
      let d : IsHeader (label md j.marked) t true (Definite (length m.passed)) octets =
      subst (λ z. IsHeader (label md j.marked) t true z octets) (e ∙ ap (λ z. Definite z) (sym l))
      (subst (λ z. IsHeader (label md j.marked) t z len octets) g (header_label md j.marked t f len octets h)) in (
        constructed t w.trees,
        (
          m.passed,
          open_whole (label md j.marked) i j m.passed w (definite_not_indefinite i.kind k) w.closes,
          inl (record { header = octets; is_header = d; is = refl }),
        ),
      )

  pub encodes_indefinite : len ≡ Indefinite → i.kind ≡ values kind.Indefinite → Encodes md j octets m.passed
  encodes_indefinite e k =
      let w : Whole (label md j.marked) i m.passed j = whole_here (λ x. let y : values kind.Indefinite ≡ Octets = sym k ∙ x in cc) in
      let z : (m.passed ≡ w.values ++ w.close) × IsEndOfContents (label md j.marked) w.close =
      closed_whole (label md j.marked) i j m.passed w s w.closes (ended_of j (m.kind ∙ k) q) in
      let g : f ≡ true = no_indefinite md f (subst (λ x. may_have md f x ≡ true) e h.allowed) in
      let d : IsHeader (label md j.marked) t true Indefinite octets =
      subst (λ x. IsHeader (label md j.marked) t true x octets) e
      (subst (λ x. IsHeader (label md j.marked) t x len octets) g (header_label md j.marked t f len octets h)) in (
        constructed t w.trees,
        (w.values, w.encodes, inr (record { header = octets; is_header = d; end = w.close; is_end = z.1; is = ap (λ x. octets ++ x) z.0 })),
      )

take_cut : (o : Option ℕ) (n : ℕ) (x : List ℕ) → FitsOwed (Definite n) o → take n x ≡ take n (cut o x)
take_cut None n x f = refl
take_cut (Some l) n x f = grind (arith, common_steps)

-- ---- the content of a header

module _ {C T E : Type 0} (why : E → Cause ContentError) (view : C → Reading) (post : Tag → MutBor C → Result T E → MutBor C → Type 0) where
  on_done : (t : Tag) (i j : Reading) (Q : Type 0) (q : IsDone j → Q) (r : Result T E)
      → IfOk r (λ x. AnswersDone {R = Result T E} view post t i (Ok x) j) → OnOk r Q
  on_done t i j Q q (Ok x) a = q a.done
  on_done t i j Q q (Err e) a = tt

  module _ (c d : Reading) (h : Header) (r : Result T E) (k : d.kind ≡ c.kind) (md : d.mode ≡ c.mode) (nm : d.name ≡ c.name) (st : d.state ≡ c.state)
      (mark : Bool) (mk : d.marked ≡ (c.marked || mark)) where
    pub takes_definite : (K : ContentForm) (n : ℕ) (s s' : Stream) (o l : Option ℕ) → h.len ≡ Definite n → IsFormOf h.form (Definite n) K
        → c.stream ≡ limited o s → c.owed ≡ o → d.stream ≡ limited (popped o n l) s' → d.owed ≡ popped o n l → FitsOwed (Definite n) o
        → (ran : RanOver why view post (limited (Some n) s) (Some n) K c.mode h.tag r mark (limited l s') l)
        → ((octets : List ℕ) → IsHeader c.mode h.tag h.form h.len octets → (mv : MovesBy ran.handed ran.left) → IsDone ran.left
        → Encodes c.mode ran.left octets mv.passed)
        → TakesContent why view post c h r d
    unfolding Moves
    takes_definite K n s s' o l hn form cs co ds do' fits ran enc = record {
      passed = ran.runs.moves.passed;
      advances = definite_advances c d ran.handed ran.left s s' o l n fits cs co ran.runs.stream ran.runs.owed ran.runs.left_stream ran.runs.left_owed ds do'
          k md nm ran.runs.moves;
      state = st;
      handed = ran.handed;
      left = ran.left;
      marked = mk ∙ ap (λ z. c.marked || z) (sym ran.marks);
      encodes = on_done h.tag ran.handed ran.left _ (λ q octets e. enc octets e ran.runs.moves q) r ran.answers;
      hands = record {
        state = ran.runs.state;
        mode = ran.runs.mode;
        marked = ran.runs.marked;
        form = subst (λ z. IsFormOf h.form z ran.handed.kind) (sym hn) (subst (λ z. IsFormOf h.form (Definite n) z) (sym ran.runs.kind) form);
        octets = subst (λ z. ContentOf z c.owed c.stream.rest ran.handed.owed ran.handed.stream.rest) (sym hn)
            (ran.runs.owed, ap (λ x. x.rest) ran.runs.stream ∙ take_cut o n s.rest fits ∙ ap (λ x. take n x.rest) (sym cs));
      };
      moves = ran.runs.moves;
      faults_handed = ap (λ x. x.faults) ran.runs.stream ∙ ap (λ x. x.faults) (sym cs);
      follows = λ e. absurd (let x : Definite n ≡ Indefinite = sym hn ∙ e in cc);
      faults_left = ap (λ x. x.faults) ran.runs.left_stream ∙ ap (λ x. x.faults) (sym ds);
      answers = ran.answers;
      refuses = ran.refuses;
    }

    pub takes_indefinite : h.len ≡ Indefinite
        → (ran : RanOver why view post c.stream c.owed (values kind.Indefinite) c.mode h.tag r mark d.stream d.owed)
        → ((octets : List ℕ) → IsHeader c.mode h.tag h.form h.len octets → (mv : MovesBy ran.handed ran.left) → IsDone ran.left
        → Encodes c.mode ran.left octets mv.passed)
        → TakesContent why view post c h r d
    unfolding Moves
    takes_indefinite hn ran enc = record {
      passed = ran.runs.moves.passed;
      advances = indefinite_advances c d ran.handed ran.left ran.runs.stream ran.runs.owed ran.runs.left_stream ran.runs.left_owed k md nm ran.runs.moves;
      state = st;
      handed = ran.handed;
      left = ran.left;
      marked = mk ∙ ap (λ z. c.marked || z) (sym ran.marks);
      encodes = on_done h.tag ran.handed ran.left _ (λ q octets e. enc octets e ran.runs.moves q) r ran.answers;
      hands = record {
        state = ran.runs.state;
        mode = ran.runs.mode;
        marked = ran.runs.marked;
        form = subst (λ z. IsFormOf h.form z ran.handed.kind) (sym hn) ran.runs.kind;
        octets = subst (λ z. ContentOf z c.owed c.stream.rest ran.handed.owed ran.handed.stream.rest) (sym hn)
            (ran.runs.owed, ap (λ x. x.rest) ran.runs.stream);
      };
      moves = ran.runs.moves;
      faults_handed = ap (λ x. x.faults) ran.runs.stream;
      follows = λ _. sym (ap (λ x. x.rest) ran.runs.left_stream);
      faults_left = ap (λ x. x.faults) ran.runs.left_stream;
      answers = ran.answers;
      refuses = ran.refuses;
    }

    module _ {S : Type 0} (stream : S → Stream) (n : ℕ) (l0 l1 l2 l3 : LimitedSource S) (o : Option ℕ) (hn : h.len ≡ Definite n)
        (cs : c.stream ≡ limited_stream stream l0) (co : c.owed ≡ l0.limit) (oo : o ≡ l0.limit) (a1 : l1.limit ≡ Some n) (b1 : l1.source ≡ l0.source)
        (a3 : l3.limit ≡ popped o n l2.limit) (b3 : l3.source ≡ l2.source) (ds : d.stream ≡ limited_stream stream l3) (do' : d.owed ≡ l3.limit)
        (fits : FitsOwed h.len l0.limit) where
      ran_at : (K : ContentForm) → RanOver why view post (limited_stream stream l1) l1.limit K c.mode h.tag r mark (limited_stream stream l2) l2.limit
          → RanOver why view post (limited (Some n) (stream l0.source)) (Some n) K c.mode h.tag r mark (limited l2.limit (stream l2.source)) l2.limit
      ran_at K ran =
          subst (λ z. RanOver why view post (limited (Some n) (stream z)) (Some n) K c.mode h.tag r mark (limited_stream stream l2) l2.limit) b1
          (subst (λ z. RanOver why view post (limited z (stream l1.source)) z K c.mode h.tag r mark (limited_stream stream l2) l2.limit) a1 ran)

      limit_is : l3.limit ≡ popped l0.limit n l2.limit
      limit_is = a3 ∙ ap (λ z. popped z n l2.limit) oo

      stream_is : d.stream ≡ limited (popped l0.limit n l2.limit) (stream l2.source)
      stream_is = ds ∙ ap (λ z. limited l3.limit (stream z)) b3 ∙ ap (λ z. limited z (stream l2.source)) limit_is

      pub takes_octets : h.form ≡ false → IsSound (stream l0.source)
          → RanOver why view post (limited_stream stream l1) l1.limit Octets c.mode h.tag r mark (limited_stream stream l2) l2.limit
          → TakesContent why view post c h r d
      takes_octets g so ran =
          let q = ran_at Octets ran in
          takes_definite Octets n (stream l0.source) (stream l2.source) l0.limit l2.limit hn
          (subst (λ z. IsFormOf z (Definite n) Octets) (sym g) refl) cs co stream_is (do' ∙ limit_is) (subst (λ z. FitsOwed z l0.limit) hn fits) q
          (λ octets e mv w. encodes_primitive c.mode h.tag h.form h.len octets q.handed q.left e q.runs.state q.runs.mode mv w n hn g q.runs.kind q.runs.owed
          (subst (λ z. AreOctets z.rest) (sym q.runs.stream) ((limited_sound (Some n) (stream l0.source) so).octets)))

      pub takes_values : h.form ≡ true
          → RanOver why view post (limited_stream stream l1) l1.limit (values kind.Definite) c.mode h.tag r mark (limited_stream stream l2) l2.limit
          → TakesContent why view post c h r d
      takes_values g ran =
          let q = ran_at (values kind.Definite) ran in
          takes_definite (values kind.Definite) n (stream l0.source) (stream l2.source) l0.limit l2.limit hn
          (subst (λ z. IsFormOf z (Definite n) (values kind.Definite)) (sym g) refl) cs co stream_is (do' ∙ limit_is) (subst (λ z. FitsOwed z l0.limit) hn fits) q
          (λ octets e mv w. encodes_definite c.mode h.tag h.form h.len octets q.handed q.left e q.runs.state q.runs.mode mv w n hn g q.runs.kind q.runs.owed)

    pub takes_marked : h.len ≡ Indefinite → RanOver why view post c.stream c.owed (values kind.Indefinite) c.mode h.tag r mark d.stream d.owed
        → TakesContent why view post c h r d
    takes_marked hn ran = takes_indefinite hn ran
        (λ octets e mv w. encodes_indefinite c.mode h.tag h.form h.len octets ran.handed ran.left e ran.runs.state ran.runs.mode mv w hn ran.runs.kind)

    -- values behind a length of either kind were taken
    pub values_taken : {S : Type 0} (stream : S → Stream) (len : Length) (l0 l1 l2 l3 : LimitedSource S) (o : Option ℕ) → h.len ≡ len
        → c.stream ≡ limited_stream stream l0 → c.owed ≡ l0.limit → o ≡ l0.limit → l1.limit ≡ limit_inside len l0.limit → l1.source ≡ l0.source
        → l3.limit ≡ limit_outside len o l2.limit → l3.source ≡ l2.source → d.stream ≡ limited_stream stream l3 → d.owed ≡ l3.limit → FitsOwed h.len l0.limit
        → h.form ≡ true → RanOver why view post (limited_stream stream l1) l1.limit (values (kind_behind len)) c.mode h.tag r mark
        (limited_stream stream l2) l2.limit → TakesContent why view post c h r d
    values_taken stream (Definite n) l0 l1 l2 l3 o e cs co oo a1 b1 a3 b3 ds do' fits g ran =
        takes_values stream n l0 l1 l2 l3 o e cs co oo a1 b1 a3 b3 ds do' fits g ran
    values_taken stream Indefinite l0 l1 l2 l3 o e cs co oo a1 b1 a3 b3 ds do' fits g ran =
        let i : l1.limit ≡ c.owed = a1 ∙ sym co in
        let j : l2.limit ≡ d.owed = sym (do' ∙ a3) in
        let s : limited_stream stream l1 ≡ c.stream = ap (λ z. limited l1.limit (stream z)) b1 ∙ ap (λ z. limited z (stream l0.source)) (i ∙ co) ∙ sym cs in
        let t : limited_stream stream l2 ≡ d.stream =
        ap (λ z. limited l2.limit (stream z)) (sym b3) ∙ ap (λ z. limited z (stream l3.source)) (j ∙ do') ∙ sym ds in
        takes_marked e
        (subst (λ z. RanOver why view post c.stream c.owed (values kind.Indefinite) c.mode h.tag r mark z d.owed) t
        (subst (λ z. RanOver why view post c.stream c.owed (values kind.Indefinite) c.mode h.tag r mark (limited_stream stream l2) z) j
        (subst (λ z. RanOver why view post z c.owed (values kind.Indefinite) c.mode h.tag r mark (limited_stream stream l2) l2.limit) s
        (subst (λ z. RanOver why view post (limited_stream stream l1) z (values kind.Indefinite) c.mode h.tag r mark (limited_stream stream l2) l2.limit) i ran))))

-- ---- what holds at any tag

pub ok_at : {T E : Type 0} (P : Tag → T → Type 0) (t : Tag) (r : Result T E) → IfOk r (λ x. (u : Tag) → P u x) → IfOk r (P t)
ok_at P t (Ok x) h = h t
ok_at P t (Err e) h = tt

pub err_at : {T E : Type 0} (P : Tag → E → Type 0) (t : Tag) (r : Result T E) → IfErr r (λ e. (u : Tag) → P u e) → IfErr r (P t)
err_at P t (Ok x) h = tt
err_at P t (Err e) h = h t
