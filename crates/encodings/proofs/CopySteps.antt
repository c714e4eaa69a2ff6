-- One step of passing and copying values.
use Rattle.std.proofs.Common.{◌≡◌, ◌≢◌, ℕ, ◌+◌, ◌-◌, ◌≤◌, Bool, true, false, List, [], ◌∷◌, ◌++◌, length, take, reverse, refl, ap, sym, ◌∙◌}
use Rattle.std.proofs.Common.{subst, append_assoc, arith, Some, None, slice_get}
use Rattle.std.proofs.lemmas.List.{length-append, append-nil, reverse-append}
use Rattle.std.proofs.Math.Seq.{take-append_seam}
use Rattle.bcder.specs.declared.mode.Mode.{Mode}
use Rattle.bcder.specs.declared.mode.Mode.TheVariants.{Ber}
use Rattle.bcder.specs.x690.Encoding.{IsHeader}
use Rattle.bcder.specs.x690.Identifier.{AreOctets, Tag}
use Rattle.bcder.specs.x690.Tree.{primitive}
use Rattle.bcder.specs.laws.Complete.{header_size}
use Rattle.bcder.specs.laws.Sound.{none_is, some_inj, AreOctets-take}
use Rattle.bcder.specs.laws.Stands.{AreOctets-after}
use Rattle.bcder.specs.calls.Content.{length_of}
use Rattle.encodings.specs.declared.sets.Copied.{Copied}
use Rattle.encodings.specs.declared.sets.Enclosing.{Enclosing}
use Rattle.encodings.specs.Open.{Open, to_come}
use Rattle.encodings.specs.Pieces.{BeginsPiece, of_definite, of_indefinite}
use Rattle.encodings.specs.Sorting.{Pair, State, behind_open, behind_of, open_length, EndsBy, definite, indefinite}
use Rattle.encodings.specs.Sorting.{opens_of, to_do, GoesOver, Enters, passes, opens, Leaves, IsState, IsEnclosing}
use Rattle.encodings.proofs.Copying.{passed_value, passed_header, passed_end, enclosing}
use Rattle.encodings.proofs.Reading.{after_front, last_apart}

-- ---- the header of the next value

-- what a constructed value begins with
pub begins_opening : (mode : Mode) (x : List ℕ) (t : Tag) (form : Bool) (c : List ℕ) (o : Open) → BeginsPiece mode x t form c o → form ≡ true
    → (h : List ℕ) × IsHeader mode t true (length_of (open_length o (length c))) h × (x ≡ h ++ (c ++ behind_of o))
begins_opening mode x t form c o (of_definite h b d same is) e = (
  h,
  subst (λ z. IsHeader mode t true (length_of (open_length z (length c))) h) (sym same)
      (subst (λ f. IsHeader mode t f (length_of (Some (length c))) h) e d),
  is ∙ ap (λ z. h ++ (c ++ behind_of z)) (sym same),
)
begins_opening mode x t form c o (of_indefinite h d same is) e = (
  h,
  subst (λ z. IsHeader mode t true (length_of (open_length z (length c))) h) (sym same) (subst (λ f. IsHeader mode t f (length_of None) h) e d),
  is ∙ ap (λ z. h ++ z) (sym (append-nil c)) ∙ ap (λ z. h ++ (c ++ behind_of z)) (sym same),
)

-- what a primitive value begins with
pub begins_passing : (mode : Mode) (x : List ℕ) (t : Tag) (form : Bool) (c : List ℕ) (o : Open) (b : List ℕ) → BeginsPiece mode x t form c o → form ≡ false
    → o ≡ Some b → (h : List ℕ) × IsHeader mode t false (length_of (Some (length c))) h × (x ≡ (h ++ c) ++ b)
begins_passing mode x t form c o b (of_definite h a d same is) e k = (
  h,
  subst (λ f. IsHeader mode t f (length_of (Some (length c))) h) e d,
  is ∙ ap (λ z. h ++ (c ++ z)) (some_inj _ _ (sym same ∙ k)) ∙ sym (append_assoc h c b),
)
begins_passing mode x t form c o b (of_indefinite h d same is) e k = absurd (none_is _ (sym same ∙ k))

-- the octets in front of others
pub front_taken : (x h y : List ℕ) (n : ℕ) → x ≡ h ++ y → n ≡ length x - length y → take n x ≡ h
front_taken x h y n e k =
    let m : n ≡ length h = omega (arith, k, ap length e, length-append h y) in
    ap (λ i. take i x) m ∙ ap (λ z. take (length h) z) e ∙ take-append_seam h y

-- ---- the open values

pub pushed_first : (os ps : List Enclosing) (f : Enclosing) → ps ≡ os ++ f ∷ [] → reverse ps ≡ f ∷ reverse os
pushed_first os ps f e = ap reverse e ∙ reverse-append os (f ∷ [])

pub last_first : (os ps : List Enclosing) (f : Enclosing) → slice_get os (length os - 1) ≡ Some f → ps ≡ take (length os - 1) os
    → reverse os ≡ f ∷ reverse ps
last_first [] ps f g e = absurd (none_is _ g)
last_first (o ∷ os) ps f g e =
    let l = last_apart (o ∷ os) f (length (o ∷ os) - 1) (omega arith) g in
    pushed_first ps (o ∷ os) f (l ∙ ap (λ z. z ++ f ∷ []) (sym e))

come_size : (os : List Open) (h y x : List ℕ) → x ≡ h ++ y → length (to_come os x) ≡ length h + length (to_come os y)
come_size os h y x is = ap length (after_front os h y x is) ∙ length-append h (to_come os y)

opened_size : (o : Open) (os : List Open) (h y x : List ℕ) → x ≡ h ++ (y ++ behind_of o)
    → length (to_come os x) ≡ length h + length (to_come (o ∷ os) y)
opened_size (Some b) os h y x is =
    come_size os (h ++ y) b x (is ∙ sym (append_assoc h y b)) ∙ ap (λ n. n + length (to_come os b)) (length-append h y)
    ∙ (let k : length h + length y + length (to_come os b) ≡ length h + (length y + length (to_come os b)) = omega arith in k)
    ∙ ap (λ n. length h + n) (sym (length-append y (to_come os b)))
opened_size None os h y x is = come_size os h y x (is ∙ ap (λ z. h ++ z) (append-nil y))

ended_size : (mode : Mode) (o : Open) (os : List Open) (x e y : List ℕ) → EndsBy mode o x e y → length (to_come os y) ≤ length (to_come (o ∷ os) x)
ended_size mode o os x e y (definite is left none) =
    (let k : to_come (o ∷ os) x ≡ to_come os y = ap (λ z. to_come (z ∷ os) x) is ∙ ap (λ z. z ++ to_come os y) left in omega (arith, ap length k))
ended_size mode o os x e y (indefinite is end_is left) =
    (let k : to_come (o ∷ os) x ≡ to_come os x = ap (λ z. to_come (z ∷ os) x) is in omega (arith, ap length k, come_size os e y x left))

-- ---- one step

pub enters_on : (mode : Mode) (x : List ℕ) (os ps : List Enclosing) (cs ds : List Copied) (v w y : List ℕ) → Enters mode x os ps cs ds v w y
    → GoesOver mode x os ps cs ds v w y
enters_on mode x os ps cs ds v w y (passes t h c d o is same out_is m a b marks) =
    let k : length (h ++ c) ≡ length h + length c = length-append h c in
    let p : Pair = record { tree = primitive t c; octets = h ++ c } in
    record {
      state = λ whole st.
          subst (λ z. State mode whole (reverse z) ds w y) (sym same)
          (subst (λ z. State mode whole (reverse os) z w y) (sym marks)
          (subst (λ z. State mode whole (reverse os) (cs ++ m ∷ []) z y) (sym out_is)
          (passed_value mode whole (reverse os) cs v (h ++ c) y (primitive t c) p m (subst (State mode whole (reverse os) cs v) is st)
          (o, record { header = h; is_header = d; is = refl }) (refl, refl) (o, record { header = h; is_header = d; is = refl }) refl a b)));
      smaller =
          (let n = come_size (opens_of (reverse os)) (h ++ c) y x is in
          let r : to_do (reverse ps) y ≡ to_do (reverse os) y = ap (λ z. to_do (reverse z) y) same in
          omega (arith, n, k, r, header_size mode t false _ h d));
    }
enters_on mode x os ps cs ds v w y (opens f t h i j d is same marks out_is a b c) =
    let r : reverse ps ≡ f ∷ reverse os = pushed_first os ps f same in
    record {
      state = λ whole st.
          subst (λ z. State mode whole z ds w y) (sym r)
          (subst (λ z. State mode whole (f ∷ reverse os) z w y) (sym marks)
          (subst (λ z. State mode whole (f ∷ reverse os) cs z y) (sym out_is)
          (passed_header mode whole (reverse os) cs v x h y f t st i j d is a (b ∙ ap length out_is) c)));
      smaller =
          (let n = opened_size (behind_open f) (opens_of (reverse os)) h y x is in
          let q : to_do (reverse ps) y ≡ to_do (f ∷ reverse os) y = ap (λ z. to_do z y) r in
          omega (arith, n, q, header_size mode t true _ h d));
    }

pub ends_on : (mode : Mode) → mode ≢ Ber → (x : List ℕ) (os ps : List Enclosing) (cs ds : List Copied) (v w e y : List ℕ) (f : Enclosing)
    → reverse os ≡ f ∷ reverse ps → EndsBy mode (behind_open f) x e y → Leaves f e cs v ds w → GoesOver mode x os ps cs ds v w y
ends_on mode canonical x os ps cs ds v w e y f r k l = record {
  state = λ whole st. passed_end mode whole f (reverse ps) cs v x (subst (λ z. State mode whole z cs v x) r st) canonical e y k ds w l;
  smaller =
      (let n = ended_size mode (behind_open f) (opens_of (reverse ps)) x e y k in
      let q : to_do (reverse os) x ≡ to_do (f ∷ reverse ps) x = ap (λ z. to_do z x) r in
      omega (arith, n, q));
}

pub encloses : (mode : Mode) (x : List ℕ) (os ps : List Enclosing) (cs : List Copied) (v : List ℕ) (f : Enclosing) → reverse os ≡ f ∷ reverse ps
    → IsState mode os cs v x → IsEnclosing f cs v
encloses mode x os ps cs v f r s = enclosing mode s.whole f (reverse ps) cs v x (subst (λ z. State mode s.whole z cs v x) r s.state)

pub octets_inside : (x h c b : List ℕ) → x ≡ (h ++ c) ++ b → AreOctets x → AreOctets c
octets_inside x h c b e o =
    AreOctets-after h (h ++ c) c refl
    (subst AreOctets (ap (λ z. take (length (h ++ c)) z) e ∙ take-append_seam (h ++ c) b) (AreOctets-take (length (h ++ c)) x o))

-- the header in front of contents octets and what is behind them
pub header_taken : (x h c b : List ℕ) (n : ℕ) → x ≡ h ++ (c ++ b) → n ≡ length x - (length c + length b) → take n x ≡ h
header_taken x h c b n e k = front_taken x h (c ++ b) n e (omega (arith, k, length-append c b))
