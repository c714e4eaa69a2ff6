-- One piece is passed.
use Rattle.std.proofs.Common.{◌≡◌, ℕ, ◌+◌, ◌*◌, ◌<◌, Bool, true, false, List, ◌∷◌, ◌++◌, length, Some, None, refl, sym, ap, subst, ◌∙◌}
use Rattle.std.proofs.Common.{append_assoc, arith}
use Rattle.std.proofs.lemmas.List.{length-append}
use Rattle.bcder.specs.declared.mode.Mode.{Mode}
use Rattle.bcder.specs.x690.Identifier.{AreOctets, Tag}
use Rattle.bcder.specs.steps.Reading.{read_tree}
use Rattle.bcder.specs.laws.Complete.{header_size}
use Rattle.bcder.specs.laws.Sound.{none_is, some_inj}
use Rattle.encodings.specs.Next.{IsDue}
use Rattle.encodings.specs.Open.{Open, to_come, Closes}
use Rattle.encodings.specs.Pieces.{Made, value, begins, ends, pieces_left, BeginsPiece, of_definite, of_indefinite, piece_read, PieceBecomes}
use Rattle.encodings.specs.Pieces.{PassesOne, PassesNone, no_rest, one_is_nothing}
use Rattle.encodings.proofs.Reading.{after_front}
use Rattle.encodings.proofs.PiecesRead.{an_end_next, none_next, value_next, beginning_next}
use Rattle.encodings.proofs.Walking.{must_be}
use Rattle.encodings.proofs.WholeWalk.{closes_smaller}

pub passes_end : (from to : Mode) (qs os : List Open) (o : Open) (x y : List ℕ) (n level less : ℕ) (made : Made) → AreOctets x → qs ≡ o ∷ os
    → Closes from o x y n → PieceBecomes to level ends made less → PassesOne from to level qs x less os y made
passes_end from to qs os o x y n level less made octets q c becomes = record {
  piece = ends;
  same = ap (λ k. pieces_left from k x) q ∙ an_end_next from o os x y n octets c;
  becomes = becomes;
  smaller = closes_smaller from qs os o x y n q c;
}

come_size : (os : List Open) (h y x : List ℕ) → x ≡ h ++ y → length (to_come os x) ≡ length h + length (to_come os y)
come_size os h y x is = ap length (after_front os h y x is) ∙ length-append h (to_come os y)

no_false : (b : Bool) → b ≡ true → b ≡ false → ⊥
no_false true t f = absurd cc
no_false false t f = absurd cc

pub passes_value : (from to : Mode) (os : List Open) (x : List ℕ) (t : Tag) (form : Bool) (c : List ℕ) (last : Open) (b : List ℕ) (q : Made) (n m : ℕ)
    → AreOctets x → IsDue from os x → BeginsPiece from x t form c last → form ≡ false → last ≡ Some b → PieceBecomes to n (piece_read t form c) q m
    → PassesOne from to n os x m os b q
passes_value from to os x t form c last b q n m o due begun e l becomes = record {
  piece = value t c;
  same = value_next from os x t form c last b o due begun e l;
  becomes = subst (λ f. PieceBecomes to n (piece_read t f c) q m) e becomes;
  smaller = smaller begun;
}
  where
    smaller : BeginsPiece from x t form c last → length (to_come os b) * 2 + length os < length (to_come os x) * 2 + length os
    smaller (of_definite h a d same is) =
        let a_b : a ≡ b = some_inj _ _ (sym same ∙ l) in
        let whole : x ≡ (h ++ c) ++ b = is ∙ ap (λ w. h ++ (c ++ w)) a_b ∙ sym (append_assoc h c b) in
        omega (arith, come_size os (h ++ c) b x whole, length-append h c, header_size from t form _ h d)
    smaller (of_indefinite h d same is) = absurd (none_is _ (sym same ∙ l))

pub passes_beginning : (from to : Mode) (os ps : List Open) (x : List ℕ) (t : Tag) (form : Bool) (c : List ℕ) (last : Open) (q : Made) (n m : ℕ)
    → AreOctets x → IsDue from os x → BeginsPiece from x t form c last → form ≡ true → ps ≡ last ∷ os → PieceBecomes to n (piece_read t form c) q m
    → PassesOne from to n os x m ps c q
passes_beginning from to os ps x t form c last q n m o due begun e p becomes =
    rw p (record {
      piece = begins t;
      same = beginning_next from os x t form c last o due begun e;
      becomes = subst (λ f. PieceBecomes to n (piece_read t f c) q m) e becomes;
      smaller = smaller begun;
    })
  where
    smaller : BeginsPiece from x t form c last
        → length (to_come (last ∷ os) c) * 2 + length (last ∷ os) < length (to_come os x) * 2 + length os
    smaller (of_definite h a d same is) =
        let inner : length (to_come (last ∷ os) c) ≡ length c + length (to_come os a) =
        ap (λ k. length (to_come (k ∷ os) c)) same ∙ length-append c (to_come os a) in
        omega (arith, inner, come_size os h (c ++ a) x is, come_size os c a (c ++ a) refl, header_size from t form _ h d)
    smaller (of_indefinite h d same is) =
        let inner : length (to_come (last ∷ os) c) ≡ length (to_come os c) = ap (λ k. length (to_come (k ∷ os) c)) same in
        omega (arith, inner, come_size os h c x is, header_size from t form _ h d)

pub nothing_passed : (from to : Mode) (n : ℕ) (os : List Open) (x : List ℕ) → AreOctets x → IsDue from os x → read_tree from x ≡ None
    → PassesNone from to n os x
nothing_passed from to n os x o due e = no_rest (none_next from os x o due e)

pub passes_nothing : (from to : Mode) (n : ℕ) (os : List Open) (x : List ℕ) (t : Tag) (form : Bool) (c : List ℕ) (last : Open)
    → AreOctets x → IsDue from os x → BeginsPiece from x t form c last → ((q : Made) (m : ℕ) → PieceBecomes to n (piece_read t form c) q m → ⊥)
    → PassesNone from to n os x
passes_nothing from to n os x t true c last o due begun none =
    one_is_nothing (begins t) (pieces_left from (last ∷ os) c) (beginning_next from os x t true c last o due begun refl) none
passes_nothing from to n os x t false c last o due begun none = go begun
  where
    go : BeginsPiece from x t false c last → PassesNone from to n os x
    go (of_definite h a d same is) =
        one_is_nothing (value t c) (pieces_left from os a) (value_next from os x t false c last a o due begun refl same) none
    go (of_indefinite h d same is) = absurd (no_false false (must_be from t false None refl d) refl)
