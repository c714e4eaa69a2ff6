-- Octet strings that are cut into segments, and passed piece by piece.
use Rattle.std.proofs.Common.{◌≡◌, ℕ, ◌+◌, ◌<◌, ◌≤◌, Bool, true, false, List, [], ◌∷◌, ◌++◌, length, take, drop, Option, Some, None, option_map}
use Rattle.std.proofs.Common.{refl, sym, ap, ap₂, subst, ◌∙◌, append_assoc, append-nil, take-append-drop, arith}
use Rattle.std.specs.Prelude.{nat_eq}
use Rattle.std.specs.List.{concat}
use Rattle.std.proofs.lemmas.Bool.{lt-ltb, le-ltb}
use Rattle.std.proofs.lemmas.List.{length-append, length-take-le, append_cancel_right, drop_at}
use Rattle.std.proofs.lemmas.List.Folds.{concat-append}
use Rattle.bcder.specs.declared.mode.Mode.{Mode}
use Rattle.bcder.specs.declared.mode.Mode.TheVariants.{Ber, Cer}
use Rattle.bcder.specs.x690.Identifier.{Tag}
use Rattle.bcder.specs.x690.Length.{IsEndOfContents}
use Rattle.bcder.specs.x690.Tree.{Trees}
use Rattle.bcder.specs.x690.Encoding.{IsHeader, AreEncodings}
use Rattle.bcder.specs.x690.OctetString.{segments_of, AreSegmentsIn, AreSegmented, AreCut, IsLast}
use Rattle.bcder.specs.calls.Captured.{AreWhole}
use Rattle.bcder.specs.calls.Content.{length_of}
use Rattle.bcder.specs.steps.Reading.{read_header, read_end}
use Rattle.bcder.specs.steps.Segments.{is_octet_string, segment_behind, read_segment}
use Rattle.bcder.specs.laws.Complete.{header_complete, one_list}
use Rattle.bcder.specs.laws.Sound.{some_inj, none_is}
use Rattle.bcder.proofs.Headers.{end_no_header}
use Rattle.bcder.proofs.Segments.{Items, no_items, value, closing, before, AreItems, parts_of, Turn, passes, goes, stops, turn, all_items, all_parts, none_left}
use Rattle.bcder.proofs.Segments.{passed_shorter, Counts, counts_all, counts_piece, counts_goes, counts_none, counts_cut}
use Rattle.bcder.proofs.Segments.{Pieces, pieces_more, pieces_cut, pieces_few, pieces_other, pieces_nested, pieces_unread}
use Rattle.encodings.specs.Buffers.{IsAtFront}
use Rattle.encodings.specs.Contents.{HoldsString}
use Rattle.encodings.specs.Open.{HasNoHeader, NotAtEnd}
use Rattle.encodings.specs.Strings.{PassesPiece, HasNoPiece, other, nothing}
use Rattle.encodings.proofs.Reading.{end_read, no_encoding}

-- ---- one piece

no_piece : (s : List ℕ) → ◌≡◌ {A = Option (List ℕ)} None (Some s) → ⊥
no_piece s e = none_is s e

pub end_passed : (mode : Mode) (w v y : List ℕ) → IsEndOfContents mode v → w ≡ v ++ y → PassesPiece mode w None y
unfolding read_segment
end_passed mode w v y end is =
    let e = end_read mode v w y end is in
    record { read = rw (end_no_header mode w y e, e) refl; stands = λ s f. absurd (no_piece s f) }

module _ (mode : Mode) (w : List ℕ) (t : Tag) (form : Bool) (n : Option ℕ) (h z : List ℕ) (d : IsHeader mode t form (length_of n) h)
    (is : w ≡ h ++ z) where
  at_header : read_segment mode w ≡ segment_behind (Some (record { tag = t; form = form; len = length_of n }, z)) (read_end mode w)
  unfolding read_segment
  at_header = rw (ap (read_header mode) is ∙ header_complete mode t form (length_of n) h z d) refl

  pub other_tag : is_octet_string t ≡ false → HasNoPiece mode w
  other_tag e = other (at_header ∙ rw e refl)

  module _ (tag : is_octet_string t ≡ true) where
    pub header_passed : form ≡ true → PassesPiece mode w None z
    header_passed e = record { read = at_header ∙ rw (tag, e) refl; stands = λ s f. absurd (no_piece s f) }

    pub too_short : (k : ℕ) → form ≡ false → n ≡ Some k → length z < k → HasNoPiece mode w
    too_short k e i l = other (at_header ∙ rw (tag, e, i, lt-ltb _ _ l) refl)

    pub segment_passed : (k : ℕ) (s y : List ℕ) → form ≡ false → n ≡ Some k → k ≤ length z → s ≡ take k z → y ≡ drop k z
        → PassesPiece mode w (Some s) y
    segment_passed k s y e i l front back =
        let count : length s ≡ k = ap length front ∙ length-take-le k z l in
        let whole : w ≡ h ++ (s ++ y) =
        is ∙ ap (λ v. h ++ v) (sym (take-append-drop k z) ∙ ap₂ (λ a b. a ++ b) (sym front) (sym back)) in
        record {
          read = at_header ∙ rw (tag, e, i, le-ltb _ _ l, count, back) refl;
          stands = λ v f. (h, whole ∙ ap (λ x. h ++ (x ++ y)) (some_inj _ _ f));
        }

-- ---- the pieces that were passed

pub record Parted (mode : Mode) (w rest : List ℕ) (met : List (List ℕ)) : Type 0 where
  pub values : Trees
  pub encode : AreEncodings mode values w
  pub left : Items
  pub items : AreItems mode left rest
  pub parts : segments_of values ≡ met ++ parts_of left
  pub bound : length (concat met) + length rest ≤ length w

parted_all : (mode : Mode) (w : List ℕ) → AreWhole mode w → Parted mode w w []
parted_all mode w h = record {
  values = h.values;
  encode = h.encode;
  left = before h.values no_items;
  items = all_items mode h.values w h.encode;
  parts = sym (all_parts h.values);
  bound = omega arith;
}

some_pair : (a b : Option ℕ) (x y : List ℕ) → ◌≡◌ {A = Option (Option ℕ × List ℕ)} (Some (a, x)) (Some (b, y)) → (a ≡ b) × (x ≡ y)
some_pair a b x y e = (let p : ◌≡◌ {A = Option ℕ × List ℕ} (a, x) (b, y) = some_inj (a, x) (b, y) e in (ap (λ z. z.0) p, ap (λ z. z.1) p))

none_pair : (a : Option ℕ) (x : List ℕ) → ◌≡◌ {A = Option (Option ℕ × List ℕ)} None (Some (a, x)) → ⊥
none_pair a x e = none_is (a, x) e

not_none : (n : ℕ) → ◌≡◌ {A = Option ℕ} (Some n) None → ⊥
not_none n e = cc

-- two fronts of as many octets, and what is behind them
same_piece : (h g s c x y w : List ℕ) → w ≡ h ++ (s ++ x) → w ≡ g ++ (c ++ y) → x ≡ y → length s ≡ length c → s ≡ c
same_piece h g s c x y w a b same count =
    let whole : (h ++ s) ++ x ≡ (g ++ c) ++ x =
    append_assoc h s x ∙ sym a ∙ b ∙ ap (λ z. g ++ (c ++ z)) (sym same) ∙ sym (append_assoc g c x) in
    let fronts : h ++ s ≡ g ++ c = append_cancel_right (h ++ s) (g ++ c) x whole in
    let size : length h ≡ length g = omega (arith, ap length fronts, length-append h s, length-append g c, count) in
    sym (drop_at h s (length h) refl) ∙ ap (drop (length h)) fronts ∙ ap (λ n. drop n (g ++ c)) size ∙ drop_at g c (length g) refl

module _ (mode : Mode) (w rest x : List ℕ) (met : List (List ℕ)) (p : Parted mode w rest met) (some : 1 ≤ length rest) where
  pub parted_piece : (s : List ℕ) → PassesPiece mode rest (Some s) x → Parted mode w x (met ++ s ∷ [])
  parted_piece s q = of_turn (turn mode p.left rest p.items some)
    where
      of_turn : Turn mode p.left rest → Parted mode w x (met ++ s ∷ [])
      of_turn (passes contents header others more e split two k r) =
          let same = some_pair _ _ _ _ (sym r ∙ q.read) in
          let stands = q.stands s refl in
          let piece : s ≡ contents =
          same_piece stands.0 header s contents x others rest stands.1 split (sym same.1) (some_inj _ _ (sym same.0)) in
          let size = length-append stands.0 (s ++ x) in
          record {
            values = p.values;
            encode = p.encode;
            left = more;
            items = subst (AreItems mode more) same.1 k;
            parts = p.parts ∙ ap (λ l. met ++ l) (ap parts_of e ∙ ap (λ c. c ∷ parts_of more) (sym piece)) ∙ sym (append_assoc met (s ∷ []) (parts_of more));
            bound = omega (
              arith,
              p.bound,
              ap length stands.1,
              size,
              length-append s x,
              ap length (concat-append met (s ∷ [])),
              length-append (concat met) (s ++ []),
              length-append s [],
            );
          }
      of_turn (goes header others more e f g split two k r) = absurd (let same = some_pair _ _ _ _ (sym q.read ∙ r) in not_none _ same.0)
      of_turn (stops r n) = absurd (none_pair _ _ (sym r ∙ q.read))

  pub parted_goes : PassesPiece mode rest None x → Parted mode w x met
  parted_goes q = of_turn (turn mode p.left rest p.items some)
    where
      of_turn : Turn mode p.left rest → Parted mode w x met
      of_turn (passes contents header others more e split two k r) = absurd (let same = some_pair _ _ _ _ (sym r ∙ q.read) in not_none _ same.0)
      of_turn (goes header others more e f g split two k r) =
          let same = some_pair _ _ _ _ (sym r ∙ q.read) in
          record {
            values = p.values;
            encode = p.encode;
            left = more;
            items = subst (AreItems mode more) same.1 k;
            parts = p.parts ∙ ap (λ l. met ++ l) e;
            bound = omega (arith, p.bound, ap length split, length-append header others, ap length same.1);
          }
      of_turn (stops r n) = absurd (none_pair _ _ (sym r ∙ q.read))

-- values, and ends, begin with one or the other
nothing_there : (mode : Mode) (is : Items) (w : List ℕ) → AreItems mode is w → 1 ≤ length w → HasNoHeader mode w → NotAtEnd mode None w → ⊥
nothing_there mode no_items w h some none end = omega (arith, ap length h)
nothing_there mode (value t is) w h some none end = no_encoding mode t w h.0 h.1 none h.2 h.4
nothing_there mode (closing is) w h some none end = end h.0 h.1 h.2 h.4

unread : (mode : Mode) (w rest : List ℕ) (met : List (List ℕ)) → Parted mode w rest met → 1 ≤ length rest → HasNoPiece mode rest
    → read_segment mode rest ≡ None
unread mode w rest met p some (other e) = e
unread mode w rest met p some (nothing none end) = absurd (nothing_there mode p.left rest p.items some none end)

parted_ends : (mode : Mode) (w rest : List ℕ) (met : List (List ℕ)) → Parted mode w rest met → length rest ≡ 0 → AreCut mode w → AreSegmented mode w met
parted_ends mode w rest met p e cut =
    let same : cut.1.values ≡ p.values = one_list mode cut.1.values p.values w cut.1.encode p.encode in
    let none : p.left ≡ no_items = none_left mode p.left rest p.items e in
    record {
      values = p.values;
      encode = p.encode;
      shape = subst (AreSegmentsIn mode) same cut.1.shape;
      hold = p.parts ∙ ap (λ i. met ++ parts_of i) none ∙ append-nil met;
    }

-- what was stored of them
module _ (met : List (List ℕ)) (s first now new : List ℕ) (at to : ℕ) (a : IsAtFront (concat met) first now at) where
  next_stored : IsAtFront (concat met ++ s) first new to → IsAtFront (concat (met ++ s ∷ [])) first new to
  next_stored b =
      subst (λ v. IsAtFront v first new to) (ap (λ v. concat met ++ v) (sym (append-nil s)) ∙ sym (concat-append met (s ∷ []))) b

-- ---- segments that may be nested

pub record InNested (w rest first now : List ℕ) (at : ℕ) : Type 0 where
  pub met : List (List ℕ)
  pub count : ℕ
  pub parted : Parted Ber w rest met
  pub counts : Counts w rest count
  pub stored : IsAtFront (concat met) first now at

pub nested_starts : (w first : List ℕ) → AreWhole Ber w → InNested w w first first 0
nested_starts w first h = record {
  met = [];
  count = 0;
  parted = parted_all Ber w h;
  counts = counts_all w h;
  stored = record { count = refl; room = refl; front = λ l. refl };
}

module _ (w rest first now : List ℕ) (at : ℕ) (i : InNested w rest first now at) where
  pub nested_bound : at + length rest ≤ length w
  nested_bound = omega (arith, i.stored.count, i.parted.bound)

  module _ (some : 1 ≤ length rest) where
    pub nested_smaller : (x : List ℕ) (s : Option (List ℕ)) → PassesPiece Ber rest s x → length x < length rest
    nested_smaller x s q = omega (arith, passed_shorter Ber i.counts.left rest x (option_map length s) i.counts.items some q.read)

    pub nested_piece : (x s new : List ℕ) (to : ℕ) → PassesPiece Ber rest (Some s) x
        → ((old v : List ℕ) → IsAtFront v old now at → IsAtFront (v ++ s) old new to) → InNested w x first new to
    nested_piece x s new to q appended = record {
      met = i.met ++ s ∷ [];
      count = i.count + 1;
      parted = parted_piece Ber w rest x i.met i.parted some s q;
      counts = counts_piece w rest x i.count (length s) i.counts some q.read;
      stored = next_stored i.met s first now new at to i.stored (appended first (concat i.met) i.stored);
    }

    pub nested_goes : (x : List ℕ) → PassesPiece Ber rest None x → InNested w x first now at
    nested_goes x q = record {
      met = i.met;
      count = i.count;
      parted = parted_goes Ber w rest x i.met i.parted some q;
      counts = counts_goes w rest x i.count i.counts some q.read;
      stored = i.stored;
    }

    pub nested_none : HasNoPiece Ber rest → AreCut Ber w → ⊥
    nested_none none = counts_none w rest i.count i.counts some (unread Ber w rest i.met i.parted some none)

  pub nested_ends : length rest ≡ 0 → (parts : List (List ℕ)) × AreSegmented Ber w parts × IsAtFront (concat parts) first now at
  nested_ends e = (i.met, parted_ends Ber w rest i.met i.parted e (counts_cut w rest i.count i.counts e), i.stored)

-- ---- segments of 1000 octets

pub record InFull (w rest first now : List ℕ) (at count : ℕ) (full : Bool) : Type 0 where
  pub met : List (List ℕ)
  pub parted : Parted Cer w rest met
  pub pieces : Pieces w rest count full
  pub stored : IsAtFront (concat met) first now at

pieces_all : (w : List ℕ) → AreWhole Cer w → Pieces w w 0 true
pieces_all w h = record {
  values = h.values;
  encode = h.encode;
  left = h.values;
  others = h.encode;
  remain = λ k. k;
  were = λ k. k;
  number = omega arith;
  bound = omega arith;
}

pub full_starts : (w first : List ℕ) → AreWhole Cer w → InFull w w first first 0 0 true
full_starts w first h = record {
  met = [];
  parted = parted_all Cer w h;
  pieces = pieces_all w h;
  stored = record { count = refl; room = refl; front = λ l. refl };
}

module _ (w rest first now : List ℕ) (at count : ℕ) (full : Bool) (i : InFull w rest first now at count full) where
  pub full_bound : at + length rest ≤ length w
  full_bound = omega (arith, i.stored.count, i.parted.bound)

  pub full_count : count + length rest ≤ length w
  full_count = i.pieces.bound

  module _ (some : 1 ≤ length rest) where
    pub full_smaller : (x : List ℕ) (s : Option (List ℕ)) → PassesPiece Cer rest s x → length x < length rest
    full_smaller x s q = (let v = i.pieces.left in
        let h = all_items Cer v rest i.pieces.others in
        omega (arith, passed_shorter Cer (before v no_items) rest x (option_map length s) h some q.read))

    pub full_piece : (x s new : List ℕ) (to : ℕ) → PassesPiece Cer rest (Some s) x → full ≡ true → 1 ≤ length s → length s ≤ 1000
        → ((old v : List ℕ) → IsAtFront v old now at → IsAtFront (v ++ s) old new to) → InFull w x first new to (count + 1) (nat_eq (length s) 1000)
    full_piece x s new to q f one most appended = record {
      met = i.met ++ s ∷ [];
      parted = parted_piece Cer w rest x i.met i.parted some s q;
      pieces = pieces_more w rest x count (length s) full i.pieces some f one most q.read;
      stored = next_stored i.met s first now new at to i.stored (appended first (concat i.met) i.stored);
    }

    pub full_other : (x s : List ℕ) → PassesPiece Cer rest (Some s) x → (full ≡ true → IsLast (length s) → ⊥) → AreCut Cer w → ⊥
    full_other x s q last = pieces_other w rest x count (length s) full i.pieces some q.read last

    pub full_nested : (x : List ℕ) → PassesPiece Cer rest None x → AreCut Cer w → ⊥
    full_nested x q = pieces_nested w rest x count full i.pieces some q.read

    pub full_none : HasNoPiece Cer rest → AreCut Cer w → ⊥
    full_none none = pieces_unread w rest count full i.pieces some (unread Cer w rest i.met i.parted some none)

  module _ (e : length rest ≡ 0) where
    pub full_few : count < 2 → AreCut Cer w → ⊥
    full_few l = pieces_few w rest count full i.pieces e l

    pub full_ends : 2 ≤ count → (parts : List (List ℕ)) × AreSegmented Cer w parts × IsAtFront (concat parts) first now at
    full_ends l = (i.met, parted_ends Cer w rest i.met i.parted e (pieces_cut w rest count full i.pieces e l), i.stored)

-- ---- the whole string

pub one_string : (mode : Mode) (w s t : List ℕ) → HoldsString mode true w s → HoldsString mode true w t → s ≡ t
one_string mode w s t h k =
    let same : h.1.values ≡ k.1.values = one_list mode h.1.values k.1.values w h.1.encode k.1.encode in
    h.2 ∙ ap concat (sym h.1.hold ∙ ap segments_of same ∙ k.1.hold) ∙ sym k.2
