-- The open values end one after the other, where a source may end before a limit.
use Rattle.std.proofs.Common.{◌≡◌, ℕ, zero, suc, ◌+◌, ◌<◌, ◌≤◌, Bool, true, false, List, [], ◌∷◌, ◌++◌, length, take, drop, Option, Some, None}
use Rattle.std.proofs.Common.{option_map, option_and_then, cond, ltb, refl, sym, ap, ◌∙◌, append_assoc, append-nil, arith}
use Rattle.std.proofs.lemmas.Bool.{lt-ltb, le-ltb}
use Rattle.std.proofs.Math.Numerals.{add-one}
use Rattle.std.proofs.lemmas.List.{length-append, take_all, drop_all}
use Rattle.bcder.specs.declared.mode.Mode.{Mode}
use Rattle.bcder.specs.declared.length.Length.{Length}
use Rattle.bcder.specs.declared.length.Length.TheVariants as len
use Rattle.bcder.specs.steps.Stacked.{Entry, Definite, Indefinite, Reached, after_headings, lack, is_indefinite, ends, next_to}
use Rattle.bcder.specs.x690.Identifier.{AreOctets, Tag}
use Rattle.bcder.specs.x690.Tree.{Tree, constructed, Trees, ◌∷ₜ◌}
use Rattle.bcder.specs.x690.Preorder.{Heading, preorder, preorders}
use Rattle.bcder.specs.x690.Encoding.{Header}
use Rattle.bcder.specs.steps.Reading.{Inside, read_header, read_end, read_contents, read_value, at_end, read_list, read_tree}
use Rattle.bcder.specs.calls.Stream.{cut, past}
use Rattle.bcder.proofs.ReadingSteps.{read_tree_step, read_list_step}

pub from_header : (mode : Mode) (h : Header) (x z : List ℕ) → AreOctets x → read_header mode x ≡ Some (h, z)
    → read_tree mode x ≡ read_contents (read_list mode) h.tag h.form h.len z
unfolding read_value
from_header mode h x z o e = read_tree_step mode x o ∙ rw e refl

pub drop_front : (h z : List ℕ) → drop (length h) (h ++ z) ≡ z
drop_front [] z = refl
drop_front (b ∷ h) z = drop_front h z

take_front : (h z : List ℕ) → take (length h) (h ++ z) ≡ h
take_front [] z = refl
take_front (b ∷ h) z = ap (λ l. b ∷ l) (take_front h z)

pub no_calls : (r : Reached) → after_headings [] r ≡ r
no_calls None = refl
no_calls (Some o) = refl

pub two_calls : (a b : List Heading) (r : Reached) → after_headings a (after_headings b r) ≡ after_headings (a ++ b) r
two_calls a b None = refl
two_calls a b (Some o) = ap (λ l. Some (l, o.1)) (sym (append_assoc a b o.0))

pub definite_ends : (mode : Mode) (o : Option ℕ) (es : List Entry) (y : List ℕ)
    → ends mode (Definite o ∷ es) [] 0 y ≡ ends mode es (cut o y) (lack o y) (past o y).octets
unfolding ends at_end
definite_ends mode o es y = rw (read_list_step mode false [] (λ i. omega arith)) (no_calls _)

pub indefinite_ends : (mode : Mode) (es : List Entry) (x z y : List ℕ) (m : ℕ) → AreOctets x → read_end mode x ≡ Some z
    → ends mode (Indefinite ∷ es) x m y ≡ ends mode es z m y
unfolding ends at_end
indefinite_ends mode es x z y m o e = rw (read_list_step mode true x o, e) (no_calls _)

-- the source ends before the limit of an open value
pub too_few : (mode : Mode) (o : Option ℕ) (es : List Entry) (x y : List ℕ) (m : ℕ) → ends mode (Definite o ∷ es) x (suc m) y ≡ None
unfolding ends
too_few mode o es x y m = refl

pub goes_on : (mode : Mode) (top : Entry) (es : List Entry) (x y : List ℕ) (m : ℕ) → AreOctets x → at_end mode (is_indefinite top) x ≡ None
    → ends mode (top ∷ es) x m y ≡ next_to mode (top ∷ es) (read_tree mode x) m y
unfolding ends
goes_on mode (Definite out) es x y zero o e = rw (read_list_step mode false x o, e) (go (read_tree mode x))
  where
    inner : (t : Tree) (z : List ℕ) (r : Option (Trees × List ℕ))
        → option_and_then (λ ts. after_headings (preorders ts.0 (suc (length es))) (ends mode es (cut out y) (lack out y) (past out y).octets))
        (option_map {U = Trees × List ℕ} (λ ts. (t ∷ₜ ts.0, ts.1)) r) ≡ after_headings (preorder t (suc (length es)))
        (option_and_then (λ ts. after_headings (preorders ts.0 (suc (length es))) (ends mode es (cut out y) (lack out y) (past out y).octets)) r)
    inner t z None = refl
    inner t z (Some ts) =
        sym (two_calls (preorder t (suc (length es))) (preorders ts.0 (suc (length es))) (ends mode es (cut out y) (lack out y) (past out y).octets))

    go : (r : Option (Tree × List ℕ))
        → option_and_then (λ ts. after_headings (preorders ts.0 (suc (length es))) (ends mode es (cut out y) (lack out y) (past out y).octets))
        (option_and_then {U = Trees × List ℕ} (λ t. option_map (λ ts. (t.0 ∷ₜ ts.0, ts.1)) (read_list mode false t.1)) r)
        ≡ option_and_then (λ t. after_headings (preorder t.0 (suc (length es))) (ends mode (Definite out ∷ es) t.1 0 y)) r
    go None = refl
    go (Some t) = inner t.0 t.1 (read_list mode false t.1)
goes_on mode (Definite out) es x y (suc m) o e = go (read_tree mode x)
  where
    go : (r : Option (Tree × List ℕ)) → None ≡ option_and_then {U = List Heading × (List ℕ × ℕ × List ℕ)}
        (λ t. after_headings (preorder t.0 (suc (length es))) (ends mode (Definite out ∷ es) t.1 (suc m) y)) r
    go None = refl
    go (Some t) = refl
goes_on mode Indefinite es x y m o e = rw (read_list_step mode true x o, e) (go (read_tree mode x))
  where
    inner : (t : Tree) (r : Option (Trees × List ℕ)) → option_and_then (λ ts. after_headings (preorders ts.0 (suc (length es))) (ends mode es ts.1 m y))
        (option_map {U = Trees × List ℕ} (λ ts. (t ∷ₜ ts.0, ts.1)) r) ≡ after_headings (preorder t (suc (length es)))
        (option_and_then (λ ts. after_headings (preorders ts.0 (suc (length es))) (ends mode es ts.1 m y)) r)
    inner t None = refl
    inner t (Some ts) = sym (two_calls (preorder t (suc (length es))) (preorders ts.0 (suc (length es))) (ends mode es ts.1 m y))

    go : (r : Option (Tree × List ℕ)) → option_and_then (λ ts. after_headings (preorders ts.0 (suc (length es))) (ends mode es ts.1 m y))
        (option_and_then {U = Trees × List ℕ} (λ t. option_map (λ ts. (t.0 ∷ₜ ts.0, ts.1)) (read_list mode true t.1)) r)
        ≡ option_and_then (λ t. after_headings (preorder t.0 (suc (length es))) (ends mode (Indefinite ∷ es) t.1 m y)) r
    go None = refl
    go (Some t) = inner t.0 (read_list mode true t.1)

-- ---- what a header announces

-- more octets than there are
pub too_long : (inside : Inside) (t : Tag) (f : Bool) (n : ℕ) (z : List ℕ) → length z < n → read_contents inside t f (len.Definite n) z ≡ None
too_long inside t false n z l = rw (lt-ltb _ _ l) refl
too_long inside t true n z l = rw (lt-ltb _ _ l) refl

pub octets_there : (mode : Mode) (es : List Entry) (t : Tag) (n : ℕ) (z y : List ℕ) (m : ℕ) → n ≤ length z
    → next_to mode es (read_contents (read_list mode) t false (len.Definite n) z) m y
    ≡ after_headings (record { tag = t; constructed = false; depth = length es } ∷ []) (ends mode es (drop n z) m y)
octets_there mode es t n z y m l = rw (le-ltb _ _ l) refl

-- a limit gives back what it cut
pub record Restores (out : Option ℕ) (z y : List ℕ) (m : ℕ) : Type 0 where
  pub within : cut out (z ++ y) ≡ z
  pub missing : lack out (z ++ y) ≡ m
  pub behind : (past out (z ++ y)).octets ≡ y

pub definite_there : (mode : Mode) (es : List Entry) (t : Tag) (n : ℕ) (z y : List ℕ) (m : ℕ) (out : Option ℕ) → n ≤ length z → Restores out (drop n z) y m
    → next_to mode es (read_contents (read_list mode) t true (len.Definite n) z) m y
    ≡ after_headings (record { tag = t; constructed = true; depth = length es } ∷ []) (ends mode (Definite out ∷ es) (take n z) 0 (drop n z ++ y))
unfolding ends
definite_there mode es t n z y m out l r = rw (le-ltb _ _ l, r.within, r.missing, r.behind) (go (read_list mode false (take n z)))
  where
    go : (r : Option (Trees × List ℕ)) → option_and_then {U = List Heading × (List ℕ × ℕ × List ℕ)}
        (λ t. after_headings (preorder t.0 (length es)) (ends mode es t.1 m y)) (option_map {U = Tree × List ℕ} (λ ts. (constructed t ts.0, drop n z)) r)
        ≡ after_headings (record { tag = t; constructed = true; depth = length es } ∷ [])
        (option_and_then (λ ts. after_headings (preorders ts.0 (suc (length es))) (ends mode es (drop n z) m y)) r)
    go None = refl
    go (Some ts) = rw add-one
        (sym (two_calls (record { tag = t; constructed = true; depth = length es } ∷ []) (preorders ts.0 (suc (length es))) (ends mode es (drop n z) m y)))

-- definite content that isn't all there: nothing on either side
pub definite_short : (mode : Mode) (es : List Entry) (t : Tag) (n : ℕ) (x z y v : List ℕ) (m k : ℕ) (out : Option ℕ) → length z < n → 0 < k
    → next_to mode es (read_contents (read_list mode) t true (len.Definite n) z) m y
    ≡ after_headings (record { tag = t; constructed = true; depth = length es } ∷ []) (ends mode (Definite out ∷ es) x k v)
unfolding ends
definite_short mode es t n x z y v m zero out l s = absurd (omega arith)
definite_short mode es t n x z y v m (suc k) out l s = rw (lt-ltb _ _ l) refl

pub indefinite_there : (mode : Mode) (es : List Entry) (t : Tag) (z y : List ℕ) (m : ℕ)
    → next_to mode es (read_contents (read_list mode) t true len.Indefinite z) m y
    ≡ after_headings (record { tag = t; constructed = true; depth = length es } ∷ []) (ends mode (Indefinite ∷ es) z m y)
unfolding ends
indefinite_there mode es t z y m = go (read_list mode true z)
  where
    go : (r : Option (Trees × List ℕ))
        → option_and_then {U = List Heading × (List ℕ × ℕ × List ℕ)} (λ t. after_headings (preorder t.0 (length es)) (ends mode es t.1 m y))
        (option_map {U = Tree × List ℕ} (λ ts. (constructed t ts.0, ts.1)) r) ≡ after_headings (record { tag = t; constructed = true; depth = length es } ∷ [])
        (option_and_then (λ ts. after_headings (preorders ts.0 (suc (length es))) (ends mode es ts.1 m y)) r)
    go None = refl
    go (Some ts) = rw add-one
        (sym (two_calls (record { tag = t; constructed = true; depth = length es } ∷ []) (preorders ts.0 (suc (length es))) (ends mode es ts.1 m y)))

-- the headings of what a header announces begin with its own
abbrev pub FirstIs : Heading → ℕ → Option (Tree × List ℕ) → Type 0
FirstIs h d None = Unit {0}
FirstIs h d (Some u) = (hs : List Heading) × (preorder u.0 d ≡ h ∷ hs)

first_of_if : (h : Heading) (d : ℕ) (b : Bool) (r : Option (Tree × List ℕ)) → FirstIs h d r → FirstIs h d (cond b None r)
first_of_if h d true r f = tt
first_of_if h d false r f = f

first_constructed : (t : Tag) (d : ℕ) (g : Trees × List ℕ → List ℕ) (r : Option (Trees × List ℕ))
    → FirstIs (record { tag = t; constructed = true; depth = d }) d (option_map (λ ts. (constructed t ts.0, g ts)) r)
first_constructed t d g None = tt
first_constructed t d g (Some ts) = (preorders ts.0 (d + 1), refl)

pub first_heading : (inside : Inside) (t : Tag) (f : Bool) (n : Length) (z : List ℕ) (d : ℕ)
    → FirstIs (record { tag = t; constructed = f; depth = d }) d (read_contents inside t f n z)
first_heading inside t false len.Indefinite z d = tt
first_heading inside t false (len.Definite n) z d = first_of_if _ d (ltb (length z) n) _ ([], refl)
first_heading inside t true len.Indefinite z d = first_constructed t d (λ ts. ts.1) (inside true z)
first_heading inside t true (len.Definite n) z d = first_of_if _ d (ltb (length z) n) _ (first_constructed t d (λ ts. drop n z) (inside false (take n z)))

-- whatever it announces, the headings begin with its own
pub heads : (mode : Mode) (es : List Entry) (h : Heading) (r : Option (Tree × List ℕ)) (y : List ℕ) (m : ℕ) → FirstIs h (length es) r
    → (o : Reached) × (next_to mode es r m y ≡ after_headings (h ∷ []) o)
heads mode es h None y m f = (None, refl)
heads mode es h (Some u) y m f =
    (after_headings f.0 (ends mode es u.1 m y), ap (λ l. after_headings l (ends mode es u.1 m y)) f.1 ∙ sym (two_calls (h ∷ []) f.0 (ends mode es u.1 m y)))

-- the limit that was left, less the length, does
pub Restores-none : (z : List ℕ) → Restores None z [] 0
Restores-none z = record { within = append-nil z; missing = refl; behind = refl }

pub Restores-all : (z y : List ℕ) (k : ℕ) → k ≡ length z → Restores (Some k) z y 0
Restores-all z y k e = record {
  within = ap (λ n. take n (z ++ y)) e ∙ take_front z y;
  missing = omega (arith, length-append z y);
  behind = ap (λ n. drop n (z ++ y)) e ∙ drop_front z y;
}

pub Restores-short : (z : List ℕ) (k m : ℕ) → k ≡ length z + m → Restores (Some k) z [] m
Restores-short z k m e = record {
  within = ap (take k) (append-nil z) ∙ take_all k z (omega arith);
  missing = omega (arith, length-append z []);
  behind = ap (drop k) (append-nil z) ∙ drop_all k z (omega arith);
}
