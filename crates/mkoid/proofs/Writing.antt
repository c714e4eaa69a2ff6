-- Lines, one behind the other, and what was written of them.
use Rattle.std.proofs.Common.{◌≡◌, ◌≢◌, ℕ, ◌+◌, ◌<◌, List, [], ◌∷◌, ◌++◌, length, map, take, drop, get_or, refl, sym, ap}
use Rattle.std.proofs.Common.{◌∙◌, append_assoc, append-nil, add-one, drop-cons, take-append-drop}
use Rattle.std.specs.Prelude.{Option, Result, Ok, Err, OnOk, OnErr}
use Rattle.std.specs.Io.KnownBytes.{Appends}
use Rattle.std.proofs.KnownBytes.{Appends-trans}
use Rattle.std.proofs.lemmas.List.{map-append, take_more}
use Rattle.bcder.specs.calls.Encoders.{AppendsShorter}
use Rattle.mkoid.specs.Lines.{IsLine, AreLines, WritesAll, WritesSome}

pub on_ok : {T E : Type 0} (r : Result T E) (P Q : Type 0) → (P → Q) → OnOk r P → OnOk r Q
on_ok (Ok x) P Q f h = f h
on_ok (Err e) P Q f h = tt

pub on_err : {T E : Type 0} (r : Result T E) (P Q : Type 0) → (P → Q) → OnErr r P → OnErr r Q
on_err (Ok x) P Q f h = tt
on_err (Err e) P Q f h = f h

pub whenever_err : {T E : Type 0} (r : Result T E) (P : Type 0) → P → OnErr r P
whenever_err (Ok x) P p = tt
whenever_err (Err e) P p = p

no_less : (x y : List ℕ) → x ≢ [] → x ++ y ≢ []
no_less [] y n e = n refl
no_less (b ∷ x) y n e = cc

-- a beginning of some octets is one of more
pub shorter_more : (old new : Option (List ℕ)) (w x : List ℕ) → AppendsShorter old new w → AppendsShorter old new (w ++ x)
shorter_more old new w x a =
    record {
      front = a.front;
      rest = a.rest ++ x;
      appends = a.appends;
      whole = ap (λ l. l ++ x) a.whole ∙ append_assoc a.front a.rest x;
      shorter = no_less a.rest x a.shorter;
    }

-- so it is of the octets that were written before and these
pub shorter_behind : (old mid new : Option (List ℕ)) (v w : List ℕ) → Appends old mid v → AppendsShorter mid new w → AppendsShorter old new (v ++ w)
shorter_behind old mid new v w p a =
    record {
      front = v ++ a.front;
      rest = a.rest;
      appends = Appends-trans old mid new v a.front p a.appends;
      whole = ap (λ l. v ++ l) a.whole ∙ sym (append_assoc v a.front a.rest);
      shorter = a.shorter;
    }

pub lines_push : (args : List (List ℕ)) (arg text line : List ℕ) → AreLines args text → IsLine arg line → AreLines (args ++ arg ∷ []) (text ++ line)
lines_push [] arg text line e h = (line, [], h, refl, ap (λ l. l ++ line) e ∙ sym (append-nil line))
lines_push (a ∷ args) arg text line (x, y, p, q, e) h =
    (x, y ++ line, p, lines_push args arg y line q h, ap (λ l. l ++ line) e ∙ append_assoc x y line)

-- the arguments up to one, that one, and those after it
split_at : {X : Type 0} (f : X → List ℕ) (xs : List X) (i : ℕ) (d : X) → i < length xs
    → map f xs ≡ map f (take i xs) ++ (f (get_or xs i d) ∷ map f (drop (i + 1) xs))
split_at f xs i d h =
    let e : drop i xs ≡ get_or xs i d ∷ drop (i + 1) xs = rw add-one (drop-cons xs i d h) in
    ap (map f) (sym (take-append-drop i xs)) ∙ map-append f (take i xs) (drop i xs) ∙ ap (λ l. map f (take i xs) ++ map f l) e

module _ {X : Type 0} (f : X → List ℕ) (xs : List X) (i : ℕ) (x : X) (within : i < length xs) (item : x ≡ get_or xs i x) (arg : List ℕ)
    (is_arg : arg ≡ f x) where
  argument : get_or xs i x ≡ x
  argument = sym item

  -- one line more
  pub wrote_more : (old mid new : Option (List ℕ)) → WritesAll (map f (take i xs)) old mid → (line : List ℕ) → IsLine arg line → Appends mid new line
      → WritesAll (map f (take (i + 1) xs)) old new
  wrote_more old mid new (text, lines, appends) line h a =
      let e : map f (take (i + 1) xs) ≡ map f (take i xs) ++ (arg ∷ []) = ap (map f) (take_more xs i x within) ∙ map-append f (take i xs) (get_or xs i x ∷ [])
      ∙ ap (λ l. map f (take i xs) ++ (l ∷ [])) (ap f argument ∙ sym is_arg) in
      (text ++ line, rw e (lines_push (map f (take i xs)) arg text line lines h), Appends-trans old mid new text line appends a)

  -- a line of which not all was written
  pub wrote_some : (old mid new : Option (List ℕ)) → WritesAll (map f (take i xs)) old mid → (line : List ℕ) → IsLine arg line → AppendsShorter mid new line
      → WritesSome (map f xs) old new
  wrote_some old mid new (text, lines, appends) line h a = record {
    before = map f (take i xs);
    arg = arg;
    after = map f (drop (i + 1) xs);
    args_are = split_at f xs i x within ∙ ap (λ l. map f (take i xs) ++ (l ∷ map f (drop (i + 1) xs))) (ap f argument ∙ sym is_arg);
    text = text;
    written = lines;
    line = line;
    is_line = h;
    front = a.front;
    rest = a.rest;
    whole = a.whole;
    shorter = a.shorter;
    appends = Appends-trans old mid new text a.front appends a.appends;
  }
