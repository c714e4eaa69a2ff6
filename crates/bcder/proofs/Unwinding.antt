-- The limit around open values.
use Rattle.std.proofs.Common.{◌≡◌, ℕ, zero, suc, ◌+◌, ◌^◌, ◌<◌, ◌≤◌, true, List, [], ◌∷◌, ◌++◌, Option, Some, None}
use Rattle.std.proofs.Common.{is_some, IfSome, length, reverse, sym, ap, ◌∙◌, refl, arith}
use Rattle.std.proofs.lemmas.List.{length-reverse, reverse-append}
use Rattle.bcder.specs.steps.Stacked.{Entry, Definite, Indefinite, limit_around, unwound, Counts, indefinites, around, framed, IsCounted, TopIs}
use Rattle.bcder.specs.declared.decode.content.Kind.{Kind}
use Rattle.bcder.specs.declared.decode.content.Kind.TheVariants as kind
use Rattle.smallvec.specs.SmallVec.{SmallVec, HasRoomFor, small_vec_len}
use Rattle.std.proofs.Common.{inl, inr, Ok, Err, Result, is_err, IsOk}
use Rattle.std.proofs.lemmas.Bool.{cases_lt}
use Rattle.bcder.specs.declared.decode.content.skip.Frame.{Frame}
use Rattle.bcder.specs.declared.decode.content.skip.OpenValues.{OpenValues}
use Rattle.bcder.specs.calls.Content.{Falls}
use Rattle.bcder.specs.laws.Sound.{none_is, some_inj}

-- what was put on the stack last is the innermost
pub popped_last : {A : Type 0} (xs ys : List A) (top : A) → xs ≡ ys ++ top ∷ [] → reverse xs ≡ top ∷ reverse ys
popped_last xs ys top e = ap reverse e ∙ reverse-append ys (top ∷ [])

-- ---- values of indefinite length

pub unwound_indefinites : (n : ℕ) (es : List Entry) (o : Option ℕ) → unwound (indefinites n es) o ≡ unwound es o
unwound_indefinites zero es o = refl
unwound_indefinites (suc n) es o = unwound_indefinites n es o

pub indefinites_count : (n : ℕ) (es : List Entry) → length (indefinites n es) ≡ n + length es
indefinites_count zero es = omega arith
indefinites_count (suc n) es = (let x = indefinites_count n es in omega (arith, x))

pub around_count : (fs : List Frame) → length fs ≤ length (around fs)
around_count [] = omega arith
around_count (f ∷ fs) = (let x = around_count fs in omega (arith, x, indefinites_count f.indefinite_around (around fs)))

pub inner_least : (v : OpenValues) → IsCounted v → v.indefinite ≤ v.depth
inner_least v c = omega (arith, c.depth, indefinites_count v.indefinite (framed v.frames.now))

-- what was refused had no room
pub no_room : {T E : Type 0} (v : SmallVec Frame) (r : Result T E) → (HasRoomFor v 1 → IsOk r) → is_err r ≡ true → v.capacity ≤ small_vec_len v
no_room v r h e = elim (cases_lt (small_vec_len v) v.capacity) [
  | inl x ↦ absurd (wrong r (h (omega arith)) e)
  | inr x ↦ x
]
  where
    wrong : {T E : Type 0} (r : Result T E) → IsOk r → is_err r ≡ true → ⊥
    wrong (Ok x) a b = cc
    wrong (Err x) a b = cc

pub full_deep : (v : OpenValues) → IsCounted v → v.frames.now.capacity ≤ small_vec_len v.frames.now → 4 ≤ v.depth
full_deep v c l = (let x : 4 ≤ v.frames.now.capacity = c.inline in
    omega (arith, c.depth, indefinites_count v.indefinite (framed v.frames.now), around_count (reverse v.frames.now.items), length-reverse v.frames.now.items))

pub top_definite : (n : ℕ) (fs : List Frame) (k : Kind) → n ≤ 0 → k ≡ kind.Definite → TopIs (indefinites n (around fs)) k
top_definite zero [] k l e = refl
top_definite zero (f ∷ fs) k l e = e
top_definite (suc n) fs k l e = absurd (omega arith)

pub top_indefinite : (n : ℕ) (fs : List Frame) (k : Kind) → 0 < n → k ≡ kind.Indefinite → TopIs (indefinites n (around fs)) k
top_indefinite zero fs k l e = absurd (omega arith)
top_indefinite (suc n) fs k l e = e

unwound_none : (es : List Entry) → unwound es None ≡ None
unwound_none [] = refl
unwound_none (Definite None ∷ es) = unwound_none es
unwound_none (Definite (Some b) ∷ es) = unwound_none es
unwound_none (Indefinite ∷ es) = unwound_none es

unwound_least : (es : List Entry) (n m : ℕ) → unwound es (Some n) ≡ Some m → n ≤ m
unwound_least [] n m e = let x : n ≡ m = some_inj n m e in omega arith
unwound_least (Definite None ∷ es) n m e = absurd (none_is m (sym (unwound_none es) ∙ e))
unwound_least (Definite (Some b) ∷ es) n m e = let x : b + n ≤ m = unwound_least es (b + n) m e in omega arith
unwound_least (Indefinite ∷ es) n m e = unwound_least es n m e

pub unwound_frame : (es fs : List Frame) (top : Frame) (o u : Option ℕ) → es ≡ top ∷ fs → unwound (around es) o ≡ u
    → unwound (around fs) (limit_around top.behind o) ≡ u
unwound_frame es fs top o u e h =
    sym (unwound_indefinites top.indefinite_around (around fs) (limit_around top.behind o)) ∙ sym (ap (λ x. unwound (around x) o) e) ∙ h

pub counted : (es : List Entry) (o outer u : Option ℕ) → Counts outer u → is_some outer ≡ true → unwound es o ≡ u → IfSome o (λ n. n < 2 ^ 64)
counted es None outer u c s e = tt
counted es (Some n) None u c s e = (let x = s in absurd (cc))
counted es (Some n) (Some k) None c s e = absurd c
counted es (Some n) (Some k) (Some m) c s e = let x : n ≤ m = unwound_least es n m e in omega arith

-- a limit that falls is still one
pub counts_falls : (o u : Option ℕ) (k : ℕ) → Falls o k u → IfSome o (λ n. n < 2 ^ 64) → Counts o u
counts_falls None None k f l = refl
counts_falls None (Some m) k f l = absurd (f refl)
counts_falls (Some n) None k f l = absurd (f refl)
counts_falls (Some n) (Some m) k f l = omega arith
