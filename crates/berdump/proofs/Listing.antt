-- The steps of a listing.
use Rattle.std.proofs.Common.{◌≡◌, ℕ, ◌+◌, ◌-◌, ◌<◌, List, [], ◌∷◌, ◌++◌, length, get_or, drop, refl}
use Rattle.std.proofs.Common.{sym, ap, subst, ◌∙◌, append_assoc, arith, length-append}
use Rattle.std.specs.Borrow.{Bor}
use Rattle.bcder.specs.declared.mode.Mode.{Mode}
use Rattle.bcder.specs.x690.Length.{IsEndOfContents}
use Rattle.berdump.specs.declared.heading.Heading.{Heading}
use Rattle.berdump.specs.declared.scope.Scope.{Scope}
use Rattle.berdump.specs.declared.opened.Open.{Open}
use Rattle.berdump.specs.declared.opened.Open.TheVariants as level
use Rattle.berdump.specs.Listing.{IsListed, AreListed}
use Rattle.berdump.specs.Opened.{Completes}

at_offset : (scope : Scope) (mode : Mode) (es : List Open) (w : List ℕ) (a b : ℕ) (hs : List Heading) → a ≡ b → Completes scope mode es w a hs
    → Completes scope mode es w b hs
at_offset scope mode es w a b hs e = subst (λ n. Completes scope mode es w n hs) e

pub closes_definite : (scope : Scope) (mode : Mode) (es : List Open) (behind w : List ℕ) (at : ℕ) (hs : List Heading) → w ≡ []
    → Completes scope mode es behind at hs
    → (inside more : List Heading) × AreListed scope mode w at (length es + 1) inside × Completes scope mode es behind (at + length w) more
    × (hs ≡ inside ++ more)
closes_definite scope mode es behind w at hs e k =
    ([], hs, AreListed.none e refl, at_offset scope mode es behind at (at + length w) hs (rw e omega arith) k, refl)

pub closes_indefinite : (scope : Scope) (mode : Mode) (es : List Open) (end others w : List ℕ) (at : ℕ) (hs : List Heading) → IsEndOfContents mode end
    → w ≡ end ++ others → Completes scope mode es others (at + length end) hs
    → Completes scope mode (level.Indefinite ∷ es) w at hs
closes_indefinite scope mode es end others w at hs i e k = (
  [],
  end,
  others,
  [],
  hs,
  AreListed.none refl refl,
  i,
  at_offset scope mode es others (at + length end) (at + (length {A = ℕ} [] + length end)) hs (omega arith) k,
  e,
  refl,
)

-- ---- the innermost open value

pub first_of : (es : List Open) (x : Open) → 0 < length es → x ≡ get_or es 0 x → es ≡ x ∷ drop 1 es
first_of [] x p e = absurd (omega (arith, p))
first_of (y ∷ ys) x p e = cc

pub goes_behind : (scope : Scope) (mode : Mode) (es fs : List Open) (b : Bor (List ℕ)) (w : List ℕ) (at : ℕ) (hs : List Heading) → 0 < length es
    → level.Definite b ≡ get_or es 0 (level.Definite b) → fs ≡ drop 1 es → w ≡ [] → Completes scope mode fs b.now (at + 0) hs
    → Completes scope mode es w at hs
goes_behind scope mode es fs b w at hs p e d i k =
    subst (λ z. Completes scope mode z w at hs) (sym (first_of es (level.Definite b) p e)) (closes_definite scope mode (drop 1 es) b.now w at hs i
    (at_offset scope mode (drop 1 es) b.now (at + 0) at hs (omega arith) (subst (λ z. Completes scope mode z b.now (at + 0) hs) d k)))

pub goes_after : (scope : Scope) (mode : Mode) (es fs : List Open) (end after w : List ℕ) (at : ℕ) (hs : List Heading) → 0 < length es
    → level.Indefinite ≡ get_or es 0 level.Indefinite → fs ≡ drop 1 es → IsEndOfContents mode end → w ≡ end ++ after
    → Completes scope mode fs after (at + (length w - length after)) hs
    → Completes scope mode es w at hs
goes_after scope mode es fs end after w at hs p e d i is k =
    subst (λ z. Completes scope mode z w at hs) (sym (first_of es level.Indefinite p e)) (closes_indefinite scope mode (drop 1 es) end after w at hs i is
    (at_offset scope mode (drop 1 es) after (at + (length w - length after)) (at + length end) hs (omega (arith, ap length is, length-append end after))
    (subst (λ z. Completes scope mode z after (at + (length w - length after)) hs) d k)))

-- ---- the next value

before : (scope : Scope) (mode : Mode) (first others : List ℕ) (at depth : ℕ) (these those : List Heading) → IsListed scope mode first at depth these
    → AreListed scope mode others (at + length first) depth those → AreListed scope mode (first ++ others) at depth (these ++ those)
before scope mode first others at depth these those h k = AreListed.more first others these those h k refl refl

-- a value in front of what is still to be listed
pub value_first : (scope : Scope) (mode : Mode) (es : List Open) (first others : List ℕ) (at : ℕ) (these those : List Heading)
    → IsListed scope mode first at (length es) these → Completes scope mode es others (at + length first) those
    → Completes scope mode es (first ++ others) at (these ++ those)
value_first scope mode [] first others at these those h k = before scope mode first others at 0 these those h k
value_first scope mode (level.Definite b ∷ es) first others at these those h k = (
  these ++ k.0,
  k.1,
  before scope mode first others at (length es + 1) these k.0 (subst (λ d. IsListed scope mode first at d these) (omega arith) h) k.2,
  at_offset scope mode es b.now (at + length first + length others) (at + length (first ++ others)) k.1 (omega (arith, length-append first others)) k.3,
  ap (λ l. these ++ l) k.4 ∙ sym (append_assoc these k.0 k.1),
)
value_first scope mode (level.Indefinite ∷ es) first others at these those h k =
    let (contents, end, after, inside, more, listed, is_end, completes, is, all) = k in (
      first ++ contents,
      end,
      after,
      these ++ inside,
      more,
      before scope mode first contents at (length es + 1) these inside (subst (λ d. IsListed scope mode first at d these) (omega arith) h) listed,
      is_end,
      at_offset scope mode es after (at + length first + (length contents + length end)) (at + (length (first ++ contents) + length end)) more
          (omega (arith, length-append first contents)) completes,
      ap (λ l. first ++ l) is ∙ sym (append_assoc first contents (end ++ after)),
      ap (λ l. these ++ l) all ∙ sym (append_assoc these inside more),
    )
