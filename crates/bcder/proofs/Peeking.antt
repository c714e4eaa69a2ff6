-- What is told of a header by the octets at hand, and what stands at the front of the source.
use Rattle.std.proofs.Common.{◌≡◌, ℕ, ◌≤◌, Bool, List, ◌++◌, length, take, drop, Option, Some, None, IfSome, ap, ap₂, sym, subst, ◌∙◌, arith, length-append}
use Rattle.std.proofs.lemmas.Grind.{common_steps}
use Rattle.std.proofs.lemmas.List.{take-append-drop, length-take-le}
use Rattle.bcder.specs.declared.mode.Mode.{Mode}
use Rattle.bcder.specs.declared.decode.header.Peeked.{Peeked}
use Rattle.bcder.specs.declared.decode.header.Peeked.TheVariants as peeked
use Rattle.bcder.specs.x690.Identifier.{Tag, end_of_contents}
use Rattle.bcder.specs.x690.Encoding.{Header}
use Rattle.bcder.specs.steps.Reading.{read_identifier, read_front, read_header, read_end}
use Rattle.bcder.specs.calls.Content.{Asked, IsAsked}
use Rattle.bcder.specs.laws.Sound.{none_is, some_inj}
use Rattle.bcder.specs.steps.Peek.{HasNoHeader, Shows, IsFrontOf}
use Rattle.bcder.proofs.Beginnings.{no_identifier}
use Rattle.bcder.proofs.Headers.{other_of_front, header_of_front, end_identified}

-- ---- no header

pub unidentified : (mode : Mode) (asked : Asked) (w : List ℕ) → read_identifier w ≡ None → HasNoHeader mode asked w
unidentified mode asked w e = let n = no_identifier mode w e in (n.0, n.1, λ o. none_is _ (sym e ∙ o.3))

pub unheaded : (mode : Mode) (asked : Asked) (w : List ℕ) (t : Tag) (f : Bool) (x : List ℕ) → read_identifier w ≡ Some (t, f, x) → IsAsked asked t
    → read_header mode w ≡ None → read_end mode w ≡ None → HasNoHeader mode asked w
unheaded mode asked w t f x e i h n = (h, n, λ o. o.4 (subst (λ u. IsAsked asked u) (ap (λ r. r.0) (some_inj _ _ (sym e ∙ o.3))) i))

-- end-of-contents octets have the tag that stands in front
pub end_asked : (mode : Mode) (asked : Asked) (w x : List ℕ) (t : Tag) (f : Bool) (y : List ℕ) → read_end mode w ≡ Some x → read_identifier w ≡ Some (t, f, y)
    → IsAsked asked t → IsAsked asked end_of_contents
end_asked mode asked w x t f y e i a = let d = end_identified mode w x e in subst (λ u. IsAsked asked u) (ap (λ r. r.0) (some_inj _ _ (sym i ∙ d.1))) a

-- ---- a header that was read

-- it shows what is told of it
pub front_shown : (mode : Mode) (asked : Asked) (w : List ℕ) (n : ℕ) (h : Header) (p : Peeked) → n ≤ length w → IsFrontOf mode asked n h p
    → ((x : List ℕ) → read_front mode (w ++ x) ≡ Some (h, drop n (w ++ x))) → Shows mode asked p w
front_shown mode asked w n h peeked.Nothing l i r = absurd i
front_shown mode asked w n h peeked.Other l i r = λ x. other_of_front mode asked (w ++ x) h (drop n (w ++ x)) (r x) i
front_shown mode asked w n h (peeked.End k) l i r = absurd i
front_shown mode asked w n h (peeked.Front g k) l i r = λ x. (
  (omega (arith, l, i.0), header_of_front mode (w ++ x) h (drop n (w ++ x)) (r x) i.3 i.4 ∙ ap Some (ap₂ (λ a m. (a, drop m (w ++ x))) (sym i.1) (sym i.0))),
  subst (λ (z : Header). IsAsked asked z.tag) (sym i.1) i.2,
)
front_shown mode asked w n h (peeked.Refused v) l i r = absurd i

pub if_front : (mode : Mode) (asked : Asked) (w : List ℕ) (n : ℕ) (h : Header) (r : Option Peeked) → n ≤ length w → IfSome r (IsFrontOf mode asked n h)
    → ((x : List ℕ) → read_front mode (w ++ x) ≡ Some (h, drop n (w ++ x))) → IfSome r (λ p. Shows mode asked p w)
if_front mode asked w n h None l i r = tt
if_front mode asked w n h (Some p) l i r = front_shown mode asked w n h p l i r

-- ---- tags

-- ---- the octets at hand, and those to come

-- what holds of the octets at hand, whatever follows them, holds of all octets to come
pub at_hand : (P : ℕ → List ℕ → Type 0) (rest slice : List ℕ) (found avail : ℕ) → take (length slice) rest ≡ slice → found ≤ length slice → avail ≡ found
    → ((x : List ℕ) → P (length (take found slice)) (take found slice ++ x)) → P avail rest
at_hand P rest slice found avail front enough e h =
    let l : length (take found slice) ≡ avail = length-take-le found slice enough ∙ sym e in
    let w : take found slice ≡ take found rest = grind (arith, common_steps) in
    subst (λ n. P n rest) l
    (subst (λ v. P (length (take found slice)) v) (ap (λ v. v ++ drop found rest) w ∙ take-append-drop found rest) (h (drop found rest)))

pub some_followed : (w x : List ℕ) → 1 ≤ length w → 1 ≤ length (w ++ x)
some_followed w x h = omega (arith, length-append w x)
