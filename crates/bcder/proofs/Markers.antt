-- The marker behind whole values, by its size.
use Rattle.std.specs.Prelude.{◌↔◌, IsTrue}
use Rattle.std.proofs.Common.{◌≡◌, ℕ, zero, suc, ◌-◌, ◌<◌, ◌≤◌, Bool, true, false, List, [], ◌++◌, length, take, drop, refl}
use Rattle.std.proofs.Common.{sym, ap, ◌∙◌, subst, take-append-drop, append-nil, arith, inl, inr}
use Rattle.std.proofs.lemmas.List.{length-append, append_cancel_left, take_at}
use Rattle.bcder.specs.declared.mode.Mode.{Mode}
use Rattle.bcder.specs.x690.Length.{IsLengthForm, IsEndOfContents}
use Rattle.bcder.specs.steps.CaptureSteps.{EndsIn, EndsBy}
use Rattle.bcder.specs.declared.decode.error.ContentError.{ContentError}
use Rattle.bcder.specs.calls.Cause.{Cause, of_memory, is_memory_cause}
use Rattle.bcder.specs.calls.Stream.{Grew}
use Rattle.bcder.specs.declared.decode.content.Kind.TheVariants as kind
use Rattle.bcder.specs.calls.Content.{Reading, values}
use Rattle.bcder.specs.x690.Encoding.{AreEncodings}
use Rattle.bcder.specs.x690.Tree.{Trees}
use Rattle.bcder.specs.calls.Walking.{HasValues, ClosesBefore}
use Rattle.bcder.specs.laws.Lengths.{IsLengthForm-from_length}

form_size : (w : List ℕ) → IsLengthForm 0 w → (1 ≤ length w) × (length w ≤ 5)
form_size w (inl h) = (let e = ap length h.1 in omega arith, let e = ap length h.1 in omega arith)
form_size w (inr h) = (let e = ap length h.is in omega arith, let e = ap length h.is in let m = h.limit in omega arith)

-- end-of-contents octets are two to six
pub end_size : (mode : Mode) (e : List ℕ) → IsEndOfContents mode e → (2 ≤ length e) × (length e ≤ 6)
end_size mode e h =
    let s = form_size h.zero_length (IsLengthForm-from_length mode 0 h.zero_length h.is_length) in
    let l = ap length h.is in
    (let a = s.0 in omega arith, let b = s.1 in omega arith)

-- what is behind the front
pub behind_front : (k : ℕ) (w e : List ℕ) → w ≡ take k w ++ e → drop k w ≡ e
behind_front k w e h = append_cancel_left (take k w) (drop k w) e (take-append-drop k w ∙ h)

own_front : (front close : List ℕ) → take (length (front ++ close) - length close) (front ++ close) ≡ front
own_front front close =
    let l = length-append front close in
    let n : length (front ++ close) - length close ≡ length front = omega arith in
    ap (λ k. take k (front ++ close)) n ∙ take_at front close (length front) refl

-- a marker behind values has its own size
pub ends_by_size : (mode : Mode) (w front : List ℕ) (h : EndsIn mode true w front) → EndsBy mode w (length h.close)
ends_by_size mode w front h =
    let f : take (length w - length h.close) w ≡ front = ap (λ x. take (length x - length h.close) x) h.split ∙ own_front front h.close in
    record { fits = (let e = ap length h.split in let l = length-append front h.close in omega arith); ends = subst (λ x. EndsIn mode true w x) (sym f) h }

two_left : (n : ℕ) → 2 ≤ n → n ≤ 6 → (3 ≤ n → n < 7 → ⊥) → n ≡ 2
two_left zero a b f = absurd (omega arith)
two_left (suc zero) a b f = absurd (omega arith)
two_left (suc (suc zero)) a b f = refl
two_left (suc (suc (suc n))) a b f = absurd (f (omega arith) (omega arith))

-- which is two where it is no larger one
pub ends_by_two : (mode : Mode) (w front : List ℕ) → EndsIn mode true w front → ((n : ℕ) → 3 ≤ n → n < 7 → EndsBy mode w n → ⊥) → EndsBy mode w 2
ends_by_two mode w front h none =
    let s = end_size mode h.close h.is_marker in
    let two : length h.close ≡ 2 = two_left (length h.close) s.0 s.1 (λ a b. none (length h.close) a b (ends_by_size mode w front h)) in
    subst (λ n. EndsBy mode w n) two (ends_by_size mode w front h)

-- ---- values up to the end of a source

abbrev pub AreValues : Mode → List ℕ → Type 0
AreValues mode w = (ts : Trees) × AreEncodings mode ts w

module _ (c : Reading) (mode : Mode) (w : List ℕ) (m : c.mode ≡ mode) (k : c.kind ≡ values kind.Unbounded) (r : c.stream.rest ≡ w) where
  pub values_there : AreValues mode w → HasValues c
  values_there v = record {
    trees = v.0;
    all = w;
    after = [];
    encode = subst (λ x. AreEncodings x v.0 w) (sym m) v.1;
    rest = r ∙ sym (append-nil w);
    closes = subst (λ x. ClosesBefore x c.mode c.owed w []) (sym k) refl;
  }

  pub values_found : HasValues c → AreValues mode w
  values_found h =
      let z : h.after ≡ [] = subst (λ x. ClosesBefore x c.mode c.owed h.all h.after) k h.closes in
      let e : h.all ≡ w = sym (append-nil h.all) ∙ ap (λ x. h.all ++ x) (sym z) ∙ sym h.rest ∙ r in
      (h.trees, subst (λ x. AreEncodings mode h.trees x) e (subst (λ x. AreEncodings x h.trees h.all) m h.encode))

-- a cause that isn't want of memory
pub not_memory : (e : Cause ContentError) → is_memory_cause e ≡ false → e ≡ of_memory → ⊥
not_memory e n m = (let x : true ≡ false = sym (ap is_memory_cause m) ∙ n in cc)

-- a source that never fails
pub never_grew : Grew 0 0 → ⊥
never_grew g = elim g.larger_or_last [ inl l ↦ omega (arith, l) | inr l ↦ omega (arith, l) ]

-- an answer that another gives, and one that is no
pub as_other : (P : Type 0) (b l : Bool) → b ≡ l → IsTrue l ↔ P → IsTrue b ↔ P
as_other P b l e h = rw e h

pub as_no : (P : Type 0) (b : Bool) → b ≡ false → (P → ⊥) → IsTrue b ↔ P
as_no P b e n = (λ t. absurd (let x : true ≡ false = sym t ∙ e in cc), λ v. absurd (n v))
