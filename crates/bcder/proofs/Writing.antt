-- How writings follow one another.
use Rattle.std.proofs.Common.{false, ◌≡◌, ◌≢◌, ℕ, List, [], ◌∷◌, ◌++◌, Option, None, Some, Result, Ok, Err, refl, sym, ap}
use Rattle.std.proofs.Common.{◌∙◌, subst, append_assoc, append-nil, ◌⊎◌, inl, inr, IsErr, IsErrAnd}
use Rattle.std.specs.Io.KnownBytes.{Appends, Keeps}
use Rattle.std.proofs.KnownBytes.{Appends-trans, Appends-nil}
use Rattle.bcder.specs.declared.encode.error.EncodeError.{EncodeError}
use Rattle.bcder.specs.declared.encode.error.EncodeError.TheVariants.{NoMemory, EndOfValueTag, LengthTooLarge, SizeOverflow}
use Rattle.bcder.specs.declared.encode.error.EncodeError.TheVariants.{CapturedMode, LongCerBitString, LongCerPrimitive}
use Rattle.bcder.specs.declared.encode.error.WriteError.{WriteError}
use Rattle.bcder.specs.declared.encode.error.WriteError.TheVariants.{Refused, Target}
use Rattle.bcder.specs.declared.encode.slot.Failed.{Failed}
use Rattle.bcder.specs.x690.Identifier.{Tag}
use Rattle.bcder.specs.x690.Octets.{definite}
use Rattle.bcder.specs.calls.Meaning.{Exactly}
use Rattle.bcder.specs.calls.Encoders.{RefusesBy, DoneOf, WroteOf, Writes, into_result}

pub append_not_nil : (a b : List ℕ) → a ≢ [] → a ++ b ≢ []
append_not_nil [] b h = absurd (h refl)
append_not_nil (x ∷ a) b h = λ e. cc

stops_at : (lacks : Type 0) (v w : List ℕ) (a b : Option (List ℕ)) (e : WriteError) → DoneOf lacks v a b (Err e) → DoneOf lacks (v ++ w) a b (Err e)
stops_at lacks v w a b (Target e) h = record {
  front = h.front;
  rest = h.rest ++ w;
  appends = h.appends;
  whole = ap (λ l. l ++ w) h.whole ∙ append_assoc h.front h.rest w;
  shorter = append_not_nil _ _ h.shorter;
}
stops_at lacks v w a b (Refused e) h =
    let f = h.2 in
    (h.0, h.1, record { front = f.front; rest = f.rest ++ w; appends = f.appends; whole = ap (λ l. l ++ w) f.whole ∙ append_assoc f.front f.rest w })

-- an error of v alone is one of v and w
pub stops : {lacks : Type 0} {v : List ℕ} (w : List ℕ) {a b : Option (List ℕ)} {e : WriteError} → WroteOf lacks v a b (Err e)
    → WroteOf lacks (v ++ w) a b (Err e)
stops w h = record { done = stops_at _ _ w _ _ _ h.done }

follows_at : (lacks : Type 0) (v w : List ℕ) (a b c : Option (List ℕ)) (r : Result (Unit {0}) WriteError) → Appends a b v → DoneOf lacks w b c r
    → DoneOf lacks (v ++ w) a c r
follows_at lacks v w a b c (Ok u) p h = Appends-trans a b c v w p h
follows_at lacks v w a b c (Err (Target e)) p h = record {
  front = v ++ h.front;
  rest = h.rest;
  appends = Appends-trans a b c v h.front p h.appends;
  whole = ap (λ l. v ++ l) h.whole ∙ sym (append_assoc v h.front h.rest);
  shorter = h.shorter;
}
follows_at lacks v w a b c (Err (Refused e)) p h =
    let f = h.2 in (
      h.0,
      h.1,
      record {
        front = v ++ f.front;
        rest = f.rest;
        appends = Appends-trans a b c v f.front p f.appends;
        whole = ap (λ l. v ++ l) f.whole ∙ sym (append_assoc v f.front f.rest);
      },
    )

-- after v, what is done of w is done of v and w
pub follows_on : {l lacks : Type 0} {v w : List ℕ} {a b c : Option (List ℕ)} {u : Unit {0}} {r : Result (Unit {0}) WriteError} → WroteOf l v a b (Ok u)
    → WroteOf lacks w b c r → WroteOf lacks (v ++ w) a c r
follows_on p h = record { done = follows_at _ _ _ _ _ _ _ p.done h.done }

elsewhere_at : (lacks : Type 0) (v w : List ℕ) (a b c : Option (List ℕ)) (e : WriteError) → w ≢ [] → DoneOf lacks v a b (Err e) → DoneOf lacks w c c (Err e)
elsewhere_at lacks v w a b c (Target e) some h = record { front = []; rest = w; appends = Appends-nil c; whole = refl; shorter = some }
elsewhere_at lacks v w a b c (Refused e) some h = (h.0, h.1, record { front = []; rest = w; appends = Appends-nil c; whole = refl })

-- an error of what is gathered first is one of w, of which nothing was written yet
pub elsewhere : {lacks : Type 0} {v : List ℕ} (w : List ℕ) {a b : Option (List ℕ)} (c : Option (List ℕ)) {e : WriteError} → w ≢ [] → WroteOf lacks v a b (Err e)
    → WroteOf lacks w c c (Err e)
elsewhere w c some h = record { done = elsewhere_at _ _ w _ _ c _ some h.done }

lacks_at : (P Q : Type 0) (w : List ℕ) (a b : Option (List ℕ)) (r : Result (Unit {0}) WriteError) → (P → Q) → DoneOf P w a b r → DoneOf Q w a b r
lacks_at P Q w a b (Ok u) f h = h
lacks_at P Q w a b (Err (Target e)) f h = h
lacks_at P Q w a b (Err (Refused e)) f h = (h.0, f h.1, h.2)

-- memory lacks only where it may
pub lacks_more : {P : Type 0} (Q : Type 0) {w : List ℕ} {a b : Option (List ℕ)} {r : Result (Unit {0}) WriteError} → (P → Q)
    → WroteOf P w a b r → WroteOf Q w a b r
lacks_more Q f h = record { done = lacks_at _ Q _ _ _ _ f h.done }

pub is_no_memory : (e : EncodeError) → (e ≡ NoMemory) ⊎ (e ≢ NoMemory)
is_no_memory NoMemory = inl refl
is_no_memory EndOfValueTag = inr (λ e. cc)
is_no_memory LengthTooLarge = inr (λ e. cc)
is_no_memory SizeOverflow = inr (λ e. cc)
is_no_memory CapturedMode = inr (λ e. cc)
is_no_memory LongCerBitString = inr (λ e. cc)
is_no_memory LongCerPrimitive = inr (λ e. cc)

abbrev pub Keeps-Appends : (a b : Option (List ℕ)) → Keeps a b → Appends a b []
Keeps-Appends None b h = tt
Keeps-Appends (Some x) None h = absurd h
Keeps-Appends (Some x) (Some y) h = h ∙ sym (append-nil x)

module _ {A : Type 0} (M : Result A EncodeError → Type 0) (one : (m n : Result A EncodeError) → M m → M n → m ≡ n) where
  pub same_ok : (a b : A) → M (Ok a) → M (Ok b) → a ≡ b
  same_ok a b p q = let e = one (Ok a) (Ok b) p q in cc

  pub never_refused : (a : A) (e : EncodeError) → M (Ok a) → M (Err e) → ⊥
  never_refused a e p q = let eq = one (Ok a) (Err e) p q in cc

  -- where a is meant, a writing is one of a
  pub wrote_what : (octets : A → List ℕ) (lacks : Type 0) (a : A) (old new : Option (List ℕ)) (r : Result (Unit {0}) WriteError) → M (Ok a)
      → Writes octets M lacks old new r → WroteOf lacks (octets a) old new r
  wrote_what octets lacks a old new r m w = elim w.went [
    | inl h ↦ subst (λ x. WroteOf lacks (octets x) old new r) (same_ok h.0 a h.1 m) h.2
    | inr h ↦ elim (is_no_memory h.0) [
      | inl e ↦ subst (λ x. WroteOf lacks (octets a) old new x) (sym h.1)
          (record { done = (e, h.2.lacking e, record { front = []; rest = octets a; appends = Keeps-Appends old new h.3; whole = refl }) })
      | inr ne ↦ absurd (never_refused a h.0 m (h.2.meant ne))
    ]
  ]

  -- and a refusal is want of memory, before anything is written
  pub lacked : {lacks : Type 0} (a : A) (w : List ℕ) {old : Option (List ℕ)} {e : EncodeError} → M (Ok a) → RefusesBy M lacks e
      → WroteOf lacks w old old (Err (Refused e))
  lacked a w {old} {e} m r = elim (is_no_memory e) [
    | inl is ↦ record { done = (is, r.lacking is, record { front = []; rest = w; appends = Appends-nil old; whole = refl }) }
    | inr ne ↦ absurd (never_refused a e m (r.meant ne))
  ]

-- an error that `?` passes on
pub passed_on : {lacks : Type 0} {w : List ℕ} {a b : Option (List ℕ)} {e : WriteError} (r : Result (Unit {0}) WriteError)
    → IsErr r × IsErrAnd r (λ d. d ≡ e) → WroteOf lacks w a b (Err e) → WroteOf lacks w a b r
passed_on {lacks} {w} {a} {b} (Ok u) is_err h = absurd is_err.1
passed_on {lacks} {w} {a} {b} (Err d) is_err h = subst (λ x. WroteOf lacks w a b (Err x)) (sym is_err.1) h

-- a step that has a slot for its error failed, and its error is returned
pub halts : {lacks : Type 0} {w : List ℕ} {a b : Option (List ℕ)} {f : Failed} {e : WriteError} (r : Result (Unit {0}) Failed)
    → IsErr r × IsErrAnd r (λ d. d ≡ f) → WroteOf lacks w a b (Err e) → WroteOf lacks w a b (into_result r e)
halts (Ok u) is_err h = absurd is_err.1
halts (Err d) is_err h = h

-- an equal result may stand for the returned one
pub same_answer : {lacks : Type 0} {w : List ℕ} {a b : Option (List ℕ)} {r s : Result (Unit {0}) WriteError} → s ≡ r → WroteOf lacks w a b r
    → WroteOf lacks w a b s
same_answer {lacks} {w} {a} {b} e h = subst (λ x. WroteOf lacks w a b x) (sym e) h

pub same_result : {r s : Result (Unit {0}) Failed} (why : WriteError) → r ≡ s → into_result r why ≡ into_result s why
same_result why e = ap (λ x. into_result x why) e

-- equal octets may stand for those that were meant
pub same_octets : {lacks : Type 0} {v w : List ℕ} {a b : Option (List ℕ)} {r : Result (Unit {0}) WriteError} → v ≡ w → WroteOf lacks v a b r
    → WroteOf lacks w a b r
same_octets {lacks} {v} {w} {a} {b} {r} e h = subst (λ x. WroteOf lacks x a b r) e h

-- a value with these octets is one of those that are meant
pub exactly : {lacks : Type 0} {v : List ℕ} (t : Tag) {u : List ℕ} {a b : Option (List ℕ)} {r : Result (Unit {0}) WriteError} → u ≡ v
    → WroteOf lacks (definite t false u) a b r
    → (w : List ℕ) → Exactly v (Ok w) → WroteOf lacks (definite t false w) a b r
exactly {lacks} {v} t {u} {a} {b} {r} is h w m = let e : u ≡ w = cc in same_octets (ap (definite t false) e) h
