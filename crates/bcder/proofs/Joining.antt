-- What is answered for encoders in a row.
use Rattle.std.proofs.Common.{◌≡◌, ℕ, ◌+◌, ◌<◌, ◌≤◌, ◌^◌, List, [], ◌∷◌, ◌++◌, length, Option, None, Some, Result, Ok}
use Rattle.std.proofs.Common.{Err, refl, sym, ap, ◌∙◌, subst, inl, inr, arith, length-append}
use Rattle.std.specs.Option.{SomeIff}
use Rattle.bcder.specs.declared.encode.error.EncodeError.{EncodeError}
use Rattle.bcder.specs.calls.Meaning.{Encoded, Meaning}
use Rattle.std.proofs.Common.{IsErr, IsErrAnd, drop_of_length-le, drop, get_or, suc, add-one, drop-cons, append_assoc, append-nil}
use Rattle.std.specs.Io.KnownBytes.{Appends}
use Rattle.std.proofs.KnownBytes.{Appends-trans, Appends-nil}
use Rattle.bcder.specs.declared.encode.error.WriteError.{WriteError}
use Rattle.bcder.specs.x690.Tree.{Trees, no_trees, ◌∷ₜ◌, ◌+++◌}
use Rattle.bcder.proofs.Writing.{stops, follows_on, same_octets}
use Rattle.bcder.specs.calls.Meaning.{nothing, join, Then, NoValues, EachOf, IsSum}
use Rattle.bcder.specs.calls.Encoders.{HasEncoding, TellsSize, TellsSum, WroteOf, WritesEncoding, RefusesBy}

-- what is looked at so far, before whatever comes after it
abbrev pub after : Encoded → Meaning → Meaning
after x (Ok z) = Ok (join x z)
after x (Err e) = Err e

-- what is looked at so far means x, and this is its size
pub record SumSoFar (M rest : Meaning → Type 0) (sum : Option ℕ) : Type 0 where
  pub seen : Encoded
  pub leads : (m : Meaning) → rest m → M (after seen m)
  pub is_sum : IsSum sum (length seen.octets)

-- what is written so far is a front of what is meant
pub record WrittenSoFar (M rest : Meaning → Type 0) (old new : Option (List ℕ)) : Type 0 where
  pub splits : (e : Encoded) → M (Ok e) → (front : List ℕ) × (z : Encoded) × rest (Ok z) × (e.octets ≡ front ++ z.octets) × Appends old new front

-- a part and those after it
pub sum_with : (M N : Meaning → Type 0) (n k : ℕ) (o r : Option ℕ) → TellsSize (λ (e : Encoded). e.octets) M ⊥ (Ok n) → TellsSum N ⊥ (Ok o) → o ≡ Some k
    → SomeIff r (n + k < 2 ^ 64) (n + k) → TellsSum (Then M N) ⊥ (Ok r)
sum_with M N n k None r p q e s = cc
sum_with M N n k (Some j) (Some r) (x, m, a) (y, d, b) e s =
    let same : j ≡ k = cc in
    (join x y, (x, y, m, d, refl), omega (arith, length-append x.octets y.octets))
sum_with M N n k (Some j) None (x, m, a) (y, d, b) e s =
    let same : j ≡ k = cc in
    let large : 2 ^ 64 ≤ n + k = omega (arith, s) in
    (join x y, (x, y, m, d, refl), omega (arith, length-append x.octets y.octets))

-- a part and too many after it
pub sum_over : (M N : Meaning → Type 0) (n : ℕ) (o : Option ℕ) → TellsSize (λ (e : Encoded). e.octets) M ⊥ (Ok n) → TellsSum N ⊥ (Ok o) → o ≡ None
    → TellsSum (Then M N) ⊥ (Ok None)
sum_over M N n (Some j) p q e = cc
sum_over M N n None (x, m, a) (y, d, b) e = (join x y, (x, y, m, d, refl), omega (arith, length-append x.octets y.octets))

+++-assoc : (a b c : Trees) → (a +++ b) +++ c ≡ a +++ (b +++ c)
+++-assoc no_trees b c = refl
+++-assoc (t ∷ₜ a) b c = ap (λ u. t ∷ₜ u) (+++-assoc a b c)

pub join-assoc : (x y z : Encoded) → join (join x y) z ≡ join x (join y z)
join-assoc x y z =
    let trees = +++-assoc x.values y.values z.values in
    let octets = append_assoc x.octets y.octets z.octets in
    ap (λ (t : Trees). let r : Encoded = record { values = t; octets = (x.octets ++ y.octets) ++ z.octets } in r) trees
    ∙ ap (λ (o : List ℕ). let r : Encoded = record { values = x.values +++ (y.values +++ z.values); octets = o } in r) octets

-- ---- sizes

start_leads : (M : Meaning → Type 0) (m : Meaning) → M m → M (after nothing m)
start_leads M (Ok z) h = h
start_leads M (Err e) h = h

pub so_far_start : (M : Meaning → Type 0) → SumSoFar M M (Some 0)
so_far_start M = record { seen = nothing; leads = start_leads M; is_sum = refl }

next_leads : (M N rest : Meaning → Type 0) (x a : Encoded) → ((m : Meaning) → Then N rest m → M (after x m)) → N (Ok a) → (m : Meaning) → rest m
    → M (after (join x a) m)
next_leads M N rest x a leads p (Ok z) h = subst (λ (e : Encoded). M (Ok e)) (sym (join-assoc x a z)) (leads (Ok (join a z)) (a, z, p, h, refl))
next_leads M N rest x a leads p (Err e) h = leads (Err e) (inr (a, p, h))

pub so_far_next : {M : Meaning → Type 0} (N rest : Meaning → Type 0) {old new : Option ℕ} (len : ℕ) → SumSoFar M (Then N rest) old
    → TellsSize (λ (e : Encoded). e.octets) N ⊥ (Ok len) → ((k : ℕ) → IsSum old k → IsSum new (k + len)) → SumSoFar M rest new
so_far_next {M} N rest {old} {new} len s (a, p, is) adds = record {
  seen = join s.seen a;
  leads = next_leads M N rest s.seen a s.leads p;
  is_sum = subst (IsSum new) (ap (λ k. length s.seen.octets + k) is ∙ sym (length-append s.seen.octets a.octets)) (adds (length s.seen.octets) s.is_sum);
}

pub so_far_refused : {M N : Meaning → Type 0} (rest : Meaning → Type 0) {old : Option ℕ} {K L : Type 0} {e : EncodeError} → SumSoFar M (Then N rest) old
    → RefusesBy N K e → (K → L) → RefusesBy M L e
so_far_refused rest {e = e} s r f = record { meant = λ ne. s.leads (Err e) (inl (r.meant ne)); lacking = λ is. f (r.lacking is) }

pub so_far_done : (M : Meaning → Type 0) (sum : Option ℕ) → SumSoFar M NoValues sum → TellsSum M ⊥ (Ok sum)
so_far_done M (Some n) s = (join s.seen nothing, s.leads (Ok nothing) refl, s.is_sum ∙ ap length (sym (append-nil s.seen.octets)))
so_far_done M None s = (join s.seen nothing, s.leads (Ok nothing) refl, subst (λ (l : List ℕ). 2 ^ 64 ≤ length l) (sym (append-nil s.seen.octets)) s.is_sum)

-- ---- octets

pub written_start : {M : Meaning → Type 0} {a : Option (List ℕ)} → WrittenSoFar M M a a
written_start {M} {a} = record { splits = λ e m. ([], e, m, refl, Appends-nil a) }

-- the next part has an encoding
pub next_known : {M : Meaning → Type 0} (N rest : Meaning → Type 0) {old new : Option (List ℕ)} → WrittenSoFar M (Then N rest) old new
    → HasEncoding M → HasEncoding N
next_known N rest s known = let (front, z, (a, b, p, q, joined), whole, appends) = s.splits known.0 known.1 in (a, p)

module _ {M : Meaning → Type 0} (N rest : Meaning → Type 0) {old mid new : Option (List ℕ)} {r : Result (Unit {0}) WriteError} (lacks : Type 0)
    (s : WrittenSoFar M (Then N rest) old mid) (w : WritesEncoding N lacks mid new r) where
  -- one more part was written
  pub written_next : r ≡ Ok tt → WrittenSoFar M rest old new
  written_next is = record {
    splits = λ e m.
        let (front, z, (a, b, p, q, joined), whole, appends) = s.splits e m in
        let wrote = w a p in
        let all : WroteOf lacks a.octets mid new (Ok tt) = subst (λ x. WroteOf lacks a.octets mid new x) is wrote in (
          front ++ a.octets,
          b,
          q,
          whole ∙ ap (λ (x : Encoded). front ++ x.octets) joined ∙ sym (append_assoc front a.octets b.octets),
          Appends-trans old mid new front a.octets appends all.done,
        );
  }

  -- the part was not written
  pub written_failed : {e : WriteError} → r ≡ Err e → (x : Encoded) → M (Ok x) → WroteOf lacks x.octets old new (Err e)
  written_failed {e} is x m =
      let (front, z, (a, b, p, q, joined), whole, appends) = s.splits x m in
      let wrote = w a p in
      let failed : WroteOf lacks a.octets mid new (Err e) = subst (λ x. WroteOf lacks a.octets mid new x) is wrote in
      let before : WroteOf ⊥ front old mid (Ok tt) = record { done = appends } in
      same_octets (ap (λ l. front ++ l) (ap (λ (e : Encoded). e.octets) (sym joined)) ∙ sym whole) (follows_on before (stops b.octets failed))

pub written_done : {M : Meaning → Type 0} {old new : Option (List ℕ)} → WrittenSoFar M NoValues old new → (lacks : Type 0) (x : Encoded) → M (Ok x)
    → WroteOf lacks x.octets old new (Ok tt)
written_done {old = old} {new = new} s lacks x m =
    let (front, z, nil, whole, appends) = s.splits x m in
    let none_left : z ≡ nothing = cc in
    record { done = subst (Appends old new) (sym (whole ∙ ap (λ (y : Encoded). front ++ y.octets) none_left ∙ append-nil front)) appends }

-- ---- a list

pub EachOf_at : {X : Type 0} (M : X → Meaning → Type 0) (xs : List X) (i : ℕ) (x : X) → i < length xs → x ≡ get_or xs i x
    → EachOf M (drop i xs) ≡ Then (M x) (EachOf M (drop (i + 1) xs))
EachOf_at M xs i x h is = ap (EachOf M) (drop-cons xs i x h ∙ ap (λ y. y ∷ drop (suc i) xs) (sym is) ∙ ap (λ j. x ∷ drop j xs) (sym (add-one i)))

pub EachOf_end : {X : Type 0} (M : X → Meaning → Type 0) (xs : List X) (i : ℕ) → length xs ≤ i → EachOf M (drop i xs) ≡ NoValues
EachOf_end M xs i h = ap (EachOf M) (drop_of_length-le xs h)

-- an error that `?` passes on
pub sum_refused : {M : Meaning → Type 0} {L : Type 0} (e : EncodeError) (r : Result (Option ℕ) EncodeError) → IsErr r × IsErrAnd r (λ d. d ≡ e)
    → RefusesBy M L e → TellsSum M L r
sum_refused e (Ok o) is h = absurd is.1
sum_refused {M} {L} e (Err d) is h = subst (RefusesBy M L) (sym is.1) h
