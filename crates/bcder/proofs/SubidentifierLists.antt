-- The subidentifiers that octets are made of.
use Rattle.std.proofs.Common.{◌≡◌, ℕ, suc, zero, ◌+◌, ◌-◌, ◌*◌, ◌<◌, List, [], ◌∷◌, ◌++◌, map, refl, ap, ◌∙◌, arith, append_assoc, append-nil}
use Rattle.std.proofs.lemmas.Bool.{lt-ltb, le-ltb}
use Rattle.bcder.specs.x690.ObjectIdentifier.{subidentifier_number, cut_after, subidentifiers, IsWhole}
use Rattle.bcder.specs.x690.ObjectIdentifier.{AreSubidentifiers, IsComplete, components_of, components}
use Rattle.bcder.specs.calls.Identifiers.{MayBegin}

-- whole octets are cut off as they stand
pub cut_whole : (front v x : List ℕ) → IsWhole v → cut_after front (v ++ x) ≡ (front ++ v) ∷ cut_after [] x
cut_whole front [] x p = absurd p
cut_whole front (b ∷ []) x p = rw (lt-ltb b 0x80 p) refl
cut_whole front (b ∷ c ∷ v) x (lo, hi, p) =
    rw (le-ltb b 0x80 lo) (cut_whole (front ++ b ∷ []) (c ∷ v) x p ∙ ap (λ l. l ∷ cut_after [] x) (append_assoc front (b ∷ []) (c ∷ v)))

-- octets put together hold the numbers that they were put together of
pub numbers_held : (ns : List ℕ) (w : List ℕ) → AreSubidentifiers ns w → map subidentifier_number (subidentifiers w) ≡ ns
numbers_held [] w e = rw e refl
numbers_held (n ∷ ns) w (v, x, s, h, e) =
    ap (λ l. map subidentifier_number (subidentifiers l)) e ∙ ap (map subidentifier_number) (cut_whole [] v x s.whole)
    ∙ ap (λ l. l ∷ map subidentifier_number (subidentifiers x)) s.value ∙ ap (λ l. n ∷ l) (numbers_held ns x h)

complete_whole : (v : List ℕ) → IsWhole v → IsComplete v
complete_whole [] p = p
complete_whole (b ∷ []) p = p
complete_whole (b ∷ c ∷ v) p = complete_whole (c ∷ v) p.2

complete_append : (v x : List ℕ) → IsComplete x → IsComplete (v ++ x)
complete_append [] x h = h
complete_append (b ∷ []) [] h = absurd h
complete_append (b ∷ []) (c ∷ x) h = h
complete_append (b ∷ c ∷ v) x h = complete_append (c ∷ v) x h

-- and are complete
pub complete_held : (n : ℕ) (ns : List ℕ) (w : List ℕ) → AreSubidentifiers (n ∷ ns) w → IsComplete w
complete_held n [] w (v, x, s, h, e) = rw (e, h, append-nil v) (complete_whole v s.whole)
complete_held n (m ∷ ns) w (v, x, s, h, e) = rw e (complete_append v x (complete_held m ns x h))

-- the first two components, from the first subidentifier and back
pub first_two : (m n : ℕ) (ns : List ℕ) → MayBegin m n → components_of ((40 * m + n) ∷ ns) ≡ m ∷ n ∷ ns
first_two zero n ns b = let h : n < 40 = b.second (omega arith) in let e : 40 * 0 + n ≡ n = omega arith in rw (e, lt-ltb n 40 h) refl
first_two (suc zero) n ns b =
    let h : n < 40 = b.second (omega arith) in
    let e : 40 * 1 + n ≡ 40 + n = omega arith in
    let k : 40 + n - 40 ≡ n = omega arith in
    rw (e, le-ltb (40 + n) 40 (omega arith), lt-ltb (40 + n) 80 (omega arith), k) refl
first_two (suc (suc zero)) n ns b =
    let e : 40 * 2 + n ≡ 80 + n = omega arith in
    let k : 80 + n - 80 ≡ n = omega arith in
    rw (e, le-ltb (80 + n) 40 (omega arith), le-ltb (80 + n) 80 (omega arith), k) refl
first_two (suc (suc (suc m))) n ns b = absurd (let h = b.first in omega arith)

pub components_held : (m n : ℕ) (ns : List ℕ) (w : List ℕ) → MayBegin m n → AreSubidentifiers ((40 * m + n) ∷ ns) w → components w ≡ m ∷ n ∷ ns
components_held m n ns w b h = ap components_of (numbers_held ((40 * m + n) ∷ ns) w h) ∙ first_two m n ns b
