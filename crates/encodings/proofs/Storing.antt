-- What is counted first, and then stored.
use Rattle.std.proofs.Common.{◌≡◌, ℕ, ◌≤◌, List, length, inl, refl, ap, ◌∙◌, arith}
use Rattle.encodings.specs.Buffers.{IsAtFront, Stores, stored}

pub stored_twice : (P : List ℕ → Type 0) → ((s t : List ℕ) → P s → P t → s ≡ t) → (first then old new : List ℕ) (n m before : ℕ)
    → (s : List ℕ) × P s × IsAtFront s first then n → (s : List ℕ) × P s × IsAtFront s old new m
    → n ≤ length old → Stores P 0 old new before n
stored_twice P one first then old new n m before a b room =
    let same : a.0 ≡ b.0 = one a.0 b.0 a.1 b.1 in
    let size : n ≡ length b.0 = a.2.count ∙ ap length same in
    let fits : length b.0 ≤ length old = omega (arith, size, room) in
    inl (b.0, b.1, stored refl fits (b.2.front fits) size)
