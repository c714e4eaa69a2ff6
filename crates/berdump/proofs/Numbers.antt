-- What is stored at the front of a buffer.
use Rattle.std.proofs.Common.{◌≡◌, ℕ, List, ◌++◌, length, take, drop, ap, subst, sym, ◌∙◌, inl, inr, arith, length-append, length-drop}
use Rattle.std.proofs.lemmas.List.{take_at}
use Rattle.encodings.specs.Status.{done}
use Rattle.encodings.specs.Buffers.{IsStored, Stores}

-- P holds of the front of a buffer of some octets, where it was stored
pub stored_front : (P : List ℕ → Type 0) (status : ℕ) (old new rest items : List ℕ) (m n size : ℕ) → Stores P status old new m n → status ≡ done
    → length old ≡ size → items ≡ take n (take size (new ++ rest)) → P items
stored_front P status old new rest items m n size (inl (w, h, IsStored.stored a fits is count)) e l k =
    let full : length new ≡ size = omega (arith, ap length is, length-append w (drop (length w) old), length-drop (length w) old, fits, l) in
    subst P (sym (k ∙ ap (take n) (take_at new rest size full) ∙ ap (take n) is ∙ take_at w (drop (length w) old) n (sym count))) h
stored_front P status old new rest items m n size (inl (w, h, IsStored.no_room a less is count)) e l k = cc
stored_front P status old new rest items m n size (inr (a, none, is, count)) e l k = cc
