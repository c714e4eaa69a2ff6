-- What the octets at hand tell of their own front, if none follow.
use Rattle.std.proofs.Common.{◌≡◌, ◌⊎◌, ℕ, ◌≤◌, List, [], length, Some, None, refl, sym, ap, subst, ◌∙◌, arith, inl, inr, append-nil}
use Rattle.bcder.specs.declared.mode.Mode.{Mode}
use Rattle.bcder.specs.declared.decode.header.Peeked.{Peeked}
use Rattle.bcder.specs.declared.decode.header.Peeked.TheVariants as peeked
use Rattle.bcder.specs.declared.decode.violation.Violation.{Violation}
use Rattle.bcder.specs.x690.Identifier.{AreOctets}
use Rattle.bcder.specs.x690.Encoding.{Header}
use Rattle.bcder.specs.calls.Content.{any}
use Rattle.bcder.specs.calls.Violations.{BeginsHeader, BeginsEnd}
use Rattle.bcder.specs.steps.Peek.{Shows, IsPeeked}
use Rattle.bcder.specs.steps.Reading.{read_header, read_end}
use Rattle.bcder.specs.laws.Complete.{header_complete}
use Rattle.bcder.specs.laws.Lengths.{read_end-complete}
use Rattle.bcder.specs.laws.Sound.{none_is, end_sound}
use Rattle.bcder.specs.laws.Stands.{header_sound}

module _ (mode : Mode) (w : List ℕ) where
  pub no_front : read_header mode w ≡ None → read_end mode w ≡ None → BeginsHeader mode w ⊎ BeginsEnd mode w → ⊥
  no_front h n (inl b) = none_is _ (sym h ∙ ap (read_header mode) b.6 ∙ header_complete mode b.0 b.1 b.2 b.3 b.4 b.5)
  no_front h n (inr b) = none_is _ (sym n ∙ ap (read_end mode) b.3 ∙ read_end-complete mode b.0 b.1 b.2)

  begins_header : (h : Header) (z : List ℕ) → AreOctets w → read_header mode w ≡ Some (h, z) → BeginsHeader mode w
  begins_header h z o e = let p = header_sound mode w (h, z) o e in (h.tag, h.form, h.len, p.octets, z, p.is_header, p.is)

  begins_end : (z : List ℕ) → AreOctets w → read_end mode w ≡ Some z → BeginsEnd mode w
  begins_end z o e = let m = end_sound mode w z o e in (m.marker, z, m.is_end, m.is)

  -- what is shown whatever follows is so where nothing does
  pub alone : (p : Peeked) → Shows mode any p w → IsPeeked mode any p (length w) w
  alone p s = subst (λ z. IsPeeked mode any p (length w) z) (append-nil w) (s [])

  pub front_told : (p : Peeked) → AreOctets w → 1 ≤ length w → IsPeeked mode any p (length w) w → ((v : Violation) → p ≡ peeked.Refused v → ⊥)
      → BeginsHeader mode w ⊎ BeginsEnd mode w
  front_told peeked.Nothing o l i n = absurd (omega (arith, ap length i))
  front_told peeked.Other o l i n = absurd (i.4 refl)
  front_told (peeked.End k) o l i n = inr (begins_end _ o i.0.1)
  front_told (peeked.Front h k) o l i n = inl (begins_header _ _ o i.0.1)
  front_told (peeked.Refused v) o l i n = absurd (n v refl)
