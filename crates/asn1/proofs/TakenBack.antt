-- What is written is taken back, wherever it stands.
use Rattle.std.proofs.Common.{◌≡◌, ℕ, Bool, List, ◌++◌, Option, Some, None, refl, ap, sym, ◌∙◌, append-nil, subst, inl, inr}
use Rattle.std.specs.Prelude.{Result, Ok, Err}
use Rattle.bcder.specs.declared.mode.Mode.{Mode}
use Rattle.bcder.specs.declared.decode.error.DecodeError.{DecodeError}
use Rattle.bcder.specs.x690.Identifier.{Tag}
use Rattle.bcder.specs.x690.Tree.{Tree, no_trees, ◌∷ₜ◌}
use Rattle.bcder.specs.x690.Encoding.{IsEncoding, AreEncodings}
use Rattle.bcder.specs.calls.Meaning.{Encoded}
use Rattle.bcder.specs.calls.Content.{Reading}
use Rattle.bcder.specs.calls.Written.{StandsIn, SourceFailedOrNoMemory}
use Rattle.bcder.specs.calls.Written.{AnswersSuch}
use Rattle.bcder.specs.calls.Valued.{tag_of}
use Rattle.bcder.proofs.Lemmas.{open_has_not_failed, IsWithinOwed, value_once, header_is_there, header_of_tagged}
use Rattle.asn1.specs.Types.{HasTagged, HasNoneOf, elsewhere, at_end, TakesTyped, RefusesTyped, TakesNextTyped}
use Rattle.asn1.specs.Types as types
use Rattle.asn1.specs.Writing.{IsWritten, HasKey}
use Rattle.asn1.proofs.Reading.{no_value_at_end}

module _ {T K : Type 0} (Tags : Tag → Type 0) (Means : Tree → T → Type 0) (key : T → K) (n : K) (mode : Mode) (e : Encoded)
    (encodes : AreEncodings mode e.values e.octets) where
  -- the value that is written, with its octets
  pub alone : (k : IsWritten Tags Means key n e) → IsEncoding mode k.tree e.octets
  alone k =
      let h : AreEncodings mode (k.tree ∷ₜ no_trees) e.octets = subst (λ z. AreEncodings mode z e.octets) k.is encodes in
      subst (IsEncoding mode k.tree) (sym (h.4 ∙ ap (λ z. h.0 ++ z) h.3 ∙ append-nil h.0)) h.2

  module _ (k : IsWritten Tags Means key n e) (c : Reading) (w : IsWithinOwed c) (after : List ℕ) (s : StandsIn mode e.octets after c) where
    there : HasTagged Tags c k.tree e.octets after
    there = (record { usable = s.usable; encodes = subst (λ z. IsEncoding z k.tree e.octets) (sym s.in_mode) (alone k); rest = s.rest }, k.tagged)

    returned : (y : T) (d : Reading) → TakesTyped Tags Means c y d → (key y ≡ n) × (d.stream.rest ≡ after)
    returned y d h =
        let same = value_once c k.tree h.tree e.octets h.octets after d.stream.rest there.0 h.has.0 in
        (k.only y (subst (λ t. Means t y) (sym same.tree) h.means), sym same.rest)

    refused : {X : Type 0} {lacks : Bool} (f : DecodeError X) (d : Reading) → RefusesTyped Tags Means lacks c f d → SourceFailedOrNoMemory c f d
    refused {X} f d (types.RefusesTyped.failed z a) = absurd (open_has_not_failed c.state s.usable z)
    refused {X} f d (types.RefusesTyped.source z g) = inl (z, g)
    refused {X} f d (types.RefusesTyped.memory z l h) = inr z
    refused {X} f d (types.RefusesTyped.broken b a) = absurd (b.value k.tree e.octets after k.some there k.means)

    not_none : (d : Reading) → HasNoneOf Tags c d → ⊥
    not_none d (elsewhere f) =
        let u = tag_of k.tree in
        let h = header_of_tagged c w u k.tree e.octets after (there.0, refl) in
        header_is_there u c h.0 d.stream.rest s.usable h.1 (f u k.tagged).missing.0
    not_none d (at_end every form h) = no_value_at_end c w form d.stream.rest h.missing.0 k.tree e.octets after there.0

    pub taken_back : {X : Type 0} (lacks : Bool) (r : Result (Option T) (DecodeError X)) (d : Reading) → TakesNextTyped Tags Means lacks c r d
        → AnswersSuch (HasKey key n) after c r d
    taken_back {X} lacks (Ok (Some y)) d t =
        let a = returned y d t.value in
        record { value = a.0; rest = a.1; stays = t.value.stays; no_fault = t.no_fault; fails = tt; mode = t.mode; marked = t.marked }
    taken_back {X} lacks (Ok None) d t = absurd (not_none d t.none)
    taken_back {X} lacks (Err f) d t = record {
      value = tt;
      rest = tt;
      stays = tt;
      no_fault = tt;
      fails = refused f d t.refused;
      mode = t.mode;
      marked = t.marked;
    }
