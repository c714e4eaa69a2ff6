-- Values of any type, kept as their encodings.
use Rattle.std.proofs.Common.{◌≡◌, ◌≢◌, true, [], ◌++◌, Option, Some, None, refl, sym, ◌∙◌, ap, append-nil, subst}
use Rattle.std.specs.Prelude.{Result, Ok, Err, option_map}
use Rattle.bcder.specs.declared.mode.Mode.{Mode}
use Rattle.bcder.specs.declared.decode.error.DecodeError.{DecodeError}
use Rattle.bcder.specs.x690.Identifier.{Tag}
use Rattle.bcder.specs.x690.Tree.{Tree, no_trees, ◌∷ₜ◌}
use Rattle.bcder.specs.x690.Encoding.{IsEncoding, AreEncodings}
use Rattle.bcder.specs.steps.Reading.{read_tree}
use Rattle.bcder.specs.laws.Complete.{tree_complete, one_list}
use Rattle.bcder.specs.laws.Gathered.{AreEncodings-suits}
use Rattle.bcder.specs.laws.Lists.{AreEncodings-one}
use Rattle.bcder.specs.calls.Captured.{Kept}
use Rattle.bcder.specs.calls.Capturing.{CapturesValue, CapturesNext, HasValueOrDeep}
use Rattle.bcder.specs.calls.Capturing as capturing
use Rattle.bcder.specs.calls.Content.{any, tagged, Reading, Octets}
use Rattle.bcder.specs.calls.Gathered.{KeptMeans}
use Rattle.bcder.specs.calls.Valued.{tag_of}
use Rattle.bcder.proofs.Lemmas.{IsWithinOwed, header_of_tagged}
use Rattle.asn1.specs.Anything.{Every, IsOneValue, KeepsValue, kept_value}
use Rattle.asn1.specs.Types.{at_end, AllocatesFor, of_header, of_depth, by_end, TakesTyped, RefusesTyped, TakesNextTyped}
use Rattle.asn1.specs.Types as types
use Rattle.asn1.specs.Keys.{MeansOne, IsMeantOnce}
use Rattle.asn1.specs.Writing.{IsReadAs}
use Rattle.bcder.specs.calls.Cause.{cause_of, of_memory}
use Rattle.bcder.specs.calls.Content as refusals
use Rattle.bcder.specs.calls.Content.{Refuses}
use Rattle.bcder.specs.calls.Walking.{HasNoNext}
use Rattle.asn1.proofs.Reading.{encoded_tag}

-- ---- what is kept is one value

pub value_kept : (k : Kept) (t : Tree) → IsEncoding k.mode t k.octets → kept_value k ≡ Some t
value_kept k t h =
    ap (λ w. option_map (λ z. z.0) (read_tree k.mode w)) (sym (append-nil k.octets))
    ∙ ap (option_map (λ z. z.0)) (tree_complete k.mode t k.octets [] h)

kept_in : (mode : Mode) (t : Tree) (k : Kept) → KeepsValue mode t k → kept_value k ≡ Some t
kept_in mode t k h = value_kept k t (subst (λ m. IsEncoding m t k.octets) (sym h.rules) h.encodes)

same_some : (t u : Tree) → ◌≡◌ {A = Option Tree} (Some t) (Some u) → t ≡ u
same_some t u e = cc

pub keeps_one : (mode : Mode) → MeansOne (KeepsValue mode) kept_value
keeps_one mode t x y h k = kept_in mode t x h ∙ sym (kept_in mode t y k)

pub kept_once : (mode : Mode) → IsMeantOnce mode Every (KeepsValue mode) kept_value
kept_once mode asked t u x y v w d e p q h k s = same_some t u (sym (kept_in mode t x h) ∙ s ∙ kept_in mode u y k)

-- ---- it is read

module _ (c d : Reading) (w : IsWithinOwed c) (form : c.kind ≢ Octets) (asked : Tag) where
  kept_taken : (k : Kept) → CapturesValue c k d → TakesTyped (Every asked) (KeepsValue c.mode) c k d
  kept_taken k h = record {
    tree = h.tree;
    octets = k.octets;
    has = (h.has, encoded_tag c.mode h.tree k.octets h.has.encodes);
    means = record { rules = h.mode; encodes = h.has.encodes };
    stays = h.stays;
  }

  allocates : HasValueOrDeep c → AllocatesFor (Every asked) c
  allocates (capturing.HasValueOrDeep.of_value t v after h) =
      let f = header_of_tagged c w (tag_of t) t v after (h, refl) in
      of_header (record { tag = tag_of t; is_one = encoded_tag c.mode t v h.encodes; after = f.0; header = f.1 })
  allocates (capturing.HasValueOrDeep.of_depth u s l) = of_depth (λ t g. g) (record { usable = u; some = s; leads = l })

  refused : {X : Type 0} (e : DecodeError X) → Refuses cause_of any HasNoNext ((cause_of e ≡ of_memory) × HasValueOrDeep c) c e d
      → RefusesTyped (Every asked) (KeepsValue c.mode) true c e d
  refused e (refusals.Refuses.failed s a) = types.RefusesTyped.failed s a
  refused e (refusals.Refuses.source s g) = types.RefusesTyped.source s g
  refused e (refusals.Refuses.otherwise h) = types.RefusesTyped.memory h.0 refl (allocates h.1)
  refused e (refusals.Refuses.nothing n a) =
      types.RefusesTyped.broken
      (record { usable = n.usable; value = λ t v rest x h k. n.none.none t v rest h.0; absent = by_end (λ t g. g) n.some }) a.refused

  pub next_kept : {X : Type 0} (r : Result (Option Kept) (DecodeError X)) → CapturesNext c r d → TakesNextTyped (Every asked) (KeepsValue c.mode) true c r d
  next_kept (Ok (Some k)) n = record {
    value = kept_taken k n.value;
    none = tt;
    no_fault = n.no_fault;
    refused = tt;
    failed = tt;
    mode = n.mode;
    marked = n.marked;
  }
  next_kept (Ok None) n = record {
    value = tt;
    none = at_end (λ t g. g) form n.value;
    no_fault = n.no_fault;
    refused = tt;
    failed = tt;
    mode = n.mode;
    marked = n.marked;
  }
  next_kept (Err e) n = record { value = tt; none = tt; no_fault = tt; refused = refused e n.refused.1; failed = n.refused.0; mode = n.mode; marked = n.marked }

-- what was captured is one value
pub one_captured : {c d : Reading} {k : Kept} → CapturesValue c k d → IsOneValue k
one_captured {c} {d} {k} h = record { tree = h.tree; encodes = subst (λ m. IsEncoding m h.tree k.octets) (sym h.mode) h.has.encodes }

-- ---- it is written, and read back

pub kept_read_back : (asked : Tag) (mode : Mode) (x : Kept) → IsOneValue x → IsReadAs (Every asked) (KeepsValue mode) kept_value x (KeptMeans x mode)
kept_read_back asked mode x o e m =
    let one : e.values ≡ o.tree ∷ₜ no_trees = one_list x.mode e.values (o.tree ∷ₜ no_trees) x.octets m.1 (AreEncodings-one x.mode o.tree x.octets o.encodes) in
    let there : IsEncoding mode o.tree x.octets =
    alone (AreEncodings-suits x.mode mode (o.tree ∷ₜ no_trees) x.octets m.0 (AreEncodings-one x.mode o.tree x.octets o.encodes)) in
    let read : Kept = record { mode = mode; octets = x.octets; start = 0 } in
    record {
      tree = o.tree;
      is = one;
      tagged = encoded_tag mode o.tree x.octets there;
      some = read;
      means = record { rules = refl; encodes = there };
      only = λ y h. kept_in mode o.tree y h ∙ sym (value_kept x o.tree o.encodes);
    }
  where
    alone : AreEncodings mode (o.tree ∷ₜ no_trees) x.octets → IsEncoding mode o.tree x.octets
    alone h = subst (IsEncoding mode o.tree) (sym (h.4 ∙ ap (λ z. h.0 ++ z) h.3 ∙ append-nil h.0)) h.2
