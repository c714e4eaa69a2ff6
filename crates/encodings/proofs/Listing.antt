-- A walk over values, one after the other.
use Rattle.std.proofs.Common.{◌^◌, max, ◌≡◌, ◌≢◌, ℕ, ◌+◌, ◌-◌, ◌<◌, ◌≤◌, List, [], ◌∷◌, ◌++◌, length, refl, sym, ap, subst, ◌∙◌, append_assoc}
use Rattle.std.proofs.Common.{append-nil, inl, inr, arith}
use Rattle.std.proofs.lemmas.Bool.{cases_eq}
use Rattle.std.proofs.lemmas.List.{length-append}
use Rattle.bcder.specs.declared.mode.Mode.{Mode}
use Rattle.bcder.specs.x690.Tree.{Trees, no_trees, ◌∷ₜ◌, ◌+++◌}
use Rattle.bcder.specs.x690.Preorder.{Heading, preorder, preorders}
use Rattle.bcder.specs.x690.Encoding.{AreEncodings}
use Rattle.bcder.specs.laws.Complete.{one_encoding, two_octets}
use Rattle.encodings.specs.declared.checked.Checked.{Checked}
use Rattle.encodings.specs.Open.{Open, Tallied, Reaches, at_first, one_on}
use Rattle.encodings.specs.Status.{no_memory, too_deep}
use Rattle.encodings.specs.Values.{PassedValue, HasNoValue, RefusedValue, DeeperValue, AreNoValues, Passes, found, refused, lacking, PassesFirst}
use Rattle.encodings.specs.Values.{PassesAll, PassesWithin, within, deeper, PassesAllWithin}
use Rattle.encodings.proofs.WholeWalk.{tallied_both, tallied_none}

abbrev pub nothing_met : Checked
nothing_met = record { at = 0; values = 0; depth = 0 }

pub first_passed : (mode : Mode) (w x : List ℕ) (old c : Checked) → old ≡ nothing_met → PassedValue mode w x old c → PassesFirst mode w 0 c
first_passed mode w x old c e p =
    let t : Tallied nothing_met c (length p.value) (preorder p.tree 0) = subst (λ k. Tallied k c (length p.value) (preorder p.tree 0)) e p.tallied in
    found refl (record {
      tree = p.tree;
      value = p.value;
      behind = x;
      encodes = p.encodes;
      is = p.is;
      at = omega (arith, t.at);
      values = omega (arith, t.values);
      depth = omega (arith, t.depth);
    })

-- a refusal at a place that is counted from 0
pub first_refused : (mode : Mode) (w : List ℕ) (old c : Checked) (status : ℕ) → old ≡ nothing_met
    → (status ≢ no_memory → RefusedValue mode w old c status) → PassesFirst mode w status c
first_refused mode w old c status e r =
    elim (cases_eq status no_memory) [
      | inl same ↦ lacking same
      | inr other ↦
          let v = r other in
          let t : Tallied nothing_met c (length v.passed) v.met = subst (λ k. Tallied k c (length v.passed) v.met) e v.tallied in
          refused v.none (record {
            opened = v.opened;
            rest = v.rest;
            passed = v.passed;
            met = v.met;
            reaches = v.reaches;
            at = omega (arith, t.at);
            values = omega (arith, t.values);
            depth = omega (arith, t.depth);
            no_end = v.no_end;
            why = v.why;
          })
    ]

-- ---- all values

preorders-append : (ts us : Trees) (d : ℕ) → preorders (ts +++ us) d ≡ preorders ts d ++ preorders us d
preorders-append no_trees us d = refl
preorders-append (t ∷ₜ ts) us d = ap (λ l. preorder t d ++ l) (preorders-append ts us d) ∙ sym (append_assoc (preorder t d) (preorders ts d) (preorders us d))

encodings-append : (mode : Mode) (ts us : Trees) (a b : List ℕ) → AreEncodings mode ts a → AreEncodings mode us b → AreEncodings mode (ts +++ us) (a ++ b)
encodings-append mode no_trees us a b h k = rw h k
encodings-append mode (t ∷ₜ ts) us a b h k =
    (h.0, h.1 ++ b, h.2, encodings-append mode ts us h.1 b h.3 k, ap (λ z. z ++ b) h.4 ∙ append_assoc h.0 h.1 b)

-- what follows values that are the first of values is values
rest_encodes : (mode : Mode) (ts us : Trees) (a b : List ℕ) → AreEncodings mode ts a → AreEncodings mode us (a ++ b) → (vs : Trees) × AreEncodings mode vs b
rest_encodes mode no_trees us a b h k = (us, rw h at k)
rest_encodes mode (t ∷ₜ ts) no_trees a b h k =
    let s = two_octets mode t h.0 h.2 in
    absurd (omega (arith, s, ap length k, ap length h.4, length-append a b, length-append h.0 h.1))
rest_encodes mode (t ∷ₜ ts) (u ∷ₜ us) a b h k =
    let is : h.0 ++ (h.1 ++ b) ≡ k.0 ++ k.1 = sym (append_assoc h.0 h.1 b) ∙ ap (λ z. z ++ b) (sym h.4) ∙ k.4 in
    let s = one_encoding mode t u h.0 k.0 (h.1 ++ b) k.1 h.2 k.2 is in
    rest_encodes mode ts us h.1 b h.3 (subst (AreEncodings mode us) (sym s.rest) k.3)

-- a walk, and then another
reaches_both : (mode : Mode) (w v p : List ℕ) (hs : List Heading) → Reaches mode w [] v p hs
    → (os : List Open) (x q : List ℕ) (ks : List Heading) → Reaches mode v os x q ks → Reaches mode w os x (p ++ q) (hs ++ ks)
reaches_both mode w v p hs r _ _ _ _ at_first =
    rw (append-nil p, append-nil hs) r
reaches_both mode w v p hs r _ _ _ _ (one_on ns os u x a b cs ds before step) =
    rw (← append_assoc p a b, ← append_assoc hs cs ds) (one_on ns os u x (p ++ a) b (hs ++ cs) ds (reaches_both mode w v p hs r ns u a cs before) step)

-- the values that were passed
pub record InList (mode : Mode) (octets : List ℕ) (c : Checked) (rest : List ℕ) : Type 0 where
  pub trees : Trees
  pub front : List ℕ
  pub encode : AreEncodings mode trees front
  pub is : octets ≡ front ++ rest
  pub reaches : Reaches mode octets [] rest front (preorders trees 0)
  pub tallied : Tallied nothing_met c (length front) (preorders trees 0)
  pub values : c.values ≤ c.at
  pub within : c.at + length rest ≡ length octets

pub list_starts : (mode : Mode) (octets : List ℕ) (c : Checked) → c ≡ nothing_met → InList mode octets c octets
list_starts mode octets c e = rw e (record {
  trees = no_trees;
  front = [];
  encode = refl;
  is = refl;
  reaches = at_first;
  tallied = tallied_none nothing_met;
  values = omega arith;
  within = omega arith;
})

module _ (mode : Mode) (octets : List ℕ) (c : Checked) (rest : List ℕ) (l : InList mode octets c rest) where
  pub list_goes_on : (new : Checked) (after : List ℕ) → PassedValue mode rest after c new → new.values ≤ new.at → InList mode octets new after
  list_goes_on new after p v =
      let is : octets ≡ (l.front ++ p.value) ++ after = l.is ∙ ap (λ z. l.front ++ z) p.is ∙ sym (append_assoc l.front p.value after) in
      let t = tallied_both nothing_met c new (length l.front) (length p.value) (preorders l.trees 0) (preorder p.tree 0) l.tallied p.tallied in
      let one : preorders (l.trees +++ (p.tree ∷ₜ no_trees)) 0 ≡ preorders l.trees 0 ++ preorder p.tree 0 =
      preorders-append l.trees (p.tree ∷ₜ no_trees) 0 ∙ ap (λ z. preorders l.trees 0 ++ z) (append-nil (preorder p.tree 0)) in
      let n : length (l.front ++ p.value) ≡ length l.front + length p.value = length-append l.front p.value in
      record {
        trees = l.trees +++ (p.tree ∷ₜ no_trees);
        front = l.front ++ p.value;
        encode = encodings-append mode l.trees (p.tree ∷ₜ no_trees) l.front p.value l.encode (p.value, [], p.encodes, refl, sym (append-nil p.value));
        is = is;
        reaches = rw one (reaches_both mode octets rest l.front (preorders l.trees 0) l.reaches [] after p.value (preorder p.tree 0) p.reaches);
        tallied = rw (one, n) t;
        values = v;
        within = omega (arith, t.at, n, ap length is, length-append (l.front ++ p.value) after);
      }

  pub list_shrinks : (new : Checked) (after : List ℕ) → PassedValue mode rest after c new → length after < length rest
  list_shrinks new after p = omega (arith, two_octets mode p.tree p.value p.encodes, ap length p.is, length-append p.value after)

  pub list_ends : length rest ≡ 0 → PassesAll mode octets 0 c
  list_ends e = ended rest refl
    where
      ended : (r : List ℕ) → rest ≡ r → PassesAll mode octets 0 c
      ended [] s =
          let is : octets ≡ l.front = l.is ∙ ap (λ z. l.front ++ z) s ∙ append-nil l.front in
          found refl (record {
            trees = l.trees;
            encode = rw is l.encode;
            at = omega (arith, l.tallied.at, ap length is);
            values = omega (arith, l.tallied.values);
            depth = omega (arith, l.tallied.depth);
          })
      ended (b ∷ r) s = absurd (omega (arith, ap length s))

  no_more : 0 < length rest → HasNoValue mode rest → AreNoValues mode octets
  no_more some none us h =
      let r = rest_encodes mode l.trees us l.front rest l.encode (subst (AreEncodings mode us) l.is h) in
      go r.0 r.1
    where
      go : (vs : Trees) → AreEncodings mode vs rest → ⊥
      go no_trees k = absurd (omega (arith, ap length k))
      go (v ∷ₜ vs) k = none v k.0 k.1 k.2 k.4

  list_stops : (new : Checked) (status : ℕ) → 0 < length rest → (status ≢ no_memory → RefusedValue mode rest c new status) → PassesAll mode octets status new
  list_stops new status some r =
      elim (cases_eq status no_memory) [
        | inl same ↦ lacking same
        | inr other ↦
            let v = r other in
            let t = tallied_both nothing_met c new (length l.front) (length v.passed) (preorders l.trees 0) v.met l.tallied v.tallied in
            refused (no_more some v.none) (record {
              opened = v.opened;
              rest = v.rest;
              passed = l.front ++ v.passed;
              met = preorders l.trees 0 ++ v.met;
              reaches = reaches_both mode octets rest l.front (preorders l.trees 0) l.reaches v.opened v.rest v.passed v.met v.reaches;
              at = omega (arith, t.at, length-append l.front v.passed);
              values = omega (arith, t.values);
              depth = omega (arith, t.depth);
              no_end = v.no_end;
              why = v.why;
            })
      ]

  pub list_refused : (new : Checked) (status levels : ℕ) → 0 < length rest → c.depth ≤ levels → new.depth ≤ max c.depth levels
      → (status ≢ no_memory → status ≢ too_deep → RefusedValue mode rest c new status) → (status ≡ too_deep → DeeperValue mode levels rest c new)
      → PassesAllWithin mode levels octets status new
  list_refused new status levels some shallow deep r d =
      elim (cases_eq status too_deep) [
        | inl same ↦
            let v = d same in
            let t = tallied_both nothing_met c new (length l.front) (length v.passed) (preorders l.trees 0) v.met l.tallied v.tallied in
            deeper same (record {
              opened = v.opened;
              rest = v.rest;
              passed = l.front ++ v.passed;
              met = preorders l.trees 0 ++ v.met;
              reaches = reaches_both mode octets rest l.front (preorders l.trees 0) l.reaches v.opened v.rest v.passed v.met v.reaches;
              at = omega (arith, t.at, length-append l.front v.passed);
              values = omega (arith, t.values);
              depth = omega (arith, t.depth);
              count = v.count;
              few = v.few;
              begins = v.begins;
            })
        | inr other ↦ within (list_stops new status some (λ k. r k other)) (omega arith)
      ]

-- no value is inside so many others as a `usize` counts at most
pub unlimited : {F A : Type 0} (mode : Mode) (levels : ℕ) (w : List ℕ) (status : ℕ) (c : Checked) → levels ≡ 2 ^ 64 - 1
    → PassesWithin F A mode levels w status c → Passes F A mode w status c
unlimited mode levels w status c e (within p d) = p
unlimited mode levels w status c e (deeper s g) = absurd (omega (arith, g.few))

pub ends_within : (mode : Mode) (octets : List ℕ) (c : Checked) (rest : List ℕ) (levels : ℕ) → InList mode octets c rest → length rest ≡ 0
    → c.depth ≤ levels → PassesAllWithin mode levels octets 0 c
ends_within mode octets c rest levels l e d = within (list_ends mode octets c rest l e) d
