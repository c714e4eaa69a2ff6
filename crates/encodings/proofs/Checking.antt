-- A check of all octets, by steps whose state is in numbers.
use Rattle.std.proofs.Common.{◌≡◌, ◌≢◌, ◌⊎◌, ℕ, ◌+◌, ◌-◌, ◌*◌, ◌<◌, ◌≤◌, Bool, true, false, List, [], ◌∷◌, ◌++◌, length, refl, sym, ap, ◌∙◌}
use Rattle.std.proofs.Common.{inl, inr, arith}
use Rattle.std.specs.Prelude.{max}
use Rattle.std.proofs.lemmas.List.{length-append, length-set}
use Rattle.bcder.specs.declared.mode.Mode.{Mode}
use Rattle.bcder.specs.x690.Identifier.{AreOctets}
use Rattle.bcder.specs.x690.Preorder.{Heading}
use Rattle.bcder.specs.laws.Complete.{header_size}
use Rattle.encodings.specs.declared.checked.Checked.{Checked}
use Rattle.encodings.specs.declared.next.Event.{Event}
use Rattle.encodings.specs.declared.next.Walk.{Walk}
use Rattle.encodings.specs.Depth.{deepest}
use Rattle.encodings.specs.Open.{Open, Step, of_primitive, into_definite, into_indefinite, out_of_definite, out_of_indefinite, Reaches}
use Rattle.encodings.specs.Values.{NoneEnds, PassesAllOn, all_passed, none_there, no_room}
use Rattle.encodings.specs.Next.{kind_of, an_end, OneChanged, TellsStep, of_value, of_end, Advanced, IsDue, Advances, goes_on, ends, stops, is_full}
use Rattle.encodings.specs.Next.{StandsFor, Walked, IsRefusal}
use Rattle.encodings.proofs.Listing.{nothing_met}
use Rattle.encodings.proofs.WholeWalk.{deepest-append}
use Rattle.encodings.proofs.Stepping.{count, may_stand}
use Rattle.encodings.proofs.WholeSteps.{starts, goes_on_from, comes, ends_at_values}
use Rattle.encodings.proofs.Refusing.{refused_octets, refusal}

-- ---- one step

-- each value has an octet of its own
met_few : (mode : Mode) (os : List Open) (x : List ℕ) (ps : List Open) (y q : List ℕ) (ks : List Heading) → Step mode os x ps y q ks
    → length ks ≤ length q
met_few mode os x ps y q ks (of_primitive t h c d is same passed met) =
    omega (arith, header_size mode t false _ h d, ap length passed, length-append h c, ap length met)
met_few mode os x ps y q ks (into_definite t h b d is same passed met) =
    omega (arith, header_size mode t true _ h d, ap length passed, ap length met)
met_few mode os x ps y q ks (into_indefinite t h d is same passed met) =
    omega (arith, header_size mode t true _ h d, ap length passed, ap length met)
met_few mode os x ps y q ks (out_of_definite same none passed met) = omega (arith, ap length met)
met_few mode os x ps y q ks (out_of_indefinite same end is met) = omega (arith, ap length met)

step_shrinks : (mode : Mode) (os : List Open) (x : List ℕ) (ps : List Open) (y q : List ℕ) (ks : List Heading) → Step mode os x ps y q ks
    → length ps < length os + 2 * length q
step_shrinks mode os x ps y q ks (of_primitive t h c d is same passed met) =
    omega (arith, header_size mode t false _ h d, ap length passed, length-append h c, ap length same)
step_shrinks mode os x ps y q ks (into_definite t h b d is same passed met) =
    omega (arith, header_size mode t true _ h d, ap length passed, ap length same)
step_shrinks mode os x ps y q ks (into_indefinite t h d is same passed met) =
    omega (arith, header_size mode t true _ h d, ap length passed, ap length same)
step_shrinks mode os x ps y q ks (out_of_definite same none passed met) = omega (arith, ap length same)
step_shrinks mode os x ps y q ks (out_of_indefinite same end is met) = omega (arith, ap length same)

same_room : (depth : ℕ) (old new : List ℕ) → OneChanged depth old new → length new ≡ length old
same_room depth old new (inl e) = ap length e
same_room depth old new (inr n) = ap length n.1 ∙ length-set old depth n.0

value_kind : (b : Bool) → kind_of b ≡ an_end → ⊥
value_kind false e = omega (arith, e)
value_kind true e = omega (arith, e)

none_ends : (mode : Mode) (os : List Open) (x : List ℕ) → IsDue mode os x → NoneEnds mode os x
none_ends mode [] x due = tt
none_ends mode (o ∷ os) x due = due

not_stopped : (status : ℕ) → IsRefusal status → (status ≡ 0) ⊎ (status ≡ 7) → ⊥
not_stopped status (inl a) (inl b) = omega (arith, a, b)
not_stopped status (inl a) (inr b) = omega (arith, a, b)
not_stopped status (inr (inl a)) (inl b) = omega (arith, a, b)
not_stopped status (inr (inl a)) (inr b) = omega (arith, a, b)
not_stopped status (inr (inr a)) (inl b) = omega (arith, a, b)
not_stopped status (inr (inr a)) (inr b) = omega (arith, a, b)

-- ---- what was passed until now

pub record Checks (mode : Mode) (room : ℕ) (octets stack : List ℕ) (walk : Walk) (c : Checked) : Type 0 where
  pub passed : List ℕ
  pub met : List Heading
  pub walked : Walked mode octets stack walk passed met
  pub at : c.at ≡ walk.at
  pub values : c.values ≡ length met
  pub depth : c.depth ≡ deepest met
  pub few : length met ≤ length passed
  pub shallow : c.depth ≤ room + 1
  pub same_room : length stack ≡ room

pub checks_start : (mode : Mode) (octets stack : List ℕ) (walk : Walk) (c : Checked) → walk ≡ record { at = 0; end = length octets; depth = 0 }
    → c ≡ nothing_met → Checks mode (length stack) octets stack walk c
checks_start mode octets stack walk c e n = rw n (record {
  passed = [];
  met = [];
  walked = starts mode octets stack walk e;
  at = sym (ap (λ w. w.at) e);
  values = refl;
  depth = refl;
  few = omega arith;
  shallow = omega arith;
  same_room = refl;
})

module _ (mode : Mode) (room : ℕ) (octets stack : List ℕ) (old : Walk) (c : Checked) (i : Checks mode room octets stack old c) where
  pub checks_bound : (old.at ≤ length octets) × (c.values ≤ length octets)
  checks_bound =
      let m = may_stand mode octets stack old i.walked.opened i.walked.rest i.walked.stands in
      (omega (arith, m.order, m.inside), omega (arith, m.order, m.inside, i.values, i.few, i.walked.at))

  module _ (after : List ℕ) (new : Walk) (e : Event) (a : Advanced mode octets i.walked.opened i.walked.rest stack after old new e) where
    pub told_depth : e.depth ≤ room
    told_depth = by_kind a.tells
      where
        by_kind : TellsStep mode i.walked.opened i.walked.rest a.opened a.passed a.met e → e.depth ≤ room
        by_kind (of_value b met depth kind) =
            omega (arith, depth, count mode octets stack old i.walked.opened i.walked.rest i.walked.stands, i.walked.stands.room, i.same_room)
        by_kind (of_end met heading depth kind) =
            omega (arith, depth, count mode octets after new a.opened a.rest a.stands, a.stands.room, same_room old.depth stack after a.others, i.same_room)

    -- what a step adds
    abbrev pub Added : Checked → Type 0
    Added d =
        (e.kind ≡ an_end → d ≡ record { at = new.at; values = c.values; depth = c.depth })
        × (e.kind ≢ an_end → d ≡ record { at = new.at; values = c.values + 1; depth = max c.depth (e.depth + 1) })

    pub checks_on : (d : Checked) → Added d → Checks mode room octets after new d
    checks_on d added =
        let w = goes_on_from mode octets stack after old new e i.passed i.met i.walked a in
        let l : length (i.met ++ a.met) ≤ length (i.passed ++ a.passed) =
        omega (arith, i.few, met_few mode _ _ _ _ _ _ a.step, length-append i.passed a.passed, length-append i.met a.met) in
        by_kind w l a.tells
      where
        by_kind : Walked mode octets after new (i.passed ++ a.passed) (i.met ++ a.met) → length (i.met ++ a.met) ≤ length (i.passed ++ a.passed)
            → TellsStep mode i.walked.opened i.walked.rest a.opened a.passed a.met e → Checks mode room octets after new d
        by_kind w l (of_value b met depth kind) =
            let n = added.1 (λ end. value_kind e.heading.constructed (sym kind ∙ end)) in
            record {
              passed = i.passed ++ a.passed;
              met = i.met ++ a.met;
              walked = w;
              at = ap (λ k. k.at) n;
              values = omega (arith, ap (λ k. k.values) n, i.values, length-append i.met a.met, ap length met);
              depth = ap (λ k. k.depth) n ∙ omega (arith, i.depth, depth, deepest-append i.met a.met, ap deepest met);
              few = l;
              shallow = omega (arith, ap (λ k. k.depth) n, i.shallow, told_depth);
              same_room = same_room old.depth stack after a.others ∙ i.same_room;
            }
        by_kind w l (of_end met heading depth kind) =
            let n = added.0 kind in
            record {
              passed = i.passed ++ a.passed;
              met = i.met ++ a.met;
              walked = w;
              at = ap (λ k. k.at) n;
              values = omega (arith, ap (λ k. k.values) n, i.values, length-append i.met a.met, ap length met);
              depth = ap (λ k. k.depth) n ∙ omega (arith, i.depth, deepest-append i.met a.met, ap deepest met);
              few = l;
              shallow = omega (arith, ap (λ k. k.depth) n, i.shallow);
              same_room = same_room old.depth stack after a.others ∙ i.same_room;
            }

    pub shrinks : (length octets - new.at) * 2 + new.depth < (length octets - old.at) * 2 + old.depth
    shrinks =
        let s = step_shrinks mode _ _ _ _ _ _ a.step in
        let m = may_stand mode octets after new a.opened a.rest a.stands in
        omega (
          arith,
          s,
          m.order,
          m.inside,
          a.at,
          count mode octets stack old i.walked.opened i.walked.rest i.walked.stands,
          count mode octets after new a.opened a.rest a.stands,
        )

  -- ---- what a call says

  module _ (after : List ℕ) (new : Walk) (e : Event) (status : ℕ)
      (a : (os : List Open) (x : List ℕ) → StandsFor octets stack old os x → Advances mode octets os x stack after old new e status) where
    here : Advances mode octets i.walked.opened i.walked.rest stack after old new e status
    here = a i.walked.opened i.walked.rest i.walked.stands

    pub goes_further : status ≡ 0 → Advanced mode octets i.walked.opened i.walked.rest stack after old new e
    goes_further s = go here
      where
        go : Advances mode octets i.walked.opened i.walked.rest stack after old new e status
            → Advanced mode octets i.walked.opened i.walked.rest stack after old new e
        go (goes_on t b) = b
        go (ends t none nothing) = absurd (omega (arith, s, t))
        go (stops due why) = absurd (not_stopped status (refusal mode _ status why) (inl s))
        go (is_full t due room) = absurd (omega (arith, s, t))

    pub all_done : AreOctets octets → status ≡ 7 → PassesAllOn mode room octets 0 c
    all_done o s = go here
      where
        go : Advances mode octets i.walked.opened i.walked.rest stack after old new e status → PassesAllOn mode room octets 0 c
        go (goes_on t b) = absurd (omega (arith, s, t))
        go (ends t none nothing) =
            let r : Reaches mode octets [] [] i.passed i.met = rw (none, nothing) at i.walked.reaches in
            let v = ends_at_values mode octets i.passed i.met o r in
            let whole : octets ≡ i.passed ++ [] = comes mode octets [] [] i.passed i.met r in
            all_passed refl (record {
              trees = v.trees;
              encode = v.encode;
              at = omega (arith, i.at, i.walked.at, ap length whole, length-append i.passed []);
              values = i.values ∙ ap length v.headings;
              depth = i.depth ∙ ap deepest v.headings;
            }) i.shallow
        go (stops due why) = absurd (not_stopped status (refusal mode _ status why) (inr s))
        go (is_full t due room) = absurd (omega (arith, s, t))

    pub stopped : AreOctets octets → status ≢ 0 → status ≢ 7 → PassesAllOn mode room octets status c
    stopped o n f = go here
      where
        at : c.at ≡ length i.passed
        at = i.at ∙ i.walked.at

        go : Advances mode octets i.walked.opened i.walked.rest stack after old new e status → PassesAllOn mode room octets status c
        go (goes_on t b) = absurd (n t)
        go (ends t none nothing) = absurd (f t)
        go (stops due why) =
            none_there (refused_octets mode octets i.walked.opened i.walked.rest i.passed i.met status o i.walked.reaches due why) (record {
              opened = i.walked.opened;
              rest = i.walked.rest;
              passed = i.passed;
              met = i.met;
              reaches = i.walked.reaches;
              at = at;
              values = i.values;
              depth = i.depth;
              no_end = none_ends mode i.walked.opened i.walked.rest due;
              why = why;
            })
        go (is_full t due r) = no_room t (record {
          opened = i.walked.opened;
          rest = i.walked.rest;
          passed = i.passed;
          met = i.met;
          reaches = i.walked.reaches;
          at = at;
          values = i.values;
          depth = i.depth;
          count = r.full ∙ i.same_room;
          no_end = none_ends mode i.walked.opened i.walked.rest due;
          begins = record { opened = r.opened; rest = r.rest; passed = r.passed; met = r.met; step = r.step; one_more = r.opens };
        })
