-- A walk that stops where a value is due and none begins: the octets are no values.
use Rattle.std.proofs.Common.{◌≡◌, ℕ, ◌<◌, ◌≤◌, Bool, true, false, List, [], ◌∷◌, ◌++◌, length, take, drop, Option, Some, None, option_map}
use Rattle.std.proofs.Common.{option_and_then, inl, inr, refl, sym, ap, subst, ◌∙◌, arith}
use Rattle.std.proofs.lemmas.List.{length-append, take_at, drop_at}
use Rattle.bcder.specs.declared.mode.Mode.{Mode}
use Rattle.bcder.specs.x690.Identifier.{AreOctets, Tag}
use Rattle.bcder.specs.x690.Tree.{Tree, Trees, ◌∷ₜ◌}
use Rattle.bcder.specs.x690.Encoding.{IsHeader}
use Rattle.bcder.specs.x690.Preorder.{Heading, preorder}
use Rattle.bcder.specs.calls.Content.{length_of}
use Rattle.bcder.specs.steps.Reading.{read_header, at_end, read_list, read_tree}
use Rattle.bcder.specs.laws.Complete.{header_complete, header_size}
use Rattle.bcder.specs.laws.Sound.{none_is}
use Rattle.bcder.specs.laws.Stands.{list_complete}
use Rattle.bcder.proofs.Headers.{header_no_end}
use Rattle.bcder.proofs.ReadingSteps.{read_list_step}
use Rattle.encodings.specs.declared.next.Event.{Event}
use Rattle.encodings.specs.declared.next.Walk.{Walk}
use Rattle.encodings.specs.Open.{Open, Rest, after, rest_of, value_and_rest, heading_of, Step, of_primitive, into_definite, into_indefinite}
use Rattle.encodings.specs.Open.{out_of_definite, out_of_indefinite, Reaches, at_first, one_on, NoneBegins, no_octets, no_header, goes_beyond}
use Rattle.encodings.specs.Values.{AreNoValues}
use Rattle.encodings.specs.Next.{StandsFor, IsDue, Advances, goes_on, ends, stops, is_full, Walked, IsRefusal, Decides, further, values, no_values, no_room}
use Rattle.encodings.proofs.Reading.{definite_ends, indefinite_ends, definite_goes_on, indefinite_goes_on, primitive_next, definite_next}
use Rattle.encodings.proofs.Reading.{indefinite_next, end_read}
use Rattle.encodings.proofs.Walking.{goes_on_definite, goes_on_indefinite, nothing_in_nothing, nothing_without_header, nothing_beyond}
use Rattle.encodings.proofs.WholeSteps.{rest_octets, goes_on_from, ends_at_values}

-- what remains is no list of values
abbrev Fails : Mode → Rest → Type 0
Fails mode r = ◌≡◌ {A = Option (Trees × List ℕ)} (option_and_then (λ o. read_list mode false o.1) r) None

fails_after : (mode : Mode) (hs : List Heading) (r : Rest) → Fails mode r → Fails mode (after hs r)
fails_after mode hs None f = f
fails_after mode hs (Some o) f = f

none_fails : (mode : Mode) (r : Rest) → r ≡ None → Fails mode r
none_fails mode r e = rw e refl

-- ---- a value that is due

outermost_fails : (mode : Mode) (x : List ℕ) → AreOctets x → 0 < length x → Fails mode (value_and_rest mode [] x) → Fails mode (rest_of mode [] x)
unfolding rest_of at_end
outermost_fails mode [] o l f = absurd (omega arith)
outermost_fails mode (b ∷ x) o l f = rw (read_list_step mode false (b ∷ x) o) (go (read_tree mode (b ∷ x)) f)
  where
    go : (r : Option (Tree × List ℕ))
        → Fails mode (option_and_then {U = List Heading × List ℕ} (λ t. after (preorder t.0 0) (Some ([], t.1))) r)
        → option_and_then {U = Trees × List ℕ} (λ t. option_map (λ ts. (t.0 ∷ₜ ts.0, ts.1)) (read_list mode false t.1)) r ≡ None
    go None f = refl
    go (Some t) f = rw f refl

value_fails : (mode : Mode) (os : List Open) (x h z : List ℕ) (t : Tag) (form : Bool) (n : Option ℕ) → AreOctets x
    → IsHeader mode t form (length_of n) h → x ≡ h ++ z → Fails mode (value_and_rest mode os x) → Fails mode (rest_of mode os x)
value_fails mode [] x h z t form n o d is f =
    outermost_fails mode x o (omega (arith, header_size mode t form (length_of n) h d, ap length is, length-append h z)) f
value_fails mode (Some b ∷ os) x h z t form n o d is f =
    let l : 0 < length x = omega (arith, header_size mode t form (length_of n) h d, ap length is, length-append h z) in
    subst (Fails mode) (sym (definite_goes_on mode os b x o l)) f
value_fails mode (None ∷ os) x h z t form n o d is f =
    let e = ap (read_header mode) is ∙ header_complete mode t form (length_of n) h z d in
    subst (Fails mode) (sym (indefinite_goes_on mode os x o (header_no_end mode x _ z e))) f

-- ---- the steps

step_fails : (mode : Mode) (os : List Open) (x : List ℕ) (ps : List Open) (y q : List ℕ) (ks : List Heading) → AreOctets x
    → Step mode os x ps y q ks → Fails mode (rest_of mode ps y) → Fails mode (rest_of mode os x)
step_fails mode os x ps y q ks o (of_primitive t h c d is same passed met) f =
    let l : length c ≤ length (c ++ y) = omega (arith, length-append c y) in
    let e = primitive_next mode x t false (Some (length c)) h (c ++ y) o d is (length c) os refl refl l in
    let g : Fails mode (rest_of mode os (drop (length c) (c ++ y))) = rw (drop_at c y (length c) refl, ← same) f in
    value_fails mode os x h (c ++ y) t false (Some (length c)) o d is (subst (Fails mode) (sym e) (fails_after mode (heading_of t false os ∷ []) _ g))
step_fails mode os x ps y q ks o (into_definite t h b d is same passed met) f =
    let l : length y ≤ length (y ++ b) = omega (arith, length-append y b) in
    let e = definite_next mode x t true (Some (length y)) h (y ++ b) o d is (length y) os refl refl l in
    let g : Fails mode (rest_of mode (Some (drop (length y) (y ++ b)) ∷ os) (take (length y) (y ++ b))) =
    rw (drop_at y b (length y) refl, take_at y b (length y) refl, ← same) f in
    value_fails mode os x h (y ++ b) t true (Some (length y)) o d is (subst (Fails mode) (sym e) (fails_after mode (heading_of t true os ∷ []) _ g))
step_fails mode os x ps y q ks o (into_indefinite t h d is same passed met) f =
    let e = indefinite_next mode x t true None h y o d is os refl refl in
    let g : Fails mode (rest_of mode (None ∷ os) y) = rw (← same) f in
    value_fails mode os x h y t true None o d is (subst (Fails mode) (sym e) (fails_after mode (heading_of t true os ∷ []) _ g))
step_fails mode os x ps y q ks o (out_of_definite same none passed met) f =
    rw (same, none) (subst (Fails mode) (sym (definite_ends mode ps y)) f)
step_fails mode os x ps y q ks o (out_of_indefinite same end is met) f =
    rw same (subst (Fails mode) (sym (indefinite_ends mode ps x y o (end_read mode q x y end is))) f)

all_fail : (mode : Mode) (w : List ℕ) (os : List Open) (x p : List ℕ) (hs : List Heading) → AreOctets w → Reaches mode w os x p hs
    → Fails mode (rest_of mode os x) → Fails mode (rest_of mode [] w)
all_fail mode w _ _ _ _ o at_first f = f
all_fail mode w _ _ _ _ o (one_on ns os v x p q hs ks before s) f =
    all_fail mode w ns v p hs o before (step_fails mode ns v os x q ks (rest_octets mode w ns v p hs o before) s f)

-- ---- where a walk stops

nothing_begins : (mode : Mode) (os : List Open) (x : List ℕ) (status : ℕ) → AreOctets x → NoneBegins mode x status
    → value_and_rest mode os x ≡ None
nothing_begins mode os x status o (no_octets e s) = nothing_in_nothing mode x (ap length e) os
nothing_begins mode os x status o (no_header h s) = nothing_without_header mode x o h os
nothing_begins mode os x status o (goes_beyond g s) =
    nothing_beyond mode x g.tag g.form (Some g.len) g.header g.behind g.len o g.is_header g.is refl g.more os

stop_fails : (mode : Mode) (os : List Open) (x : List ℕ) (status : ℕ) → AreOctets x → IsDue mode os x → NoneBegins mode x status
    → Fails mode (rest_of mode os x)
stop_fails mode [] x status o due why = outermost_fails mode x o due (none_fails mode _ (nothing_begins mode [] x status o why))
stop_fails mode (Some b ∷ os) x status o due why =
    none_fails mode _ ((goes_on_definite mode (Some b) b x refl o due).same os ∙ nothing_begins mode (Some b ∷ os) x status o why)
stop_fails mode (None ∷ os) x status o due why =
    none_fails mode _ ((goes_on_indefinite mode None x refl o due).same os ∙ nothing_begins mode (None ∷ os) x status o why)

pub refused_octets : (mode : Mode) (w : List ℕ) (os : List Open) (x p : List ℕ) (hs : List Heading) (status : ℕ) → AreOctets w
    → Reaches mode w os x p hs → IsDue mode os x → NoneBegins mode x status → AreNoValues mode w
unfolding rest_of
refused_octets mode w os x p hs status o r due why ts h =
    let f = all_fail mode w os x p hs o r (stop_fails mode os x status (rest_octets mode w os x p hs o r) due why) in
    none_is _ (sym f ∙ list_complete mode w ts h)

pub refusal : (mode : Mode) (x : List ℕ) (status : ℕ) → NoneBegins mode x status → IsRefusal status
refusal mode x status (no_octets e s) = inr (inr s)
refusal mode x status (no_header h s) = inl s
refusal mode x status (goes_beyond g s) = inr (inl s)

-- what a call does tells what it says of all octets
pub decided : (mode : Mode) (octets before after : List ℕ) (old new : Walk) (e : Event) (status : ℕ) (p : List ℕ) (hs : List Heading)
    → AreOctets octets → (w : Walked mode octets before old p hs) → Advances mode octets w.opened w.rest before after old new e status
    → Decides mode octets p hs after new status
decided mode octets before after old new e status p hs o w (goes_on s a) =
    further s a.passed a.met (goes_on_from mode octets before after old new e p hs w a)
decided mode octets before after old new e status p hs o w (ends s none nothing) =
    let r : Reaches mode octets [] [] p hs = rw (none, nothing) at w.reaches in
    values s (ends_at_values mode octets p hs o r)
decided mode octets before after old new e status p hs o w (stops due why) =
    no_values (refusal mode w.rest status why) (refused_octets mode octets w.opened w.rest p hs status o w.reaches due why)
decided mode octets before after old new e status p hs o w (is_full s due room) = no_room s
