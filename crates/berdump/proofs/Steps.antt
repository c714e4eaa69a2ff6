-- What a step of the listing does, from wherever the listing is.
use Rattle.std.proofs.Common.{◌≡◌, ◌≢◌, ℕ, ◌+◌, ◌-◌, ◌<◌, ◌≤◌, Bool, true, false, List, [], ◌∷◌, ◌++◌, Option, Some, None, length, take, drop, refl, sym, ap}
use Rattle.std.proofs.Common.{subst, ◌∙◌, arith, length-append, length-drop, inl, inr, ◌⊎◌, Ok, Err, Result, IfOk, OnOk, IfErr, IfSome, IfNone}
use Rattle.std.proofs.lemmas.List.{length-take-le}
use Rattle.std.specs.Borrow.{Bor}
use Rattle.bcder.specs.declared.mode.Mode.{Mode}
use Rattle.bcder.specs.x690.Identifier.{Tag}
use Rattle.bcder.specs.x690.BitString.{bit_string_tag}
use Rattle.bcder.specs.x690.Encoding.{IsHeader}
use Rattle.bcder.specs.calls.Content.{length_of}
use Rattle.bcder.specs.laws.Complete.{header_size}
use Rattle.berdump.specs.declared.heading.Heading.{Heading}
use Rattle.berdump.specs.declared.scope.Scope.{Scope}
use Rattle.berdump.specs.declared.opened.Open.{Open}
use Rattle.berdump.specs.declared.opened.Open.TheVariants as level
use Rattle.berdump.specs.declared.list.ListError.{ListError}
use Rattle.berdump.specs.declared.list.ListError.TheVariants.{Refused}
use Rattle.berdump.specs.declared.list.Reason.{Reason}
use Rattle.berdump.specs.declared.list.Reason.TheVariants as reason
use Rattle.berdump.specs.Reasons.{IsCutShort, IsReason, IsRefusedAt}
use Rattle.berdump.specs.Listing.{heading, IsFront, Holds, HoldsNone}
use Rattle.berdump.specs.Opened.{behind_all, Goes, Fits, GoesOn}
use Rattle.berdump.specs.Answers.{Stands, Written, IsUnwritten, Listed}
use Rattle.berdump.specs.Walk.{IsAt, Follows, PassesContents, Meets, Stops, left}
use Rattle.berdump.proofs.Walking.{Front, Stays, stands, meets_primitive, meets_definite, meets_opened, meets_indefinite}
use Rattle.berdump.proofs.Walking.{no_list_at_contents, no_list_at_header, within, unlisted_by, in_part, begins, ends, closes}

pub front_of : (mode : Mode) (t : Tag) (form : Bool) (len : Option ℕ) (w r : List ℕ) → (h : List ℕ) × IsHeader mode t form (length_of len) h × (w ≡ h ++ r)
    → Front mode t form len w r
front_of mode t form len w r p = record { header = p.0; is_header = p.1; are = p.2 }

module _ (scope : Scope) (mode : Mode) (b c : Option (List ℕ)) (es : List Open) (w r : List ℕ) (at : ℕ) (t : Tag) (form : Bool) (len : Option ℕ)
    (f : Front mode t form len w r) (open_here : GoesOn mode es w) (some : es ≡ [] → w ≢ []) (depth : ℕ) (is_depth : depth ≡ length es) where
  abbrev h : Heading
  h = heading t form depth at (length w - length r) len

  is_h : h ≡ heading t form (length es) at (length w - length r) len
  is_h = ap (λ d. heading t form d at (length w - length r) len) is_depth

  line : Written scope (h ∷ []) b c → Written scope (heading t form (length es) at (length w - length r) len ∷ []) b c
  line k = subst (λ z. Written scope (z ∷ []) b c) is_h k

  pub step_indefinite : (fs : List Open) → len ≡ None → Written scope (h ∷ []) b c → fs ≡ level.Indefinite ∷ es
      → Meets scope mode es w at b fs r (at + (length w - length r)) c
  step_indefinite fs is_len k e octets a s = subst (λ z. Follows scope mode octets a c s.headings at z r (at + (length w - length r))) (sym e)
      (meets_indefinite scope mode octets a b c es w r at t form len s f open_here some is_len (line k))

  pub step_definite : (fs : List Open) (behind : Bor (List ℕ)) (v : List ℕ) (n : ℕ) → len ≡ Some n → form ≡ true → n ≤ length r → behind.now ≡ drop n r
      → v ≡ take n r → Written scope (h ∷ []) b c → fs ≡ level.Definite behind ∷ es → Meets scope mode es w at b fs v (at + (length w - length r)) c
  step_definite fs behind v n is_len is_form fits is_behind is_v k e octets a s =
      subst (λ z. Follows scope mode octets a c s.headings at z v (at + (length w - length r))) (sym e)
      (meets_definite scope mode octets a b c es w r at t form len s f open_here some behind v n is_len is_form fits is_behind is_v (line k))

  pub step_primitive : (fs : List Open) (contents behind v : List ℕ) (n d : ℕ) → len ≡ Some n → form ≡ false → n ≤ length r → contents ≡ take n r → behind
      ≡ drop n r → Written scope (h ∷ []) b c → PassesContents scope mode t contents behind (at + (length w - length r)) es fs v d
      → Meets scope mode es w at b fs v d c
  step_primitive fs contents behind v n d is_len is_form fits is_contents is_behind k (PassesContents.passed none e is_v is_d) octets a s =
      let size : length contents ≡ n = ap length is_contents ∙ length-take-le n r fits in
      let here : Follows scope mode octets a c s.headings at es (drop n r) (at + (length w - length r) + n) =
      meets_primitive scope mode octets a b c es w r at t form len s f open_here some n is_len is_form fits
      (λ z. subst (HoldsNone mode t) is_contents (none z)) (line k) in
      subst (λ z. Follows scope mode octets a c s.headings at z v d) (sym e)
      (subst (λ z. Follows scope mode octets a c s.headings at es z d) (sym (is_v ∙ is_behind))
      (subst (λ z. Follows scope mode octets a c s.headings at es (drop n r) z) (ap (λ m. at + (length w - length r) + m) (sym size) ∙ sym is_d) here))
  step_primitive fs contents behind v n d is_len is_form fits is_contents is_behind k (PassesContents.opened bor is_deep held is_bor e is_d) octets a s =
      let size : length contents ≡ n = ap length is_contents ∙ length-take-le n r fits in
      let here : Follows scope mode octets a c s.headings at (level.Definite bor ∷ es) v (at + (length w - length r) + (n - length v)) =
      meets_opened scope mode octets a b c es w r at t form len s f open_here some bor v n is_deep is_len is_form fits (is_bor ∙ is_behind)
      (subst (λ z. Holds mode t z v) is_contents held) (line k) in
      subst (λ z. Follows scope mode octets a c s.headings at z v d) (sym e)
      (subst (λ z. Follows scope mode octets a c s.headings at (level.Definite bor ∷ es) v z)
      (ap (λ m. at + (length w - length r) + (m - length v)) (sym size) ∙ sym is_d) here)

  pub stops_unwritten : (e : ListError) → IsUnwritten scope h b c e → Stops scope mode es w at b c e
  stops_unwritten e u octets a s =
      unlisted_by scope mode octets w a b c es at h e s
      (subst (λ z. Stands scope mode octets z) (sym is_h) (stands scope mode octets a b c es w r at t form len s f open_here some)) u

  header_long : 2 ≤ length w - length r
  header_long = let m = header_size mode t form (length_of len) f.header f.is_header in omega (arith, m, ap length f.are, length-append f.header r)

  pub less_indefinite : (fs : List Open) → fs ≡ level.Indefinite ∷ es → left fs r < left es w
  less_indefinite fs e = rw e (let m = header_long in omega (arith, m))

  pub less_definite : (fs : List Open) (behind : Bor (List ℕ)) (v : List ℕ) (n : ℕ) → n ≤ length r → behind.now ≡ drop n r → v ≡ take n r
      → fs ≡ level.Definite behind ∷ es → left fs v < left es w
  less_definite fs behind v n fits is_behind is_v e = rw e (let m = header_long in let x = ap length is_behind ∙ length-drop n r in
      let y = ap length is_v ∙ length-take-le n r fits in omega (arith, m, x, y, fits, length-append behind.now (behind_all es)))

  pub less_primitive : (fs : List Open) (contents behind v : List ℕ) (n d : ℕ) → n ≤ length r → contents ≡ take n r → behind ≡ drop n r
      → PassesContents scope mode t contents behind (at + (length w - length r)) es fs v d → left fs v < left es w
  less_primitive fs contents behind v n d fits is_contents is_behind (PassesContents.passed none e is_v is_d) =
      rw e (let m = header_long in let x = ap length (is_v ∙ is_behind) ∙ length-drop n r in omega (arith, m, x, fits))
  less_primitive fs contents behind v n d fits is_contents is_behind (PassesContents.opened bor is_deep held is_bor e is_d) =
      rw e (let m = header_long in let x = ap length (is_bor ∙ is_behind) ∙ length-drop n r in let y = ap length is_contents ∙ length-take-le n r fits in
      let z = ap length held.are ∙ length-append held.front v in omega (arith, m, x, y, z, fits, length-append bor.now (behind_all es)))

-- what is wrong with the octets at hand
refused_at : (scope : Scope) (mode : Mode) (octets w : List ℕ) (a b : Option (List ℕ)) (es : List Open) (at : ℕ) (why : Reason)
    → IsAt scope mode octets a b es w at → IsReason mode w why → IsRefusedAt scope mode octets at why
refused_at scope mode octets w a b es at why s r =
    record { before = s.passed; here = w; behind = behind_all es; are = s.are; offset = s.offset; reason = r }

cut_short : (mode : Mode) (w r : List ℕ) (t : Tag) (form : Bool) (len : Option ℕ) (n : ℕ) → Front mode t form len w r → len ≡ Some n → length r < n
    → IsCutShort mode w
cut_short mode w r t form len n f is_len short =
    (t, form, n, f.header, r, subst (λ l. IsHeader mode t form (length_of l) f.header) is_len f.is_header, f.are, short)

cut_reason : (mode : Mode) (w : List ℕ) (why : Reason) → (why ≡ reason.Contents) ⊎ (why ≡ reason.TooLong) → IsCutShort mode w → IsReason mode w why
cut_reason mode w why (inl e) k = subst (IsReason mode w) (sym e) k
cut_reason mode w why (inr e) k = subst (IsReason mode w) (sym e) k

pub stops_at_contents : (scope : Scope) (mode : Mode) (b : Option (List ℕ)) (es : List Open) (w r : List ℕ) (at : ℕ) (t : Tag) (form : Bool) (len : Option ℕ)
    → Front mode t form len w r → GoesOn mode es w → (es ≡ [] → w ≢ []) → (n : ℕ) → len ≡ Some n → length r < n → (why : Reason)
    → (why ≡ reason.Contents) ⊎ (why ≡ reason.TooLong) → Stops scope mode es w at b b (Refused at why)
stops_at_contents scope mode b es w r at t form len f open_here some n is_len short why is_why octets a s = (
  in_part scope mode octets w a b es at s,
  refused_at scope mode octets w a b es at why s (cut_reason mode w why is_why (cut_short mode w r t form len n f is_len short)),
  λ ts k. no_list_at_contents scope mode octets a b b es w r at t form len s f open_here some n is_len short (ts, k),
)

pub stops_at_header : (scope : Scope) (mode : Mode) (b : Option (List ℕ)) (es : List Open) (w : List ℕ) (at : ℕ) → GoesOn mode es w → (es ≡ [] → w ≢ [])
    → ((t : Tag) (form : Bool) (n : Option ℕ) (h x : List ℕ) → IsHeader mode t form (length_of n) h → w ≡ h ++ x → ⊥) → (why : Reason)
    → IsReason mode w why → Stops scope mode es w at b b (Refused at why)
stops_at_header scope mode b es w at open_here some none why is_why octets a s = (
  in_part scope mode octets w a b es at s,
  refused_at scope mode octets w a b es at why s is_why,
  λ ts k. no_list_at_header scope mode octets w a b es at s open_here some none (ts, k),
)

-- ---- what an answer says

pub ok_step : {A E : Type 0} (o : Result A E) (P Q : A → Type 0) (K : Type 0) → IfOk o P → OnOk o K → ((p : A) → P p → K → Q p) → IfOk o Q
ok_step (Ok p) P Q K h k f = f p h k
ok_step (Err e) P Q K h k f = tt

pub err_step : {A E : Type 0} (o : Result A E) (P Q : E → Type 0) → IfErr o P → ((e : E) → P e → Q e) → IfErr o Q
err_step (Ok p) P Q h f = tt
err_step (Err e) P Q h f = f e h

-- ---- strings

pub string_bits : (t : Tag) (w : List ℕ) (o : Option (Bor (List ℕ))) → t ≡ bit_string_tag → IfSome o (λ r. w ≡ 0 ∷ r.now)
    → IfSome o (λ r. (x : List ℕ) × IsFront t x × (w ≡ x ++ r.now))
string_bits t w None e h = tt
string_bits t w (Some r) e h = (0 ∷ [], inr (e, refl), h)

pub passes_opened : (scope : Scope) (mode : Mode) (t : Tag) (contents : List ℕ) (behind : Bor (List ℕ)) (at : ℕ) (es fs : List Open) (rest : Bor (List ℕ))
    (held : Option (Bor (List ℕ))) → scope.inside ≡ true → held ≡ Some rest → IfSome held (λ r. Holds mode t contents r.now) → fs ≡ level.Definite behind ∷ es
    → PassesContents scope mode t contents behind.now at es fs rest.now (at + (length contents - length rest.now))
passes_opened scope mode t contents behind at es fs rest held d e h k =
    PassesContents.opened behind d (subst (λ o. IfSome o (λ r. Holds mode t contents r.now)) e h) refl k refl

pub passes_over : (scope : Scope) (mode : Mode) (t : Tag) (contents behind : List ℕ) (at : ℕ) (es fs : List Open) (held : Option (Bor (List ℕ)))
    → (scope.inside ≡ true → held ≡ None) → IfNone held (HoldsNone mode t contents) → fs ≡ es
    → PassesContents scope mode t contents behind at es fs behind (at + length contents)
passes_over scope mode t contents behind at es fs held n h k =
    PassesContents.passed (λ z. subst (λ o. IfNone o (HoldsNone mode t contents)) (n z) h) k refl refl

-- ---- the loop

pub begins_with : (scope : Scope) (mode : Mode) (octets : List ℕ) (a b : Option (List ℕ)) (es : List Open) → a ≡ b → es ≡ []
    → Stays scope mode octets a b es octets scope.from []
begins_with scope mode octets a b es e n =
    subst (λ z. Stays scope mode octets a z es octets scope.from []) e
    (subst (λ z. Stays scope mode octets a a z octets scope.from []) (sym n) (begins scope mode octets a))

pub ends_with : (scope : Scope) (mode : Mode) (octets w : List ℕ) (a b : Option (List ℕ)) (es : List Open) (at : ℕ) → es ≡ [] → w ≡ []
    → IsAt scope mode octets a b es w at → Listed scope mode octets a b
ends_with scope mode octets w a b es at n e s = ends scope mode octets w a b at e (subst (λ z. IsAt scope mode octets a b z w at) n s)

pub closes_with : (scope : Scope) (mode : Mode) (octets : List ℕ) (a b : Option (List ℕ)) (es fs : List Open) (w v : List ℕ) (at n : ℕ)
    → (s : IsAt scope mode octets a b es w at) → ((d : Scope) (m : ℕ) → Goes d mode es w m fs v (m + n)) → (Fits mode es w → Fits mode fs v)
    → (p : List ℕ) × (length p ≡ n) × (w ++ behind_all es ≡ p ++ (v ++ behind_all fs)) → Stays scope mode octets a b fs v (at + n) s.headings
closes_with scope mode octets a b es fs w v at n s g m p = closes scope mode octets a b es fs w v p.0 at n s (g scope at) m p.1 p.2

pub less_closed : (es fs : List Open) (w v : List ℕ) (n : ℕ) → length fs + 1 ≡ length es
    → (p : List ℕ) × (length p ≡ n) × (w ++ behind_all es ≡ p ++ (v ++ behind_all fs)) → left fs v < left es w
less_closed es fs w v n f p =
    let e = ap length p.2 in
    omega (arith, e, f, length-append w (behind_all es), length-append p.0 (v ++ behind_all fs), length-append v (behind_all fs))

-- the octets at hand are no more than there are
pub room_left : (scope : Scope) (mode : Mode) (octets w : List ℕ) (a b : Option (List ℕ)) (es : List Open) (at n : ℕ) → IsAt scope mode octets a b es w at
    → scope.from + length octets < n → at + length w < n
room_left scope mode octets w a b es at n s k = let e = within scope mode octets w a b es at s in omega (arith, e, k)
