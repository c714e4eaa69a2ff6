-- The values that are open while a value is passed over, and what remains of them.
use Rattle.std.specs.Prelude.{◌≡◌, ℕ, zero, suc, ◌+◌, ◌-◌, ◌*◌, ◌^◌, ◌<◌, ◌≤◌, Bool, true, false, List, [], ◌∷◌, ◌++◌, length, drop}
use Rattle.std.specs.Prelude.{Option, Some, None, Result, Ok, Err, IfErr, OnOk, OnErr, option_map, option_and_then, reverse}
use Rattle.std.specs.Borrow.{MutBor}
use denote.Triple.Both.{Both}
use Rattle.smallvec.specs.SmallVec.{SmallVec}
use Rattle.bcder.specs.declared.decode.content.Constructed.{Constructed}
use Rattle.bcder.specs.declared.decode.source.limited.LimitedSource.{LimitedSource}
use Rattle.bcder.specs.declared.decode.header.Header.{Header as CodeHeader}
use Rattle.bcder.specs.steps.Peek.{header_of}
use Rattle.bcder.specs.declared.mode.Mode.{Mode}
use Rattle.bcder.specs.declared.length.Length.{Length}
use Rattle.bcder.specs.declared.length.Length.TheVariants as len
use Rattle.bcder.specs.declared.decode.content.Kind.{Kind}
use Rattle.bcder.specs.declared.decode.content.Kind.TheVariants as kind
use Rattle.bcder.specs.declared.decode.content.skip.Frame.{Frame}
use Rattle.bcder.specs.declared.decode.content.skip.OpenValues.{OpenValues}
use Rattle.bcder.specs.declared.decode.stop.Stop.{Stop}
use Rattle.bcder.specs.declared.decode.content.skip.Interrupt.{Interrupt}
use Rattle.bcder.specs.declared.decode.content.skip.Interrupt.TheVariants as interrupt
use Rattle.bcder.specs.declared.decode.error.ContentError.{ContentError}
use Rattle.bcder.specs.calls.Cause.{Cause, of_content, of_memory, of_source, IsOfContent}
use Rattle.bcder.specs.steps.StopCause.{stop_cause}
use Rattle.bcder.specs.x690.Tree.{Tree, no_trees, ◌∷ₜ◌}
use Rattle.bcder.specs.x690.Preorder.{Heading, preorder, preorders}
use Rattle.bcder.specs.x690.Encoding.{Header}
use Rattle.bcder.specs.steps.Reading.{read_contents, read_list}
use Rattle.bcder.specs.calls.Stream.{Stream, Grew, cut, past, limit_left}
use Rattle.bcder.specs.calls.Content.{Falls}
use Rattle.bcder.specs.steps.Inside.{popped}
use Rattle.bcder.specs.steps.Inside.{limit_inside}
use Rattle.bcder.specs.steps.Growing.{AreOpen}
use Rattle.bcder.specs.calls.Walking.{Steps, Called, HeadersStand}

-- how an open value ends: when nothing is owed any more, with what is owed after it, if there is a limit;
-- or by end-of-contents octets
pub data Entry : Type 0 where
  Definite : Option ℕ → Entry
  Indefinite : Entry

-- why passing over a value was interrupted
abbrev pub interrupt_cause : {S : Type 0} → Interrupt S → Cause ContentError
interrupt_cause (interrupt.Closure e) = of_content e
interrupt_cause (interrupt.Stopped b) = stop_cause b

-- ---- limits

-- how many octets are missing up to a limit
abbrev pub lack : Option ℕ → List ℕ → ℕ
lack None w = 0
lack (Some n) w = n - length w

-- what is owed when the octets of a value are given back to those after it
abbrev pub limit_around : Option ℕ → Option ℕ → Option ℕ
limit_around (Some behind) (Some left) = Some (behind + left)
limit_around (Some behind) None = None
limit_around None left = None

-- the limit around all open values, the innermost first, if this much is owed of the innermost
abbrev pub unwound : List Entry → Option ℕ → Option ℕ
unwound [] o = o
unwound (Definite behind ∷ es) o = unwound es (limit_around behind o)
unwound (Indefinite ∷ es) o = unwound es o

-- the limit after an open value that ended
abbrev pub restored : Entry → Option ℕ → Option ℕ
restored (Definite behind) o = behind
restored Indefinite o = o

abbrev pub HasLimit : Option ℕ → Type 0
HasLimit None = ⊥
HasLimit (Some n) = Unit {0}

-- inside a value of definite length there is a limit
abbrev pub AreLimited : List Entry → Option ℕ → Type 0
AreLimited [] o = Unit {0}
AreLimited (Definite behind ∷ es) o = HasLimit o × AreLimited es behind
AreLimited (Indefinite ∷ es) o = AreLimited es o

-- how the end of the innermost open value is known
abbrev pub TopIs : List Entry → Kind → Type 0
TopIs [] k = k ≡ k
TopIs (Definite behind ∷ es) k = k ≡ kind.Definite
TopIs (Indefinite ∷ es) k = k ≡ kind.Indefinite

-- ---- what remains

-- the headings still to come, and then: the octets within the limit, how many are missing up to it, and the octets past it
abbrev pub Reached : Type 0
Reached = Option (List Heading × (List ℕ × ℕ × List ℕ))

abbrev pub after_headings : List Heading → Reached → Reached
after_headings done r = option_map (λ o. (done ++ o.0, o.1)) r

abbrev pub is_indefinite : Entry → Bool
is_indefinite (Definite behind) = false
is_indefinite Indefinite = true

abbrev pub if_all : ℕ → Reached → Reached
if_all zero r = r
if_all (suc m) r = None

-- what remains as the open values end one after the other; x is within the limit, up to which m octets are missing, and y past it
unfoldable pub ends : Mode → List Entry → List ℕ → ℕ → List ℕ → Reached
ends mode [] x m y = Some ([], (x, m, y))
ends mode (Definite o ∷ es) x m y =
    if_all m (option_and_then (λ ts. after_headings (preorders ts.0 (suc (length es)))
    (ends mode es (cut o y) (lack o y) (past o y).octets)) (read_list mode false x))
ends mode (Indefinite ∷ es) x m y =
    option_and_then (λ ts. after_headings (preorders ts.0 (suc (length es))) (ends mode es ts.1 m y)) (read_list mode true x)

-- what remains after a value that was read
abbrev pub next_to : Mode → List Entry → Option (Tree × List ℕ) → ℕ → List ℕ → Reached
next_to mode es r m y = option_and_then (λ t. after_headings (preorder t.0 (length es)) (ends mode es t.1 m y)) r

-- what remains of octets with a limit
abbrev pub remain : Mode → List Entry → Option ℕ → List ℕ → Reached
remain mode es o w = ends mode es (cut o w) (lack o w) (past o w).octets

-- what remains after a header
abbrev pub due : Mode → List Entry → Header → Option ℕ → List ℕ → Reached
due mode es h o w = next_to mode es (read_contents (read_list mode) h.tag h.form h.len (cut o w)) (lack o w) (past o w).octets

-- ---- steps

abbrev pub heading : Header → ℕ → Heading
heading h depth = record { tag = h.tag; constructed = h.form; depth = depth }

-- the octets w of a source were passed, and what no step over octets changes is as it was
pub record Passes (s : Stream) (w : List ℕ) (t : Stream) : Type 0 where
  pub rest : s.rest ≡ w ++ t.rest
  pub kept : t.kept ≡ s.kept

-- how a value of this length ends, if this much is owed after its header
abbrev pub entry_of : Length → Option ℕ → Entry
entry_of (len.Definite n) o = Definite (limit_left o n)
entry_of len.Indefinite o = Indefinite

-- the content behind a header was entered: its octets were passed over, or the value is open
pub data GoesInto (h : Header) (es : List Entry) (s : Stream) (o : Option ℕ) (fs : List Entry) (t : Stream) (p : Option ℕ) : Type 0 where
  octets : (n : ℕ) → h.form ≡ false → h.len ≡ len.Definite n → n ≤ length s.rest → fs ≡ es → t.rest ≡ drop n s.rest → t.kept ≡ s.kept
      → p ≡ popped o n (Some 0) → GoesInto h es s o fs t p
  values : h.form ≡ true → fs ≡ entry_of h.len o ∷ es → t ≡ s → p ≡ limit_inside h.len o → GoesInto h es s o fs t p

-- the innermost open value ended, and was left
pub record LeavesInnermost (es : List Entry) (o : Option ℕ) (fs : List Entry) (p : Option ℕ) : Type 0 where
  pub top : Entry
  pub is : es ≡ top ∷ fs
  pub limit : p ≡ restored top o

-- a limit that is given back is a limit if there was one
abbrev pub Counts : Option ℕ → Option ℕ → Type 0
Counts None p = p ≡ None
Counts (Some n) None = ⊥
Counts (Some n) (Some m) = m < 2 ^ 64

-- ---- the whole

-- the headings of a value, of which k constructed ones are open
pub record IsPart (k : ℕ) (calls : List Heading) : Type 0 where
  pub tree : Tree
  pub opened : AreOpen k (tree ∷ₜ no_trees)
  pub are : preorder tree 0 ≡ calls

-- octets of a source were passed with a limit, after a header, and hold the headers of the values that were met
pub record PassesCalls (mode : Mode) (s : Stream) (o : Option ℕ) (calls : List Heading) (t : Stream) (p : Option ℕ) : Type 0 where
  pub passed : List ℕ
  pub passes : Passes s passed t
  pub falls : Falls o (length passed) p
  pub twice : 2 * length calls ≤ length passed
  pub stand : HeadersStand mode calls (cut o s.rest) (cut p t.rest)

-- the closure was called at the header h and at the headings after it, and these values are open
pub record IsUnderWay (mode : Mode) (h : Header) (s : Stream) (o : Option ℕ) (calls : List Heading) (es : List Entry) (t : Stream)
    (p : Option ℕ) : Type 0 where
  pub outcome : due mode [] h o s.rest ≡ after_headings (heading h 0 ∷ calls) (remain mode es p t.rest)
  pub passes : PassesCalls mode s o calls t (unwound es p)
  pub part : IsPart (length es) (heading h 0 ∷ calls)
  pub limits : AreLimited es p

-- the closure was called at the header h and then at these headings, the last of which was refused or not entered
pub record IsBroken (mode : Mode) (h : Header) (s : Stream) (o : Option ℕ) (calls : List Heading) (t : Stream) (p : Option ℕ) : Type 0 where
  pub some : (u : Tree) × (more : List Heading) × (preorder u 0 ≡ heading h 0 ∷ (calls ++ more))
  pub one : (u : Tree) (x : List ℕ) → read_contents (read_list mode) h.tag h.form h.len (cut o s.rest) ≡ Some (u, x)
      → (more : List Heading) × (preorder u 0 ≡ heading h 0 ∷ (calls ++ more))
  pub passes : PassesCalls mode s o calls t p

-- ---- what calls over the stack did

-- why the content behind a header wasn't entered, after n values were open
pub data StaysAt {X : Type 0} (h : Header) (n : ℕ) (s : Stream) (e : Stop X) (t : Stream) : Type 0 where
  for_memory : h.form ≡ true → 4 ≤ n → stop_cause e ≡ of_memory → StaysAt h n s e t
  by_failure : stop_cause e ≡ of_source → Grew s.faults t.faults → StaysAt h n s e t
  too_few : (m : ℕ) → h.form ≡ false → h.len ≡ len.Definite m → length s.rest < m → IsOfContent (stop_cause e) → StaysAt h n s e t

-- the content behind a header was entered, or not
pub record GoneBy {T X : Type 0} (h : Header) (es : List Entry) (s : Stream) (o : Option ℕ) (r : Result T (Stop X)) (fs : List Entry)
    (t : Stream) (p : Option ℕ) : Type 0 where
  pub goes : OnOk r (GoesInto h es s o fs t p)
  pub no_fault : OnOk r (t.faults ≡ s.faults)
  pub stays : IfErr r (λ e. StaysAt h (length es) s e t)
  pub entries : OnErr r (fs ≡ es)
  pub rest : OnErr r (t.rest ≡ s.rest)
  pub limit : OnErr r (p ≡ o)
  pub kept : t.kept ≡ s.kept
  pub faults : s.faults ≤ t.faults

module _ {F X : Type 0} (step : Steps F ContentError) where
  -- why the content behind a header wasn't entered, after n values were open
  pub data StaysOut (h : Header) (n : ℕ) (s : Stream) (f : F) (e : Interrupt X) (g : F) (t : Stream) : Type 0 where
    refused : (x : ContentError) → step f h.tag h.form n (Err x) g → e ≡ interrupt.Closure x → StaysOut h n s f e g t
    wanted : step f h.tag h.form n (Ok tt) g → h.form ≡ true → 4 ≤ n → interrupt_cause e ≡ of_memory → StaysOut h n s f e g t
    failing : step f h.tag h.form n (Ok tt) g → interrupt_cause e ≡ of_source → Grew s.faults t.faults → StaysOut h n s f e g t
    few : (m : ℕ) → step f h.tag h.form n (Ok tt) g → h.form ≡ false → h.len ≡ len.Definite m → length s.rest < m
        → IsOfContent (interrupt_cause e) → StaysOut h n s f e g t

  -- the closure was called at a header that was passed, and the content behind it entered, or not
  pub record VisitedBy {T : Type 0} (h : Header) (es : List Entry) (s : Stream) (o : Option ℕ) (f : F) (r : Result T (Interrupt X)) (g : F)
      (fs : List Entry) (t : Stream) (p : Option ℕ) : Type 0 where
    pub answered : OnOk r (step f h.tag h.form (length es) (Ok tt) g)
    pub goes : OnOk r (GoesInto h es s o fs t p)
    pub no_fault : OnOk r (t.faults ≡ s.faults)
    pub stays : IfErr r (λ e. StaysOut h (length es) s f e g t)
    pub entries : OnErr r (fs ≡ es)
    pub rest : OnErr r (t.rest ≡ s.rest)
    pub limit : OnErr r (p ≡ o)
    pub kept : t.kept ≡ s.kept
    pub faults : s.faults ≤ t.faults

  -- why the content behind a header wasn't passed, and e was returned
  pub data Breaks (mode : Mode) (h : Header) (s : Stream) (o : Option ℕ) (f : F) (e : Interrupt X) (g : F) (t : Stream)
      (p : Option ℕ) : Type 0 where
    by_source : (calls : List Heading) → Called step f (heading h 0 ∷ calls) g → IsBroken mode h s o calls t p
        → interrupt_cause e ≡ of_source → Grew s.faults t.faults → Breaks mode h s o f e g t p
    by_content : (calls : List Heading) → Called step f (heading h 0 ∷ calls) g → IsBroken mode h s o calls t p
        → read_contents (read_list mode) h.tag h.form h.len (cut o s.rest) ≡ None → IsOfContent (interrupt_cause e)
        → Breaks mode h s o f e g t p
    by_closure : (calls before : List Heading) (last : Heading) (q : F) (x : ContentError) → heading h 0 ∷ calls ≡ before ++ last ∷ []
        → Called step f before q → step q last.tag last.constructed last.depth (Err x) g → IsBroken mode h s o calls t p
        → e ≡ interrupt.Closure x → Breaks mode h s o f e g t p
    by_memory : (calls before : List Heading) (last : Heading) → heading h 0 ∷ calls ≡ before ++ last ∷ []
        → Called step f (heading h 0 ∷ calls) g → last.constructed ≡ true → 4 ≤ last.depth → IsBroken mode h s o calls t p
        → interrupt_cause e ≡ of_memory → Breaks mode h s o f e g t p

  -- the content behind a header was passed, while the closure was called, or not
  pub record RanBy {T : Type 0} (mode : Mode) (h : Header) (s : Stream) (o : Option ℕ) (f : F) (r : Result T (Interrupt X)) (g : F)
      (t : Stream) (p : Option ℕ) : Type 0 where
    pub whole : OnOk r ((calls : List Heading) × Called step f (heading h 0 ∷ calls) g × IsUnderWay mode h s o calls [] t p)
    pub no_fault : OnOk r (t.faults ≡ s.faults)
    pub breaks : IfErr r (λ e. Breaks mode h s o f e g t p)
    pub faults : s.faults ≤ t.faults

-- ---- of parameters, from entry to exit

-- n values of indefinite length, inside others
abbrev pub indefinites : ℕ → List Entry → List Entry
indefinites zero es = es
indefinites (suc n) es = Indefinite ∷ indefinites n es

-- values of definite length, the innermost first, and those of indefinite length around them
abbrev pub around : List Frame → List Entry
around [] = []
around (f ∷ fs) = Definite f.behind ∷ indefinites f.indefinite_around (around fs)

abbrev pub framed : SmallVec Frame → List Entry
framed v = around (reverse v.items)

-- the open values, the innermost first
abbrev pub entries : OpenValues → List Entry
entries v = indefinites v.indefinite (framed v.frames.now)

pub record IsCounted (v : OpenValues) : Type 0 where
  pub depth : v.depth ≡ length (entries v)
  pub inline : 4 ≤ v.frames.now.capacity

-- the source inside content, and its limit
abbrev pub source_of : {S : Type 0} → (S → Stream) → Constructed S → Stream
source_of stream c = stream c.source.now.source

abbrev pub limit_in : {S : Type 0} → Constructed S → Option ℕ
limit_in c = c.source.now.limit

module _ {S : Type 0} (stream : S → Stream) where
  abbrev pub Gone : {T X : Type 0} → Both (MutBor (Constructed S)) (MutBor (Constructed S)) → Both (MutBor OpenValues) (MutBor OpenValues)
      → CodeHeader → Result T (Stop X) → Type 0
  Gone c es h r = GoneBy (header_of h) (entries es.entry.now) (source_of stream c.entry.now) (limit_in c.entry.now) r (entries es.exit.now)
      (source_of stream c.exit.now) (limit_in c.exit.now)

module _ {S F : Type 0} (stream : S → Stream) (step : Steps F ContentError) where
  abbrev pub RanOverSource : {T X : Type 0} → Both (MutBor (LimitedSource S)) (MutBor (LimitedSource S)) → Mode → CodeHeader
      → Both (MutBor F) (MutBor F) → Result T (Interrupt X) → Type 0
  RanOverSource c mode h op r = RanBy step mode (header_of h) (stream c.entry.now.source) c.entry.now.limit op.entry.now r op.exit.now
      (stream c.exit.now.source) c.exit.now.limit
