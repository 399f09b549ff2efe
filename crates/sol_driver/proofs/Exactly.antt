-- Each status comes exactly where its cause is, as far as that holds.
use Rattle.std.proofs.Common.{◌≡◌, ◌≢◌, ◌↔◌, ◌⊎◌, inl, inr, refl, sym, subst, ◌∙◌, ℕ, ◌+◌, ◌-◌, ◌^◌, ◌<◌, ◌≤◌, min, List, length, map, Option, Some, None, IfSome, arith}
use Rattle.std.specs.Prelude.{string_bytes}
use Rattle.std.proofs.Math.Nat.{min-eq_left}
use Rattle.sol_outside.specs.Causes.{Rose}
use Rattle.sol_report.specs.declared.Report.{Report}
use Rattle.sol_driver.specs.declared.outcome.Status.{Status}
use Rattle.sol_driver.specs.declared.outcome.Status.TheVariants as status
use Rattle.sol_words.specs.declared.Request.{Request}
use Rattle.sol_words.specs.declared.Request.TheVariants as form
use Rattle.sol_words.specs.Request.{request, source_of}
use Rattle.sol_driver.specs.Ends.{Asked, Told, Asks, NoReadFault, NoWriteFault, WasRead, Reported, Shown, TooLong, long_source, long_script, Found, ToldWhole, ToldPart, EndsAs, EndsWith}
use Rattle.sol_driver.specs.Exactly.{Undisturbed, CanRise, Holds, HasReport, HasReplay, HasLongScript, Judges}

-- ---- one status or another

words-or : (s : Status) → (s ≡ status.Words) ⊎ (s ≢ status.Words)
words-or status.Good = inr (λ e. (cc))
words-or status.Unsafe = inr (λ e. (cc))
words-or status.Unknown = inr (λ e. (cc))
words-or status.Source = inr (λ e. (cc))
words-or status.Words = inl refl
words-or status.ReadFault = inr (λ e. (cc))
words-or status.WriteFault = inr (λ e. (cc))
words-or status.NoMemory = inr (λ e. (cc))
words-or status.TooLong = inr (λ e. (cc))
words-or status.Script = inr (λ e. (cc))

read-or : (s : Status) → (s ≡ status.ReadFault) ⊎ (s ≢ status.ReadFault)
read-or status.Good = inr (λ e. (cc))
read-or status.Unsafe = inr (λ e. (cc))
read-or status.Unknown = inr (λ e. (cc))
read-or status.Source = inr (λ e. (cc))
read-or status.Words = inr (λ e. (cc))
read-or status.ReadFault = inl refl
read-or status.WriteFault = inr (λ e. (cc))
read-or status.NoMemory = inr (λ e. (cc))
read-or status.TooLong = inr (λ e. (cc))
read-or status.Script = inr (λ e. (cc))

long-or : (s : Status) → (s ≡ status.TooLong) ⊎ (s ≢ status.TooLong)
long-or status.Good = inr (λ e. (cc))
long-or status.Unsafe = inr (λ e. (cc))
long-or status.Unknown = inr (λ e. (cc))
long-or status.Source = inr (λ e. (cc))
long-or status.Words = inr (λ e. (cc))
long-or status.ReadFault = inr (λ e. (cc))
long-or status.WriteFault = inr (λ e. (cc))
long-or status.NoMemory = inr (λ e. (cc))
long-or status.TooLong = inl refl
long-or status.Script = inr (λ e. (cc))

write-or : (s : Status) → (s ≡ status.WriteFault) ⊎ (s ≢ status.WriteFault)
write-or status.Good = inr (λ e. (cc))
write-or status.Unsafe = inr (λ e. (cc))
write-or status.Unknown = inr (λ e. (cc))
write-or status.Source = inr (λ e. (cc))
write-or status.Words = inr (λ e. (cc))
write-or status.ReadFault = inr (λ e. (cc))
write-or status.WriteFault = inl refl
write-or status.NoMemory = inr (λ e. (cc))
write-or status.TooLong = inr (λ e. (cc))
write-or status.Script = inr (λ e. (cc))

-- ---- what was found

-- a status that is told whole
told-whole : (a : Asked) (t : Told) (s : Status) (r : Option Report) → EndsAs a t s r → Undisturbed s → ToldWhole a t s r
told-whole a t status.Good r h u = h
told-whole a t status.Unsafe r h u = h
told-whole a t status.Unknown r h u = h
told-whole a t status.Source r h u = h
told-whole a t status.Words r h u = h
told-whole a t status.ReadFault r h u = h
told-whole a t status.WriteFault r h u = absurd (u.0 refl)
told-whole a t status.NoMemory r h u = absurd (u.1 refl)
told-whole a t status.TooLong r h u = h
told-whole a t status.Script r h u = h

long-asks : (a : Asked) → TooLong a → (q : Request) × Asks a q
long-asks a (long_source q asks good more) = (q, asks)
long-asks a (long_script source script target asks bytes read c has more) = (form.Replay source script target, asks)

-- the words ask something, but where they are refused
found-asks : (a : Asked) (s : Status) (r : Option Report) (text : List ℕ) → Found a s r text → s ≢ status.Words → (q : Request) × Asks a q
found-asks a status.Good (Some r) text f n = (form.Check f.0.source, f.0.asks)
found-asks a status.Good None text (inl f) n = (form.Targets f.source, f.asks)
found-asks a status.Good None text (inr f) n = (form.Replay f.source f.script f.target, f.asks)
found-asks a status.Unsafe (Some r) text f n = (form.Check f.0.source, f.0.asks)
found-asks a status.Unsafe None text f n = absurd f
found-asks a status.Unknown (Some r) text f n = (form.Check f.0.source, f.0.asks)
found-asks a status.Unknown None text f n = absurd f
found-asks a status.Source None text f n = (f.request, f.asks)
found-asks a status.Source (Some r) text f n = absurd f
found-asks a status.Words None text f n = absurd (n refl)
found-asks a status.Words (Some r) text f n = absurd f
found-asks a status.ReadFault None text f n = (f.0.request, f.0.asks)
found-asks a status.ReadFault (Some r) text f n = absurd f
found-asks a status.WriteFault r text f n = absurd f
found-asks a status.NoMemory r text f n = absurd f
found-asks a status.TooLong None text f n = long-asks a f.0
found-asks a status.TooLong (Some r) text f n = absurd f
found-asks a status.Script None text f n = (form.Replay f.source f.script f.target, f.asks)
found-asks a status.Script (Some r) text f n = absurd f

long-good : (a : Asked) → TooLong a → NoReadFault a
long-good a (long_source q asks good more) = good
long-good a (long_script source script target asks bytes read c has more) = read.good

-- no read failed, but where that is told
found-good : (a : Asked) (s : Status) (r : Option Report) (text : List ℕ) → Found a s r text → s ≢ status.ReadFault → NoReadFault a
found-good a status.Good (Some r) text f n = f.0.read.good
found-good a status.Good None text (inl f) n = f.read.good
found-good a status.Good None text (inr f) n = f.read.good
found-good a status.Unsafe (Some r) text f n = f.0.read.good
found-good a status.Unsafe None text f n = absurd f
found-good a status.Unknown (Some r) text f n = f.0.read.good
found-good a status.Unknown None text f n = absurd f
found-good a status.Source None text f n = f.read.good
found-good a status.Source (Some r) text f n = absurd f
found-good a status.Words None text f n = f.0.1
found-good a status.Words (Some r) text f n = absurd f
found-good a status.ReadFault None text f n = absurd (n refl)
found-good a status.ReadFault (Some r) text f n = absurd f
found-good a status.WriteFault r text f n = absurd f
found-good a status.NoMemory r text f n = absurd f
found-good a status.TooLong None text f n = long-good a f.0
found-good a status.TooLong (Some r) text f n = absurd f
found-good a status.Script None text f n = f.read.good
found-good a status.Script (Some r) text f n = absurd f

found-words : (a : Asked) (r : Option Report) (text : List ℕ) → Found a status.Words r text → request (map string_bytes a.words) ≡ None
found-words a None text f = f.0.0
found-words a (Some r) text f = absurd f

found-rose : (a : Asked) (r : Option Report) (text : List ℕ) → Found a status.ReadFault r text → Rose a.faults_before a.faults_after
found-rose a None text f = f.0.rose
found-rose a (Some r) text f = absurd f

found-long : (a : Asked) (r : Option Report) (text : List ℕ) → Found a status.TooLong r text → TooLong a
found-long a None text f = f.0
found-long a (Some r) text f = absurd f

-- ---- counts and names

not-rose : (before now : ℕ) → CanRise before → now ≡ before → Rose before now → ⊥
not-rose before now room same rose =
    let more : before + 1 ≤ 2 ^ 64 - 1 = omega (arith, room) in
    let up : min (before + 1) (2 ^ 64 - 1) ≡ before + 1 = min-eq_left more in
    omega (arith, same, rose, up)

not-both : (a : Asked) (q : Request) → request (map string_bytes a.words) ≡ None → Asks a q → ⊥
not-both a q h k = (cc)

some-same : (q p : Request) → Some q ≡ Some p → q ≡ p
some-same q p e = (cc)

same-request : (a : Asked) (q p : Request) → Asks a q → Asks a p → q ≡ p
same-request a q p h k = some-same q p (sym h ∙ k)

-- what is said of the bytes of a source is said of the bytes that it holds
held-is : (a : Asked) (text : List ℕ) (q : Request) (P : List ℕ → Type 0) → Holds a text → Asks a q → IfSome (a.holds (source_of q).file) P → P text
held-is a text q P h asks p =
    let same : q ≡ h.request = same-request a q h.request asks h.asks in
    let there : IfSome (a.holds (source_of h.request).file) P = subst (λ (r : Request). IfSome (a.holds (source_of r).file) P) same p in
    let known : IfSome (Some text) P = subst (λ (o : Option (List ℕ)). IfSome o P) h.held there in
    known

read-is : (a : Asked) (text bytes : List ℕ) (q : Request) → Holds a text → Asks a q → WasRead a (source_of q).file bytes → text ≡ bytes
read-is a text bytes q h asks w = held-is a text q (λ those. those ≡ bytes) h asks w.held

-- ---- laws

pub words-exact : (a : Asked) (t : Told) (s : Status) → EndsWith a t s → Undisturbed s → (request (map string_bytes a.words) ≡ None) ↔ (s ≡ status.Words)
words-exact a t s e u =
    let w = told-whole a t s e.0 e.1 u in (
      λ h. elim (words-or s) [
        | inl is ↦ is
        | inr not ↦ let n = found-asks a s e.0 w.text w.found not in absurd (not-both a n.0 h n.1)
      ],
      λ is. found-words a e.0 w.text (subst (λ (s : Status). Found a s e.0 w.text) is w.found),
    )

pub read-exact : (a : Asked) (t : Told) (s : Status) → EndsWith a t s → Undisturbed s → CanRise a.faults_before → Rose a.faults_before a.faults_after ↔ (s ≡ status.ReadFault)
read-exact a t s e u room =
    let w = told-whole a t s e.0 e.1 u in (
      λ h. elim (read-or s) [
        | inl is ↦ is
        | inr not ↦ absurd (not-rose a.faults_before a.faults_after room (found-good a s e.0 w.text w.found not) h)
      ],
      λ is. found-rose a e.0 w.text (subst (λ (s : Status). Found a s e.0 w.text) is w.found),
    )

reported-judges : (a : Asked) (s : Status) (r : Report) (text : List ℕ) → Reported a s r → Holds a text → (length text ≤ 262144) × HasReport a text s
reported-judges a s r text f h =
    let same = read-is a text f.bytes (form.Check f.source) h f.asks f.read in
    (rw same f.read.short, record { source = f.source; asks = f.asks; report = r; stands = rw same f.stands; gives = f.status })

shown-judges : (a : Asked) (s : Status) (said text : List ℕ) → Shown a s said → Holds a text → (length text ≤ 262144) × HasReplay a text s
shown-judges a s said text f h =
    let same = read-is a text f.bytes (form.Replay f.source f.script f.target) h f.asks f.read in
    (rw same f.read.short, record { source = f.source; script = f.script; target = f.target; asks = f.asks; contract = f.contract; has = rw same f.has; script_text = f.script_bytes; held = f.script_read.held; replayed = f.replayed; replays = f.replays; gives = f.status })

long-judges : (a : Asked) (text : List ℕ) → TooLong a → Holds a text → (262144 < length text) ⊎ ((length text ≤ 262144) × HasLongScript a text)
long-judges a text (long_source q asks good more) h = inl (held-is a text q (λ those. 262144 < length those) h asks more)
long-judges a text (long_script source script target asks bytes read c has more) h =
    let same = read-is a text bytes (form.Replay source script target) h asks read in
    inr (rw same read.short, record { source = source; script = script; target = target; asks = asks; contract = c; has = rw same has; long = more })

in-good : (a : Asked) (text : List ℕ) → (length text ≤ 262144) × HasReport a text status.Good → (length text ≤ 262144) × Judges a text status.Good
in-good a text h = (h.0, inl h.1)

-- what the status of a text that was read says of it
found-judges : (a : Asked) (s : Status) (r : Option Report) (said text : List ℕ) → Found a s r said → CanRise a.faults_before → NoReadFault a → Holds a text → ((262144 < length text) × (s ≡ status.TooLong)) ⊎ ((length text ≤ 262144) × Judges a text s)
found-judges a status.Good (Some r) said text f room good h = inr (in-good a text (reported-judges a status.Good r text f.0 h))
found-judges a status.Good None said text (inl f) room good h =
    let same = read-is a text f.bytes (form.Targets f.source) h f.asks f.read in
    inr (rw same f.read.short, inr (inl (record { source = f.source; asks = f.asks; contract = f.contract; has = rw same f.has })))
found-judges a status.Good None said text (inr f) room good h = let j = shown-judges a status.Good said text f h in inr (j.0, inr (inr j.1))
found-judges a status.Unsafe (Some r) said text f room good h = inr (reported-judges a status.Unsafe r text f.0 h)
found-judges a status.Unsafe None said text f room good h = absurd f
found-judges a status.Unknown (Some r) said text f room good h = inr (reported-judges a status.Unknown r text f.0 h)
found-judges a status.Unknown None said text f room good h = absurd f
found-judges a status.Source None said text f room good h =
    let same = read-is a text f.bytes f.request h f.asks f.read in
    inr (rw same f.read.short, record { request = f.request; asks = f.asks; line = said; refused = rw same f.refused })
found-judges a status.Source (Some r) said text f room good h = absurd f
found-judges a status.Words r said text f room good h = absurd (not-both a h.request (found-words a r said f) h.asks)
found-judges a status.ReadFault r said text f room good h = absurd (not-rose a.faults_before a.faults_after room good (found-rose a r said f))
found-judges a status.WriteFault r said text f room good h = absurd f
found-judges a status.NoMemory r said text f room good h = absurd f
found-judges a status.TooLong r said text f room good h =
    elim (long-judges a text (found-long a r said f) h) [
      | inl more ↦ inl (more, refl)
      | inr j ↦ inr j
    ]
found-judges a status.Script None said text f room good h = inr (shown-judges a status.Script said text f h)
found-judges a status.Script (Some r) said text f room good h = absurd f

pub long-exact : (a : Asked) (t : Told) (s : Status) (text : List ℕ) → EndsWith a t s → Undisturbed s → CanRise a.faults_before → NoReadFault a → Holds a text → 262144 < length text → s ≡ status.TooLong
long-exact a t s text e u room good h more =
    let w = told-whole a t s e.0 e.1 u in
    elim (found-judges a s e.0 w.text text w.found room good h) [
      | inl is ↦ is.1
      | inr j ↦ absurd (omega (arith, more, j.0))
    ]

pub judged-exact : (a : Asked) (t : Told) (s : Status) (text : List ℕ) → EndsWith a t s → Undisturbed s → CanRise a.faults_before → NoReadFault a → Holds a text → length text ≤ 262144 → Judges a text s
judged-exact a t s text e u room good h short =
    let w = told-whole a t s e.0 e.1 u in
    elim (found-judges a s e.0 w.text text w.found room good h) [
      | inl is ↦ absurd (omega (arith, is.0, short))
      | inr j ↦ j.1
    ]

-- no put failed, but where that is told or memory was wanting
ends-good : (a : Asked) (t : Told) (s : Status) (r : Option Report) → EndsAs a t s r → s ≢ status.NoMemory → s ≢ status.WriteFault → NoWriteFault t
ends-good a t s r e m w = (told-whole a t s r e (w, m)).good

ends-rose : (a : Asked) (t : Told) (r : Option Report) → ToldPart a t r → Rose t.faults_before t.faults_after
ends-rose a t r p = p.rose

pub write-exact : (a : Asked) (t : Told) (s : Status) → EndsWith a t s → s ≢ status.NoMemory → CanRise t.faults_before → Rose t.faults_before t.faults_after ↔ (s ≡ status.WriteFault)
write-exact a t s e m room = (
  λ h. elim (write-or s) [
    | inl is ↦ is
    | inr not ↦ absurd (not-rose t.faults_before t.faults_after room (ends-good a t s e.0 e.1 m not) h)
  ],
  λ is. ends-rose a t e.0 (subst (λ (s : Status). EndsAs a t s e.0) is e.1),
)

pub ruleset statuses = (words-exact, read-exact, long-exact, write-exact)
