-- What some bytes give is found of the file that holds them.
use Rattle.std.proofs.Common.{◌≡◌, ◌∙◌, ◌⊎◌, Bool, true, false, if◌then◌else◌, inl, inr, ◌≤◌, ◌<◌, ◌^◌, ℕ, List, refl, subst, sym, ap, arith, Option, Some, None, Result, Ok, Err, IfOk, length, IfSome}
use Rattle.std.specs.List.{concat}
use Rattle.lists.specs.declared.memory.NoMemory.{NoMemory}
use Rattle.sol_core.specs.declared.Site.{Site}
use Rattle.sol_outside.specs.Causes.{Rose}
use Rattle.sol_words.specs.declared.Request.{Request}
use Rattle.sol_words.specs.declared.Request.TheVariants as form
use Rattle.sol_words.specs.declared.Source.{Source}
use Rattle.sol_words.specs.Request.{source_of}
use Rattle.sol_first.specs.declared.Contract.{Contract}
use Rattle.sol_first.specs.Elaborated.{program_of}
use Rattle.sol_first.specs.Typed.{IsTyped}
use Rattle.sol_replay.specs.declared.shown.Replayed.{Replayed}
use Rattle.sol_replay.specs.declared.shown.Replayed.TheVariants as replayed
use Rattle.sol_replay.specs.Replays.{Replays}
use Rattle.sol_report.specs.declared.Report.{Report}
use Rattle.sol_report.specs.Texts.{text_of}
use Rattle.sol_driver.specs.declared.outcome.Status.{Status}
use Rattle.sol_driver.specs.declared.outcome.Status.TheVariants as status
use Rattle.sol_driver.specs.declared.find.Finding.{Finding}
use Rattle.sol_driver.specs.declared.find.Finding.TheVariants as finding
use Rattle.sol_driver.specs.Stands.{HasContract, Stands}
use Rattle.sol_driver.specs.Ends.{Asked, Asks, NoReadFault, WasRead, IsLong, Shown, long_source, long_script, Found}
use Rattle.sol_driver.specs.Texts.{is_unsafe, is_unknown, some_verdict, status_of, replay_line, replay_status}
use Rattle.sol_driver.specs.Findings.{IsFinding, Answers, checked, listed, shown, failed, long, IsJudged, refused, answered}

-- the status of verdicts is one of three
by-tests : (a b : Bool) → ((if a then status.Unsafe else (if b then status.Unknown else status.Good)) ≡ status.Good) ⊎ (((if a then status.Unsafe else (if b then status.Unknown else status.Good)) ≡ status.Unsafe) ⊎ ((if a then status.Unsafe else (if b then status.Unknown else status.Good)) ≡ status.Unknown))
by-tests true b = inr (inl refl)
by-tests false true = inr (inr refl)
by-tests false false = inl refl

found-report : (a : Asked) (source : Source) (bytes : List ℕ) (r : Report) → Asks a (form.Check source) → WasRead a source.file bytes → Stands source.contract bytes r → Found a (status_of r.verdicts) (Some r) (text_of r)
found-report a source bytes r asks w h =
    elim (by-tests (some_verdict is_unsafe r.verdicts) (some_verdict is_unknown r.verdicts)) [
      | inl e ↦ subst (λ (s : Status). Found a s (Some r) (text_of r)) (sym e) (record { source = source; asks = asks; bytes = bytes; read = w; stands = h; status = e }, refl)
      | inr other ↦ elim other [
        | inl e ↦ subst (λ (s : Status). Found a s (Some r) (text_of r)) (sym e) (record { source = source; asks = asks; bytes = bytes; read = w; stands = h; status = e }, refl)
        | inr e ↦ subst (λ (s : Status). Found a s (Some r) (text_of r)) (sym e) (record { source = source; asks = asks; bytes = bytes; read = w; stands = h; status = e }, refl)
      ]
    ]

found-shown : (a : Asked) (r : Replayed) → Shown a (replay_status r) (replay_line r) → Found a (replay_status r) None (replay_line r)
found-shown a replayed.Violated h = inr h
found-shown a replayed.NotViolated h = h
found-shown a replayed.ScriptRefused h = h
found-shown a replayed.NoTarget h = h

-- what a shelf tells of the bytes that it gave
same-held : (held : Option (List ℕ)) (bytes : List ℕ) → IfSome held (λ those. bytes ≡ those) → IfSome held (λ those. those ≡ bytes)
same-held None bytes h = tt
same-held (Some those) bytes h = sym h

-- the source was read when the count of faults stood at a number, and no read failed
pub record SourceRead (a : Asked) (q : Request) (bytes : List ℕ) (mid : ℕ) : Type 0 where
  pub asks : Asks a q
  pub same : mid ≡ a.faults_before
  pub held : IfSome (a.holds (source_of q).file) (λ those. bytes ≡ those)
  pub short : length bytes ≤ 262144

was-read : (a : Asked) (q : Request) (bytes : List ℕ) (mid : ℕ) → SourceRead a q bytes mid → a.faults_after ≡ mid → WasRead a (source_of q).file bytes
was-read a q bytes mid h e = record { good = e ∙ h.same; held = same-held (a.holds (source_of q).file) bytes h.held; short = h.short }

answer-found : (a : Asked) (q : Request) (bytes : List ℕ) (mid : ℕ) (c : Contract) (f : Finding) → SourceRead a q bytes mid → HasContract (source_of q).contract bytes c → Answers c a.holds mid a.faults_after q f → IsFinding a f
answer-found a _ bytes mid c _ h has (checked {source} {r} e right) = found-report a source bytes r h.asks (was-read a (form.Check source) bytes mid h e) (record { contract = c; has = has; report = right })
answer-found a _ bytes mid c _ h has (listed {source} {lines} e is) = inl (record { source = source; asks = h.asks; bytes = bytes; read = was-read a (form.Targets source) bytes mid h e; contract = c; has = has; text_is = ap concat is })
answer-found a _ bytes mid c _ h has (shown {source} {script} {target} {r} those e held short replays) =
    let read = was-read a (form.Replay source script target) bytes mid h e in
    found-shown a r (record { source = source; script = script; target = target; asks = h.asks; bytes = bytes; read = read; contract = c; has = has; script_bytes = those; script_read = record { good = read.good; held = same-held (a.holds script) those held; short = short }; replayed = r; replays = replays; status = refl; text_is = refl })
answer-found a _ bytes mid c _ h has (failed {source} {script} {target} rose) = (record { request = form.Replay source script target; asks = h.asks; rose = rw h.same at rose }, refl)
answer-found a _ bytes mid c _ h has (long {source} {script} {target} e more) = (long_script source script target h.asks bytes (was-read a (form.Replay source script target) bytes mid h e) c has more, refl)

pub judged-found : (a : Asked) (q : Request) (bytes : List ℕ) (mid : ℕ) (f : Finding) → SourceRead a q bytes mid → IsJudged q bytes a.holds mid a.faults_after f → IsFinding a f
judged-found a q bytes mid _ h (refused {line} e r) = record { request = q; asks = h.asks; bytes = bytes; read = was-read a q bytes mid h e; refused = r }
judged-found a q bytes mid f h (answered c has x) = answer-found a q bytes mid c f h has x

pub judged-found-ok : (a : Asked) (q : Request) (bytes : List ℕ) (mid : ℕ) (r : Result Finding NoMemory) → SourceRead a q bytes mid → IfOk r (λ f. IsJudged q bytes a.holds mid a.faults_after f) → IfOk r (λ f. IsFinding a f)
judged-found-ok a q bytes mid (Ok f) h j = judged-found a q bytes mid f h j
judged-found-ok a q bytes mid (Err e) h j = tt

pub too-long-found : (a : Asked) (q : Request) → Asks a q → NoReadFault a → IsLong a (source_of q).file → IsFinding a (finding.Line status.TooLong)
too-long-found a q asks good more = (long_source q asks good more, refl)

-- ---- what a contract of the language gives

pub contract-typed : (name : Option (List ℕ)) (bytes : List ℕ) (c : Contract) → HasContract name bytes c → IsTyped c
contract-typed name bytes c h = h.first.good.typed

pub contract-few : (name : Option (List ℕ)) (bytes : List ℕ) (c : Contract) → HasContract name bytes c → length c.functions < 2 ^ 32
contract-few name bytes c h = omega (arith, h.first.good.few_functions)

pub ruleset answering = (checked, listed, shown, failed, long)

pub ruleset judging = (refused, answered, contract-typed, contract-few)
