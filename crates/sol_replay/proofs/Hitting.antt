-- What a run, a text and a test of a script say of a replay.
use Rattle.std.proofs.Common.{◌≡◌, ◌∙◌, sym, ap, refl, ℕ, zero, suc, ◌+◌, ◌<◌, ◌≤◌, List, [], ◌∷◌, length, get_or, slice_get, Some, None, Result, Ok, Err, IfOk, Contains, inl, inr, arith}
use Rattle.lists.proofs.Places.{less-or-same}
use Rattle.chc_nums.specs.declared.limits.TheConstants.{MAX_TURNS}
use Rattle.sol_core.specs.declared.Program.{Program}
use Rattle.sol_core.specs.declared.Script.{Script}
use Rattle.sol_core.specs.declared.Site.{Site}
use Rattle.sol_meaning.specs.Run.{run, Violates}
use Rattle.sol_eval.specs.declared.outcome.Run.{Run}
use Rattle.sol_eval.specs.Runs.{IsRun}
use Rattle.lists.specs.declared.memory.NoMemory.{NoMemory}
use Rattle.sol_core.specs.declared.ScriptFault.{ScriptFault}
use Rattle.sol_core.specs.ScriptFaults.{first_fault, visits}
use Rattle.sol_core.proofs.Fitting.{fits_where}
use Rattle.sol_script.specs.Reading.{read_script}
use Rattle.sol_replay.specs.declared.shown.Replayed.{Replayed}
use Rattle.sol_replay.specs.declared.shown.Replayed.TheVariants as replayed
use Rattle.sol_replay.specs.Replays.{HitsAmong, IsHit, Told, Shown, Replays}
use Rattle.sol_replay.proofs.Visits.{told-few}

-- ---- looking through the hits

get_or-any : (xs : List ℕ) (i d e : ℕ) → i < length xs → get_or xs i d ≡ get_or xs i e
get_or-any [] i d e h = absurd (omega (arith, h))
get_or-any (x ∷ xs) zero d e h = refl
get_or-any (x ∷ xs) (suc i) d e h = get_or-any xs i d e (omega (arith, h))

-- none of the first hits is at the target
abbrev pub NoneBefore : List Site → List ℕ → Site → ℕ → Type 0
NoneBefore sites hits target i = (j d : ℕ) → j < i → slice_get sites (get_or hits j d) ≡ Some target → ⊥

pub none-first : (sites : List Site) (hits : List ℕ) (target : Site) → NoneBefore sites hits target 0
none-first sites hits target j d h e = omega (arith, h)

pub none-next : (sites : List Site) (hits : List ℕ) (target : Site) (i x : ℕ) → NoneBefore sites hits target i → i < length hits → x ≡ get_or hits i x → (slice_get sites x ≡ Some target → ⊥) → NoneBefore sites hits target (i + 1)
none-next sites hits target i x before within is never j d h e =
    elim (less-or-same j i (omega (arith, h))) [
      | inl less ↦ before j d less e
      | inr same ↦
          let here : get_or hits j d ≡ x = ap (λ k. get_or hits k d) same ∙ get_or-any hits i d x within ∙ sym is in
          never (ap (slice_get sites) (sym here) ∙ e)
    ]

pub none-among : (sites : List Site) (hits : List ℕ) (target : Site) (i : ℕ) → NoneBefore sites hits target i → length hits ≤ i → HitsAmong sites hits target → ⊥
none-among sites hits target i before past h =
    let j = h.1.0 in
    let within : j < length hits = h.1.1 in
    let here : get_or hits j h.0 ≡ h.0 = h.1.2 in
    before j h.0 (omega (arith, within, past)) (ap (slice_get sites) here ∙ h.2)

pub some-among : (sites : List Site) (hits : List ℕ) (target : Site) (i x : ℕ) → i < length hits → x ≡ get_or hits i x → slice_get sites x ≡ Some target → HitsAmong sites hits target
some-among sites hits target i x within is e = (x, (i, within, sym is), e)

-- none of the first targets is this one
abbrev pub NoneIs : List Site → Site → ℕ → Type 0
NoneIs sites target i = (j : ℕ) → j < i → get_or sites j target ≡ target → ⊥

pub nobody-first : (sites : List Site) (target : Site) → NoneIs sites target 0
nobody-first sites target j h e = omega (arith, h)

site-any : (xs : List Site) (i : ℕ) (d e : Site) → i < length xs → get_or xs i d ≡ get_or xs i e
site-any [] i d e h = absurd (omega (arith, h))
site-any (x ∷ xs) zero d e h = refl
site-any (x ∷ xs) (suc i) d e h = site-any xs i d e (omega (arith, h))

pub nobody-next : (sites : List Site) (target : Site) (i : ℕ) (x : Site) → NoneIs sites target i → i < length sites → x ≡ get_or sites i x → (x ≡ target → ⊥) → NoneIs sites target (i + 1)
nobody-next sites target i x before within is never j h e =
    elim (less-or-same j i (omega (arith, h))) [
      | inl less ↦ before j less e
      | inr same ↦ never (is ∙ site-any sites i x target within ∙ ap (λ k. get_or sites k target) (sym same) ∙ e)
    ]

pub nobody-among : (sites : List Site) (target : Site) (i : ℕ) → NoneIs sites target i → length sites ≤ i → Contains sites target → ⊥
nobody-among sites target i before past h = let within : h.0 < length sites = h.1 in before h.0 (omega (arith, within, past)) h.2

pub somebody-among : (sites : List Site) (target : Site) (i : ℕ) (x : Site) → i < length sites → x ≡ get_or sites i x → x ≡ target → Contains sites target
somebody-among sites target i x within is e = (i, within, site-any sites i target x within ∙ sym is ∙ e)

pub ruleset seeking = (nobody-first, nobody-next, nobody-among, somebody-among)

pub ruleset looking = (none-first, none-next, none-among, some-among)

-- ---- runs

-- a hit of the computed run is one of the run, and the other way round
pub hit-of : (p : Program) (s : Script) (target : Site) (r : Run) → IsRun (run p s MAX_TURNS) r → HitsAmong p.sites r.hits target → IsHit p s target
hit-of p s target r is h = (h.0, (is.sites h.0).0 h.1, h.2)

pub no-hit : (p : Program) (s : Script) (target : Site) (r : Run) → IsRun (run p s MAX_TURNS) r → (HitsAmong p.sites r.hits target → ⊥) → IsHit p s target → ⊥
no-hit p s target r is never h = never (h.0, (is.sites h.0).1 h.1, h.2)

-- ---- texts

pub the-told : (p : Program) (text : List ℕ) (s : Script) → read_script p text ≡ Ok s → first_fault 0 (visits p s) ≡ None → Told p text s
the-told p text s read none = record { read = read; fits = (fits_where p s).1 none }

pub told-shown : (p : Program) (text : List ℕ) (target : Site) (s : Script) (r : Result Replayed NoMemory) → Contains p.sites target → Told p text s → IfOk r (λ x. Shown p s target x) → IfOk r (λ x. Replays p text target x)
told-shown p text target s (Ok replayed.Violated) there told h = (s, told, h)
told-shown p text target s (Ok replayed.NotViolated) there told h = (there, (s, told, h))
told-shown p text target s (Ok replayed.ScriptRefused) there told h = absurd h
told-shown p text target s (Ok replayed.NoTarget) there told h = absurd h
told-shown p text target s (Err e) there told h = tt

-- a text tells one script, and where that one has a fault, none that fits
pub told-unfit : (p : Program) (text : List ℕ) (s : Script) (e : ScriptFault) → read_script p text ≡ Ok s → first_fault 0 (visits p s) ≡ Some e → (other : Script) → Told p text other → ⊥
told-unfit p text s e read fault other told =
    let none : first_fault 0 (visits p other) ≡ None = (fits_where p other).0 told.fits in
    let same : Ok s ≡ Ok other = sym read ∙ told.read in
    let is : s ≡ other = (cc) in
    let both : Some e ≡ None = sym fault ∙ ap (λ z. first_fault 0 (visits p z)) is ∙ none in
    absurd (cc)

pub ruleset telling = (told-few)
