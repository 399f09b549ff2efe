-- Calls: of functions, of `push` and `pop`, and conversions to interfaces, which are written like calls (Solidity's
-- documentation, "Function Calls"). Rules 1, 6, 8, 9, 11 and 25.
use Rattle.std.specs.Prelude.{ℕ, List, [], ◌∷◌, ◌++◌, Option, Some, None, Bool, true, false, if◌then◌else◌, slice_get}
use Rattle.sol_core.specs.declared.program.Expr.{Expr}
use Rattle.sol_judged.specs.declared.rules.Rule.{Rule}
use Rattle.sol_judged.specs.declared.rules.Rule.TheVariants as rule
use Rattle.sol_judged.specs.declared.types.ValueType.{ValueType}
use Rattle.sol_judged.specs.declared.tables.Function.{Function}
use Rattle.sol_judged.specs.declared.tables.OuterFunction.{OuterFunction}
use Rattle.sol_judged.specs.Settings.{Setting}
use Rattle.sol_judged.specs.declared.findings.Found.TheVariants as is
use Rattle.sol_judged.specs.declared.findings.Thing.{Thing}
use Rattle.sol_judged.specs.declared.findings.Thing.TheVariants as thing
use Rattle.sol_judged.specs.declared.findings.Call.TheVariants as call
use Rattle.sol_judged.specs.Judged.{Judged, sound, broken, broken_both, ◌>>=◌}
use Rattle.sol_judged.specs.Found.{Seen, Known, Spoilt, Unknown, blank}
use Rattle.sol_judged.specs.Operands.{wanted}
use Rattle.sol_judged.specs.Conversions.{interface_of}

-- ---- arguments

-- an argument for a parameter of a type
abbrev pub argument_of : Rule → ℕ → ValueType → ℕ × Judged Seen → Judged Expr
argument_of broken_rule at t a = a.1 >>= wanted broken_rule at t a.0

-- arguments, each at its first token, after those that are judged already; a rule is broken at a place where they are fewer or
-- more than the parameters, or don't convert
abbrev pub arguments_onto : Rule → ℕ → List Expr → List ValueType → List (ℕ × Judged Seen) → Judged (List Expr)
arguments_onto broken_rule at es [] [] = sound es
arguments_onto broken_rule at es (p ∷ ps) [] = broken broken_rule at es
arguments_onto broken_rule at es [] (a ∷ more) = do
  none ← broken broken_rule at es
  s ← a.1
  arguments_onto broken_rule at none [] more
arguments_onto broken_rule at es (p ∷ ps) (a ∷ more) = do
  e ← argument_of broken_rule at p a
  arguments_onto broken_rule at (es ++ e ∷ []) ps more

-- the faults in arguments of which nothing is wanted
abbrev pub each : {A : Type 0} → A → List (ℕ × Judged Seen) → Judged A
each found [] = sound found
each found (a ∷ more) = a.1 >>= λ s. each found more

-- what can't be called breaks a rule at a place, and its arguments may have faults besides
abbrev pub uncalled : Rule → ℕ → List (ℕ × Judged Seen) → Judged Seen
uncalled broken_rule at more = broken broken_rule at Unknown >>= λ s. each s more

-- ---- functions

-- by its bare name a function is not external, and a function has a body; else rule 9 is broken at the name
abbrev pub callable : ℕ → Bool → Function → Option ℕ → Judged ℕ
callable at is_member f None = broken rule.CalledFunction at 0
callable at true f (Some n) = sound n
callable at false f (Some n) = if f.is_external then broken rule.CalledFunction at n else sound n

abbrev pub inner_call : ℕ → ℕ → Bool → Option Function → List (ℕ × Judged Seen) → Judged Seen
inner_call opened at is_member None more = uncalled rule.Naming at more
inner_call opened at is_member (Some f) more = do
  n ← callable at is_member f f.number
  es ← arguments_onto rule.Arguments opened [] f.params more
  sound (Known (is.Call opened (call.Inner n es f.ret f.is_view)))

-- until static calls are read, a function of an interface that is called is neither view nor pure; else rule 25 is broken at
-- its name
abbrev pub writing : ℕ → Bool → Judged Bool
writing at true = broken rule.ViewCall at true
writing at false = sound false

abbrev pub outer_call : ℕ → ℕ → ℕ → Expr → Option OuterFunction → List (ℕ × Judged Seen) → Judged Seen
outer_call opened at n e None more = uncalled rule.Naming at more
outer_call opened at n e (Some f) more = do
  w ← writing at f.is_view
  es ← arguments_onto rule.Arguments opened [] f.params more
  sound (Known (is.Call opened (call.Outer n e es f.ret)))

-- ---- arrays and interfaces

abbrev pub pushed : ℕ → ℕ → Expr → Judged Seen
pushed opened a e = sound (Known (is.Call opened (call.Push a e)))

-- `push` of one value, or of none for a zero; a value that doesn't convert breaks rule 6 at `push`
abbrev pub push_call : ℕ → ℕ → ℕ → ValueType → List (ℕ × Judged Seen) → Judged Seen
push_call opened at a t [] = pushed opened a (blank t)
push_call opened at a t (x ∷ []) = argument_of rule.AssignedValue at t x >>= pushed opened a
push_call opened at a t more = uncalled rule.Arguments opened more

abbrev pub pop_call : ℕ → ℕ → ℕ → List (ℕ × Judged Seen) → Judged Seen
pop_call opened at a [] = sound (Known (is.Call opened (call.Pop a at)))
pop_call opened at a more = uncalled rule.Arguments opened more

-- an argument as a value of an interface
abbrev pub interface_from_argument : ℕ → ℕ → ℕ × Judged Seen → Judged Seen
interface_from_argument opened i x = x.1 >>= interface_of opened i x.0

-- an interface's name before one argument
abbrev pub interface_call : ℕ → ℕ → List (ℕ × Judged Seen) → Judged Seen
interface_call opened i (x ∷ []) = interface_from_argument opened i x
interface_call opened i more = broken_both rule.Arguments opened rule.Conversion opened Unknown >>= λ s. each s more

abbrev pub thing_call : Setting → ℕ → ℕ → Thing → List (ℕ × Judged Seen) → Judged Seen
thing_call w opened at (thing.Function f is_member) more = inner_call opened at is_member (slice_get w.declared.functions f) more
thing_call w opened at (thing.Push a t) more = push_call opened at a t more
thing_call w opened at (thing.Pop a) more = pop_call opened at a more
thing_call w opened at (thing.Contract u) more = broken_both rule.Naming at rule.Conversion opened Unknown >>= λ s. each s more
thing_call w opened at (thing.Interface i) more = interface_call opened i more
thing_call w opened at thing.Other more = uncalled rule.Naming at more

-- a value that is called breaks rule 1 at its name, or where it has none rule 8 at the `(`
abbrev pub value_call : ℕ → Option ℕ → List (ℕ × Judged Seen) → Judged Seen
value_call opened (Some at) more = uncalled rule.Naming at more
value_call opened None more = uncalled rule.Arguments opened more

-- a call of what stands before the `(`
unfoldable pub called : Setting → ℕ → Seen → List (ℕ × Judged Seen) → Judged Seen
called w opened (Known (is.Literal z)) more = uncalled rule.Arguments opened more
called w opened (Known (is.Value name t e)) more = value_call opened name more
called w opened (Known (is.Place name t p)) more = value_call opened name more
called w opened (Known (is.Mapping name m es)) more = value_call opened name more
called w opened (Known (is.Array at a t)) more = value_call opened (Some at) more
called w opened (Known (is.Thing at t)) more = thing_call w opened at t more
called w opened (Known (is.Outer at n e)) more = outer_call opened at n e (slice_get w.declared.outer_functions n) more
called w opened (Known (is.Call inner c)) more = uncalled rule.Arguments opened more
called w opened Spoilt more = uncalled rule.Arguments opened more
called w opened Unknown more = each Unknown more
