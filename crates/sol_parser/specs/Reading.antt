-- Reading members, contracts and files, as functions on lists of tokens: what stands in front, how many levels it has, and the tokens after it.
use Rattle.std.specs.Prelude.{◌≡◌, ℕ, zero, suc, ◌+◌, max, List, [], ◌∷◌, ◌++◌, length, Bool, true, false, Option, Some, None, Result, Ok, Err, codes}
use denote.Ref.{Bor}
use Rattle.lists.specs.declared.memory.NoMemory.{NoMemory}
use Rattle.sol_tree.specs.declared.token.Token.{Token}
use Rattle.sol_tree.specs.declared.types.Identifier.{Identifier}
use Rattle.sol_tree.specs.declared.stmt.Block.{Block}
use Rattle.sol_tree.specs.declared.file.File.{File}
use Rattle.sol_tree.specs.declared.file.Unit as units
use Rattle.sol_tree.specs.declared.file.Unit.TheVariants as unit
use Rattle.sol_tree.specs.declared.file.Base.{Base}
use Rattle.sol_tree.specs.declared.file.Member.{Member}
use Rattle.sol_tree.specs.declared.file.Member.TheVariants as member
use Rattle.sol_tree.specs.declared.file.Override.{Override}
use Rattle.sol_tree.specs.declared.file.VarSpecifier.{VarSpecifier}
use Rattle.sol_tree.specs.declared.file.VarSpecifier.TheVariants as varspecifier
use Rattle.sol_tree.specs.declared.file.Var.{Var}
use Rattle.sol_tree.specs.declared.file.Param.{Param}
use Rattle.sol_tree.specs.declared.file.FunSpecifier.{FunSpecifier}
use Rattle.sol_tree.specs.declared.file.FunSpecifier.TheVariants as funspecifier
use Rattle.sol_tree.specs.declared.file.Fun.{Fun}
use Rattle.sol_tree.specs.declared.file.ConstructorSpecifier.{ConstructorSpecifier}
use Rattle.sol_tree.specs.declared.file.ConstructorSpecifier.TheVariants as ctorspecifier
use Rattle.sol_tree.specs.declared.file.Constructor.{Constructor}
use Rattle.sol_tree.specs.declared.file.ModifierSpecifier.{ModifierSpecifier}
use Rattle.sol_tree.specs.declared.file.ModifierSpecifier.TheVariants as modspecifier
use Rattle.sol_tree.specs.declared.file.Modifier.{Modifier}
use Rattle.sol_tree.specs.declared.file.EventParam.{EventParam}
use Rattle.sol_tree.specs.declared.file.Event.{Event}
use Rattle.sol_tree.specs.declared.file.Error.{Error}
use Rattle.sol_tree.specs.Places.{type_place_of}
use Rattle.sol_parse_expr.specs.Reading.{Reader, Measured, if_value, then_value, if_tree, then_tree, or_tree, mark_at, word_at, name_at, may_name_at, type_at}
use Rattle.sol_parse_stmt.specs.Reading.{block_at, arguments_at, may_initial_at}
use Rattle.sol_parser.specs.declared.units.Outline.{Outline}
use Rattle.sol_parser.specs.Grammar.{first_at}

-- ---- lists

-- `{x}`, k at most, after those of xs
unfoldable pub repeated_at : {A : Type 0} → Measured A → ℕ → List A → ℕ → Measured (List A)
repeated_at one zero xs h ts = Some (xs, h, ts)
repeated_at one (suc k) xs h ts = if_tree (one ts) (λ x n rest. repeated_at one k (xs ++ (x ∷ [])) (max h n) rest) (Some (xs, h, ts))

-- `{x}`
unfoldable pub many_at : {A : Type 0} → Measured A → Measured (List A)
many_at one ts = repeated_at one (length ts) [] 0 ts

-- `, x`
unfoldable pub next_at : {A : Type 0} → Measured A → Measured A
next_at one ts = then_value (mark_at (codes ",") ts) (λ p us. one us)

-- `x {, x}`
unfoldable pub separated_at : {A : Type 0} → Measured A → Measured (List A)
separated_at one ts = then_tree (one ts) (λ x h us. repeated_at (next_at one) (length us) (x ∷ []) h us)

-- `[x {, x}]`
unfoldable pub may_separated_at : {A : Type 0} → Measured A → Measured (List A)
may_separated_at one ts = if_tree (separated_at one ts) (λ xs h us. Some (xs, h, us)) (Some ([], 0, ts))

-- `( [x {, x}] )`
unfoldable pub enclosed_at : {A : Type 0} → Measured A → Measured (List A)
enclosed_at one ts =
    then_value (mark_at (codes "(") ts) (λ p us.
    then_tree (may_separated_at one us) (λ xs h vs.
    then_value (mark_at (codes ")") vs) (λ q rest.
    Some (xs, h, rest))))

-- ---- parts of members; types, expressions and blocks in them have at most d levels

-- `ID`
unfoldable pub named_at : Measured Identifier
named_at ts = then_value (name_at ts) (λ i rest. Some (i, 0, rest))

-- `[w]`
unfoldable pub may_word_at : List ℕ → Reader Bool
may_word_at w ts = if_value (word_at w ts) (λ at rest. Some (true, rest)) (Some (false, ts))

-- `ID [( [args] )]`
unfoldable pub base_at : ℕ → Measured Base
base_at d ts =
    then_value (name_at ts) (λ i us.
    if_tree (arguments_at d us) (λ a h rest. Some (record { at = i.at; name = i; arguments = Some a }, h, rest)) (
    Some (record { at = i.at; name = i; arguments = None }, 0, us)))

-- `ID {, ID} )`
unfoldable pub names_at : Measured (List Identifier)
names_at ts =
    then_tree (separated_at named_at ts) (λ is h us.
    then_value (mark_at (codes ")") us) (λ q rest.
    Some (is, h, rest)))

-- `override [( ID {, ID} )]`
unfoldable pub override_at : Measured Override
override_at ts =
    then_value (word_at (codes "override") ts) (λ at us.
    if_value (mark_at (codes "(") us) (λ p vs. then_tree (names_at vs) (λ is h rest. Some (record { at = at; names = is }, 0, rest))) (
    Some (record { at = at; names = [] }, 0, us)))

unfoldable pub var_specifier_at : Measured VarSpecifier
var_specifier_at ts =
    if_value (word_at (codes "public") ts) (λ at us. Some (varspecifier.Public at, 0, us)) (
    if_value (word_at (codes "internal") ts) (λ at us. Some (varspecifier.Internal at, 0, us)) (
    if_value (word_at (codes "private") ts) (λ at us. Some (varspecifier.Private at, 0, us)) (
    if_value (word_at (codes "constant") ts) (λ at us. Some (varspecifier.Constant at, 0, us)) (
    if_value (word_at (codes "immutable") ts) (λ at us. Some (varspecifier.Immutable at, 0, us)) (
    then_tree (override_at ts) (λ o h us. Some (varspecifier.Override o.at o, 0, us)))))))

-- a specifier of a function that is a word alone
unfoldable pub plain_specifier_at : Measured FunSpecifier
plain_specifier_at ts =
    if_value (word_at (codes "public") ts) (λ at us. Some (funspecifier.Public at, 0, us)) (
    if_value (word_at (codes "external") ts) (λ at us. Some (funspecifier.External at, 0, us)) (
    if_value (word_at (codes "internal") ts) (λ at us. Some (funspecifier.Internal at, 0, us)) (
    if_value (word_at (codes "private") ts) (λ at us. Some (funspecifier.Private at, 0, us)) (
    if_value (word_at (codes "view") ts) (λ at us. Some (funspecifier.View at, 0, us)) (
    if_value (word_at (codes "pure") ts) (λ at us. Some (funspecifier.Pure at, 0, us)) (
    then_value (word_at (codes "virtual") ts) (λ at us. Some (funspecifier.Virtual at, 0, us))))))))

unfoldable pub fun_specifier_at : ℕ → Measured FunSpecifier
fun_specifier_at d ts =
    or_tree (plain_specifier_at ts) (
    if_tree (override_at ts) (λ o h us. Some (funspecifier.Override o.at o, 0, us)) (
    then_tree (base_at d ts) (λ b h us. Some (funspecifier.Base b.at b, h, us))))

unfoldable pub constructor_specifier_at : ℕ → Measured ConstructorSpecifier
constructor_specifier_at d ts =
    if_value (word_at (codes "public") ts) (λ at us. Some (ctorspecifier.Public at, 0, us)) (
    if_value (word_at (codes "internal") ts) (λ at us. Some (ctorspecifier.Internal at, 0, us)) (
    then_tree (base_at d ts) (λ b h us. Some (ctorspecifier.Base b.at b, h, us))))

unfoldable pub modifier_specifier_at : Measured ModifierSpecifier
modifier_specifier_at ts =
    if_value (word_at (codes "virtual") ts) (λ at us. Some (modspecifier.Virtual at, 0, us)) (
    then_tree (override_at ts) (λ o h us. Some (modspecifier.Override o.at o, 0, us)))

-- `type [ID]`
unfoldable pub param_at : ℕ → Measured Param
param_at d ts =
    then_tree (type_at d ts) (λ t h us.
    then_value (may_name_at us) (λ i rest.
    Some (record { at = type_place_of t; ty = t; name = i }, h, rest)))

-- `type [indexed] [ID]`
unfoldable pub event_param_at : ℕ → Measured EventParam
event_param_at d ts =
    then_tree (type_at d ts) (λ t h us.
    then_value (may_word_at (codes "indexed") us) (λ b vs.
    then_value (may_name_at vs) (λ i rest.
    Some (record { at = type_place_of t; ty = t; indexed = b; name = i }, h, rest))))

-- `[returns ( type [ID] )]`
unfoldable pub may_returns_at : ℕ → Measured (Option Param)
may_returns_at d ts =
    if_value (word_at (codes "returns") ts) (λ at us.
    then_value (mark_at (codes "(") us) (λ p vs.
    then_tree (param_at d vs) (λ r h ws.
    then_value (mark_at (codes ")") ws) (λ q rest.
    Some (Some r, h, rest))))) (
    Some (None, 0, ts))

-- `;`, or a block
unfoldable pub body_at : ℕ → Measured (Option Block)
body_at d ts =
    if_value (mark_at (codes ";") ts) (λ at rest. Some (None, 0, rest)) (
    then_tree (block_at d ts) (λ b h rest. Some (Some b, h, rest)))

-- `[( [params] )]`
unfoldable pub may_params_at : ℕ → Measured (List Param)
may_params_at d ts = if_tree (enclosed_at (param_at d) ts) (λ ps h rest. Some (ps, h, rest)) (Some ([], 0, ts))

-- ---- members

unfoldable pub var_at : ℕ → Measured Var
var_at d ts =
    then_tree (type_at d ts) (λ t h t1.
    then_tree (many_at var_specifier_at t1) (λ ms k t2.
    then_value (name_at t2) (λ i t3.
    then_tree (may_initial_at d t3) (λ e n t4.
    then_value (mark_at (codes ";") t4) (λ p rest.
    Some (record { at = type_place_of t; ty = t; specifiers = ms; name = i; initial = e }, max h n + 1, rest))))))

unfoldable pub fun_at : ℕ → Measured Fun
fun_at d ts =
    then_value (word_at (codes "function") ts) (λ at t1.
    then_value (name_at t1) (λ i t2.
    then_tree (enclosed_at (param_at d) t2) (λ ps h t3.
    then_tree (many_at (fun_specifier_at d) t3) (λ ms k t4.
    then_tree (may_returns_at d t4) (λ r m t5.
    then_tree (body_at d t5) (λ b n rest.
    Some (record { at = at; name = i; params = ps; specifiers = ms; returns = r; body = b }, max h (max k (max m n)) + 1, rest)))))))

unfoldable pub constructor_at : ℕ → Measured Constructor
constructor_at d ts =
    then_value (word_at (codes "constructor") ts) (λ at t1.
    then_tree (enclosed_at (param_at d) t1) (λ ps h t2.
    then_tree (many_at (constructor_specifier_at d) t2) (λ ms k t3.
    then_tree (block_at d t3) (λ b n rest.
    Some (record { at = at; params = ps; specifiers = ms; body = b }, max h (max k n) + 1, rest)))))

unfoldable pub modifier_at : ℕ → Measured Modifier
modifier_at d ts =
    then_value (word_at (codes "modifier") ts) (λ at t1.
    then_value (name_at t1) (λ i t2.
    then_tree (may_params_at d t2) (λ ps h t3.
    then_tree (many_at modifier_specifier_at t3) (λ ms k t4.
    then_tree (body_at d t4) (λ b n rest.
    Some (record { at = at; name = i; params = ps; specifiers = ms; body = b }, max h n + 1, rest))))))

unfoldable pub event_at : ℕ → Measured Event
event_at d ts =
    then_value (word_at (codes "event") ts) (λ at t1.
    then_value (name_at t1) (λ i t2.
    then_tree (enclosed_at (event_param_at d) t2) (λ ps h t3.
    then_value (may_word_at (codes "anonymous") t3) (λ a t4.
    then_value (mark_at (codes ";") t4) (λ p rest.
    Some (record { at = at; name = i; params = ps; anonymous = a }, h + 1, rest))))))

unfoldable pub error_at : ℕ → Measured Error
error_at d ts =
    then_value (word_at (codes "error") ts) (λ at t1.
    then_value (name_at t1) (λ i t2.
    then_tree (enclosed_at (param_at d) t2) (λ ps h t3.
    then_value (mark_at (codes ";") t3) (λ p rest.
    Some (record { at = at; name = i; params = ps }, h + 1, rest)))))

-- a member; what is inside it has at most d levels
unfoldable pub member_at : ℕ → Measured Member
member_at d ts =
    if_tree (fun_at d ts) (λ f h us. Some (member.Fun f.at f, h, us)) (
    if_tree (constructor_at d ts) (λ c h us. Some (member.Constructor c.at c, h, us)) (
    if_tree (modifier_at d ts) (λ m h us. Some (member.Modifier m.at m, h, us)) (
    if_tree (event_at d ts) (λ e h us. Some (member.Event e.at e, h, us)) (
    if_tree (error_at d ts) (λ e h us. Some (member.Error e.at e, h, us)) (
    then_tree (var_at d ts) (λ v h us. Some (member.Var v.at v, h, us)))))))

-- ---- files; what is inside a member has at most d levels

-- `[is base {, base}]`
unfoldable pub may_bases_at : ℕ → Measured (List Base)
may_bases_at d ts =
    if_value (word_at (codes "is") ts) (λ at us. separated_at (base_at d) us) (
    Some ([], 0, ts))

-- `ID [bases] { {member} }`
unfoldable pub outline_at : ℕ → Measured Outline
outline_at d ts =
    then_value (name_at ts) (λ i t1.
    then_tree (may_bases_at (d + 1) t1) (λ bs h t2.
    then_value (mark_at (codes "{") t2) (λ p t3.
    then_tree (many_at (member_at d) t3) (λ ms k t4.
    then_value (mark_at (codes "}") t4) (λ q rest.
    Some (record { name = i; bases = bs; members = ms }, max h k, rest))))))

unfoldable pub contract_at : ℕ → Measured units.Unit
contract_at d ts =
    then_value (word_at (codes "contract") ts) (λ at us.
    then_tree (outline_at d us) (λ o h rest.
    Some (unit.Contract at false o.name o.bases o.members, h, rest)))

unfoldable pub abstract_at : ℕ → Measured units.Unit
abstract_at d ts =
    then_value (word_at (codes "abstract") ts) (λ at us.
    then_value (word_at (codes "contract") us) (λ p vs.
    then_tree (outline_at d vs) (λ o h rest.
    Some (unit.Contract at true o.name o.bases o.members, h, rest))))

unfoldable pub interface_at : ℕ → Measured units.Unit
interface_at d ts =
    then_value (word_at (codes "interface") ts) (λ at us.
    then_tree (outline_at d us) (λ o h rest.
    Some (unit.Interface at o.name o.bases o.members, h, rest)))

-- what a file is made of
unfoldable pub unit_at : ℕ → Measured units.Unit
unit_at d ts =
    or_tree (contract_at d ts) (
    or_tree (abstract_at d ts) (
    or_tree (interface_at d ts) (
    if_tree (event_at d ts) (λ e h us. Some (unit.Event e.at e, h, us)) (
    then_tree (error_at d ts) (λ e h us. Some (unit.Error e.at e, h, us))))))

-- a file, where nothing is left
abbrev pub ended : ℕ → List units.Unit → List Token → Option File
ended at us [] = Some (record { at = at; units = us })
ended at us (t ∷ ts) = None

unfoldable pub file_at : ℕ → List Token → Option File
file_at d ts = then_tree (many_at (unit_at d) ts) (λ us h rest. ended (first_at ts) us rest)

-- ---- what functions give

abbrev pub GivesFile : Result (Option File) NoMemory → Option File → Type 0
GivesFile (Ok o) read = read ≡ o
GivesFile (Err e) read = Unit {0}
