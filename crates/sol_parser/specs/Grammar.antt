-- Which tokens spell which files.
use Rattle.std.specs.Prelude.{◌≡◌, ℕ, Bool, true, false, List, [], ◌∷◌, ◌++◌, Option, Some, None, codes}
use Rattle.sol_tree.specs.declared.token.Token.{Token}
use Rattle.sol_tree.specs.declared.types.Identifier.{Identifier}
use Rattle.sol_tree.specs.declared.types.Type as types
use Rattle.sol_tree.specs.declared.expr.ExprTree as tree
use Rattle.sol_tree.specs.declared.expr.Arguments.{Arguments}
use Rattle.sol_tree.specs.declared.expr.Initial.{Initial}
use Rattle.sol_tree.specs.declared.stmt.Block.{Block}
use Rattle.sol_tree.specs.declared.file.File.{File}
use Rattle.sol_tree.specs.declared.file.Unit as units
use Rattle.sol_tree.specs.declared.file.Unit.TheVariants as unit
use Rattle.sol_tree.specs.declared.file.Base.{Base}
use Rattle.sol_tree.specs.declared.file.Member.{Member}
use Rattle.sol_tree.specs.declared.file.Member.TheVariants as member
use Rattle.sol_tree.specs.declared.file.Override.{Override}
use Rattle.sol_tree.specs.declared.file.VarSpecifier.{VarSpecifier}
use Rattle.sol_tree.specs.declared.file.VarSpecifier.TheVariants as varspecifier
use Rattle.sol_tree.specs.declared.file.Var.{Var}
use Rattle.sol_tree.specs.declared.file.Param.{Param}
use Rattle.sol_tree.specs.declared.file.FunSpecifier.{FunSpecifier}
use Rattle.sol_tree.specs.declared.file.FunSpecifier.TheVariants as funspecifier
use Rattle.sol_tree.specs.declared.file.Fun.{Fun}
use Rattle.sol_tree.specs.declared.file.ConstructorSpecifier.{ConstructorSpecifier}
use Rattle.sol_tree.specs.declared.file.ConstructorSpecifier.TheVariants as ctorspecifier
use Rattle.sol_tree.specs.declared.file.Constructor.{Constructor}
use Rattle.sol_tree.specs.declared.file.ModifierSpecifier.{ModifierSpecifier}
use Rattle.sol_tree.specs.declared.file.ModifierSpecifier.TheVariants as modspecifier
use Rattle.sol_tree.specs.declared.file.Modifier.{Modifier}
use Rattle.sol_tree.specs.declared.file.EventParam.{EventParam}
use Rattle.sol_tree.specs.declared.file.Event.{Event}
use Rattle.sol_tree.specs.declared.file.Error.{Error}
use Rattle.sol_tree.specs.Places.{place_of, type_place_of}
use Rattle.sol_parse_expr.specs.Grammar.{IsMark, IsWord, IsName, named_by, MayName, SpellsType}
use Rattle.sol_parse_stmt.specs.Grammar.{MayInitial, SpellsArguments, SpellsBlock}

-- ---- lists

-- `x {, x}`
pub data Separated {A : Type 0} (P : A → List Token → Type 0) : List A → List Token → Type 0 where
  last : {x : A} {ts : List Token} → P x ts → Separated P (x ∷ []) ts
  next : {x : A} {xs : List A} (c : Token) {ts us : List Token} → P x ts → IsMark (codes ",") c → Separated P xs us → Separated P (x ∷ xs) (ts ++ (c ∷ us))

-- `[x {, x}]`
pub data MaySeparated {A : Type 0} (P : A → List Token → Type 0) : List A → List Token → Type 0 where
  none : MaySeparated P [] []
  some : {xs : List A} {ts : List Token} → Separated P xs ts → MaySeparated P xs ts

-- `{x}`
pub data Repeated {A : Type 0} (P : A → List Token → Type 0) : List A → List Token → Type 0 where
  ended : Repeated P [] []
  another : {x : A} {xs : List A} {ts us : List Token} → P x ts → Repeated P xs us → Repeated P (x ∷ xs) (ts ++ us)

-- `( [x {, x}] )`
pub data Enclosed {A : Type 0} (P : A → List Token → Type 0) : List A → List Token → Type 0 where
  between : {xs : List A} (o c : Token) {ts : List Token} → IsMark (codes "(") o → MaySeparated P xs ts → IsMark (codes ")") c → Enclosed P xs (o ∷ (ts ++ (c ∷ [])))

-- ---- parts of members

-- `ID`
pub data SpellsName : Identifier → List Token → Type 0 where
  name : {n : List ℕ} (t : Token) → IsName n t → SpellsName (named_by n t) (t ∷ [])

-- `ID [( [args] )]`
pub data SpellsBase : Base → List Token → Type 0 where
  alone : {n : List ℕ} (t : Token) → IsName n t → SpellsBase (record { at = t.at; name = named_by n t; arguments = None }) (t ∷ [])
  applied : {n : List ℕ} {a : Arguments} (t : Token) {us : List Token} → IsName n t → SpellsArguments a us → SpellsBase (record { at = t.at; name = named_by n t; arguments = Some a }) (t ∷ us)

-- `override [( ID {, ID} )]`
pub data SpellsOverride : Override → List Token → Type 0 where
  alone : (w : Token) → IsWord (codes "override") w → SpellsOverride (record { at = w.at; names = [] }) (w ∷ [])
  listed : {is : List Identifier} (w o c : Token) {ts : List Token} → IsWord (codes "override") w → IsMark (codes "(") o → Separated SpellsName is ts → IsMark (codes ")") c → SpellsOverride (record { at = w.at; names = is }) (w ∷ (o ∷ (ts ++ (c ∷ []))))

-- a specifier of a variable
pub data SpellsVarSpecifier : VarSpecifier → List Token → Type 0 where
  is_public : (w : Token) → IsWord (codes "public") w → SpellsVarSpecifier (varspecifier.Public w.at) (w ∷ [])
  is_internal : (w : Token) → IsWord (codes "internal") w → SpellsVarSpecifier (varspecifier.Internal w.at) (w ∷ [])
  is_private : (w : Token) → IsWord (codes "private") w → SpellsVarSpecifier (varspecifier.Private w.at) (w ∷ [])
  is_constant : (w : Token) → IsWord (codes "constant") w → SpellsVarSpecifier (varspecifier.Constant w.at) (w ∷ [])
  is_immutable : (w : Token) → IsWord (codes "immutable") w → SpellsVarSpecifier (varspecifier.Immutable w.at) (w ∷ [])
  overrides : {o : Override} {ts : List Token} → SpellsOverride o ts → SpellsVarSpecifier (varspecifier.Override o.at o) ts

-- a specifier of a function
pub data SpellsFunSpecifier : FunSpecifier → List Token → Type 0 where
  is_public : (w : Token) → IsWord (codes "public") w → SpellsFunSpecifier (funspecifier.Public w.at) (w ∷ [])
  is_external : (w : Token) → IsWord (codes "external") w → SpellsFunSpecifier (funspecifier.External w.at) (w ∷ [])
  is_internal : (w : Token) → IsWord (codes "internal") w → SpellsFunSpecifier (funspecifier.Internal w.at) (w ∷ [])
  is_private : (w : Token) → IsWord (codes "private") w → SpellsFunSpecifier (funspecifier.Private w.at) (w ∷ [])
  is_view : (w : Token) → IsWord (codes "view") w → SpellsFunSpecifier (funspecifier.View w.at) (w ∷ [])
  is_pure : (w : Token) → IsWord (codes "pure") w → SpellsFunSpecifier (funspecifier.Pure w.at) (w ∷ [])
  is_virtual : (w : Token) → IsWord (codes "virtual") w → SpellsFunSpecifier (funspecifier.Virtual w.at) (w ∷ [])
  overrides : {o : Override} {ts : List Token} → SpellsOverride o ts → SpellsFunSpecifier (funspecifier.Override o.at o) ts
  uses : {b : Base} {ts : List Token} → SpellsBase b ts → SpellsFunSpecifier (funspecifier.Base b.at b) ts

-- a specifier of a constructor
pub data SpellsConstructorSpecifier : ConstructorSpecifier → List Token → Type 0 where
  is_public : (w : Token) → IsWord (codes "public") w → SpellsConstructorSpecifier (ctorspecifier.Public w.at) (w ∷ [])
  is_internal : (w : Token) → IsWord (codes "internal") w → SpellsConstructorSpecifier (ctorspecifier.Internal w.at) (w ∷ [])
  uses : {b : Base} {ts : List Token} → SpellsBase b ts → SpellsConstructorSpecifier (ctorspecifier.Base b.at b) ts

-- a specifier of a modifier
pub data SpellsModifierSpecifier : ModifierSpecifier → List Token → Type 0 where
  is_virtual : (w : Token) → IsWord (codes "virtual") w → SpellsModifierSpecifier (modspecifier.Virtual w.at) (w ∷ [])
  overrides : {o : Override} {ts : List Token} → SpellsOverride o ts → SpellsModifierSpecifier (modspecifier.Override o.at o) ts

-- `type [ID]`
pub data SpellsParam : Param → List Token → Type 0 where
  param : {ty : types.Type} {i : Option Identifier} {ts is : List Token} → SpellsType ty ts → MayName i is → SpellsParam (record { at = type_place_of ty; ty = ty; name = i }) (ts ++ is)

-- `[indexed]`
pub data MayIndexed : Bool → List Token → Type 0 where
  plain : MayIndexed false []
  indexed : (w : Token) → IsWord (codes "indexed") w → MayIndexed true (w ∷ [])

-- `type [indexed] [ID]`
pub data SpellsEventParam : EventParam → List Token → Type 0 where
  param : {ty : types.Type} {b : Bool} {i : Option Identifier} {ts bs is : List Token} → SpellsType ty ts → MayIndexed b bs → MayName i is → SpellsEventParam (record { at = type_place_of ty; ty = ty; indexed = b; name = i }) (ts ++ (bs ++ is))

-- `[returns ( type [ID] )]`
pub data MayReturns : Option Param → List Token → Type 0 where
  nothing : MayReturns None []
  returns : {p : Param} (w o c : Token) {ts : List Token} → IsWord (codes "returns") w → IsMark (codes "(") o → SpellsParam p ts → IsMark (codes ")") c → MayReturns (Some p) (w ∷ (o ∷ (ts ++ (c ∷ []))))

-- `;`, or a block
pub data SpellsBody : Option Block → List Token → Type 0 where
  missing : (n : Token) → IsMark (codes ";") n → SpellsBody None (n ∷ [])
  body : {b : Block} {ts : List Token} → SpellsBlock b ts → SpellsBody (Some b) ts

-- ---- members

-- `type {varspecifier} ID [= expr] ;`
pub data SpellsVar : Var → List Token → Type 0 where
  var : {ty : types.Type} {vs : List VarSpecifier} {n : List ℕ} {i : Option Initial} (m e : Token) {ts us is : List Token} → SpellsType ty ts → Repeated SpellsVarSpecifier vs us → IsName n m → MayInitial i is → IsMark (codes ";") e → SpellsVar (record { at = type_place_of ty; ty = ty; specifiers = vs; name = named_by n m; initial = i }) (ts ++ (us ++ (m ∷ (is ++ (e ∷ [])))))

-- `function ID ( [params] ) {funspecifier} [returns ( type [ID] )] ( ; | block )`
pub data SpellsFun : Fun → List Token → Type 0 where
  fun : {n : List ℕ} {ps : List Param} {ms : List FunSpecifier} {r : Option Param} {b : Option Block} (w m : Token) {pts mts rts bts : List Token} → IsWord (codes "function") w → IsName n m → Enclosed SpellsParam ps pts → Repeated SpellsFunSpecifier ms mts → MayReturns r rts → SpellsBody b bts → SpellsFun (record { at = w.at; name = named_by n m; params = ps; specifiers = ms; returns = r; body = b }) (w ∷ (m ∷ (pts ++ (mts ++ (rts ++ bts)))))

-- `constructor ( [params] ) {specifier} block`
pub data SpellsConstructor : Constructor → List Token → Type 0 where
  constructed : {ps : List Param} {ms : List ConstructorSpecifier} {b : Block} (w : Token) {pts mts bts : List Token} → IsWord (codes "constructor") w → Enclosed SpellsParam ps pts → Repeated SpellsConstructorSpecifier ms mts → SpellsBlock b bts → SpellsConstructor (record { at = w.at; params = ps; specifiers = ms; body = b }) (w ∷ (pts ++ (mts ++ bts)))

-- `[( [params] )]`
pub data MayParams : List Param → List Token → Type 0 where
  without : MayParams [] []
  listed : {ps : List Param} {ts : List Token} → Enclosed SpellsParam ps ts → MayParams ps ts

-- `modifier ID [( [params] )] {specifier} ( block | ; )`
pub data SpellsModifier : Modifier → List Token → Type 0 where
  modified : {n : List ℕ} {ps : List Param} {ms : List ModifierSpecifier} {b : Option Block} (w m : Token) {pts mts bts : List Token} → IsWord (codes "modifier") w → IsName n m → MayParams ps pts → Repeated SpellsModifierSpecifier ms mts → SpellsBody b bts → SpellsModifier (record { at = w.at; name = named_by n m; params = ps; specifiers = ms; body = b }) (w ∷ (m ∷ (pts ++ (mts ++ bts))))

-- `[anonymous]`
pub data MayAnonymous : Bool → List Token → Type 0 where
  known : MayAnonymous false []
  anonymous : (w : Token) → IsWord (codes "anonymous") w → MayAnonymous true (w ∷ [])

-- `event ID ( [evp {, evp}] ) [anonymous] ;`
pub data SpellsEvent : Event → List Token → Type 0 where
  event : {n : List ℕ} {ps : List EventParam} {a : Bool} (w m e : Token) {pts us : List Token} → IsWord (codes "event") w → IsName n m → Enclosed SpellsEventParam ps pts → MayAnonymous a us → IsMark (codes ";") e → SpellsEvent (record { at = w.at; name = named_by n m; params = ps; anonymous = a }) (w ∷ (m ∷ (pts ++ (us ++ (e ∷ [])))))

-- `error ID ( [type [ID] {, type [ID]}] ) ;`
pub data SpellsError : Error → List Token → Type 0 where
  error : {n : List ℕ} {ps : List Param} (w m e : Token) {pts : List Token} → IsWord (codes "error") w → IsName n m → Enclosed SpellsParam ps pts → IsMark (codes ";") e → SpellsError (record { at = w.at; name = named_by n m; params = ps }) (w ∷ (m ∷ (pts ++ (e ∷ []))))

-- a member
pub data SpellsMember : Member → List Token → Type 0 where
  var : {v : Var} {ts : List Token} → SpellsVar v ts → SpellsMember (member.Var v.at v) ts
  fun : {f : Fun} {ts : List Token} → SpellsFun f ts → SpellsMember (member.Fun f.at f) ts
  constructor_of : {c : Constructor} {ts : List Token} → SpellsConstructor c ts → SpellsMember (member.Constructor c.at c) ts
  modifier : {m : Modifier} {ts : List Token} → SpellsModifier m ts → SpellsMember (member.Modifier m.at m) ts
  event : {e : Event} {ts : List Token} → SpellsEvent e ts → SpellsMember (member.Event e.at e) ts
  error : {e : Error} {ts : List Token} → SpellsError e ts → SpellsMember (member.Error e.at e) ts

-- ---- files

-- `[is base {, base}]`
pub data MayBases : List Base → List Token → Type 0 where
  without : MayBases [] []
  bases : {bs : List Base} (w : Token) {ts : List Token} → IsWord (codes "is") w → Separated SpellsBase bs ts → MayBases bs (w ∷ ts)

-- what a file is made of
pub data SpellsUnit : units.Unit → List Token → Type 0 where
  -- `contract ID [bases] { {member} }`
  contract : {n : List ℕ} {bs : List Base} {ms : List Member} (w m o c : Token) {bts mts : List Token} → IsWord (codes "contract") w → IsName n m → MayBases bs bts → IsMark (codes "{") o → Repeated SpellsMember ms mts → IsMark (codes "}") c → SpellsUnit (unit.Contract w.at false (named_by n m) bs ms) (w ∷ (m ∷ (bts ++ (o ∷ (mts ++ (c ∷ []))))))
  -- `abstract contract ID [bases] { {member} }`
  abstract_contract : {n : List ℕ} {bs : List Base} {ms : List Member} (a w m o c : Token) {bts mts : List Token} → IsWord (codes "abstract") a → IsWord (codes "contract") w → IsName n m → MayBases bs bts → IsMark (codes "{") o → Repeated SpellsMember ms mts → IsMark (codes "}") c → SpellsUnit (unit.Contract a.at true (named_by n m) bs ms) (a ∷ (w ∷ (m ∷ (bts ++ (o ∷ (mts ++ (c ∷ [])))))))
  -- `interface ID [bases] { {member} }`
  interface : {n : List ℕ} {bs : List Base} {ms : List Member} (w m o c : Token) {bts mts : List Token} → IsWord (codes "interface") w → IsName n m → MayBases bs bts → IsMark (codes "{") o → Repeated SpellsMember ms mts → IsMark (codes "}") c → SpellsUnit (unit.Interface w.at (named_by n m) bs ms) (w ∷ (m ∷ (bts ++ (o ∷ (mts ++ (c ∷ []))))))
  event : {e : Event} {ts : List Token} → SpellsEvent e ts → SpellsUnit (unit.Event e.at e) ts
  error : {e : Error} {ts : List Token} → SpellsError e ts → SpellsUnit (unit.Error e.at e) ts

-- the place of the first token, 0 where there is none
abbrev pub first_at : List Token → ℕ
first_at [] = 0
first_at (t ∷ ts) = t.at

-- a file
pub data SpellsFile : File → List Token → Type 0 where
  file : {us : List units.Unit} {ts : List Token} → Repeated SpellsUnit us ts → SpellsFile (record { at = first_at ts; units = us }) ts
