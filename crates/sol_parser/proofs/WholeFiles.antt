-- Each file is read from the tokens that spell it.
use Rattle.std.proofs.Common.{◌≡◌, ◌∙◌, sym, ap, refl, ℕ, zero, suc, ◌+◌, ◌<◌, ◌≤◌, max, List, [], ◌∷◌, ◌++◌, length, append_assoc, append-nil, Bool, true, false, Option, Some, None, codes, arith}
use Rattle.sol_tree.specs.declared.token.Token.{Token}
use Rattle.sol_tree.specs.declared.file.File.{File}
use Rattle.sol_tree.specs.declared.file.Base.{Base}
use Rattle.sol_tree.specs.declared.file.Member.{Member}
use Rattle.sol_tree.specs.declared.file.Unit as units
use Rattle.sol_parse_expr.specs.Grammar.{IsMark, IsWord, IsName, named_by}
use Rattle.sol_parse_expr.specs.Reading.{mark_at, word_at}
use Rattle.sol_parse_expr.proofs.Tokens.{mark-here, word-here, name-here}
use Rattle.sol_parser.specs.declared.units.Outline.{Outline}
use Rattle.sol_parser.specs.Grammar.{Repeated, SpellsBase, SpellsEvent, SpellsError, SpellsMember, MayBases, SpellsUnit, SpellsFile, first_at}
use Rattle.sol_parser.specs.Heights.{greatest_by, base_height, member_height, event_height, error_height, unit_height, file_height}
use Rattle.sol_parser.specs.Reading.{many_at, base_at, member_at, event_at, error_at, may_bases_at, outline_at, contract_at, abstract_at, interface_at, unit_at, file_at}
use Rattle.sol_parser.proofs.WholeLists.{Whole, Filled, whole-many, whole-separated}
use Rattle.sol_parse_expr.proofs.First.{WordFirst, MarkFirst, word-word, word-mark, mark-mark}
use Rattle.sol_parser.proofs.WholeSpecifiers.{Anything, NoOpen, whole-base}
use Rattle.sol_parser.proofs.WholeMembers.{whole-event, whole-error, event-none, event-first, error-first, member-mark, whole-member, filled-member}

-- ---- contracts and interfaces

whole-may_bases : (d : ℕ) → Whole (greatest_by base_height) MayBases d (may_bases_at d) (λ ts. MarkFirst (codes "{") ts)
unfolding may_bases_at
whole-may_bases d x us MayBases.without low rest s = rw (word-mark (codes "is") (codes "{") rest s) refl
whole-may_bases d x us (MayBases.bases w {ts} iw p) low rest s =
    let read = whole-separated base_height SpellsBase d (base_at d) NoOpen (whole-base d) (λ c vs i. mark-mark (codes "(") (codes ",") (c ∷ vs) refl (c, vs, i, refl)) x ts p low rest (mark-mark (codes "(") (codes "{") rest refl s) (mark-mark (codes ",") (codes "{") rest refl s) in
    rw (word-here (codes "is") w (ts ++ rest) iw) read

outline-all : (d : ℕ) (n : List ℕ) (bs : List Base) (ms : List Member) (m o c : Token) (bts mts : List Token) → IsName n m → MayBases bs bts → IsMark (codes "{") o → Repeated SpellsMember ms mts → IsMark (codes "}") c → max (greatest_by base_height bs) (greatest_by member_height ms) ≤ suc d → (rest : List Token) → outline_at d (m ∷ ((bts ++ (o ∷ (mts ++ (c ∷ [])))) ++ rest)) ≡ Some (record { name = named_by n m; bases = bs; members = ms }, max (greatest_by base_height bs) (greatest_by member_height ms), rest)
unfolding outline_at
outline-all d n bs ms m o c bts mts im pb io pm ic low rest =
    let deeper : d + 1 ≡ suc d = omega arith in
    let t4 : List Token = c ∷ rest in
    let t2 : List Token = o ∷ (mts ++ t4) in
    let all : (bts ++ (o ∷ (mts ++ (c ∷ [])))) ++ rest ≡ bts ++ t2 = simp append_assoc refl in
    let bases_read = whole-may_bases (suc d) bs bts pb (omega (arith, low)) t2 (o, mts ++ t4, io, refl) in
    let members_read = whole-many member_height SpellsMember (suc d) (member_at d) Anything (whole-member d) (λ x vs p ws. tt) filled-member ms mts pm (omega (arith, low)) t4 tt (member-mark d (codes "}") t4 (c, rest, ic, refl)) in
    rw (all, deeper) (rw (name-here n m (bts ++ t2) im, bases_read, mark-here (codes "{") o (mts ++ t4) io, members_read, mark-here (codes "}") c rest ic) refl)

-- ---- units

contract-none : (d : ℕ) (ts : List Token) → word_at (codes "contract") ts ≡ None → contract_at d ts ≡ None
unfolding contract_at
contract-none d ts e = rw e refl

abstract-none : (d : ℕ) (ts : List Token) → word_at (codes "abstract") ts ≡ None → abstract_at d ts ≡ None
unfolding abstract_at
abstract-none d ts e = rw e refl

interface-none : (d : ℕ) (ts : List Token) → word_at (codes "interface") ts ≡ None → interface_at d ts ≡ None
unfolding interface_at
interface-none d ts e = rw e refl

whole-unit : (d : ℕ) → Whole unit_height SpellsUnit (suc d) (unit_at d) Anything
unfolding unit_at contract_at abstract_at interface_at
whole-unit d x us (SpellsUnit.contract {n} {bs} {ms} w m o c {bts} {mts} iw im pb io pm ic) low rest s =
    let t1 : List Token = (bts ++ (o ∷ (mts ++ (c ∷ [])))) ++ rest in
    rw (word-here (codes "contract") w (m ∷ t1) iw, outline-all d n bs ms m o c bts mts im pb io pm ic low rest) refl
whole-unit d x us (SpellsUnit.abstract_contract {n} {bs} {ms} a w m o c {bts} {mts} ia iw im pb io pm ic) low rest s =
    let t1 : List Token = (bts ++ (o ∷ (mts ++ (c ∷ [])))) ++ rest in
    rw (word-word (codes "contract") (codes "abstract") (a ∷ (w ∷ (m ∷ t1))) refl (a, w ∷ (m ∷ t1), ia, refl), word-here (codes "abstract") a (w ∷ (m ∷ t1)) ia, word-here (codes "contract") w (m ∷ t1) iw, outline-all d n bs ms m o c bts mts im pb io pm ic low rest) refl
whole-unit d x us (SpellsUnit.interface {n} {bs} {ms} w m o c {bts} {mts} iw im pb io pm ic) low rest s =
    let t1 : List Token = (bts ++ (o ∷ (mts ++ (c ∷ [])))) ++ rest in
    let f : WordFirst (codes "interface") (w ∷ (m ∷ t1)) = (w, m ∷ t1, iw, refl) in
    rw (word-word (codes "contract") (codes "interface") (w ∷ (m ∷ t1)) refl f, word-word (codes "abstract") (codes "interface") (w ∷ (m ∷ t1)) refl f, word-here (codes "interface") w (m ∷ t1) iw, outline-all d n bs ms m o c bts mts im pb io pm ic low rest) refl
whole-unit d x us (SpellsUnit.event {e = y} p) low rest s =
    let f = event-first y us p rest in
    rw (word-word (codes "contract") (codes "event") (us ++ rest) refl f, word-word (codes "abstract") (codes "event") (us ++ rest) refl f, word-word (codes "interface") (codes "event") (us ++ rest) refl f, whole-event d y us p low rest tt) refl
whole-unit d x us (SpellsUnit.error {e = y} p) low rest s =
    let f = error-first y us p rest in
    rw (word-word (codes "contract") (codes "error") (us ++ rest) refl f, word-word (codes "abstract") (codes "error") (us ++ rest) refl f, word-word (codes "interface") (codes "error") (us ++ rest) refl f, event-none d (us ++ rest) (word-word (codes "event") (codes "error") (us ++ rest) refl f), whole-error d y us p low rest tt) refl

filled-unit : Filled SpellsUnit
filled-unit x us (SpellsUnit.contract w m o c iw im pb io pm ic) = omega arith
filled-unit x us (SpellsUnit.abstract_contract a w m o c ia iw im pb io pm ic) = omega arith
filled-unit x us (SpellsUnit.interface w m o c iw im pb io pm ic) = omega arith
filled-unit x us (SpellsUnit.event (SpellsEvent.event w m e iw im pp pa ie)) = omega arith
filled-unit x us (SpellsUnit.error (SpellsError.error w m e iw im pp ie)) = omega arith

unit-end : (d : ℕ) → unit_at d [] ≡ None
unfolding unit_at contract_at abstract_at interface_at event_at error_at word_at
unit-end d = refl

-- ---- files

pub whole-file : (d : ℕ) (f : File) (ts : List Token) → SpellsFile f ts → file_height f ≤ suc d → file_at d ts ≡ Some f
unfolding file_at
whole-file d f ts (SpellsFile.file {us} p) low =
    let read = whole-many unit_height SpellsUnit (suc d) (unit_at d) Anything (whole-unit d) (λ x vs q ws. tt) filled-unit us ts p low [] tt (unit-end d) in
    let all = rw append-nil at read in
    rw all refl
