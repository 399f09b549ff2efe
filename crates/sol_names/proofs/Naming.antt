-- Names that are looked up.
use Rattle.std.proofs.Common.{◌≡◌, ◌∙◌, sym, ap, refl, subst, ℕ, ◌-◌, ◌≤◌, List, [], ◌∷◌, ◌++◌, map, length, Bool, true, false, ◌||◌, Option, Some, None, is_some, slice_index_or, get_or, take, drop, arith, cond, not, append_assoc, ◌&&◌, ◌+◌, suc, if◌then◌else◌}
use Rattle.std.specs.List.{list_any, flat_map, position_from}
use Rattle.std.specs.Option.{option_or}
use Rattle.std.specs.Str.{bytes_eq}
use Rattle.indexmap.specs.IndexMap.{IndexMap}
use Rattle.std.proofs.lemmas.Bool.{and_parts}
use Rattle.std.proofs.lemmas.List.Folds.{list_any-append}
use Rattle.std.proofs.lemmas.Slice.Eq.{bytes_eq-Decides}
use Rattle.std.proofs.Math.Seq.{take-length}
use denote.Ref.{Bor}
use Rattle.sol_tree.specs.declared.types.Identifier.{Identifier}
use Rattle.sol_tree.specs.declared.file.Unit as units
use Rattle.sol_tree.specs.declared.file.Base.{Base}
use Rattle.sol_tree.specs.declared.file.Member.{Member}
use Rattle.sol_names.specs.declared.names.Named.{Named}
use Rattle.sol_names.specs.Least.{lesser, least_from, least_in}
use Rattle.sol_names.specs.Units.{is_contract, unit_name, bases, members, member_name}
use Rattle.sol_names.specs.Names.{identifier_of, number_of}
use Rattle.sol_names.specs.Orders.{is_called, repeated_after, repeated, named_twice, is_contract_of, unknown_among, unknown_of, base_places}

-- ---- names that were seen

abbrev pub Numbers : Type 0 → Type 0
Numbers S = IndexMap (Bor (List ℕ)) ℕ S

-- a map has a number for just these names
abbrev pub HasSeen : {S : Type 0} → Numbers S → List Identifier → Type 0
HasSeen m before = (q : List ℕ) → is_some (number_of m q) ≡ list_any (is_called q) before

again : (s a e : Bool) → s ≡ a → (e ≡ true → s ≡ true) → s ≡ (a || (e || false))
again s true e h k = h
again s false true h k = k refl
again s false false h k = h

anew : (a e : Bool) (n : ℕ) (o : Option ℕ) → is_some o ≡ a → is_some (if e then Some n else o) ≡ (a || (e || false))
anew true true n o h = refl
anew true false n o h = h
anew false true n o h = refl
anew false false n o h = h

seen-again : {S : Type 0} (m : Numbers S) (before : List Identifier) (i : Identifier) → HasSeen m before → is_some (number_of m i.name) ≡ true → HasSeen m (before ++ i ∷ [])
seen-again m before i h s q =
    again (is_some (number_of m q)) (list_any (is_called q) before) (bytes_eq i.name q) (h q) (λ e. let same : i.name ≡ q = (bytes_eq-Decides i.name q).0 e in subst (λ (r : List ℕ). is_some (number_of m r) ≡ true) same s)
    ∙ sym (list_any-append (is_called q) before (i ∷ []))

seen-anew : {S : Type 0} (m new : Numbers S) (before : List Identifier) (i : Identifier) (n : ℕ) → HasSeen m before → ((q : List ℕ) → number_of new q ≡ (if bytes_eq i.name q then Some n else number_of m q)) → HasSeen new (before ++ i ∷ [])
seen-anew m new before i n h s q =
    ap (λ (o : Option ℕ). is_some o) (s q)
    ∙ anew (list_any (is_called q) before) (bytes_eq i.name q) n (number_of m q) (h q)
    ∙ sym (list_any-append (is_called q) before (i ∷ []))

abbrev nobody : Named
nobody = record { at = 0; text = record { ref_ptr = (0, 0); now = [] } }

-- what the loop over names keeps
abbrev pub Repeats : {S : Type 0} → Numbers S → Option ℕ → List Named → Option ℕ → Type 0
Repeats m least rest whole = (before : List Identifier) × HasSeen m before × (least_from least (repeated_after before (map identifier_of rest)) ≡ whole)

abbrev pub after_first : List Named → List Named
after_first rest = take (length rest - 1) (drop 1 rest)

pub repeats-again : {S : Type 0} (m : Numbers S) (least : Option ℕ) (rest : List Named) (whole : Option ℕ) → 1 ≤ length rest → is_some (number_of m (slice_index_or rest 0 nobody).text.now) ≡ true → Repeats m least rest whole → Repeats m (lesser least (slice_index_or rest 0 nobody).at) (after_first rest) whole
repeats-again m least [] whole one s r = absurd (omega arith)
repeats-again m least (n ∷ rest) whole one s (before, h, e) =
    let k : length (n ∷ rest) - 1 ≡ length rest = omega arith in
    let i = identifier_of n in
    let there : list_any (is_called i.name) before ≡ true = sym (h i.name) ∙ s in
    let here : repeated_after before (map identifier_of (n ∷ rest)) ≡ i.at ∷ repeated_after (before ++ i ∷ []) (map identifier_of rest) = ap (λ (b : Bool). (if b then i.at ∷ [] else []) ++ repeated_after (before ++ i ∷ []) (map identifier_of rest)) there in
    rw (k, take-length rest) (before ++ i ∷ [], seen-again m before i h s, ap (least_from least) (sym here) ∙ e)

pub repeats-anew : {S : Type 0} (m new : Numbers S) (least : Option ℕ) (rest : List Named) (whole : Option ℕ) (number : ℕ) → 1 ≤ length rest → is_some (number_of m (slice_index_or rest 0 nobody).text.now) ≡ false → ((q : List ℕ) → number_of new q ≡ (if bytes_eq (slice_index_or rest 0 nobody).text.now q then Some number else number_of m q)) → Repeats m least rest whole → Repeats new least (after_first rest) whole
repeats-anew m new least [] whole number one s f r = absurd (omega arith)
repeats-anew m new least (n ∷ rest) whole number one s f (before, h, e) =
    let k : length (n ∷ rest) - 1 ≡ length rest = omega arith in
    let i = identifier_of n in
    let there : list_any (is_called i.name) before ≡ false = sym (h i.name) ∙ s in
    let here : repeated_after before (map identifier_of (n ∷ rest)) ≡ repeated_after (before ++ i ∷ []) (map identifier_of rest) = ap (λ (b : Bool). (if b then i.at ∷ [] else []) ++ repeated_after (before ++ i ∷ []) (map identifier_of rest)) there in
    rw (k, take-length rest) (before ++ i ∷ [], seen-anew m new before i number h f, ap (least_from least) (sym here) ∙ e)

-- ---- the least of places

least-append : (m : Option ℕ) (xs ys : List ℕ) → least_from m (xs ++ ys) ≡ least_from (least_from m xs) ys
least-append m [] ys = refl
least-append m (x ∷ xs) ys = least-append (lesser m x) xs ys

-- the places of names that stand twice among members
abbrev pub twice_in : units.Unit → List ℕ
twice_in u = repeated (map member_name (members u))

pub twice-start : (us : List units.Unit) (names : List Named) (least : Option ℕ) → map identifier_of names ≡ map unit_name us → least ≡ least_from None (repeated (map identifier_of names)) → least_from least (flat_map twice_in us) ≡ least_in (named_twice us)
twice-start us names least e f =
    ap (λ (m : Option ℕ). least_from m (flat_map twice_in us)) (f ∙ ap (λ (is : List Identifier). least_from None (repeated is)) e)
    ∙ sym (least-append None (repeated (map unit_name us)) (flat_map twice_in us))

pub twice-turn : (u : units.Unit) (rest : List units.Unit) (ms : List Member) (names : List Named) (least next whole : Option ℕ) → 1 ≤ length rest → u ≡ get_or rest 0 u → ms ≡ members u → map identifier_of names ≡ map member_name ms → next ≡ least_from least (repeated (map identifier_of names)) → least_from least (flat_map twice_in rest) ≡ whole → least_from next (flat_map twice_in (take (length rest - 1) (drop 1 rest))) ≡ whole
twice-turn u [] ms names least next whole one e f g h i = absurd (omega arith)
twice-turn u (v ∷ rest) ms names least next whole one e f g h i =
    let k : length (v ∷ rest) - 1 ≡ length rest = omega arith in
    let own : repeated (map identifier_of names) ≡ twice_in v = ap repeated (g ∙ ap (map member_name) (f ∙ ap members e)) in
    rw (k, take-length rest)
    (ap (λ (m : Option ℕ). least_from m (flat_map twice_in rest)) (h ∙ ap (least_from least) own)
    ∙ sym (least-append least (twice_in v) (flat_map twice_in rest))
    ∙ i)

-- ---- contracts by their names

first-set : (e : Bool) (k : ℕ) (old later : Option ℕ) → (e ≡ true → old ≡ None) → option_or (if e then Some k else old) later ≡ option_or old (cond e (Some k) later)
first-set true k old later h = let f : old ≡ None = h refl in rw f refl
first-set false k old later h = refl

first-kept : (t : Bool) (k : ℕ) (old later : Option ℕ) → (t ≡ true → is_some old ≡ true) → option_or old later ≡ option_or old (cond t (Some k) later)
first-kept true k None later h = let f : false ≡ true = h refl in absurd (cc)
first-kept true k (Some n) later h = refl
first-kept false k old later h = refl

none-there : (o : Option ℕ) → not (is_some o) ≡ true → o ≡ None
none-there None e = refl
none-there (Some n) e = absurd (cc)

some-there : (b s : Bool) → b ≡ true → (b && not s) ≡ false → s ≡ true
some-there true true e f = refl
some-there true false e f = absurd (cc)
some-there false s e f = absurd (cc)

-- the unit is the first of its name
pub contracts-set : {S : Type 0} (q : List ℕ) (u : units.Unit) (rest : List units.Unit) (old new : Numbers S) (k next : ℕ) (whole : Option ℕ) → 1 ≤ length rest → u ≡ get_or rest 0 u → next ≡ suc k → (is_contract u && not (is_some (number_of old (unit_name u).name))) ≡ true → number_of new q ≡ (if bytes_eq (unit_name u).name q then Some k else number_of old q) → option_or (number_of old q) (position_from (is_contract_of q) k rest) ≡ whole → option_or (number_of new q) (position_from (is_contract_of q) next (take (length rest - 1) (drop 1 rest))) ≡ whole
contracts-set q u [] old new k next whole one e n f g h = absurd (omega arith)
contracts-set q u (v ∷ rest) old new k next whole one e n f g h =
    let l : length (v ∷ rest) - 1 ≡ length rest = omega arith in
    let m : next ≡ k + 1 = omega arith in
    let both = and_parts (is_contract u) (not (is_some (number_of old (unit_name u).name))) f in
    let test : is_contract_of q v ≡ bytes_eq (unit_name u).name q = ap (is_contract_of q) (sym e) ∙ ap (λ (b : Bool). b && bytes_eq (unit_name u).name q) both.0 in
    let none : bytes_eq (unit_name u).name q ≡ true → number_of old q ≡ None = λ same. none-there (number_of old q) (subst (λ (r : List ℕ). not (is_some (number_of old r)) ≡ true) ((bytes_eq-Decides (unit_name u).name q).0 same) both.1) in
    rw (l, take-length rest, m)
    (ap (λ (o : Option ℕ). option_or o (position_from (is_contract_of q) (k + 1) rest)) g
    ∙ first-set (bytes_eq (unit_name u).name q) k (number_of old q) (position_from (is_contract_of q) (k + 1) rest) none
    ∙ ap (λ (b : Bool). option_or (number_of old q) (cond b (Some k) (position_from (is_contract_of q) (k + 1) rest))) (sym test)
    ∙ h)

-- it isn't
pub contracts-kept : {S : Type 0} (q : List ℕ) (u : units.Unit) (rest : List units.Unit) (old : Numbers S) (k next : ℕ) (whole : Option ℕ) → 1 ≤ length rest → u ≡ get_or rest 0 u → next ≡ suc k → (is_contract u && not (is_some (number_of old (unit_name u).name))) ≡ false → option_or (number_of old q) (position_from (is_contract_of q) k rest) ≡ whole → option_or (number_of old q) (position_from (is_contract_of q) next (take (length rest - 1) (drop 1 rest))) ≡ whole
contracts-kept q u [] old k next whole one e n f h = absurd (omega arith)
contracts-kept q u (v ∷ rest) old k next whole one e n f h =
    let l : length (v ∷ rest) - 1 ≡ length rest = omega arith in
    let m : next ≡ k + 1 = omega arith in
    let there : is_contract_of q u ≡ true → is_some (number_of old q) ≡ true = λ t.
    let both = and_parts (is_contract u) (bytes_eq (unit_name u).name q) t in
    let some : is_some (number_of old (unit_name u).name) ≡ true = some-there (is_contract u) (is_some (number_of old (unit_name u).name)) both.0 f in
    subst (λ (r : List ℕ). is_some (number_of old r) ≡ true) ((bytes_eq-Decides (unit_name u).name q).0 both.1) some in
    rw (l, take-length rest, m)
    (first-kept (is_contract_of q u) k (number_of old q) (position_from (is_contract_of q) (k + 1) rest) there
    ∙ ap (λ (b : Bool). option_or (number_of old q) (cond b (Some k) (position_from (is_contract_of q) (k + 1) rest))) (ap (is_contract_of q) e)
    ∙ h)

-- ---- graphs of bases

pub unknown-turn : (us : List units.Unit) (u : units.Unit) (rest : List units.Unit) (bs : List Base) (least next whole : Option ℕ) → 1 ≤ length rest → u ≡ get_or rest 0 u → bs ≡ bases u → next ≡ least_from least (unknown_among us bs) → least_from least (flat_map (unknown_of us) rest) ≡ whole → least_from next (flat_map (unknown_of us) (take (length rest - 1) (drop 1 rest))) ≡ whole
unknown-turn us u [] bs least next whole one e f g h = absurd (omega arith)
unknown-turn us u (v ∷ rest) bs least next whole one e f g h =
    let k : length (v ∷ rest) - 1 ≡ length rest = omega arith in
    let own : unknown_among us bs ≡ unknown_of us v = ap (unknown_among us) (f ∙ ap bases e) in
    rw (k, take-length rest)
    (ap (λ (m : Option ℕ). least_from m (flat_map (unknown_of us) rest)) (g ∙ ap (least_from least) own)
    ∙ sym (least-append least (unknown_of us v) (flat_map (unknown_of us) rest))
    ∙ h)

pub bases-turn : (us : List units.Unit) (u : units.Unit) (rest : List units.Unit) (made new whole : List (List ℕ)) (bs : List ℕ) → 1 ≤ length rest → u ≡ get_or rest 0 u → bs ≡ base_places us u → new ≡ made ++ bs ∷ [] → made ++ map (base_places us) rest ≡ whole → new ++ map (base_places us) (take (length rest - 1) (drop 1 rest)) ≡ whole
bases-turn us u [] made new whole bs one e f g h = absurd (omega arith)
bases-turn us u (v ∷ rest) made new whole bs one e f g h =
    let k : length (v ∷ rest) - 1 ≡ length rest = omega arith in
    let own : bs ≡ base_places us v = f ∙ ap (base_places us) e in
    rw (k, take-length rest)
    (ap (λ (xs : List (List ℕ)). xs ++ map (base_places us) rest) g
    ∙ append_assoc made (bs ∷ []) (map (base_places us) rest)
    ∙ ap (λ (b : List ℕ). made ++ b ∷ map (base_places us) rest) own
    ∙ h)
