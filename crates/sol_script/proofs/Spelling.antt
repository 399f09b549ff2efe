-- What a line says, and how it is spelled.
use Rattle.std.proofs.Common.{◌≡◌, ◌∙◌, refl, sym, ap, subst, ℕ, zero, suc, ◌+◌, ◌<◌, List, [], ◌∷◌, ◌++◌, length, map, Option, Some, None, Bool, true, false, not, ◌&&◌, ◌==◌, pos, if◌then◌else◌, arith}
use Rattle.std.proofs.lemmas.Bool.{and_parts, and_from}
use Rattle.std.proofs.lemmas.Bool.Decides.{nat_tests}
use Rattle.std.proofs.lemmas.Slice.Eq.{bytes_eq-Decides}
use Rattle.lists.proofs.Tests.{same-not, or-left, or-right}
use Rattle.std.specs.Prelude.{bytes_eq, codes, slice_get, ◌||◌, nat_le, ⊤}
use Rattle.std.specs.List.{list_all}
use Rattle.std.specs.Option.{is_some}
use Rattle.std.specs.Fmt.{signed_decimal}
use lib.IntN.{ℤ}
use Rattle.sol_core.specs.declared.Answer.{Answer}
use Rattle.sol_core.specs.declared.Answer.TheVariants as answer
use Rattle.sol_core.specs.declared.Fun.{Fun}
use Rattle.sol_core.specs.declared.Program.{Program}
use Rattle.sol_core.specs.Doors.{door, fun_at}
use Rattle.sol_core.specs.Formed.{is_word, begins_word, goes_on, are_doors, is_door, has_door_named, named}
use Rattle.sol_script.specs.declared.line.Line.{Line}
use Rattle.sol_script.specs.declared.line.Line.TheVariants as line
use Rattle.sol_script.specs.Lines.{is_short, number, numbers, first_named, door_named, acting, deployed, called_by, called, alone, given, given_number, said_by, said_in, said}
use Rattle.sol_script.specs.Pieces.{pieces}
use Rattle.sol_script.specs.ScriptText.{name_of}
use Rattle.sol_script.specs.Told.{is_short_answer}
use Rattle.sol_script.proofs.Pieces.{lacks, all_lack, behind, between, between-pieces, pieces-between}
use Rattle.sol_script.proofs.Numbers.{number-spelled, number-spells, numbers-spelled, numbers-spell, numbers-lack, signed-lacks}

-- the words of a line
abbrev pub words_of : Program → Line → List (List ℕ)
words_of p (line.Deploy sender args) = codes "deploy" ∷ map signed_decimal (sender ∷ args)
words_of p (line.Call None sender args) = []
words_of p (line.Call (Some d) sender args) = codes "call" ∷ name_of (door p d) ∷ map signed_decimal (sender ∷ args)
words_of p line.Reply = codes "reply" ∷ []
words_of p (line.Answer (answer.Give None)) = codes "give" ∷ []
words_of p (line.Answer (answer.Give (Some n))) = codes "give" ∷ signed_decimal n ∷ []
words_of p (line.Answer answer.Fail) = codes "fail" ∷ []
words_of p line.End = codes "end" ∷ []

-- its numbers are short, and its door has a function
abbrev pub is_fine : Program → Line → Bool
is_fine p (line.Deploy sender args) = is_short sender && list_all is_short args
is_fine p (line.Call None sender args) = false
is_fine p (line.Call (Some d) sender args) = is_some (door p d) && (is_short sender && list_all is_short args)
is_fine p line.Reply = true
is_fine p (line.Answer a) = is_short_answer a
is_fine p line.End = true

-- ---- from a line's words to what it says: a call without a door says nothing more

abbrev Means : Program → List (List ℕ) → Line → Type 0
Means p ws (line.Deploy sender args) = (ws ≡ words_of p (line.Deploy sender args)) × (is_fine p (line.Deploy sender args) ≡ true)
Means p ws (line.Call None sender args) = ⊤
Means p ws (line.Call (Some d) sender args) = (ws ≡ words_of p (line.Call (Some d) sender args)) × (is_fine p (line.Call (Some d) sender args) ≡ true)
Means p ws line.Reply = ws ≡ words_of p line.Reply
Means p ws (line.Answer a) = (ws ≡ words_of p (line.Answer a)) × (is_fine p (line.Answer a) ≡ true)
Means p ws line.End = ws ≡ words_of p line.End

some-number : (m n : ℕ) → Some m ≡ Some n → m ≡ n
some-number m n e = ap number_in e
  where
    number_in : Option ℕ → ℕ
    number_in None = 0
    number_in (Some k) = k

same-word : (xs ys : List ℕ) → bytes_eq xs ys ≡ true → xs ≡ ys
same-word xs ys h = (bytes_eq-Decides xs ys).0 h

acts : (o : Option (List ℤ)) (sender : ℤ) (args : List ℤ) → acting o ≡ Some (sender, args) → o ≡ Some (sender ∷ args)
acts None sender args e = absurd (cc)
acts (Some []) sender args e = absurd (cc)
acts (Some (n ∷ ns)) sender args e = ap (λ o. Some (together o)) e
  where
    together : Option (ℤ × List ℤ) → List ℤ
    together None = []
    together (Some (z, zs)) = z ∷ zs

acted : (words : List (List ℕ)) (sender : ℤ) (args : List ℤ) → acting (numbers words) ≡ Some (sender, args) → (words ≡ map signed_decimal (sender ∷ args)) × ((is_short sender && list_all is_short args) ≡ true)
acted words sender args e = numbers-spell words (sender ∷ args) (acts (numbers words) sender args e)

module _ (p : Program) where
  has-name : (o : Option Fun) (name : List ℕ) → named name o ≡ true → (is_some o ≡ true) × (name_of o ≡ name)
  has-name None name h = absurd (cc)
  has-name (Some f) name h = (refl, same-word f.name name h)

  first-named : (fs : List ℕ) (at : ℕ) (name : List ℕ) (d : ℕ) → first_named p at fs name ≡ Some d → (k : ℕ) × (d ≡ at + k) × (is_some (fun_at p (slice_get fs k)) ≡ true) × (name_of (fun_at p (slice_get fs k)) ≡ name)
  first-named [] at name d e = absurd (cc)
  first-named (f ∷ fs) at name d e = step (named name (slice_get p.funs f)) refl e (first-named fs (suc at) name d)
    where
      step : (t : Bool) → named name (slice_get p.funs f) ≡ t → (if t then Some at else first_named p (suc at) fs name) ≡ Some d
          → (first_named p (suc at) fs name ≡ Some d → (k : ℕ) × (d ≡ suc at + k) × (is_some (fun_at p (slice_get fs k)) ≡ true) × (name_of (fun_at p (slice_get fs k)) ≡ name)) → (k : ℕ) × (d ≡ at + k) × (is_some (fun_at p (slice_get (f ∷ fs) k)) ≡ true) × (name_of (fun_at p (slice_get (f ∷ fs) k)) ≡ name)
      step true is h rest = let q = has-name (slice_get p.funs f) name is in (0, omega (arith, some-number at d h), q.0, q.1)
      step false is h rest = let r = rest h in (suc r.0, omega (arith, r.1), r.2, r.3)

  door-named : (name : List ℕ) (d : ℕ) → door_named p name ≡ Some d → (is_some (door p d) ≡ true) × (name_of (door p d) ≡ name)
  door-named name d e =
      let r = first-named p.doors 0 name d e in
      let same : r.0 ≡ d = omega (arith, r.1) in
      (subst (λ k. is_some (door p k) ≡ true) same r.2, subst (λ k. name_of (door p k) ≡ name) same r.3)

  deploy-means : (words : List (List ℕ)) (l : Line) → deployed (acting (numbers words)) ≡ Some l → Means p (codes "deploy" ∷ words) l
  deploy-means words l e = step (acting (numbers words)) refl l e
    where
      step : (o : Option (ℤ × List ℤ)) → acting (numbers words) ≡ o → (m : Line) → deployed o ≡ Some m → Means p (codes "deploy" ∷ words) m
      step None q m f = absurd (cc)
      step (Some (sender, args)) q m f =
          let a = acted words sender args q in
          let same : line.Deploy sender args ≡ m = cc in
          subst (Means p (codes "deploy" ∷ words)) same (ap (λ ws. codes "deploy" ∷ ws) a.0, a.1)

  call-by-means : (name : List ℕ) (words : List (List ℕ)) (l : Line) → called_by (door_named p name) (acting (numbers words)) ≡ Some l → Means p (codes "call" ∷ name ∷ words) l
  call-by-means name words l e = step (door_named p name) refl (acting (numbers words)) refl l e
    where
      step : (d : Option ℕ) → door_named p name ≡ d → (o : Option (ℤ × List ℤ)) → acting (numbers words) ≡ o → (m : Line) → called_by d o ≡ Some m → Means p (codes "call" ∷ name ∷ words) m
      step d w None q m f = absurd (cc)
      step None w (Some (sender, args)) q m f = let same : line.Call None sender args ≡ m = cc in subst (Means p (codes "call" ∷ name ∷ words)) same tt
      step (Some d) w (Some (sender, args)) q m f =
          let a = acted words sender args q in
          let b = door-named name d w in
          let same : line.Call (Some d) sender args ≡ m = cc in
          let spell : codes "call" ∷ name ∷ words ≡ words_of p (line.Call (Some d) sender args) = ap (λ ws. codes "call" ∷ name ∷ ws) a.0 ∙ ap (λ n. codes "call" ∷ n ∷ map signed_decimal (sender ∷ args)) (sym b.1) in
          subst (Means p (codes "call" ∷ name ∷ words)) same (spell, and_from (is_some (door p d)) (is_short sender && list_all is_short args) b.0 a.1)

  call-means : (words : List (List ℕ)) (l : Line) → called p words ≡ Some l → Means p (codes "call" ∷ words) l
  call-means [] l e = absurd (cc)
  call-means ([] ∷ words) l e = absurd (cc)
  call-means ((b ∷ bs) ∷ words) l e = call-by-means (b ∷ bs) words l e

  give-means : (words : List (List ℕ)) (l : Line) → given words ≡ Some l → Means p (codes "give" ∷ words) l
  give-means [] l e = let same : line.Answer (answer.Give None) ≡ l = cc in subst (Means p (codes "give" ∷ [])) same (refl, refl)
  give-means (word ∷ []) l e = step (number word) refl l e
    where
      step : (o : Option ℤ) → number word ≡ o → (m : Line) → given_number o ≡ Some m → Means p (codes "give" ∷ word ∷ []) m
      step None q m f = absurd (cc)
      step (Some n) q m f =
          let a = number-spells word n q in
          let same : line.Answer (answer.Give (Some n)) ≡ m = cc in
          subst (Means p (codes "give" ∷ word ∷ [])) same (ap (λ w. codes "give" ∷ w ∷ []) a.0, a.1)
  give-means (word ∷ other ∷ words) l e = absurd (cc)

  alone-means : (k : Line) (word : List ℕ) (words : List (List ℕ)) (l : Line) → Means p (word ∷ []) k → alone k words ≡ Some l → Means p (word ∷ words) l
  alone-means k word [] l h e = let same : k ≡ l = cc in subst (Means p (word ∷ [])) same h
  alone-means k word (other ∷ words) l h e = absurd (cc)

  by-means : (word : List ℕ) (words : List (List ℕ)) (l : Line) → said_by p word words ≡ Some l → Means p (word ∷ words) l
  by-means word words l e = deploy (bytes_eq word (codes "deploy")) refl e
    where
      at : (w : List ℕ) → bytes_eq word w ≡ true → Means p (w ∷ words) l → Means p (word ∷ words) l
      at w is m = subst (λ v. Means p (v ∷ words) l) (sym (same-word word w is)) m

      end : (t : Bool) → bytes_eq word (codes "end") ≡ t → (if t then alone line.End words else None) ≡ Some l → Means p (word ∷ words) l
      end true is f = at (codes "end") is (alone-means line.End (codes "end") words l refl f)
      end false is f = absurd (cc)

      fail : (t : Bool) → bytes_eq word (codes "fail") ≡ t → (if t then alone (line.Answer answer.Fail) words else (if bytes_eq word (codes "end") then alone line.End words else None)) ≡ Some l → Means p (word ∷ words) l
      fail true is f = at (codes "fail") is (alone-means (line.Answer answer.Fail) (codes "fail") words l (refl, refl) f)
      fail false is f = end (bytes_eq word (codes "end")) refl f

      give : (t : Bool) → bytes_eq word (codes "give") ≡ t → (if t then given words else (if bytes_eq word (codes "fail") then alone (line.Answer answer.Fail) words else (if bytes_eq word (codes "end") then alone line.End words else None))) ≡ Some l → Means p (word ∷ words) l
      give true is f = at (codes "give") is (give-means words l f)
      give false is f = fail (bytes_eq word (codes "fail")) refl f

      reply : (t : Bool) → bytes_eq word (codes "reply") ≡ t → (if t then alone line.Reply words else (if bytes_eq word (codes "give") then given words else (if bytes_eq word (codes "fail") then alone (line.Answer answer.Fail) words else (if bytes_eq word (codes "end") then alone line.End words else None)))) ≡ Some l → Means p (word ∷ words) l
      reply true is f = at (codes "reply") is (alone-means line.Reply (codes "reply") words l refl f)
      reply false is f = give (bytes_eq word (codes "give")) refl f

      call : (t : Bool) → bytes_eq word (codes "call") ≡ t → (if t then called p words else (if bytes_eq word (codes "reply") then alone line.Reply words else (if bytes_eq word (codes "give") then given words else (if bytes_eq word (codes "fail") then alone (line.Answer answer.Fail) words else (if bytes_eq word (codes "end") then alone line.End words else None))))) ≡ Some l → Means p (word ∷ words) l
      call true is f = at (codes "call") is (call-means words l f)
      call false is f = reply (bytes_eq word (codes "reply")) refl f

      deploy : (t : Bool) → bytes_eq word (codes "deploy") ≡ t → (if t then deployed (acting (numbers words)) else (if bytes_eq word (codes "call") then called p words else (if bytes_eq word (codes "reply") then alone line.Reply words else (if bytes_eq word (codes "give") then given words else (if bytes_eq word (codes "fail") then alone (line.Answer answer.Fail) words else (if bytes_eq word (codes "end") then alone line.End words else None)))))) ≡ Some l → Means p (word ∷ words) l
      deploy true is f = at (codes "deploy") is (deploy-means words l f)
      deploy false is f = call (bytes_eq word (codes "call")) refl f

  -- what a line says, it is spelled so
  abbrev pub Spells : List ℕ → Line → Type 0
  Spells text (line.Deploy sender args) = (text ≡ between 32 (words_of p (line.Deploy sender args))) × (is_fine p (line.Deploy sender args) ≡ true)
  Spells text (line.Call None sender args) = ⊤
  Spells text (line.Call (Some d) sender args) = (text ≡ between 32 (words_of p (line.Call (Some d) sender args))) × (is_fine p (line.Call (Some d) sender args) ≡ true)
  Spells text line.Reply = text ≡ between 32 (words_of p line.Reply)
  Spells text (line.Answer a) = (text ≡ between 32 (words_of p (line.Answer a))) × (is_fine p (line.Answer a) ≡ true)
  Spells text line.End = text ≡ between 32 (words_of p line.End)

  in-means : (ws : List (List ℕ)) (l : Line) → said_in p ws ≡ Some l → Means p ws l
  in-means [] l e = absurd (cc)
  in-means (w ∷ ws) l e = by-means w ws l e

  spelled-so : (ws : List (List ℕ)) (text : List ℕ) (l : Line) → between 32 ws ≡ text → Means p ws l → Spells text l
  spelled-so ws text (line.Deploy sender args) e m = (sym e ∙ ap (between 32) m.0, m.1)
  spelled-so ws text (line.Call None sender args) e m = tt
  spelled-so ws text (line.Call (Some d) sender args) e m = (sym e ∙ ap (between 32) m.0, m.1)
  spelled-so ws text line.Reply e m = sym e ∙ ap (between 32) m
  spelled-so ws text (line.Answer a) e m = (sym e ∙ ap (between 32) m.0, m.1)
  spelled-so ws text line.End e m = sym e ∙ ap (between 32) m

  pub said-spells : (text : List ℕ) (l : Line) → said p text ≡ Some l → Spells text l
  unfolding said
  said-spells text l e = spelled-so (pieces 32 text) text l (between-pieces 32 text) (in-means (pieces 32 text) l e)

-- ---- from what a line says to its spelling and back

-- a word lacks bytes that are no letters
below-word : (b : ℕ) (bs : List ℕ) → b < 33 → list_all goes_on bs ≡ true → lacks b bs ≡ true
below-word b [] small h = refl
below-word b (c ∷ cs) small h =
    let q = and_parts (goes_on c) (list_all goes_on cs) h in
    and_from (not (c == b)) (lacks b cs) (ap not (same-not c b (λ e. not-below c b small e q.0))) (below-word b cs small q.1)
  where
    not-below : (x y : ℕ) → y < 33 → x ≡ y → goes_on x ≡ true → ⊥
    not-below x y less same is = grind (arith, nat_tests)

begins-goes : (b : ℕ) → begins_word b ≡ true → goes_on b ≡ true
begins-goes b h = or-left (begins_word b) (nat_le 48 b && nat_le b 57) h

pub word-lacks : (b : ℕ) (word : List ℕ) → b < 33 → is_word word ≡ true → lacks b word ≡ true
word-lacks b [] small h = refl
word-lacks b (c ∷ cs) small h =
    let q = and_parts (begins_word c) (list_all goes_on cs) h in
    below-word b (c ∷ cs) small (and_from (goes_on c) (list_all goes_on cs) (begins-goes c q.0) q.1)

module _ (p : Program) where
  has-named : (fs : List ℕ) (k : ℕ) (g : Fun) (q : List ℕ) → fun_at p (slice_get fs k) ≡ Some g → bytes_eq g.name q ≡ true → has_door_named p fs q ≡ true
  has-named [] k g q e h = absurd (cc)
  has-named (x ∷ xs) zero g q e h = or-left (named q (slice_get p.funs x)) (has_door_named p xs q) (ap (named q) e ∙ h)
  has-named (x ∷ xs) (suc k) g q e h = or-right (named q (slice_get p.funs x)) (has_door_named p xs q) (has-named xs k g q e h)

  -- the doors' names differ, so each is found by its own
  found : (fs : List ℕ) (at k : ℕ) (g : Fun) → are_doors p fs ≡ true → fun_at p (slice_get fs k) ≡ Some g → (first_named p at fs g.name ≡ Some (at + k)) × (is_word g.name ≡ true)
  found [] at k g h e = absurd (cc)
  found (f ∷ fs) at zero g h e =
      let q = and_parts (is_door p (slice_get p.funs f) fs) (are_doors p fs) h in
      let w : (is_word g.name && not (has_door_named p fs g.name)) ≡ true = ap (λ o. is_door p o fs) (sym e) ∙ q.0 in
      let is : named g.name (slice_get p.funs f) ≡ true = ap (named g.name) e ∙ (bytes_eq-Decides g.name g.name).1 refl in
      let none : at + 0 ≡ at = omega arith in
      (rw (is, none) refl, (and_parts (is_word g.name) (not (has_door_named p fs g.name)) w).0)
  found (f ∷ fs) at (suc k) g h e =
      let q = and_parts (is_door p (slice_get p.funs f) fs) (are_doors p fs) h in
      let r = found fs (suc at) k g q.1 e in
      let place : suc at + k ≡ at + suc k = omega arith in
      (passed (slice_get p.funs f) refl q.0 (named g.name (slice_get p.funs f)) refl ∙ r.0 ∙ ap Some place, r.1)
    where
      passed : (o : Option Fun) → slice_get p.funs f ≡ o → is_door p o fs ≡ true → (t : Bool) → named g.name (slice_get p.funs f) ≡ t → (if named g.name (slice_get p.funs f) then Some at else first_named p (suc at) fs g.name) ≡ first_named p (suc at) fs g.name
      passed None is d t same = absurd (cc)
      passed (Some j) is d false same = rw same refl
      passed (Some j) is d true same =
          let name : j.name ≡ g.name = same-word j.name g.name (ap (named g.name) (sym is) ∙ same) in
          let there : has_door_named p fs j.name ≡ true = has-named fs k g j.name e ((bytes_eq-Decides g.name j.name).1 (sym name)) in
          let away : not (has_door_named p fs j.name) ≡ true = (and_parts (is_word j.name) (not (has_door_named p fs j.name)) d).1 in
          absurd (cc)

  pub by-name : (d : ℕ) → are_doors p p.doors ≡ true → is_some (door p d) ≡ true → (door_named p (name_of (door p d)) ≡ Some d) × (is_word (name_of (door p d)) ≡ true)
  by-name d h some = step (door p d) refl some
    where
      step : (o : Option Fun) → door p d ≡ o → is_some o ≡ true → (door_named p (name_of o) ≡ Some d) × (is_word (name_of o) ≡ true)
      step None e s = absurd (cc)
      step (Some g) e s = let r = found p.doors 0 d g h e in let same : 0 + d ≡ d = omega arith in (r.0 ∙ ap Some same, r.1)

  pub words-lack : (b : ℕ) → b < 33 → are_doors p p.doors ≡ true → (l : Line) → is_fine p l ≡ true → all_lack b (words_of p l) ≡ true
  words-lack b small h (line.Deploy sender args) fine = and_from (lacks b (codes "deploy")) (all_lack b (map signed_decimal (sender ∷ args))) (word-lacks b (codes "deploy") small refl) (numbers-lack b (sender ∷ args) (omega arith) fine)
  words-lack b small h (line.Call None sender args) fine = refl
  words-lack b small h (line.Call (Some d) sender args) fine =
      let q = and_parts (is_some (door p d)) (is_short sender && list_all is_short args) fine in
      and_from (lacks b (codes "call")) (lacks b (name_of (door p d)) && all_lack b (map signed_decimal (sender ∷ args))) (word-lacks b (codes "call") small refl)
      (and_from (lacks b (name_of (door p d))) (all_lack b (map signed_decimal (sender ∷ args))) (word-lacks b (name_of (door p d)) small (by-name d h q.0).1) (numbers-lack b (sender ∷ args) (omega arith) q.1))
  words-lack b small h line.Reply fine = and_from (lacks b (codes "reply")) true (word-lacks b (codes "reply") small refl) refl
  words-lack b small h (line.Answer (answer.Give None)) fine = and_from (lacks b (codes "give")) true (word-lacks b (codes "give") small refl) refl
  words-lack b small h (line.Answer (answer.Give (Some n))) fine = and_from (lacks b (codes "give")) (lacks b (signed_decimal n) && true) (word-lacks b (codes "give") small refl) (and_from (lacks b (signed_decimal n)) true (signed-lacks b n (omega arith) fine) refl)
  words-lack b small h (line.Answer answer.Fail) fine = and_from (lacks b (codes "fail")) true (word-lacks b (codes "fail") small refl) refl
  words-lack b small h line.End fine = and_from (lacks b (codes "end")) true (word-lacks b (codes "end") small refl) refl

  cut-back : (w : List ℕ) (ws : List (List ℕ)) → all_lack 32 (w ∷ ws) ≡ true → pieces 32 (between 32 (w ∷ ws)) ≡ w ∷ ws
  cut-back w ws h = let q = and_parts (lacks 32 w) (all_lack 32 ws) h in pieces-between 32 w ws q.0 q.1

  in-said : (l : Line) → are_doors p p.doors ≡ true → is_fine p l ≡ true → said_in p (pieces 32 (between 32 (words_of p l))) ≡ Some l
  in-said (line.Deploy sender args) h fine =
      ap (said_in p) (cut-back (codes "deploy") (map signed_decimal (sender ∷ args)) (words-lack 32 (omega arith) h (line.Deploy sender args) fine))
      ∙ ap (λ o. deployed (acting o)) (numbers-spelled (sender ∷ args) fine)
  in-said (line.Call None sender args) h fine = absurd (cc)
  in-said (line.Call (Some d) sender args) h fine =
      let q = and_parts (is_some (door p d)) (is_short sender && list_all is_short args) fine in
      let b = by-name d h q.0 in
      ap (said_in p) (cut-back (codes "call") (name_of (door p d) ∷ map signed_decimal (sender ∷ args)) (words-lack 32 (omega arith) h (line.Call (Some d) sender args) fine))
      ∙ by-door (name_of (door p d)) b.1 b.0 q.1
    where
      by-door : (name : List ℕ) → is_word name ≡ true → door_named p name ≡ Some d → (is_short sender && list_all is_short args) ≡ true → called p (name ∷ map signed_decimal (sender ∷ args)) ≡ Some (line.Call (Some d) sender args)
      by-door [] w n s = absurd (cc)
      by-door (c ∷ cs) w n s = ap (λ o. called_by o (acting (numbers (map signed_decimal (sender ∷ args))))) n ∙ ap (λ o. called_by (Some d) (acting o)) (numbers-spelled (sender ∷ args) s)
  in-said line.Reply h fine = ap (said_in p) (cut-back (codes "reply") [] (words-lack 32 (omega arith) h line.Reply fine))
  in-said (line.Answer (answer.Give None)) h fine = ap (said_in p) (cut-back (codes "give") [] (words-lack 32 (omega arith) h (line.Answer (answer.Give None)) fine))
  in-said (line.Answer (answer.Give (Some n))) h fine = ap (said_in p) (cut-back (codes "give") (signed_decimal n ∷ []) (words-lack 32 (omega arith) h (line.Answer (answer.Give (Some n))) fine)) ∙ ap given_number (number-spelled n fine)
  in-said (line.Answer answer.Fail) h fine = ap (said_in p) (cut-back (codes "fail") [] (words-lack 32 (omega arith) h (line.Answer answer.Fail) fine))
  in-said line.End h fine = ap (said_in p) (cut-back (codes "end") [] (words-lack 32 (omega arith) h line.End fine))

  pub said-spelled : (l : Line) → are_doors p p.doors ≡ true → is_fine p l ≡ true → said p (between 32 (words_of p l)) ≡ Some l
  unfolding said
  said-spelled l h fine = in-said l h fine
