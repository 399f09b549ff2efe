-- From a text to its script and back.
use Rattle.std.proofs.Common.{◌≡◌, ◌∙◌, refl, sym, ap, subst, ℕ, zero, suc, ◌+◌, ◌<◌, List, [], ◌∷◌, ◌++◌, length, map, Option, Some, None, Result, Ok, Err, Bool, true, false, ◌&&◌, if◌then◌else◌, arith}
use Rattle.std.proofs.lemmas.List.{append_assoc, append-nil}
use Rattle.std.proofs.lemmas.Bool.{and_parts, and_from}
use Rattle.std.specs.Prelude.{nat_lt, option_to_list}
use Rattle.std.specs.List.{list_all}
use Rattle.std.specs.Option.{is_some}
use Rattle.lists.proofs.Tests.{less-true}
use lib.IntN.{ℤ}
use Rattle.sol_core.specs.declared.Answer.{Answer}
use Rattle.sol_core.specs.declared.Program.{Program}
use Rattle.sol_core.specs.declared.Script.{Script}
use Rattle.sol_core.specs.declared.Call.{Call, Call-F, out-Call, roll-Call, roll-out-Call}
use Rattle.sol_core.specs.declared.Reply.{Reply, Reply-F, out-Reply, roll-Reply}
use Rattle.sol_core.specs.Doors.{door}
use Rattle.sol_script.specs.declared.line.Line.{Line}
use Rattle.sol_script.specs.declared.line.Line.TheVariants as line
use Rattle.sol_script.specs.declared.reading.Level.{Level}
use Rattle.sol_script.specs.declared.reading.Reading.{Reading}
use Rattle.sol_script.specs.declared.fault.ScriptTextFault.{ScriptTextFault}
use Rattle.sol_script.specs.declared.fault.ScriptTextFault.TheVariants as fault
use Rattle.sol_script.specs.Lines.{is_short, said}
use Rattle.sol_script.specs.Pieces.{ended, tail}
use Rattle.sol_script.specs.Reading.{apart, before_pair, plain_call, replied, begun, calls_of, with_call, with_level, with_answer, opened, answered, line_read, by_line, then_read, read_lines, read_first, read_whole, read_script, closed, if_last}
use Rattle.sol_script.specs.ScriptText.{joined}
use Rattle.sol_script.specs.Told.{is_short_answer, within, is_told_call, is_told_reply, is_told, script_text}
use Rattle.sol_script.proofs.Pieces.{glued, glued-ended}
use Rattle.sol_script.proofs.Spelling.{words_of, is_fine, Spells, said-spells}
use Rattle.sol_script.proofs.Raw.{raw_line, raw_call, raw_reply, raw_calls, raw_replies, raw_script, raw-call, raw-reply, raw_calls-append, raw_replies-append, script-glued}
use Rattle.sol_script.proofs.Forth.{told-call, told-reply}

-- ---- the lines behind a reading

module _ (p : Program) where
  abbrev level_raw : Level → List (List ℕ)
  level_raw l = raw_calls p (l.before ++ l.last ∷ []) ++ raw_line p line.Reply ∷ []

  abbrev levels_raw : List Level → List (List ℕ)
  levels_raw ls = joined (map level_raw ls)

  abbrev reading_raw : Reading → List (List ℕ)
  reading_raw r = raw_line p (line.Deploy r.sender r.args) ∷ (levels_raw r.levels ++ raw_calls p (calls_of r))

  levels_raw-append : (ls ms : List Level) → levels_raw (ls ++ ms) ≡ levels_raw ls ++ levels_raw ms
  levels_raw-append [] ms = refl
  levels_raw-append (l ∷ ls) ms = ap (λ xs. level_raw l ++ xs) (levels_raw-append ls ms) ∙ sym (append_assoc (level_raw l) (levels_raw ls) (levels_raw ms))

  raw-plain : (d : ℕ) (sender : ℤ) (args : List ℤ) → raw_call p (plain_call d sender args) ≡ raw_line p (line.Call (Some d) sender args) ∷ []
  raw-plain d sender args = raw-call p (record { fun = d; sender = sender; args = args; replies = [] })

  raw-own : (c : Call) → raw_call p c ≡ raw_line p (line.Call (Some (out-Call c).fun) (out-Call c).sender (out-Call c).args) ∷ raw_replies p (out-Call c).replies
  raw-own c = ap (raw_call p) (sym (roll-out-Call c)) ∙ raw-call p (out-Call c)

  raw-replied : (c : Call) (x : Reply) → raw_call p (replied c x) ≡ raw_call p c ++ raw_reply p x
  raw-replied c x =
      let l : List ℕ = raw_line p (line.Call (Some (out-Call c).fun) (out-Call c).sender (out-Call c).args) in
      raw-call p (record { fun = (out-Call c).fun; sender = (out-Call c).sender; args = (out-Call c).args; replies = (out-Call c).replies ++ x ∷ [] })
      ∙ ap (λ ls. l ∷ ls) (raw_replies-append p (out-Call c).replies (x ∷ []) ∙ ap (λ ls. raw_replies p (out-Call c).replies ++ ls) (append-nil (raw_reply p x)))
      ∙ ap (λ ls. ls ++ raw_reply p x) (sym (raw-own c))

  calls-last : (cs : List Call) (c : Call) → raw_calls p (cs ++ c ∷ []) ≡ raw_calls p cs ++ raw_call p c
  calls-last cs c = raw_calls-append p cs (c ∷ []) ∙ ap (λ ls. raw_calls p cs ++ ls) (append-nil (raw_call p c))

  call-raw : (r : Reading) (d : ℕ) (sender : ℤ) (args : List ℤ) → reading_raw (with_call r (plain_call d sender args)) ≡ reading_raw r ++ raw_line p (line.Call (Some d) sender args) ∷ []
  call-raw r d sender args =
      ap (λ ls. raw_line p (line.Deploy r.sender r.args) ∷ (levels_raw r.levels ++ ls)) (calls-last (calls_of r) (plain_call d sender args) ∙ ap (λ ls. raw_calls p (calls_of r) ++ ls) (raw-plain d sender args))
      ∙ ap (λ ls. raw_line p (line.Deploy r.sender r.args) ∷ ls) (sym (append_assoc (levels_raw r.levels) (raw_calls p (calls_of r)) (raw_line p (line.Call (Some d) sender args) ∷ [])))

  level-raw : (r : Reading) (c : Call) → r.last ≡ Some c → reading_raw (with_level r c) ≡ reading_raw r ++ raw_line p line.Reply ∷ []
  level-raw r c e =
      let l : Level = record { before = r.calls; last = c } in
      let own : r.calls ++ c ∷ [] ≡ calls_of r = ap (λ o. r.calls ++ option_to_list o) (sym e) in
      let shut : List (List ℕ) = raw_line p line.Reply ∷ [] in
      ap (λ ls. raw_line p (line.Deploy r.sender r.args) ∷ ls)
      (append-nil (levels_raw (r.levels ++ l ∷ [])) ∙ levels_raw-append r.levels (l ∷ []) ∙ ap (λ ls. levels_raw r.levels ++ ls) (append-nil (level_raw l) ∙ ap (λ cs. raw_calls p cs ++ shut) own) ∙ sym (append_assoc (levels_raw r.levels) (raw_calls p (calls_of r)) shut))

  answer-raw : (r : Reading) (outer : List Level) (l : Level) (a : Answer) → r.levels ≡ outer ++ l ∷ [] → reading_raw (with_answer r (outer, l) a) ≡ reading_raw r ++ raw_line p (line.Answer a) ∷ []
  answer-raw r outer l a e =
      let x : Reply = roll-Reply (record { calls = calls_of r; answer = a }) in
      let begin : List (List ℕ) = raw_line p line.Reply ∷ [] in
      let shut : List (List ℕ) = raw_line p (line.Answer a) ∷ [] in
      let inner : List (List ℕ) = raw_calls p (calls_of r) in
      let before : List (List ℕ) = raw_calls p (l.before ++ l.last ∷ []) in
      let body : raw_calls p (l.before ++ replied l.last x ∷ []) ≡ (before ++ begin) ++ (inner ++ shut) =
      calls-last l.before (replied l.last x) ∙ ap (λ ls. raw_calls p l.before ++ ls) (raw-replied l.last x)
      ∙ sym (append_assoc (raw_calls p l.before) (raw_call p l.last) (raw_reply p x)) ∙ ap (λ ls. ls ++ raw_reply p x) (sym (calls-last l.before l.last))
      ∙ ap (λ ls. before ++ ls) (raw-reply p (record { calls = calls_of r; answer = a }))
      ∙ sym (append_assoc before begin (inner ++ shut)) in
      let level : levels_raw r.levels ≡ levels_raw outer ++ (before ++ begin) = ap levels_raw e ∙ levels_raw-append outer (l ∷ []) ∙ ap (λ ls. levels_raw outer ++ ls) (append-nil (level_raw l)) in
      ap (λ ls. raw_line p (line.Deploy r.sender r.args) ∷ ls)
      (ap (λ ls. levels_raw outer ++ ls) body ∙ sym (append_assoc (levels_raw outer) (before ++ begin) (inner ++ shut)) ∙ ap (λ ls. ls ++ (inner ++ shut)) (sym level) ∙ sym (append_assoc (levels_raw r.levels) inner shut))

  -- ---- what is told so far

  abbrev told_at : ℕ → List Level → List Call → Bool
  told_at k [] cs = within k (map (is_told_call p) cs)
  told_at zero (l ∷ ls) cs = false
  told_at (suc k) (l ∷ ls) cs = within (suc k) (map (is_told_call p) (l.before ++ l.last ∷ [])) && told_at k ls cs

  within-append : (k : ℕ) (cs ds : List Call) → within k (map (is_told_call p) cs) ≡ true → within k (map (is_told_call p) ds) ≡ true → within k (map (is_told_call p) (cs ++ ds)) ≡ true
  within-append k [] ds h i = i
  within-append k (c ∷ cs) ds h i = let q = and_parts (is_told_call p c k) (within k (map (is_told_call p) cs)) h in and_from (is_told_call p c k) (within k (map (is_told_call p) (cs ++ ds))) q.0 (within-append k cs ds q.1 i)

  within-front : (k : ℕ) (cs ds : List Call) → within k (map (is_told_call p) (cs ++ ds)) ≡ true → (within k (map (is_told_call p) cs) ≡ true) × (within k (map (is_told_call p) ds) ≡ true)
  within-front k [] ds h = (refl, h)
  within-front k (c ∷ cs) ds h =
      let q = and_parts (is_told_call p c k) (within k (map (is_told_call p) (cs ++ ds))) h in
      let r = within-front k cs ds q.1 in
      (and_from (is_told_call p c k) (within k (map (is_told_call p) cs)) q.0 r.0, r.1)

  within-replies : (k : ℕ) (xs : List Reply) (x : Reply) → within k (map (is_told_reply p) xs) ≡ true → is_told_reply p x k ≡ true → within k (map (is_told_reply p) (xs ++ x ∷ [])) ≡ true
  within-replies k [] x h i = and_from (is_told_reply p x k) true i refl
  within-replies k (y ∷ ys) x h i = let q = and_parts (is_told_reply p y k) (within k (map (is_told_reply p) ys)) h in and_from (is_told_reply p y k) (within k (map (is_told_reply p) (ys ++ x ∷ []))) q.0 (within-replies k ys x q.1 i)

  told-replied : (k : ℕ) (c : Call) (x : Reply) → is_told_call p c k ≡ true → is_told_reply p x k ≡ true → is_told_call p (replied c x) k ≡ true
  told-replied k c x h i =
      let q = and_parts (is_some (door p (out-Call c).fun) && (is_short (out-Call c).sender && list_all is_short (out-Call c).args)) (within k (map (is_told_reply p) (out-Call c).replies)) (sym (told-call p (out-Call c) k) ∙ ap (λ d. is_told_call p d k) (roll-out-Call c) ∙ h) in
      told-call p (record { fun = (out-Call c).fun; sender = (out-Call c).sender; args = (out-Call c).args; replies = (out-Call c).replies ++ x ∷ [] }) k
      ∙ and_from (is_some (door p (out-Call c).fun) && (is_short (out-Call c).sender && list_all is_short (out-Call c).args)) (within k (map (is_told_reply p) ((out-Call c).replies ++ x ∷ []))) q.0 (within-replies k (out-Call c).replies x q.1 i)

  told-plain : (d : ℕ) (sender : ℤ) (args : List ℤ) (k : ℕ) → is_fine p (line.Call (Some d) sender args) ≡ true → is_told_call p (plain_call d sender args) k ≡ true
  told-plain d sender args k h = told-call p (record { fun = d; sender = sender; args = args; replies = [] }) k ∙ and_from (is_fine p (line.Call (Some d) sender args)) true h refl

  call-told : (k : ℕ) (ls : List Level) (cs : List Call) (d : ℕ) (sender : ℤ) (args : List ℤ) → is_fine p (line.Call (Some d) sender args) ≡ true → told_at k ls cs ≡ true → told_at k ls (cs ++ plain_call d sender args ∷ []) ≡ true
  call-told k [] cs d sender args fine h = within-append k cs (plain_call d sender args ∷ []) h (and_from (is_told_call p (plain_call d sender args) k) true (told-plain d sender args k fine) refl)
  call-told zero (l ∷ ls) cs d sender args fine h = absurd (cc)
  call-told (suc k) (l ∷ ls) cs d sender args fine h =
      let q = and_parts (within (suc k) (map (is_told_call p) (l.before ++ l.last ∷ []))) (told_at k ls cs) h in
      and_from (within (suc k) (map (is_told_call p) (l.before ++ l.last ∷ []))) (told_at k ls (cs ++ plain_call d sender args ∷ [])) q.0 (call-told k ls cs d sender args fine q.1)

  level-told : (k : ℕ) (ls : List Level) (cs : List Call) (c : Call) → length ls < k → told_at k ls (cs ++ c ∷ []) ≡ true → told_at k (ls ++ record { before = cs; last = c } ∷ []) [] ≡ true
  level-told zero ls cs c less h = absurd (omega arith)
  level-told (suc k) [] cs c less h = and_from (within (suc k) (map (is_told_call p) (cs ++ c ∷ []))) true h refl
  level-told (suc k) (l ∷ ls) cs c less h =
      let q = and_parts (within (suc k) (map (is_told_call p) (l.before ++ l.last ∷ []))) (told_at k ls (cs ++ c ∷ [])) h in
      and_from (within (suc k) (map (is_told_call p) (l.before ++ l.last ∷ []))) (told_at k (ls ++ record { before = cs; last = c } ∷ []) []) q.0 (level-told k ls cs c (omega arith) q.1)

  answer-told : (k : ℕ) (ls : List Level) (l : Level) (cs : List Call) (a : Answer) → is_short_answer a ≡ true → told_at k (ls ++ l ∷ []) cs ≡ true → told_at k ls (l.before ++ replied l.last (roll-Reply (record { calls = cs; answer = a })) ∷ []) ≡ true
  answer-told zero [] l cs a fine h = absurd (cc)
  answer-told (suc k) [] l cs a fine h =
      let q = and_parts (within (suc k) (map (is_told_call p) (l.before ++ l.last ∷ []))) (within k (map (is_told_call p) cs)) h in
      let f = within-front (suc k) l.before (l.last ∷ []) q.0 in
      let c = and_parts (is_told_call p l.last (suc k)) true f.1 in
      let x : Reply = roll-Reply (record { calls = cs; answer = a }) in
      let t : is_told_reply p x (suc k) ≡ true = told-reply p (record { calls = cs; answer = a }) k ∙ and_from (within k (map (is_told_call p) cs)) (is_short_answer a) q.1 fine in
      within-append (suc k) l.before (replied l.last x ∷ []) f.0 (and_from (is_told_call p (replied l.last x) (suc k)) true (told-replied (suc k) l.last x c.0 t) refl)
  answer-told zero (m ∷ ms) l cs a fine h = absurd (cc)
  answer-told (suc k) (m ∷ ms) l cs a fine h =
      let q = and_parts (within (suc k) (map (is_told_call p) (m.before ++ m.last ∷ []))) (told_at k (ms ++ l ∷ []) cs) h in
      and_from (within (suc k) (map (is_told_call p) (m.before ++ m.last ∷ []))) (told_at k ms (l.before ++ replied l.last (roll-Reply (record { calls = cs; answer = a })) ∷ [])) q.0 (answer-told k ms l cs a fine q.1)

  -- ---- line by line

  apart-none : (ys : List Level) → apart ys ≡ None → ys ≡ []
  apart-none [] g = refl
  apart-none (y ∷ ys) g = some (apart ys) g
    where
      some : (o : Option (List Level × Level)) → before_pair y o ≡ None → y ∷ ys ≡ []
      some None h = absurd (cc)
      some (Some (a, b)) h = absurd (cc)

  -- a front and a last one, put together again
  whole : List Level → Option (List Level × Level) → List Level
  whole d None = d
  whole d (Some (front, last)) = front ++ last ∷ []

  apart-append : (ls : List Level) (outer : List Level) (l : Level) → apart ls ≡ Some (outer, l) → ls ≡ outer ++ l ∷ []
  unfolding whole
  apart-append [] outer l e = absurd (cc)
  apart-append (x ∷ xs) outer l e = step (apart xs) refl e (apart-append xs)
    where
      step : (o : Option (List Level × Level)) → apart xs ≡ o → before_pair x o ≡ Some (outer, l) → ((front : List Level) (last : Level) → apart xs ≡ Some (front, last) → xs ≡ front ++ last ∷ []) → x ∷ xs ≡ outer ++ l ∷ []
      step None q f rest = ap (λ ys. x ∷ ys) (apart-none xs q) ∙ ap (whole []) f
      step (Some (front, last)) q f rest = ap (λ ys. x ∷ ys) (rest front last q) ∙ ap (whole []) f

  record Told (r : Reading) (ls : List (List ℕ)) (rest : List ℕ) (s : Script) : Type 0 where
    lines : raw_script p s ≡ reading_raw r ++ ls
    none : rest ≡ []
    told : is_told p s ≡ true

  abbrev Good : Reading → Type 0
  Good r = ((is_short r.sender && list_all is_short r.args) ≡ true) × (told_at 128 r.levels (calls_of r) ≡ true)

  -- one line and then the others
  onward : (r q : Reading) (l : List ℕ) (raw : List ℕ) (ls : List (List ℕ)) (rest : List ℕ) (s : Script) → l ≡ raw → reading_raw q ≡ reading_raw r ++ raw ∷ [] → Told q ls rest s → Told r (l ∷ ls) rest s
  onward r q l raw ls rest s e g t = record {
    lines = t.lines ∙ ap (λ x. x ++ ls) g ∙ append_assoc (reading_raw r) (raw ∷ []) ls ∙ ap (λ x. reading_raw r ++ x ∷ ls) (sym e);
    none = t.none;
    told = t.told;
  }

  lines-told : (ls : List (List ℕ)) (rest : List ℕ) (n : ℕ) (r : Reading) (s : Script) → Good r → read_lines p ls rest n r ≡ Ok s → Told r ls rest s
  unfolding read_lines
  lines-told [] rest n r s good e = absurd (cc)
  lines-told (t ∷ ls) rest n r s good e = step (said p t) refl e (λ q g f. lines-told ls rest (suc n) q s g f)
    where
      Again : Type 0
      Again = (q : Reading) → Good q → read_lines p ls rest (suc n) q ≡ Ok s → Told q ls rest s

      last-told : (ms : List (List ℕ)) (left : List ℕ) (v : Script) → t ≡ raw_line p line.End → r.levels ≡ [] → if_last n ms left (record { sender = r.sender; args = r.args; calls = calls_of r }) ≡ Ok v → Told r (t ∷ ms) left v
      last-told [] [] v spell levels f =
          let same : record { sender = r.sender; args = r.args; calls = calls_of r } ≡ v = cc in
          subst (Told r (t ∷ []) []) same (record {
            lines = ap (λ x. raw_line p (line.Deploy r.sender r.args) ∷ (levels_raw x ++ raw_calls p (calls_of r)) ++ raw_line p line.End ∷ []) (sym levels) ∙ ap (λ x. reading_raw r ++ x ∷ []) (sym spell);
            none = refl;
            told = and_from (is_short r.sender && list_all is_short r.args) (within 128 (map (is_told_call p) (calls_of r))) good.0 (ap (λ x. told_at 128 x (calls_of r)) (sym levels) ∙ good.1);
          })
      last-told [] (b ∷ bs) v spell levels f = absurd (cc)
      last-told (m ∷ ms) left v spell levels f = absurd (cc)

      end-told : (levels : List Level) → r.levels ≡ levels → t ≡ raw_line p line.End → closed n ls rest r levels ≡ Ok s → Told r (t ∷ ls) rest s
      end-told [] q spell f = last-told ls rest s spell q f
      end-told (x ∷ xs) q spell f = absurd (cc)

      reply-told : (o : Option Call) → r.last ≡ o → t ≡ raw_line p line.Reply → then_read (opened n r o) (read_lines p ls rest (suc n)) ≡ Ok s → Again → Told r (t ∷ ls) rest s
      reply-told None q spell f again = absurd (cc)
      reply-told (Some c) q spell f again = room (nat_lt (length r.levels) 128) refl f
        where
          room : (b : Bool) → nat_lt (length r.levels) 128 ≡ b → then_read (if b then Ok (with_level r c) else Err (fault.TooDeep n)) (read_lines p ls rest (suc n)) ≡ Ok s → Told r (t ∷ ls) rest s
          room false less g = absurd (cc)
          room true less g =
              let own : calls_of r ≡ r.calls ++ c ∷ [] = ap (λ o. r.calls ++ option_to_list o) q in
              onward r (with_level r c) t (raw_line p line.Reply) ls rest s spell (level-raw r c q)
              (again (with_level r c) (good.0, level-told 128 r.levels r.calls c (less-true (length r.levels) 128 less) (ap (told_at 128 r.levels) (sym own) ∙ good.1)) g)

      answer-told-so : (a : Answer) (o : Option (List Level × Level)) → apart r.levels ≡ o → t ≡ raw_line p (line.Answer a) → is_short_answer a ≡ true → then_read (answered n r a o) (read_lines p ls rest (suc n)) ≡ Ok s → Again → Told r (t ∷ ls) rest s
      answer-told-so a None q spell fine f again = absurd (cc)
      answer-told-so a (Some (outer, l)) q spell fine f again =
          let levels = apart-append r.levels outer l q in
          onward r (with_answer r (outer, l) a) t (raw_line p (line.Answer a)) ls rest s spell (answer-raw r outer l a levels)
          (again (with_answer r (outer, l) a) (good.0, answer-told 128 outer l (calls_of r) a fine (ap (λ x. told_at 128 x (calls_of r)) (sym levels) ∙ good.1)) f)

      step : (o : Option Line) → said p t ≡ o → by_line n ls rest r (read_lines p ls rest (suc n)) o ≡ Ok s → Again → Told r (t ∷ ls) rest s
      step None q f again = absurd (cc)
      step (Some (line.Deploy sender args)) q f again = absurd (cc)
      step (Some (line.Call None sender args)) q f again = absurd (cc)
      step (Some (line.Call (Some d) sender args)) q f again =
          let spell = said-spells p t (line.Call (Some d) sender args) q in
          let c : Call = plain_call d sender args in
          onward r (with_call r c) t (raw_line p (line.Call (Some d) sender args)) ls rest s spell.0 (call-raw r d sender args)
          (again (with_call r c) (good.0, call-told 128 r.levels (calls_of r) d sender args spell.1 good.1) f)
      step (Some line.Reply) q f again = reply-told r.last refl (said-spells p t line.Reply q) f again
      step (Some (line.Answer a)) q f again = let spell = said-spells p t (line.Answer a) q in answer-told-so a (apart r.levels) refl spell.0 spell.1 f again
      step (Some line.End) q f again = end-told r.levels refl (said-spells p t line.End q) f

  whole-told : (ls : List (List ℕ)) (rest : List ℕ) (s : Script) → read_whole p ls rest ≡ Ok s → (raw_script p s ≡ ls) × (rest ≡ []) × (is_told p s ≡ true)
  whole-told [] rest s e = absurd (cc)
  whole-told (t ∷ ls) rest s e = step (said p t) refl e
    where
      step : (o : Option Line) → said p t ≡ o → read_first p ls rest o ≡ Ok s → (raw_script p s ≡ t ∷ ls) × (rest ≡ []) × (is_told p s ≡ true)
      step None q f = absurd (cc)
      step (Some (line.Deploy sender args)) q f =
          let spell = said-spells p t (line.Deploy sender args) q in
          let h = lines-told ls rest 2 (begun sender args) s (spell.1, refl) f in
          (h.lines ∙ ap (λ x. x ∷ ls) (sym spell.0), h.none, h.told)
      step (Some (line.Call door sender args)) q f = absurd (cc)
      step (Some line.Reply) q f = absurd (cc)
      step (Some (line.Answer a)) q f = absurd (cc)
      step (Some line.End) q f = absurd (cc)

  pub told-text : (text : List ℕ) (s : Script) → read_script p text ≡ Ok s → (text ≡ script_text p s) × (is_told p s ≡ true)
  unfolding read_script
  told-text text s e =
      let h = whole-told (ended 10 text) (tail 10 text) s e in
      (sym (glued-ended 10 text) ∙ ap (glued 10 (ended 10 text)) h.1 ∙ ap (λ ls. glued 10 ls []) (sym h.0) ∙ sym (script-glued p s), h.2)
