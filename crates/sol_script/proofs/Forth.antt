-- From a script to its text and back.
use Rattle.std.proofs.Common.{◌≡◌, ◌∙◌, refl, sym, ap, subst, ℕ, zero, suc, ◌+◌, ◌<◌, List, [], ◌∷◌, ◌++◌, length, map, Option, Some, None, Result, Ok, Err, Bool, true, false, ◌&&◌, arith}
use Rattle.std.proofs.lemmas.List.{append_assoc, append-nil}
use Rattle.std.proofs.lemmas.List.{length-append}
use Rattle.std.proofs.lemmas.Bool.{and_parts, and_from}
use Rattle.std.specs.Prelude.{nat_lt, option_to_list}
use Rattle.std.specs.List.{list_all}
use Rattle.std.specs.Option.{is_some}
use Rattle.lists.proofs.Tests.{less-is}
use lib.IntN.{ℤ}
use Rattle.sol_core.specs.declared.Answer.{Answer}
use Rattle.sol_core.specs.declared.Program.{Program}
use Rattle.sol_core.specs.declared.Script.{Script}
use Rattle.sol_core.specs.declared.Call.{Call, Call-F, out-Call, roll-Call, map-Call, roll-out-Call, out-roll-Call}
use Rattle.sol_core.specs.declared.Call.TheFolds.{fold-Call, fold-roll-Call, ind-Call}
use Rattle.sol_core.specs.declared.Reply.{Reply, Reply-F, out-Reply, roll-Reply, map-Reply, fold-Reply, fold-roll-Reply}
use Rattle.sol_core.specs.Doors.{door}
use Rattle.sol_core.specs.Formed.{are_doors}
use Rattle.sol_script.specs.declared.line.Line.{Line}
use Rattle.sol_script.specs.declared.line.Line.TheVariants as line
use Rattle.sol_script.specs.declared.reading.Level.{Level}
use Rattle.sol_script.specs.declared.reading.Reading.{Reading}
use Rattle.sol_script.specs.declared.fault.ScriptTextFault.{ScriptTextFault}
use Rattle.sol_script.specs.Lines.{is_short, said}
use Rattle.sol_script.specs.Pieces.{ended, tail}
use Rattle.sol_script.specs.Reading.{apart, before_pair, plain_call, replied, begun, calls_of, with_call, with_level, with_answer, line_read, by_line, then_read, read_lines, read_first, read_whole, read_script, closed}
use Rattle.sol_script.specs.ScriptText.{joined}
use Rattle.sol_script.specs.Told.{is_short_answer, within, call_told, reply_told, is_told_call, is_told_reply, is_told, script_text}
use Rattle.sol_script.proofs.Pieces.{lacks, all_lack, glued, ended-line, tail-line, lacks-between}
use Rattle.sol_script.proofs.Spelling.{words_of, is_fine, said-spelled, words-lack}
use Rattle.sol_script.proofs.Raw.{raw_line, raw_call, raw_reply, raw_calls, raw_replies, raw_script, raw-call, raw-reply, script-glued}

-- ---- readings

-- the same but for the last call
abbrev pub with_reply : Reading → Call → Reading
with_reply r c = record { sender = r.sender; args = r.args; levels = r.levels; calls = r.calls; last = Some c }

abbrev pub with_calls : Reading → List Call → Reading
with_calls r [] = r
with_calls r (c ∷ cs) = with_calls (with_call r c) cs

abbrev pub replied_all : Call → List Reply → Call
replied_all c [] = c
replied_all c (x ∷ xs) = replied_all (replied c x) xs

-- calls one after another on the innermost level
record After (r : Reading) (cs : List Call) (s : Reading) : Type 0 where
  sender : s.sender ≡ r.sender
  args : s.args ≡ r.args
  levels : s.levels ≡ r.levels
  calls : calls_of s ≡ calls_of r ++ cs

after-calls : (r : Reading) (cs : List Call) → After r cs (with_calls r cs)
after-calls r [] = record { sender = refl; args = refl; levels = refl; calls = sym (append-nil (calls_of r)) }
after-calls r (c ∷ cs) = let h = after-calls (with_call r c) cs in record { sender = h.sender; args = h.args; levels = h.levels; calls = h.calls ∙ append_assoc (calls_of r) (c ∷ []) cs }

replied-parts : (c : Call) (rs : List Reply) → replied_all c rs ≡ roll-Call (record { fun = (out-Call c).fun; sender = (out-Call c).sender; args = (out-Call c).args; replies = (out-Call c).replies ++ rs })
replied-parts c [] = sym (roll-out-Call c) ∙ ap (λ rs. roll-Call (record { fun = (out-Call c).fun; sender = (out-Call c).sender; args = (out-Call c).args; replies = rs })) (sym (append-nil (out-Call c).replies))
replied-parts c (x ∷ xs) =
    replied-parts (replied c x) xs
    ∙ ap (λ (o : Call-F Call Reply). roll-Call (record { fun = o.fun; sender = o.sender; args = o.args; replies = o.replies ++ xs })) (out-roll-Call (record { fun = (out-Call c).fun; sender = (out-Call c).sender; args = (out-Call c).args; replies = (out-Call c).replies ++ x ∷ [] }))
    ∙ ap (λ rs. roll-Call (record { fun = (out-Call c).fun; sender = (out-Call c).sender; args = (out-Call c).args; replies = rs })) (append_assoc (out-Call c).replies (x ∷ []) xs)

pub apart-last : {A : Type 0} (xs : List A) (x : A) → apart (xs ++ x ∷ []) ≡ Some (xs, x)
apart-last [] x = refl
apart-last (y ∷ ys) x = ap (before_pair y) (apart-last ys x)

-- ---- what is told

pub told-call : (p : Program) (x : Call-F Call Reply) (k : ℕ) → is_told_call p (roll-Call x) k ≡ ((is_some (door p x.fun) && (is_short x.sender && list_all is_short x.args)) && within k (map (is_told_reply p) x.replies))
unfolding is_told_call is_told_reply
told-call p x k = ap (λ t. t k) (fold-roll-Call (ℕ → Bool) (ℕ → Bool) (call_told p) reply_told x)

pub told-reply : (p : Program) (x : Reply-F Call Reply) (k : ℕ) → is_told_reply p (roll-Reply x) (suc k) ≡ (within k (map (is_told_call p) x.calls) && is_short_answer x.answer)
unfolding is_told_call is_told_reply
told-reply p x k = ap (λ t. t (suc k)) (fold-roll-Reply (ℕ → Bool) (ℕ → Bool) (call_told p) reply_told x)

pub told-none : (p : Program) (x : Reply-F Call Reply) → is_told_reply p (roll-Reply x) zero ≡ false
unfolding is_told_call is_told_reply
told-none p x = ap (λ t. t zero) (fold-roll-Reply (ℕ → Bool) (ℕ → Bool) (call_told p) reply_told x)

all_lack-append : (b : ℕ) (ps qs : List (List ℕ)) → all_lack b ps ≡ true → all_lack b qs ≡ true → all_lack b (ps ++ qs) ≡ true
all_lack-append b [] qs h k = k
all_lack-append b (p ∷ ps) qs h k = let q = and_parts (lacks b p) (all_lack b ps) h in and_from (lacks b p) (all_lack b (ps ++ qs)) q.0 (all_lack-append b ps qs q.1 k)

-- ---- runs over lines

module _ (p : Program) (doors : are_doors p p.doors ≡ true) where
  raw-lacks : (l : Line) → is_fine p l ≡ true → lacks 10 (raw_line p l) ≡ true
  raw-lacks l fine = lacks-between 10 32 (words_of p l) refl (words-lack p 10 (omega arith) doors l fine)

  -- some lines lead from one reading to another
  abbrev Runs : List (List ℕ) → Reading → Reading → Type 0
  Runs raw r s = (ls : List (List ℕ)) (rest : List ℕ) (n : ℕ) → (m : ℕ) × (read_lines p (raw ++ ls) rest n r ≡ read_lines p ls rest m s)

  runs-append : (ps qs : List (List ℕ)) (r s t : Reading) → Runs ps r s → Runs qs s t → Runs (ps ++ qs) r t
  runs-append ps qs r s t h k ls rest n =
      let a = h (qs ++ ls) rest n in
      let b = k ls rest a.0 in
      (b.0, ap (λ x. read_lines p x rest n r) (append_assoc ps qs ls) ∙ a.1 ∙ b.1)

  read-by : (l : Line) (ls : List (List ℕ)) (rest : List ℕ) (n : ℕ) (r : Reading) → is_fine p l ≡ true → read_lines p (raw_line p l ∷ ls) rest n r ≡ by_line n ls rest r (read_lines p ls rest (suc n)) (Some l)
  unfolding read_lines
  read-by l ls rest n r fine = ap (by_line n ls rest r (read_lines p ls rest (suc n))) (said-spelled p l doors fine)

  abbrev CallGood : Call → Type 0
  CallGood c = (k : ℕ) → is_told_call p c k ≡ true → (all_lack 10 (raw_call p c) ≡ true) × ((r : Reading) → length r.levels + k ≡ 128 → Runs (raw_call p c) r (with_call r c))

  abbrev ReplyGood : Reply → Type 0
  ReplyGood x = (k : ℕ) → is_told_reply p x k ≡ true → (all_lack 10 (raw_reply p x) ≡ true) × ((r : Reading) (c : Call) → length r.levels + k ≡ 128 → r.last ≡ Some c → Runs (raw_reply p x) r (with_reply r (replied c x)))

  replies-lack : (xs : List ((x : Reply) × ReplyGood x)) (k : ℕ) → within k (map (is_told_reply p) (map (λ x. x.0) xs)) ≡ true → all_lack 10 (raw_replies p (map (λ x. x.0) xs)) ≡ true
  replies-lack [] k h = refl
  replies-lack (x ∷ xs) k h =
      let q = and_parts (is_told_reply p x.0 k) (within k (map (is_told_reply p) (map (λ y. y.0) xs))) h in
      all_lack-append 10 (raw_reply p x.0) (raw_replies p (map (λ y. y.0) xs)) (x.1 k q.0).0 (replies-lack xs k q.1)

  calls-lack : (cs : List ((c : Call) × CallGood c)) (k : ℕ) → within k (map (is_told_call p) (map (λ c. c.0) cs)) ≡ true → all_lack 10 (raw_calls p (map (λ c. c.0) cs)) ≡ true
  calls-lack [] k h = refl
  calls-lack (c ∷ cs) k h =
      let q = and_parts (is_told_call p c.0 k) (within k (map (is_told_call p) (map (λ d. d.0) cs))) h in
      all_lack-append 10 (raw_call p c.0) (raw_calls p (map (λ d. d.0) cs)) (c.1 k q.0).0 (calls-lack cs k q.1)

  same-reading : (r : Reading) (c : Call) → r.last ≡ Some c → with_reply r c ≡ r
  same-reading r c e = ap (λ o. record { sender = r.sender; args = r.args; levels = r.levels; calls = r.calls; last = o }) (sym e)

  replies-run : (xs : List ((x : Reply) × ReplyGood x)) (k : ℕ) (r : Reading) (c : Call) → within k (map (is_told_reply p) (map (λ x. x.0) xs)) ≡ true → length r.levels + k ≡ 128 → r.last ≡ Some c → Runs (raw_replies p (map (λ x. x.0) xs)) r (with_reply r (replied_all c (map (λ x. x.0) xs)))
  replies-run [] k r c h deep e = λ ls rest n. (n, ap (read_lines p ls rest n) (sym (same-reading r c e)))
  replies-run (x ∷ xs) k r c h deep e =
      let q = and_parts (is_told_reply p x.0 k) (within k (map (is_told_reply p) (map (λ y. y.0) xs))) h in
      let s : Reading = with_reply r (replied c x.0) in
      runs-append (raw_reply p x.0) (raw_replies p (map (λ y. y.0) xs)) r s (with_reply r (replied_all c (map (λ y. y.0) (x ∷ xs)))) ((x.1 k q.0).1 r c deep e) (replies-run xs k s (replied c x.0) q.1 deep refl)

  calls-run : (cs : List ((c : Call) × CallGood c)) (k : ℕ) (r : Reading) → within k (map (is_told_call p) (map (λ c. c.0) cs)) ≡ true → length r.levels + k ≡ 128 → Runs (raw_calls p (map (λ c. c.0) cs)) r (with_calls r (map (λ c. c.0) cs))
  calls-run [] k r h deep = λ ls rest n. (n, refl)
  calls-run (c ∷ cs) k r h deep =
      let q = and_parts (is_told_call p c.0 k) (within k (map (is_told_call p) (map (λ d. d.0) cs))) h in
      let s : Reading = with_call r c.0 in
      runs-append (raw_call p c.0) (raw_calls p (map (λ d. d.0) cs)) r s (with_calls r (map (λ d. d.0) (c ∷ cs))) ((c.1 k q.0).1 r deep) (calls-run cs k s q.1 deep)

  call-line-runs : (d : ℕ) (sender : ℤ) (args : List ℤ) (r : Reading) → is_fine p (line.Call (Some d) sender args) ≡ true → Runs (raw_line p (line.Call (Some d) sender args) ∷ []) r (with_call r (plain_call d sender args))
  call-line-runs d sender args r fine ls rest n = (suc n, read-by (line.Call (Some d) sender args) ls rest n r fine)

  reply-line-runs : (r : Reading) (c : Call) → r.last ≡ Some c → length r.levels < 128 → Runs (raw_line p line.Reply ∷ []) r (with_level r c)
  reply-line-runs r c e less ls rest n = (suc n, read-by line.Reply ls rest n r refl ∙ rw (e, less-is (length r.levels) 128 less) refl)

  answer-line-runs : (a : Answer) (r : Reading) (outer : List Level) (l : Level) → is_short_answer a ≡ true → r.levels ≡ outer ++ l ∷ [] → Runs (raw_line p (line.Answer a) ∷ []) r (with_answer r (outer, l) a)
  answer-line-runs a r outer l fine e ls rest n = (suc n, read-by (line.Answer a) ls rest n r fine ∙ rw (e, apart-last outer l) refl)

  call-step : (y : Call-F ((c : Call) × CallGood c) ((x : Reply) × ReplyGood x)) → CallGood (roll-Call (map-Call ((c : Call) × CallGood c) ((x : Reply) × ReplyGood x) Call Reply (λ e. e.0) (λ e. e.0) y))
  call-step y k told =
      let x : Call-F Call Reply = map-Call ((c : Call) × CallGood c) ((z : Reply) × ReplyGood z) Call Reply (λ e. e.0) (λ e. e.0) y in
      let rs : List Reply = map (λ e. e.0) y.replies in
      let h = and_parts (is_some (door p y.fun) && (is_short y.sender && list_all is_short y.args)) (within k (map (is_told_reply p) rs)) (sym (told-call p x k) ∙ told) in
      let l : Line = line.Call (Some y.fun) y.sender y.args in
      let lines : raw_call p (roll-Call x) ≡ (raw_line p l ∷ []) ++ raw_replies p rs = raw-call p x in
      let c : Call = plain_call y.fun y.sender y.args in
      let whole : replied_all c rs ≡ roll-Call x = replied-parts c rs ∙ ap (λ (o : Call-F Call Reply). roll-Call (record { fun = o.fun; sender = o.sender; args = o.args; replies = o.replies ++ rs })) (out-roll-Call (record { fun = y.fun; sender = y.sender; args = y.args; replies = [] })) in (
        ap (all_lack 10) lines ∙ and_from (lacks 10 (raw_line p l)) (all_lack 10 (raw_replies p rs)) (raw-lacks l h.0) (replies-lack y.replies k h.1),
        λ r deep. subst (λ z. Runs z r (with_call r (roll-Call x))) (sym lines)
            (subst (λ z. Runs ((raw_line p l ∷ []) ++ raw_replies p rs) r (with_call r z)) whole
            (runs-append (raw_line p l ∷ []) (raw_replies p rs) r (with_call r c) (with_reply (with_call r c) (replied_all c rs)) (call-line-runs y.fun y.sender y.args r h.0) (replies-run y.replies k (with_call r c) c h.1 deep refl))),
      )

  reply-step : (y : Reply-F ((c : Call) × CallGood c) ((x : Reply) × ReplyGood x)) → ReplyGood (roll-Reply (map-Reply ((c : Call) × CallGood c) ((x : Reply) × ReplyGood x) Call Reply (λ e. e.0) (λ e. e.0) y))
  reply-step y zero told = let x : Reply-F Call Reply = map-Reply ((c : Call) × CallGood c) ((z : Reply) × ReplyGood z) Call Reply (λ e. e.0) (λ e. e.0) y in let no = told-none p x in absurd (cc)
  reply-step y (suc k) told =
      let x : Reply-F Call Reply = map-Reply ((c : Call) × CallGood c) ((z : Reply) × ReplyGood z) Call Reply (λ e. e.0) (λ e. e.0) y in
      let cs : List Call = map (λ e. e.0) y.calls in
      let h = and_parts (within k (map (is_told_call p) cs)) (is_short_answer y.answer) (sym (told-reply p x k) ∙ told) in
      let first : List (List ℕ) = raw_line p line.Reply ∷ [] in
      let last : List (List ℕ) = raw_line p (line.Answer y.answer) ∷ [] in
      let lines : raw_reply p (roll-Reply x) ≡ first ++ (raw_calls p cs ++ last) = raw-reply p x in (
        ap (all_lack 10) lines ∙ and_from (lacks 10 (raw_line p line.Reply)) (all_lack 10 (raw_calls p cs ++ last)) (raw-lacks line.Reply refl)
            (all_lack-append 10 (raw_calls p cs) last (calls-lack y.calls k h.0) (and_from (lacks 10 (raw_line p (line.Answer y.answer))) true (raw-lacks (line.Answer y.answer) h.1) refl)),
        λ r c deep e.
            let s : Reading = with_level r c in
            let l : Level = record { before = r.calls; last = c } in
            let grown : length (r.levels ++ l ∷ []) + k ≡ 128 = omega (arith, length-append r.levels (l ∷ []), deep) in
            let t : Reading = with_calls s cs in
            let a = after-calls s cs in
            let end : with_answer t (r.levels, l) y.answer ≡ with_reply r (replied c (roll-Reply x)) = rw (a.sender, a.args, a.calls) refl in
            subst (λ z. Runs z r (with_reply r (replied c (roll-Reply x)))) (sym lines)
            (runs-append first (raw_calls p cs ++ last) r s (with_reply r (replied c (roll-Reply x))) (reply-line-runs r c e (omega (arith, deep)))
            (runs-append (raw_calls p cs) last s t (with_reply r (replied c (roll-Reply x))) (calls-run y.calls k s h.0 grown)
            (subst (Runs last t) end (answer-line-runs y.answer t r.levels l h.1 a.levels)))),
      )

  call-good : (c : Call) → CallGood c
  call-good = ind-Call CallGood ReplyGood (λ x y is. subst (λ z. CallGood (roll-Call z)) is (call-step y)) (λ x y is. subst (λ z. ReplyGood (roll-Reply z)) is (reply-step y))

  all-calls : (cs : List Call) → List ((c : Call) × CallGood c)
  all-calls [] = []
  all-calls (c ∷ cs) = (c, call-good c) ∷ all-calls cs

  calls-back : (cs : List Call) → map (λ c. c.0) (all-calls cs) ≡ cs
  unfolding all-calls
  calls-back [] = refl
  calls-back (c ∷ cs) = ap (λ ds. c ∷ ds) (calls-back cs)

  -- ---- the whole text

  ended-glued : (ls : List (List ℕ)) → all_lack 10 ls ≡ true → (ended 10 (glued 10 ls []) ≡ ls) × (tail 10 (glued 10 ls []) ≡ [])
  ended-glued [] h = (refl, refl)
  ended-glued (l ∷ ls) h =
      let q = and_parts (lacks 10 l) (all_lack 10 ls) h in
      let r = ended-glued ls q.1 in
      (ended-line 10 l (glued 10 ls []) q.0 ∙ ap (λ x. l ∷ x) r.0, tail-line 10 l (glued 10 ls []) q.0 ∙ r.1)

  pub read-told : (s : Script) → is_told p s ≡ true → read_script p (script_text p s) ≡ Ok s
  unfolding read_script
  read-told s told =
      let h = and_parts (is_short s.sender && list_all is_short s.args) (within 128 (map (is_told_call p) s.calls)) told in
      let cs = all-calls s.calls in
      let w : within 128 (map (is_told_call p) (map (λ c. c.0) cs)) ≡ true = ap (λ ds. within 128 (map (is_told_call p) ds)) (calls-back s.calls) ∙ h.1 in
      let l : Line = line.Deploy s.sender s.args in
      let lacking : all_lack 10 (raw_calls p s.calls) ≡ true = subst (λ ds. all_lack 10 (raw_calls p ds) ≡ true) (calls-back s.calls) (calls-lack cs 128 w) in
      let last : List (List ℕ) = raw_line p line.End ∷ [] in
      let no : all_lack 10 (raw_script p s) ≡ true = and_from (lacks 10 (raw_line p l)) (all_lack 10 (raw_calls p s.calls ++ last)) (raw-lacks l h.0) (all_lack-append 10 (raw_calls p s.calls) last lacking (and_from (lacks 10 (raw_line p line.End)) true (raw-lacks line.End refl) refl)) in
      let g = ended-glued (raw_script p s) no in
      let r : Reading = begun s.sender s.args in
      let runs : Runs (raw_calls p s.calls) r (with_calls r s.calls) = subst (λ ds. Runs (raw_calls p ds) r (with_calls r ds)) (calls-back s.calls) (calls-run cs 128 r w refl) in
      let go = runs last [] 2 in
      let a = after-calls r s.calls in
      let end : read_lines p last [] go.0 (with_calls r s.calls) ≡ Ok s = read-by line.End [] [] go.0 (with_calls r s.calls) refl ∙ rw (a.levels, a.sender, a.args, a.calls) refl in
      ap (λ t. read_whole p (ended 10 t) (tail 10 t)) (script-glued p s) ∙ rw (g.0, g.1, said-spelled p l doors h.0) (go.1 ∙ end)
