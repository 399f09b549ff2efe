-- A script that a text tells has no more deployments and calls than the text has bytes.
use Rattle.std.proofs.Common.{◌≡◌, ◌∙◌, refl, sym, ap, subst, ℕ, suc, ◌+◌, ◌≤◌, ◌<◌, ◌^◌, List, [], ◌∷◌, ◌++◌, length, map, Ok, arith, length-append}
use Rattle.std.specs.Prelude.{codes}
use Rattle.sol_core.specs.declared.Program.{Program}
use Rattle.sol_core.specs.declared.Script.{Script}
use Rattle.sol_core.specs.declared.Call.{Call, Call-F, out-Call, roll-Call, map-Call, out-roll-Call}
use Rattle.sol_core.specs.declared.Call.TheFolds.{ind-Call}
use Rattle.sol_core.specs.declared.Reply.{Reply, Reply-F, out-Reply, roll-Reply, map-Reply, out-roll-Reply}
use Rattle.sol_core.specs.Doors.{door}
use Rattle.sol_core.specs.ScriptFaults.{call_visits, reply_visits, replies_visits, visits_of, visits}
use Rattle.sol_core.proofs.Visiting.{visits-call, visits-reply}
use Rattle.sol_script.specs.Reading.{read_script}
use Rattle.sol_script.specs.ScriptText.{with_numbers, name_of, deploy_line, call_line, answer_line, joined, call_lines, reply_lines, script_lines}
use Rattle.sol_script.specs.Told.{text_of, script_text}
use Rattle.sol_script.proofs.Layers.{call-layers, reply-layers}
use Rattle.sol_script.proofs.Back.{told-text}
use Rattle.sol_replay.specs.Replays.{Told}

abbrev size : List (List ℕ) → ℕ
size ls = length (text_of ls)

size-append : (xs ys : List (List ℕ)) → size (xs ++ ys) ≡ size xs + size ys
size-append [] ys = omega arith
size-append (x ∷ xs) ys = omega (arith, length-append x (text_of (xs ++ ys)), length-append x (text_of xs), size-append xs ys)

module _ (p : Program) where
  abbrev CallFits : Call → Type 0
  CallFits c = length (call_visits p c) ≤ size (call_lines p c)

  abbrev ReplyFits : Reply → Type 0
  ReplyFits r = length (reply_visits p r) ≤ size (reply_lines p r)

  replies-fit : (xs : List ((r : Reply) × ReplyFits r)) → length (replies_visits p (map (λ x. x.0) xs)) ≤ size (joined (map (reply_lines p) (map (λ x. x.0) xs)))
  replies-fit [] = omega arith
  replies-fit (x ∷ xs) =
      let rs : List Reply = map (λ y. y.0) xs in
      omega (arith, length-append (reply_visits p x.0) (replies_visits p rs), size-append (reply_lines p x.0) (joined (map (reply_lines p) rs)), x.1, replies-fit xs)

  calls-fit : (xs : List ((c : Call) × CallFits c)) → length (visits_of p (map (λ x. x.0) xs)) ≤ size (joined (map (call_lines p) (map (λ x. x.0) xs)))
  calls-fit [] = omega arith
  calls-fit (x ∷ xs) =
      let cs : List Call = map (λ y. y.0) xs in
      omega (arith, length-append (call_visits p x.0) (visits_of p cs), size-append (call_lines p x.0) (joined (map (call_lines p) cs)), x.1, calls-fit xs)

  -- a call and its replies
  own-call : (c : Call) → length (replies_visits p (out-Call c).replies) ≤ size (joined (map (reply_lines p) (out-Call c).replies)) → CallFits c
  own-call c h =
      let line : List ℕ = call_line p (out-Call c).fun (out-Call c).sender (out-Call c).args in
      let rest : List (List ℕ) = joined (map (reply_lines p) (out-Call c).replies) in
      let visits : length (call_visits p c) ≡ suc (length (replies_visits p (out-Call c).replies)) = ap length (visits-call p c) in
      let lines : size (call_lines p c) ≡ length (line ++ text_of rest) = ap size (call-layers p c) in
      let words : List ℕ = with_numbers (codes "call " ++ name_of (door p (out-Call c).fun)) ((out-Call c).sender ∷ (out-Call c).args) in
      let some : length line ≡ length words + 1 = length-append words (codes "\n") in
      omega (arith, visits, lines, length-append line (text_of rest), some, h)

  own-reply : (r : Reply) → length (visits_of p (out-Reply r).calls) ≤ size (joined (map (call_lines p) (out-Reply r).calls)) → ReplyFits r
  own-reply r h =
      let inner : List (List ℕ) = joined (map (call_lines p) (out-Reply r).calls) in
      let last : List (List ℕ) = answer_line (out-Reply r).answer ∷ [] in
      let visits : length (reply_visits p r) ≡ length (visits_of p (out-Reply r).calls) = ap length (visits-reply p r) in
      let lines : size (reply_lines p r) ≡ length (codes "reply\n" ++ text_of (inner ++ last)) = ap size (reply-layers p r) in
      omega (arith, visits, lines, length-append (codes "reply\n") (text_of (inner ++ last)), size-append inner last, h)

  call-step : (y : Call-F ((c : Call) × CallFits c) ((r : Reply) × ReplyFits r)) → CallFits (roll-Call (map-Call ((c : Call) × CallFits c) ((r : Reply) × ReplyFits r) Call Reply (λ e. e.0) (λ e. e.0) y))
  call-step y =
      let x : Call-F Call Reply = map-Call ((c : Call) × CallFits c) ((r : Reply) × ReplyFits r) Call Reply (λ e. e.0) (λ e. e.0) y in
      own-call (roll-Call x) (subst (λ (z : Call-F Call Reply). length (replies_visits p z.replies) ≤ size (joined (map (reply_lines p) z.replies))) (sym (out-roll-Call x)) (replies-fit y.replies))

  reply-step : (y : Reply-F ((c : Call) × CallFits c) ((r : Reply) × ReplyFits r)) → ReplyFits (roll-Reply (map-Reply ((c : Call) × CallFits c) ((r : Reply) × ReplyFits r) Call Reply (λ e. e.0) (λ e. e.0) y))
  reply-step y =
      let x : Reply-F Call Reply = map-Reply ((c : Call) × CallFits c) ((r : Reply) × ReplyFits r) Call Reply (λ e. e.0) (λ e. e.0) y in
      own-reply (roll-Reply x) (subst (λ (z : Reply-F Call Reply). length (visits_of p z.calls) ≤ size (joined (map (call_lines p) z.calls))) (sym (out-roll-Reply x)) (calls-fit y.calls))

  call-fits : (c : Call) → CallFits c
  call-fits = ind-Call CallFits ReplyFits (λ x y is. subst (λ z. CallFits (roll-Call z)) is (call-step y)) (λ x y is. subst (λ z. ReplyFits (roll-Reply z)) is (reply-step y))

  all-fit : (cs : List Call) → length (visits_of p cs) ≤ size (joined (map (call_lines p) cs))
  all-fit [] = omega arith
  all-fit (c ∷ cs) = omega (arith, length-append (call_visits p c) (visits_of p cs), size-append (call_lines p c) (joined (map (call_lines p) cs)), call-fits c, all-fit cs)

  visits-fit : (s : Script) → length (visits p s) ≤ length (script_text p s)
  unfolding script_text
  visits-fit s =
      let calls : List (List ℕ) = joined (map (call_lines p) s.calls) in
      let last : List (List ℕ) = codes "end\n" ∷ [] in
      let first : length (deploy_line s) ≡ length (with_numbers (codes "deploy") (s.sender ∷ s.args)) + 1 = length-append (with_numbers (codes "deploy") (s.sender ∷ s.args)) (codes "\n") in
      omega (arith, first, length-append (deploy_line s) (text_of (calls ++ last)), size-append calls last, all-fit s.calls)

pub told-few : (p : Program) (text : List ℕ) (s : Script) → length text < 2 ^ 32 → read_script p text ≡ Ok s → length (visits p s) < 2 ^ 32
told-few p text s short read =
    let same : length text ≡ length (script_text p s) = ap length (told-text p text s read).0 in
    omega (arith, short, same, visits-fit p s)
