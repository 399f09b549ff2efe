-- The lines of a script without their line feeds.
use Rattle.std.proofs.Common.{◌≡◌, ◌∙◌, refl, sym, ap, subst, ℕ, List, [], ◌∷◌, ◌++◌, map, Option, Some, None, Bool, true, false}
use Rattle.std.proofs.lemmas.List.{append_assoc, append-nil}
use Rattle.std.specs.Prelude.{codes}
use Rattle.std.specs.Fmt.{signed_decimal}
use lib.IntN.{ℤ}
use Rattle.sol_core.specs.declared.Answer.{Answer}
use Rattle.sol_core.specs.declared.Answer.TheVariants as answer
use Rattle.sol_core.specs.declared.Program.{Program}
use Rattle.sol_core.specs.declared.Script.{Script}
use Rattle.sol_core.specs.declared.Call.{Call, Call-F, out-Call, roll-Call, map-Call}
use Rattle.sol_core.specs.declared.Call.TheFolds.{fold-Call, fold-roll-Call, ind-Call}
use Rattle.sol_core.specs.declared.Reply.{Reply, Reply-F, out-Reply, roll-Reply, map-Reply, fold-Reply, fold-roll-Reply}
use Rattle.sol_core.specs.Doors.{door}
use Rattle.sol_script.specs.declared.line.Line.{Line}
use Rattle.sol_script.specs.declared.line.Line.TheVariants as line
use Rattle.sol_script.specs.ScriptText.{with_numbers, name_of, deploy_line, call_line, answer_line, call_layer, reply_layer, call_lines, reply_lines, script_lines, joined}
use Rattle.sol_script.specs.Told.{text_of, script_text}
use Rattle.sol_script.proofs.Pieces.{between, behind, glued}
use Rattle.sol_script.proofs.Numbers.{with_numbers-behind}
use Rattle.sol_script.proofs.Spelling.{words_of}

abbrev pub raw_line : Program → Line → List ℕ
raw_line p l = between 32 (words_of p l)

abbrev pub raw_call_layer : Program → Call-F (List (List ℕ)) (List (List ℕ)) → List (List ℕ)
raw_call_layer p c = raw_line p (line.Call (Some c.fun) c.sender c.args) ∷ joined c.replies

abbrev pub raw_reply_layer : Program → Reply-F (List (List ℕ)) (List (List ℕ)) → List (List ℕ)
raw_reply_layer p r = raw_line p line.Reply ∷ joined r.calls ++ raw_line p (line.Answer r.answer) ∷ []

unfoldable pub raw_call : Program → Call → List (List ℕ)
raw_call p c = fold-Call (List (List ℕ)) (List (List ℕ)) (raw_call_layer p) (raw_reply_layer p) c

unfoldable pub raw_reply : Program → Reply → List (List ℕ)
raw_reply p r = fold-Reply (List (List ℕ)) (List (List ℕ)) (raw_call_layer p) (raw_reply_layer p) r

abbrev pub raw_calls : Program → List Call → List (List ℕ)
raw_calls p cs = joined (map (raw_call p) cs)

abbrev pub raw_replies : Program → List Reply → List (List ℕ)
raw_replies p rs = joined (map (raw_reply p) rs)

abbrev pub raw_script : Program → Script → List (List ℕ)
raw_script p s = raw_line p (line.Deploy s.sender s.args) ∷ raw_calls p s.calls ++ raw_line p line.End ∷ []

-- ---- lists of lines

pub raw_calls-append : (p : Program) (cs ds : List Call) → raw_calls p (cs ++ ds) ≡ raw_calls p cs ++ raw_calls p ds
raw_calls-append p [] ds = refl
raw_calls-append p (c ∷ cs) ds = ap (λ ls. raw_call p c ++ ls) (raw_calls-append p cs ds) ∙ sym (append_assoc (raw_call p c) (raw_calls p cs) (raw_calls p ds))

pub raw_replies-append : (p : Program) (rs qs : List Reply) → raw_replies p (rs ++ qs) ≡ raw_replies p rs ++ raw_replies p qs
raw_replies-append p [] qs = refl
raw_replies-append p (r ∷ rs) qs = ap (λ ls. raw_reply p r ++ ls) (raw_replies-append p rs qs) ∙ sym (append_assoc (raw_reply p r) (raw_replies p rs) (raw_replies p qs))

pub raw-call : (p : Program) (x : Call-F Call Reply) → raw_call p (roll-Call x) ≡ raw_line p (line.Call (Some x.fun) x.sender x.args) ∷ raw_replies p x.replies
unfolding raw_call raw_reply
raw-call p x = fold-roll-Call (List (List ℕ)) (List (List ℕ)) (raw_call_layer p) (raw_reply_layer p) x

pub raw-reply : (p : Program) (x : Reply-F Call Reply) → raw_reply p (roll-Reply x) ≡ raw_line p line.Reply ∷ raw_calls p x.calls ++ raw_line p (line.Answer x.answer) ∷ []
unfolding raw_call raw_reply
raw-reply p x = fold-roll-Reply (List (List ℕ)) (List (List ℕ)) (raw_call_layer p) (raw_reply_layer p) x

-- ---- with their line feeds they are the lines of the script

text_of-append : (ls ms : List (List ℕ)) → text_of (ls ++ ms) ≡ text_of ls ++ text_of ms
text_of-append [] ms = refl
text_of-append (l ∷ ls) ms = ap (λ t. l ++ t) (text_of-append ls ms) ∙ sym (append_assoc l (text_of ls) (text_of ms))

abbrev Feeds : List (List ℕ) → List (List ℕ) → Type 0
Feeds ls raws = text_of ls ≡ glued 10 raws []

glued-append : (ps qs : List (List ℕ)) → glued 10 (ps ++ qs) [] ≡ glued 10 ps [] ++ glued 10 qs []
glued-append [] qs = refl
glued-append (p ∷ ps) qs = ap (λ t. p ++ 10 ∷ t) (glued-append ps qs) ∙ sym (append_assoc p (10 ∷ glued 10 ps []) (glued 10 qs []))

feeds-append : (ls ms ps qs : List (List ℕ)) → Feeds ls ps → Feeds ms qs → Feeds (ls ++ ms) (ps ++ qs)
feeds-append ls ms ps qs e f = text_of-append ls ms ∙ ap (λ t. t ++ text_of ms) e ∙ ap (λ t. glued 10 ps [] ++ t) f ∙ sym (glued-append ps qs)

feeds-line : (l raw : List ℕ) → l ≡ raw ++ 10 ∷ [] → Feeds (l ∷ []) (raw ∷ [])
feeds-line l raw e = append-nil l ∙ e

feeds-cons : (l raw : List ℕ) (ls raws : List (List ℕ)) → l ≡ raw ++ 10 ∷ [] → Feeds ls raws → Feeds (l ∷ ls) (raw ∷ raws)
feeds-cons l raw ls raws e f = feeds-append (l ∷ []) ls (raw ∷ []) raws (feeds-line l raw e) f

deploy-feeds : (p : Program) (s : Script) → deploy_line s ≡ raw_line p (line.Deploy s.sender s.args) ++ 10 ∷ []
deploy-feeds p s = ap (λ t. t ++ 10 ∷ []) (with_numbers-behind (codes "deploy") (s.sender ∷ s.args))

call-feeds : (p : Program) (d : ℕ) (sender : ℤ) (args : List ℤ) → call_line p d sender args ≡ raw_line p (line.Call (Some d) sender args) ++ 10 ∷ []
call-feeds p d sender args = ap (λ t. t ++ 10 ∷ []) (with_numbers-behind (codes "call " ++ name_of (door p d)) (sender ∷ args) ∙ append_assoc (codes "call ") (name_of (door p d)) (behind 32 (map signed_decimal (sender ∷ args))))

answer-feeds : (p : Program) (a : Answer) → answer_line a ≡ raw_line p (line.Answer a) ++ 10 ∷ []
answer-feeds p (answer.Give None) = refl
answer-feeds p (answer.Give (Some n)) = ap (λ t. t ++ 10 ∷ []) (with_numbers-behind (codes "give") (n ∷ []))
answer-feeds p answer.Fail = refl

module _ (p : Program) where
  abbrev CallFeeds : Call → Type 0
  CallFeeds c = Feeds (call_lines p c) (raw_call p c)

  abbrev ReplyFeeds : Reply → Type 0
  ReplyFeeds r = Feeds (reply_lines p r) (raw_reply p r)

  replies-feed : (rs : List ((r : Reply) × ReplyFeeds r)) → Feeds (joined (map (reply_lines p) (map (λ r. r.0) rs))) (raw_replies p (map (λ r. r.0) rs))
  replies-feed [] = refl
  replies-feed (r ∷ rs) = feeds-append (reply_lines p r.0) (joined (map (reply_lines p) (map (λ r. r.0) rs))) (raw_reply p r.0) (raw_replies p (map (λ r. r.0) rs)) r.1 (replies-feed rs)

  calls-feed : (cs : List ((c : Call) × CallFeeds c)) → Feeds (joined (map (call_lines p) (map (λ c. c.0) cs))) (raw_calls p (map (λ c. c.0) cs))
  calls-feed [] = refl
  calls-feed (c ∷ cs) = feeds-append (call_lines p c.0) (joined (map (call_lines p) (map (λ c. c.0) cs))) (raw_call p c.0) (raw_calls p (map (λ c. c.0) cs)) c.1 (calls-feed cs)

  call-step : (y : Call-F ((c : Call) × CallFeeds c) ((r : Reply) × ReplyFeeds r)) → CallFeeds (roll-Call (map-Call ((c : Call) × CallFeeds c) ((r : Reply) × ReplyFeeds r) Call Reply (λ e. e.0) (λ e. e.0) y))
  unfolding call_lines reply_lines
  call-step y =
      let x : Call-F Call Reply = map-Call ((c : Call) × CallFeeds c) ((r : Reply) × ReplyFeeds r) Call Reply (λ e. e.0) (λ e. e.0) y in
      ap text_of (fold-roll-Call (List (List ℕ)) (List (List ℕ)) (call_layer p) reply_layer x)
      ∙ feeds-cons (call_line p y.fun y.sender y.args) (raw_line p (line.Call (Some y.fun) y.sender y.args)) (joined (map (reply_lines p) (map (λ r. r.0) y.replies))) (raw_replies p (map (λ r. r.0) y.replies)) (call-feeds p y.fun y.sender y.args) (replies-feed y.replies)
      ∙ ap (λ raws. glued 10 raws []) (sym (raw-call p x))

  reply-step : (y : Reply-F ((c : Call) × CallFeeds c) ((r : Reply) × ReplyFeeds r)) → ReplyFeeds (roll-Reply (map-Reply ((c : Call) × CallFeeds c) ((r : Reply) × ReplyFeeds r) Call Reply (λ e. e.0) (λ e. e.0) y))
  unfolding call_lines reply_lines
  reply-step y =
      let x : Reply-F Call Reply = map-Reply ((c : Call) × CallFeeds c) ((r : Reply) × ReplyFeeds r) Call Reply (λ e. e.0) (λ e. e.0) y in
      ap text_of (fold-roll-Reply (List (List ℕ)) (List (List ℕ)) (call_layer p) reply_layer x)
      ∙ feeds-cons (codes "reply\n") (raw_line p line.Reply) (joined (map (call_lines p) (map (λ c. c.0) y.calls)) ++ answer_line y.answer ∷ []) (raw_calls p (map (λ c. c.0) y.calls) ++ raw_line p (line.Answer y.answer) ∷ []) refl
      (feeds-append (joined (map (call_lines p) (map (λ c. c.0) y.calls))) (answer_line y.answer ∷ []) (raw_calls p (map (λ c. c.0) y.calls)) (raw_line p (line.Answer y.answer) ∷ []) (calls-feed y.calls) (feeds-line (answer_line y.answer) (raw_line p (line.Answer y.answer)) (answer-feeds p y.answer)))
      ∙ ap (λ raws. glued 10 raws []) (sym (raw-reply p x))

  call-lines : (c : Call) → CallFeeds c
  call-lines = ind-Call CallFeeds ReplyFeeds (λ x y is. subst (λ z. CallFeeds (roll-Call z)) is (call-step y)) (λ x y is. subst (λ z. ReplyFeeds (roll-Reply z)) is (reply-step y))

  all-calls : (cs : List Call) → Feeds (joined (map (call_lines p) cs)) (raw_calls p cs)
  all-calls [] = refl
  all-calls (c ∷ cs) = feeds-append (call_lines p c) (joined (map (call_lines p) cs)) (raw_call p c) (raw_calls p cs) (call-lines c) (all-calls cs)

  pub script-glued : (s : Script) → script_text p s ≡ glued 10 (raw_script p s) []
  unfolding script_text
  script-glued s = feeds-cons (deploy_line s) (raw_line p (line.Deploy s.sender s.args)) (joined (map (call_lines p) s.calls) ++ codes "end\n" ∷ []) (raw_calls p s.calls ++ raw_line p line.End ∷ []) (deploy-feeds p s)
      (feeds-append (joined (map (call_lines p) s.calls)) (codes "end\n" ∷ []) (raw_calls p s.calls) (raw_line p line.End ∷ []) (all-calls s.calls) refl)
