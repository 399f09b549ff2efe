-- The steps of the reading, as the code takes them.
use Rattle.std.proofs.Common.{◌≡◌, ◌∙◌, refl, sym, ap, subst, ℕ, suc, Bool, true, false, not, ◌==◌, if◌then◌else◌, ◌+◌, ◌<◌, List, [], ◌∷◌, ◌++◌, length, Option, Some, None, Result, Ok, Err, arith}
use Rattle.std.proofs.lemmas.List.{length-append}
use Rattle.lists.proofs.Tests.{same-true}
use Rattle.sol_core.specs.declared.Answer.{Answer}
use Rattle.sol_core.specs.declared.Program.{Program}
use Rattle.sol_script.specs.declared.line.Line.{Line}
use Rattle.sol_script.specs.declared.reading.Level.{Level}
use Rattle.sol_script.specs.declared.reading.Reading.{Reading}
use Rattle.sol_script.specs.declared.fault.ScriptTextFault.{ScriptTextFault}
use Rattle.sol_script.specs.declared.fault.ScriptTextFault.TheVariants as fault
use Rattle.sol_script.specs.Lines.{said}
use Rattle.sol_script.specs.Pieces.{ended, tail}
use Rattle.sol_script.specs.Cuts.{IsCut}
use Rattle.sol_core.specs.declared.Script.{Script}
use Rattle.sol_script.proofs.Pieces.{glued, glued-ended}
use Rattle.sol_script.specs.Reading.{if_last, calls_of, apart, answered, with_answer, is_end, closed, line_read, then_read, Reads, by_line, read_lines, read_whole, read_first}
use Rattle.sol_script.proofs.Forth.{apart-last}

-- an answer at the last of some levels
pub answers-last : (n : ℕ) (r : Reading) (a : Answer) (outer : List Level) (l : Level) → r.levels ≡ outer ++ l ∷ [] → answered n r a (apart r.levels) ≡ Ok (with_answer r (outer, l) a)
answers-last n r a outer l e = rw (e, apart-last outer l) refl

pub answers-none : (n : ℕ) (r : Reading) (a : Answer) → r.levels ≡ [] → answered n r a (apart r.levels) ≡ Err (fault.BadLine n)
answers-none n r a e = rw e refl

pub ruleset answers = (answers-last, answers-none)

-- a line, where there is one more
pub line-step : (p : Program) (text line rest : List ℕ) (n : ℕ) (r : Reading) → IsCut 10 text (Some (line, rest)) → read_lines p (ended 10 text) (tail 10 text) n r ≡ by_line n (ended 10 rest) (tail 10 rest) r (read_lines p (ended 10 rest) (tail 10 rest) (suc n)) (said p line)
unfolding read_lines
line-step p text line rest n r h = rw (h.1, h.2) refl

pub no-line : (p : Program) (text : List ℕ) (n : ℕ) (r : Reading) → IsCut 10 text None → read_lines p (ended 10 text) (tail 10 text) n r ≡ Err (fault.BadLine n)
unfolding read_lines
no-line p text n r h = rw h.0 refl

pub shorter : (b : ℕ) (text front back : List ℕ) → IsCut b text (Some (front, back)) → length text ≡ length front + suc (length back)
shorter b text front back h = ap length h.0 ∙ length-append front (b ∷ back)

-- what the whole comes to, by what the next line says
module _ (p : Program) (w : Result Script ScriptTextFault) (text line rest : List ℕ) (n : ℕ) (r : Reading) (so : w ≡ read_lines p (ended 10 text) (tail 10 text) n r) (h : IsCut 10 text (Some (line, rest))) where
  stepped : (o : Option Line) → said p line ≡ o → w ≡ by_line n (ended 10 rest) (tail 10 rest) r (read_lines p (ended 10 rest) (tail 10 rest) (suc n)) o
  stepped o e = so ∙ line-step p text line rest n r h ∙ ap (by_line n (ended 10 rest) (tail 10 rest) r (read_lines p (ended 10 rest) (tail 10 rest) (suc n))) e

  pub line-none : said p line ≡ None → w ≡ Err (fault.BadLine n)
  line-none e = stepped None e

  pub line-end : (l : Line) (q : Result Script ScriptTextFault) → said p line ≡ Some l → is_end l ≡ true → Reads (closed n (ended 10 rest) (tail 10 rest) r r.levels) q → Reads w q
  line-end l q e end reads = subst (λ x. Reads x q) (sym (stepped (Some l) e ∙ ap (λ b. if b then closed n (ended 10 rest) (tail 10 rest) r r.levels else then_read (line_read n r l) (read_lines p (ended 10 rest) (tail 10 rest) (suc n))) end)) reads

  goes-on : (l : Line) → said p line ≡ Some l → is_end l ≡ false → w ≡ then_read (line_read n r l) (read_lines p (ended 10 rest) (tail 10 rest) (suc n))
  goes-on l e end = stepped (Some l) e ∙ ap (λ b. if b then closed n (ended 10 rest) (tail 10 rest) r r.levels else then_read (line_read n r l) (read_lines p (ended 10 rest) (tail 10 rest) (suc n))) end

  pub line-err : (l : Line) (f : ScriptTextFault) → said p line ≡ Some l → is_end l ≡ false → Reads (line_read n r l) (Err f) → Reads w (Err f)
  line-err l fault.NoMemory e end reads = reads
  line-err l (fault.BadLine m) e end reads = goes-on l e end ∙ ap (λ x. then_read x (read_lines p (ended 10 rest) (tail 10 rest) (suc n))) reads
  line-err l (fault.NoName m) e end reads = goes-on l e end ∙ ap (λ x. then_read x (read_lines p (ended 10 rest) (tail 10 rest) (suc n))) reads
  line-err l (fault.TooDeep m) e end reads = goes-on l e end ∙ ap (λ x. then_read x (read_lines p (ended 10 rest) (tail 10 rest) (suc n))) reads

  pub line-on : (l : Line) (q : Reading) (m : ℕ) → said p line ≡ Some l → is_end l ≡ false → line_read n r l ≡ Ok q → m ≡ n + 1 → w ≡ read_lines p (ended 10 rest) (tail 10 rest) m q
  line-on l q m e end reads next =
      let same : suc n ≡ m = omega (arith, next) in
      goes-on l e end ∙ ap (λ x. then_read x (read_lines p (ended 10 rest) (tail 10 rest) (suc n))) reads ∙ ap (λ k. read_lines p (ended 10 rest) (tail 10 rest) k q) same

pub ruleset steps = (no-line, shorter)

pub first-line : (p : Program) (text line rest : List ℕ) → IsCut 10 text (Some (line, rest)) → read_whole p (ended 10 text) (tail 10 text) ≡ read_first p (ended 10 rest) (tail 10 rest) (said p line)
first-line p text line rest h = rw (h.1, h.2) refl

pub no-first : (p : Program) (text : List ℕ) → IsCut 10 text None → read_whole p (ended 10 text) (tail 10 text) ≡ Err (fault.BadLine 1)
no-first p text h = rw h.0 refl

-- an empty line says nothing
pub says-something : (p : Program) (line : List ℕ) (l : Line) → said p line ≡ Some l → 0 < length line
unfolding said
says-something p [] l e = absurd (cc)
says-something p (b ∷ bs) l e = omega arith

pub ruleset first_steps = (first-line, no-first, shorter, says-something)

-- behind the line `end` nothing stands exactly where the text is at its end
pub last-none : (n : ℕ) (s : Script) → if_last n (ended 10 []) (tail 10 []) s ≡ Ok s
last-none n s = refl

pub last-some : (n : ℕ) (s : Script) (text : List ℕ) → 0 < length text → if_last n (ended 10 text) (tail 10 text) s ≡ Err (fault.BadLine (n + 1))
last-some n s text some = step (ended 10 text) (tail 10 text) (glued-ended 10 text) ∙ (let e : suc n ≡ n + 1 = omega arith in ap (λ k. Err (fault.BadLine k)) e)
  where
    step : (ls : List (List ℕ)) (rest : List ℕ) → glued 10 ls rest ≡ text → if_last n ls rest s ≡ Err (fault.BadLine (suc n))
    step [] [] e = absurd (omega (arith, ap length e))
    step [] (b ∷ bs) e = refl
    step (l ∷ ls) rest e = refl

pub closed-more : (n : ℕ) (text : List ℕ) (r : Reading) → r.levels ≡ [] → 0 < length text → closed n (ended 10 text) (tail 10 text) r r.levels ≡ Err (fault.BadLine (n + 1))
closed-more n text r e some = ap (closed n (ended 10 text) (tail 10 text) r) e ∙ last-some n (record { sender = r.sender; args = r.args; calls = calls_of r }) text some

pub ruleset last_steps = (last-none, last-some, closed-more)

pub empty-list : {A : Type 0} (xs : List A) (b : Bool) → b ≡ true → b ≡ (length xs == 0) → xs ≡ []
empty-list [] b h e = refl
empty-list (x ∷ xs) b h e = absurd (omega (arith, same-true (length (x ∷ xs)) 0 (sym e ∙ h)))

pub some-left : (xs : List ℕ) (b : Bool) → b ≡ false → b ≡ (length xs == 0) → 0 < length xs
some-left [] b h e = let wrong : true ≡ false = sym e ∙ h in absurd (cc)
some-left (x ∷ xs) b h e = omega arith
