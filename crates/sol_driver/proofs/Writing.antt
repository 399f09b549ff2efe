-- Writing part by part.
use Rattle.std.proofs.Common.{◌≡◌, ◌∙◌, sym, ap, refl, subst, ℕ, ◌+◌, ◌<◌, List, [], ◌++◌, length, take, drop, get_or, Option, Ok, Err, arith, append_assoc, append-nil, inl, inr}
use Rattle.std.specs.List.{concat}
use Rattle.std.proofs.lemmas.List.{take-append-le, take_all, at_drop_more}
use Rattle.std.proofs.lemmas.Bool.{cases_lt}
use Rattle.std.proofs.Math.Seq.{take-append_seam, take-append-add}
use Rattle.sol_outside.specs.declared.SinkFault.{SinkFault}
use Rattle.sol_outside.specs.declared.SinkFault.TheVariants as sink
use Rattle.sol_outside.specs.Causes.{Rose, Appended, AppendedPart, Puts}
use Rattle.sol_outside.proofs.Writing.{appended-nothing, appended-then}
use Rattle.sol_driver.specs.Told.{Tells}

-- what part of a longer text a part of a middle is
part-of : (n : ℕ) (ys zs : List ℕ) → (m : ℕ) × (take m (ys ++ zs) ≡ take n ys)
part-of n ys zs =
    elim (cases_lt n (length ys)) [
      | inl h ↦ (n, take-append-le n ys zs (omega arith))
      | inr h ↦ (length ys, take-append_seam ys zs ∙ sym (take_all n ys h))
    ]

pub appended-part : (a b c : Option (List ℕ)) (xs ys zs : List ℕ) → Appended a b xs → AppendedPart b c ys → AppendedPart a c (xs ++ (ys ++ zs))
appended-part a b c xs ys zs h k =
    let m = part-of k.0 ys zs in
    let e : take (length xs + m.0) (xs ++ (ys ++ zs)) ≡ xs ++ take k.0 ys = take-append-add xs (ys ++ zs) m.0 ∙ ap (λ (ws : List ℕ). xs ++ ws) m.1 in
    (length xs + m.0, rw e (appended-then a b c xs (take k.0 ys) h k.1))

pub appended-whole : (a b : Option (List ℕ)) (xs : List ℕ) → Appended a b xs → AppendedPart a b xs
appended-whole a b xs h = (length xs, rw (take_all (length xs) xs (omega arith)) h)

-- what stands after some puts: the count of faults did not rise, and a text was written, after which a rest is left
pub record SoFar (before now : ℕ) (old new : Option (List ℕ)) (rest whole : List ℕ) : Type 0 where
  pub same : now ≡ before
  pub text : List ℕ
  pub written : Appended old new text
  pub left : text ++ rest ≡ whole

pub so_far-start : (n : ℕ) (old : Option (List ℕ)) (whole : List ℕ) → SoFar n n old old whole whole
so_far-start n old whole = record { same = refl; text = []; written = appended-nothing old; left = refl }

pub so_far-more : (before mid now : ℕ) (old between new : Option (List ℕ)) (line rest whole : List ℕ) → SoFar before mid old between (line ++ rest) whole → Puts mid now between new line (Ok tt) → SoFar before now old new rest whole
so_far-more before mid now old between new line rest whole s p = record {
  same = p.0 ∙ s.same;
  text = s.text ++ line;
  written = appended-then old between new s.text line s.written p.1;
  left = append_assoc s.text line rest ∙ s.left;
}

pub so_far-end : (before now : ℕ) (old new : Option (List ℕ)) (whole : List ℕ) → SoFar before now old new [] whole → Tells before now old new whole (Ok tt)
so_far-end before now old new whole s = let e : whole ≡ s.text = sym s.left ∙ append-nil s.text in (s.same, rw e s.written)

rose-later : {before mid now : ℕ} → mid ≡ before → Rose mid now → Rose before now
rose-later {before} {mid} {now} e h = subst (λ (n : ℕ). Rose n now) e h

pub so_far-stop : (before mid now : ℕ) (old between new : Option (List ℕ)) (line rest whole : List ℕ) (f : SinkFault) → SoFar before mid old between (line ++ rest) whole → Puts mid now between new line (Err f) → Tells before now old new whole (Err f)
so_far-stop before mid now old between new line rest whole sink.Failed s p =
    (rose-later s.same p.0, rw (← s.left) (appended-part old between new s.text line rest s.written p.1))
so_far-stop before mid now old between new line rest whole sink.NoMemory s p =
    let nothing : AppendedPart between new line = (0, rw p.1 (appended-nothing between)) in
    (p.0 ∙ s.same, rw (← s.left) (appended-part old between new s.text line rest s.written nothing))

pub concat-turn : (lines : List (List ℕ)) (i : ℕ) (line : List ℕ) → i < length lines → line ≡ get_or lines i line → concat (drop i lines) ≡ line ++ concat (drop (i + 1) lines)
concat-turn lines i line h e =
    let turn = at_drop_more concat lines i line h in
    let same : get_or lines i line ≡ line = sym e in
    rw same at turn
