-- A script that is answered while it is read.
use Rattle.std.proofs.Common.{◌≡◌, ℕ, zero, suc, ◌+◌, ◌-◌, ◌≤◌, Bool, true, false, not, cond, List, [], ◌∷◌, ◌++◌, Option, Some, None, length, take, drop, refl, sym, ap, ap₂, ◌∙◌, subst, append_assoc, append-nil, arith}
use Rattle.std.specs.Io.KnownBytes.{Appends}
use Rattle.std.specs.Prelude.{◌↔◌, IsTrue}
use Rattle.std.proofs.lemmas.Bool.{false≢true}
use Rattle.std.proofs.lemmas.Grind.{common_steps}
use Rattle.std.proofs.lemmas.List.{nil_from_length}
use Rattle.eir_script.specs.declared.command.Command.{Command}
use Rattle.eir_script.specs.Lines.{Cut, cut_after, cut_at, last_line, trimmed}
use Rattle.eir_script.specs.Pieces.{Holds, IsTaken, Taking, nothing_taken}
use Rattle.eir_script.specs.Reading.{reading}
use Rattle.eir_script.specs.Naming.{command_read}
use Rattle.eir_edit.specs.Causes.{Cause}
use Rattle.eir_edit.specs.State.{Act, Desk, refusal, draws, drawn_after, unless}
use Rattle.eirene.specs.declared.script.Script.{Script}
use Rattle.eirene.specs.Workspaces.{Workspace}
use Rattle.eirene.specs.Replies.{Request, act, fit, after, next, next_by, request_of, with_names}
use Rattle.eirene.specs.Scripts.{replies, workspace_after, line_reply}
use Rattle.eirene.specs.Outcomes.{AppendsPrefix, AppendsBut}
use Rattle.eirene.specs.Steps.{AnswersLines, AnswersPiece, IsIdle, cut_on}
use Rattle.eirene.proofs.KnownLaws.{appends-nothing}
use Rattle.eirene.proofs.CutLaws.{cut_after-append, cut_after-shifted}
use Rattle.eirene.proofs.ScriptLaws.{replies-append, workspace_after-append, but-more, but-stops, but-flushed, but-flush_stops}

-- the lines of two pieces, one behind the other
pub cut_on-more : (tail xs ys : List ℕ) → cut_on tail (xs ++ ys) ≡ cut_at ((cut_on tail xs).whole ++ (cut_on (cut_on tail xs).tail ys).whole) (cut_on (cut_on tail xs).tail ys).tail
cut_on-more tail xs ys = cut_after-append (cut_at [] tail) xs ys ∙ cut_after-shifted (cut_on tail xs).whole (cut_on tail xs).tail ys

pub whole-more : (tail xs ys : List ℕ) → (cut_on tail (xs ++ ys)).whole ≡ (cut_on tail xs).whole ++ (cut_on (cut_on tail xs).tail ys).whole
whole-more tail xs ys = ap (λ (c : Cut). c.whole) (cut_on-more tail xs ys)

-- ---- one piece

-- it ends no line
pub piece-none : (s : Script) (t : Taking) (o : Option (List ℕ)) (tail bytes : List ℕ) → IsTaken t [] (cut_on tail bytes) false → AnswersPiece s (record s { cutter = t }) o o tail bytes
piece-none s t o tail bytes h = record {
  answered = record {
    front = [];
    grew = appends-nothing o;
    split = sym (ap (λ lines. s.pending ++ replies s.workspace lines) h.0 ∙ append-nil s.pending);
  };
  left = ap (workspace_after s.workspace) (sym h.0);
  held = h.1;
}

-- it ends a line, which is answered
pub piece-line : (s t : Script) (a b : Option (List ℕ)) (tail bytes line : List ℕ) → cut_on tail bytes ≡ cut_at (trimmed line ∷ []) [] →
    AppendsBut a b t.pending (s.pending ++ line_reply s.workspace (trimmed line)) → t.workspace ≡ next (trimmed line) s.workspace → t.cutter ≡ nothing_taken → AnswersPiece s t a b tail bytes
piece-line s t a b tail bytes line e answered left begun =
    let w : (cut_on tail bytes).whole ≡ trimmed line ∷ [] = ap (λ (c : Cut). c.whole) e in
    let r : replies s.workspace (cut_on tail bytes).whole ≡ line_reply s.workspace (trimmed line) = ap (replies s.workspace) w ∙ append-nil (line_reply s.workspace (trimmed line)) in
    record {
      answered = subst (λ text. AppendsBut a b t.pending (s.pending ++ text)) (sym r) answered;
      left = left ∙ ap (workspace_after s.workspace) (sym w);
      held = ap (λ (k : Taking). k.bytes) begun ∙ ap (λ (c : Cut). take 4098 c.tail) (sym e);
    }

-- a stop while the line is answered that the front of the bytes ends
pub piece-stops : (s : Script) (a b : Option (List ℕ)) (tail front rest all line : List ℕ) → cut_on tail front ≡ cut_at (trimmed line ∷ []) [] → front ++ rest ≡ all →
    AppendsPrefix a b (s.pending ++ line_reply s.workspace (trimmed line)) → AppendsPrefix a b (s.pending ++ replies s.workspace (cut_on tail all).whole)
piece-stops s a b tail front rest all line e joined stopped =
    let later : List (List ℕ) = (cut_on (cut_on tail front).tail rest).whole in
    let w : (cut_on tail all).whole ≡ trimmed line ∷ later = ap (λ bs. (cut_on tail bs).whole) (sym joined) ∙ whole-more tail front rest ∙ ap (λ (c : Cut). c.whole ++ later) e in
    let here : List ℕ = line_reply s.workspace (trimmed line) in
    let more : List ℕ = replies (next (trimmed line) s.workspace) later in
    record {
      front = stopped.front;
      rest = stopped.rest ++ more;
      grew = stopped.grew;
      split = sym (append_assoc stopped.front stopped.rest more) ∙ ap (λ t. t ++ more) stopped.split ∙ append_assoc s.pending here more ∙ ap (λ lines. s.pending ++ replies s.workspace lines) (sym w);
    }

-- a line is behind at least one byte
pub piece-some : (tail bytes line : List ℕ) → cut_on tail bytes ≡ cut_at (trimmed line ∷ []) [] → 1 ≤ length bytes
piece-some tail [] line e = let k : 0 ≡ 1 = ap (λ (c : Cut). length c.whole) e in absurd (omega (arith, k))
piece-some tail (b ∷ bytes) line e = omega arith

-- ---- piece by piece

-- nothing is taken
pub piece-start : (s : Script) (o : Option (List ℕ)) (tail : List ℕ) → Holds s.cutter tail → AnswersPiece s s o o tail []
piece-start s o tail held = record { answered = record { front = []; grew = appends-nothing o; split = sym (append-nil s.pending) }; left = refl; held = held }

-- one piece behind the other
pub piece-join : (s t u : Script) (a b c : Option (List ℕ)) (tail xs ys : List ℕ) → AnswersPiece s t a b tail xs → AnswersPiece t u b c (cut_on tail xs).tail ys → AnswersPiece s u a c tail (xs ++ ys)
piece-join s t u a b c tail xs ys h k =
    let first : List (List ℕ) = (cut_on tail xs).whole in
    let second : List (List ℕ) = (cut_on (cut_on tail xs).tail ys).whole in
    let w : (cut_on tail (xs ++ ys)).whole ≡ first ++ second = whole-more tail xs ys in
    let texts : (s.pending ++ replies s.workspace first) ++ replies t.workspace second ≡ s.pending ++ replies s.workspace (cut_on tail (xs ++ ys)).whole =
    append_assoc s.pending (replies s.workspace first) (replies t.workspace second)
    ∙ ap (λ text. s.pending ++ text) (ap (λ v. replies s.workspace first ++ replies v second) h.left ∙ sym (replies-append s.workspace first second) ∙ ap (replies s.workspace) (sym w)) in
    record {
      answered = subst (λ text. AppendsBut a c u.pending text) texts (but-more a b c t.pending u.pending (s.pending ++ replies s.workspace first) (replies t.workspace second) h.answered k.answered);
      left = k.left ∙ ap (λ v. workspace_after v second) h.left ∙ sym (workspace_after-append s.workspace first second) ∙ ap (workspace_after s.workspace) (sym w);
      held = k.held ∙ ap (λ (c : Cut). take 4098 c.tail) (sym (cut_on-more tail xs ys));
    }

-- a stop within a later piece
pub piece-join_stops : (s t : Script) (a b c : Option (List ℕ)) (tail xs ys all : List ℕ) → AnswersPiece s t a b tail xs → xs ++ ys ≡ all →
    AppendsPrefix b c (t.pending ++ replies t.workspace (cut_on (cut_on tail xs).tail ys).whole) → AppendsPrefix a c (s.pending ++ replies s.workspace (cut_on tail all).whole)
piece-join_stops s t a b c tail xs ys all h joined k =
    let first : List (List ℕ) = (cut_on tail xs).whole in
    let second : List (List ℕ) = (cut_on (cut_on tail xs).tail ys).whole in
    let w : (cut_on tail all).whole ≡ first ++ second = ap (λ bs. (cut_on tail bs).whole) (sym joined) ∙ whole-more tail xs ys in
    but-stops a b c t.pending (s.pending ++ replies s.workspace first) (replies t.workspace second) [] (s.pending ++ replies s.workspace (cut_on tail all).whole) h.answered k
    (append-nil ((s.pending ++ replies s.workspace first) ++ replies t.workspace second) ∙ append_assoc s.pending (replies s.workspace first) (replies t.workspace second)
    ∙ ap (λ text. s.pending ++ text) (ap (λ v. replies s.workspace first ++ replies v second) h.left ∙ sym (replies-append s.workspace first second) ∙ ap (replies s.workspace) (sym w)))

-- where nothing is left, the front is all
pub front-all : (front rest all : List ℕ) → front ++ rest ≡ all → length rest ≡ 0 → front ≡ all
front-all front rest all e l = sym (append-nil front) ∙ ap (λ xs. front ++ xs) (sym (nil_from_length rest l)) ∙ e

-- a stop within a piece, where nothing was pending before
pub lines-stops : (s t : Script) (a b c : Option (List ℕ)) (tail xs ys all : List ℕ) → s.pending ≡ [] → AnswersPiece s t a b tail xs → xs ++ ys ≡ all →
    AppendsPrefix b c (t.pending ++ replies t.workspace (cut_on (cut_on tail xs).tail ys).whole) → AppendsPrefix a c (replies s.workspace (cut_on tail all).whole)
lines-stops s t a b c tail xs ys all none h joined k = subst (λ p. AppendsPrefix a c (p ++ replies s.workspace (cut_on tail all).whole)) none (piece-join_stops s t a b c tail xs ys all h joined k)

-- all is taken, and what was pending is written
pub lines-flushed : (s t u : Script) (a b c : Option (List ℕ)) (tail bytes : List ℕ) → s.pending ≡ [] → AnswersPiece s t a b tail bytes → Appends b c t.pending →
    u ≡ record t { pending = [] } → t.cutter.ended ≡ false → AnswersLines s u a c tail bytes
lines-flushed s t u a b c tail bytes none h k e unended = record {
  answered = subst (λ p. Appends a c (p ++ replies s.workspace (cut_on tail bytes).whole)) none (but-flushed a b c t.pending _ h.answered k);
  left = ap (λ (v : Script). v.workspace) e ∙ h.left;
  held = ap (λ (v : Script). v.cutter.bytes) e ∙ h.held;
  idle = record { unended = ap (λ (v : Script). v.cutter.ended) e ∙ unended; written = ap (λ (v : Script). v.pending) e };
}

-- a stop while what was pending is written
pub lines-flush_stops : (s t : Script) (a b c : Option (List ℕ)) (tail bytes : List ℕ) → s.pending ≡ [] → AnswersPiece s t a b tail bytes → AppendsPrefix b c t.pending →
    AppendsPrefix a c (replies s.workspace (cut_on tail bytes).whole)
lines-flush_stops s t a b c tail bytes none h k = subst (λ p. AppendsPrefix a c (p ++ replies s.workspace (cut_on tail bytes).whole)) none (but-flush_stops a b c t.pending _ h.answered k)

-- ---- the last line

-- where something is held the tail is a line
pub last-held : (w : Workspace) (t : Taking) (tail : List ℕ) → Holds t tail → t.ended ≡ false → (t ≡ nothing_taken → ⊥) → replies w (last_line tail) ≡ line_reply w (trimmed tail)
last-held w t [] held unended some = absurd (some (ap₂ (λ bytes ended. let k : Taking = record { bytes = bytes; ended = ended } in k) held unended))
last-held w t (b ∷ bytes) held unended some = append-nil (line_reply w (trimmed (b ∷ bytes)))

-- where nothing is held there is none
pub last-none : (w : Workspace) (t : Taking) (tail : List ℕ) → Holds t tail → t ≡ nothing_taken → replies w (last_line tail) ≡ []
last-none w t [] held none = refl
last-none w t (b ∷ bytes) held none = let k : [] ≡ b ∷ take 4097 bytes = sym (ap (λ (x : Taking). x.bytes) none) ∙ held in absurd cc

-- the last line is answered
pub end-appends : (w : Workspace) (t : Taking) (a b c : Option (List ℕ)) (p q tail : List ℕ) → Holds t tail → t.ended ≡ false → (t ≡ nothing_taken → ⊥) → p ≡ [] →
    AppendsBut a b q (p ++ line_reply w (trimmed tail)) → Appends b c q → Appends a c (replies w (last_line tail))
end-appends w t a b c p q tail held unended some none h k =
    subst (λ text. Appends a c text) (ap (λ x. x ++ line_reply w (trimmed tail)) none ∙ sym (last-held w t tail held unended some)) (but-flushed a b c q (p ++ line_reply w (trimmed tail)) h k)

-- a stop while it is answered, and while what was pending is written
pub end-stops : (w : Workspace) (t : Taking) (a b : Option (List ℕ)) (p tail : List ℕ) → Holds t tail → t.ended ≡ false → (t ≡ nothing_taken → ⊥) → p ≡ [] →
    AppendsPrefix a b (p ++ line_reply w (trimmed tail)) → AppendsPrefix a b (replies w (last_line tail))
end-stops w t a b p tail held unended some none h = subst (λ text. AppendsPrefix a b text) (ap (λ x. x ++ line_reply w (trimmed tail)) none ∙ sym (last-held w t tail held unended some)) h

pub end-flush_stops : (w : Workspace) (t : Taking) (a b c : Option (List ℕ)) (p q tail : List ℕ) → Holds t tail → t.ended ≡ false → (t ≡ nothing_taken → ⊥) → p ≡ [] →
    AppendsBut a b q (p ++ line_reply w (trimmed tail)) → AppendsPrefix b c q → AppendsPrefix a c (replies w (last_line tail))
end-flush_stops w t a b c p q tail held unended some none h k = end-stops w t a c p tail held unended some none (but-flush_stops a b c q (p ++ line_reply w (trimmed tail)) h k)

-- there is no last line
pub end-none : (w : Workspace) (t : Taking) (o : Option (List ℕ)) (tail : List ℕ) → Holds t tail → t ≡ nothing_taken → Appends o o (replies w (last_line tail))
end-none w t o tail held none = subst (λ text. Appends o o text) (sym (last-none w t tail held none)) (appends-nothing o)

-- what a negated test tells
pub not-true : (b : Bool) → not b ≡ true → b ≡ false
not-true true e = absurd (false≢true e)
not-true false e = refl

pub not-false : (b : Bool) → not b ≡ false → b ≡ true
not-false true e = refl
not-false false e = absurd (false≢true (sym e))

-- what a test that fails tells
pub not-so : (b : Bool) (P : Type 0) → IsTrue b ↔ P → b ≡ false → P → ⊥
not-so b P iff e p = false≢true (sym e ∙ iff.1 p)

-- lengths of fronts and of what is behind them
pub take-some : (n : ℕ) (xs : List ℕ) → 1 ≤ length (take n xs) → 1 ≤ n
take-some zero [] l = absurd (omega arith)
take-some zero (x ∷ xs) l = absurd (omega arith)
take-some (suc n) xs l = omega arith

pub rest-length : (n : ℕ) (xs : List ℕ) → n ≤ length xs → length (take (length xs - n) (drop n xs)) + n ≡ length xs
rest-length n xs l = grind (arith, common_steps)

pub rest-joined : (n : ℕ) (xs : List ℕ) → take n xs ++ take (length xs - n) (drop n xs) ≡ xs
rest-joined n xs = grind (arith, common_steps)

-- ---- versions that are drawn

drawn-act : (n : ℕ) (a : Act) (d : Desk) → drawn_after n a d ≤ n + 1
drawn-act n a d = by (refusal a d) (draws a)
  where
    by : (r : Option Cause) (b : Bool) → unless r n (cond b (suc n) n) ≤ n + 1
    by None true = omega arith
    by None false = omega arith
    by (Some c) b = omega arith

after-drawn : (asked : Option Request) (w : Workspace) → (after asked w).work.drawn ≤ w.work.drawn + 1
after-drawn None w = omega arith
after-drawn (Some (act a)) w = drawn-act w.work.drawn a w.work.desk
after-drawn (Some fit) w = omega arith

-- a line draws at most one version
pub next-drawn : (line : List ℕ) (w : Workspace) → (next line w).work.drawn ≤ w.work.drawn + 1
next-drawn line w = by (command_read (with_names (reading line) w).names (reading line))
  where
    by : (c : Option Command) → (next_by c (with_names (reading line) w)).work.drawn ≤ w.work.drawn + 1
    by None = omega arith
    by (Some c) = after-drawn (request_of c) (with_names (reading line) w)

-- so do these lines, each
pub workspace_after-drawn : (w : Workspace) (lines : List (List ℕ)) → (workspace_after w lines).work.drawn ≤ w.work.drawn + length lines
workspace_after-drawn w [] = omega arith
workspace_after-drawn w (line ∷ lines) = let h = workspace_after-drawn (next line w) lines in let k = next-drawn line w in omega arith
