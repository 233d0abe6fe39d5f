-- An input that is answered piece by piece.
use Rattle.std.proofs.Common.{◌≡◌, ℕ, ◌+◌, ◌≤◌, ◌<◌, min, List, [], ◌∷◌, ◌++◌, Option, Some, None, length, take, refl, sym, ap, ◌∙◌, subst, append-nil, zero, suc, inl, inr, arith}
use Rattle.std.specs.Io.KnownBytes.{Appends, Consumes, IsAtEnd}
use lib.Seq.{take-take}
use Rattle.std.specs.Prelude.{nat_le}
use Rattle.std.proofs.lemmas.Bool.{cases_Bool, leb-true, leb-false}
use Rattle.std.proofs.lemmas.List.{length-append, take_all}
use Rattle.eir_script.specs.Lines.{Cut, cut, cut_after, cut_at, last_line, lines_of}
use Rattle.eir_script.specs.Pieces.{Holds, Taking, nothing_taken}
use Rattle.eirene.specs.declared.script.Script.{Script}
use Rattle.eirene.specs.Workspaces.{Workspace, empty_workspace}
use Rattle.eirene.specs.Scripts.{replies, workspace_after, output_for, whole_output}
use Rattle.eirene.specs.Outcomes.{AppendsPrefix, AnswersWhole, AnswersWithin, AreRead, StopsWithin}
use Rattle.eirene.specs.Promise.{AnswersAll}
use Rattle.eirene.specs.Steps.{AnswersLines, IsIdle, cut_on}
use Rattle.eirene.specs.Versions.{HasVersions}
use Rattle.eirene.proofs.KnownLaws.{appends-nothing, appends-more, consumes-more, consumes-nothing, prefix-more, prefix-nothing}
use Rattle.eirene.proofs.CutLaws.{length-whole-le}
use Rattle.eirene.proofs.ScriptLaws.{replies-append, workspace_after-append}
use Rattle.eirene.proofs.StepLaws.{cut_on-more, whole-more, workspace_after-drawn}
use Rattle.eirene.proofs.PromiseLaws.{fits_are_right}

-- these bytes were read, and exactly the whole lines among them are answered
pub record HasRead (left_old left_now written_old written_now : Option (List ℕ)) (s : Script) (bytes : List ℕ) : Type 0 where
  pub consumed : Consumes left_old left_now bytes
  pub answered : Appends written_old written_now (whole_output bytes)
  pub left : s.workspace ≡ workspace_after empty_workspace (cut bytes).whole
  pub held : Holds s.cutter (cut bytes).tail
  pub idle : IsIdle s

-- the replies to the lines that a piece ends come behind the others
output-more : (bytes piece : List ℕ) → whole_output (bytes ++ piece) ≡ whole_output bytes ++ replies (workspace_after empty_workspace (cut bytes).whole) (cut_on (cut bytes).tail piece).whole
output-more bytes piece = ap output_for (whole-more [] bytes piece) ∙ replies-append empty_workspace (cut bytes).whole (cut_on (cut bytes).tail piece).whole

-- there are versions for as many bytes as are still read
pub HasVersions-read : (w : Workspace) (bytes : List ℕ) (n : ℕ) → w ≡ workspace_after empty_workspace (cut bytes).whole → length bytes + n ≤ 18446744073709551615 → HasVersions w n
HasVersions-read w bytes n e l =
    let d : (workspace_after empty_workspace (cut bytes).whole).work.drawn ≤ 0 + length (cut bytes).whole = workspace_after-drawn empty_workspace (cut bytes).whole in
    let k : length (cut bytes).whole ≤ 0 + length bytes = length-whole-le [] [] bytes in
    let q : w.work.drawn ≡ (workspace_after empty_workspace (cut bytes).whole).work.drawn = ap (λ (v : Workspace). v.work.drawn) e in
    omega arith

-- a piece more, all of which is within the limit, is answered
pub HasRead-more : (a b c x y z : Option (List ℕ)) (s t : Script) (bytes piece : List ℕ) → HasRead a b x y s bytes → Consumes b c piece →
    AnswersLines s t y z (cut bytes).tail piece → HasRead a c x z t (bytes ++ piece)
HasRead-more a b c x y z s t bytes piece h eaten k =
    let lines : List (List ℕ) = (cut_on (cut bytes).tail piece).whole in
    record {
      consumed = consumes-more a b c bytes piece h.consumed eaten;
      answered = rw (output-more bytes piece) (appends-more x y z (whole_output bytes) _ h.answered (subst (λ w. Appends y z (replies w lines)) h.left k.answered));
      left = k.left ∙ ap (λ w. workspace_after w lines) h.left ∙ sym (workspace_after-append empty_workspace (cut bytes).whole lines) ∙ ap (workspace_after empty_workspace) (sym (whole-more [] bytes piece));
      held = k.held ∙ ap (λ (c : Cut). take 4098 c.tail) (sym (cut_on-more [] bytes piece));
      idle = k.idle;
    }

-- the replies to all lines are those to the whole ones and to the last one
output-end : (bytes : List ℕ) → output_for (lines_of bytes) ≡ whole_output bytes ++ replies (workspace_after empty_workspace (cut bytes).whole) (last_line (cut bytes).tail)
output-end bytes = replies-append empty_workspace (cut bytes).whole (last_line (cut bytes).tail)

-- all is answered where the input is at its end, and the last line is answered
pub AnswersAll-end : (a b c x y z : Option (List ℕ)) (s : Script) (bytes : List ℕ) (limit : ℕ) → HasRead a b x y s bytes → Consumes b c [] → IsAtEnd c → length bytes ≤ limit →
    Appends y z (replies s.workspace (last_line (cut bytes).tail)) → AnswersAll a c x z limit
AnswersAll-end a b c x y z s bytes limit h eaten ended within last = record {
  bytes = bytes;
  consumed = subst (λ bs. Consumes a c bs) (append-nil bytes) (consumes-more a b c bytes [] h.consumed eaten);
  at_end = ended;
  within = within;
  answered = rw (output-end bytes) (appends-more x y z (whole_output bytes) _ h.answered (subst (λ w. Appends y z (replies w (last_line (cut bytes).tail))) h.left last));
  right = fits_are_right bytes;
}

-- a stop while the last line is answered
pub StopsWithin-end : (a b c x y z : Option (List ℕ)) (s : Script) (bytes : List ℕ) (limit : ℕ) → HasRead a b x y s bytes → Consumes b c [] → IsAtEnd c → length bytes ≤ limit →
    AppendsPrefix y z (replies s.workspace (last_line (cut bytes).tail)) → StopsWithin a c x z limit
StopsWithin-end a b c x y z s bytes limit h eaten ended within last = record {
  bytes = bytes;
  lines = lines_of bytes;
  consumed = subst (λ bs. Consumes a c bs) (append-nil bytes) (consumes-more a b c bytes [] h.consumed eaten);
  read = inr (ended, within, refl);
  answered =
      let rest : List ℕ = replies (workspace_after empty_workspace (cut bytes).whole) (last_line (cut bytes).tail) in
      prefix-more x y z (whole_output bytes) rest [] (output_for (lines_of bytes)) h.answered (subst (λ w. AppendsPrefix y z (replies w (last_line (cut bytes).tail))) h.left last)
      (ap (λ r. whole_output bytes ++ r) (append-nil rest) ∙ sym (output-end bytes));
}

-- nothing was read
pub StopsWithin-start : (a x : Option (List ℕ)) (limit : ℕ) → StopsWithin a a x x limit
StopsWithin-start a x limit = record { bytes = []; lines = []; consumed = consumes-nothing a; read = inl (sym (none-cut limit)); answered = prefix-nothing x [] }
  where
    none-cut : (n : ℕ) → (cut (take n [])).whole ≡ []
    none-cut zero = refl
    none-cut (suc n) = refl

-- a read that gave nothing
pub eaten-none : (b c : Option (List ℕ)) (n : ℕ) (buf : List ℕ) → n ≡ 0 → Consumes b c (take n buf) → Consumes b c []
eaten-none b c zero [] e h = h
eaten-none b c zero (x ∷ buf) e h = h
eaten-none b c (suc n) buf e h = absurd (omega arith)

-- the length of a front
pub take-short : (n : ℕ) (xs : List ℕ) → length (take n xs) ≤ n
take-short zero [] = omega arith
take-short zero (x ∷ xs) = omega arith
take-short (suc n) [] = omega arith
take-short (suc n) (x ∷ xs) = let l = take-short n xs in omega arith

pub length-taken : (n : ℕ) (xs : List ℕ) → n ≤ length xs → length (take n xs) ≡ n
length-taken zero [] l = refl
length-taken zero (x ∷ xs) l = refl
length-taken (suc n) [] l = absurd (omega arith)
length-taken (suc n) (x ∷ xs) l = let k = length-taken n xs (omega arith) in omega arith

-- the front of a piece that is within the limit
pub within-take : (n count room : ℕ) (buf : List ℕ) → n ≡ min count room → take n buf ≡ take room (take count buf)
within-take n count room buf e = elim (cases_Bool (nat_le count room)) [
  | inl t ↦ (
      let l : count ≤ room = leb-true count room t in
      let s = take-short count buf in
      let q : n ≡ count = omega arith in
      ap (λ k. take k buf) q ∙ sym (take_all room (take count buf) (omega arith))
      )
  | inr t ↦ (
      let l : room < count = leb-false count room t in
      let q : n ≡ room = omega arith in
      ap (λ k. take k buf) q ∙ sym (take-take room count buf (omega arith))
      )
]

-- nothing was read yet
pub HasRead-start : (a x : Option (List ℕ)) (s : Script) → s.workspace ≡ empty_workspace → s.cutter ≡ nothing_taken → s.pending ≡ [] → HasRead a a x x s []
HasRead-start a x s w t p = record {
  consumed = consumes-nothing a;
  answered = appends-nothing x;
  left = w;
  held = ap (λ (k : Taking). k.bytes) t;
  idle = record { unended = ap (λ (k : Taking). k.ended) t; written = p };
}

-- a read that failed
pub AnswersWhole-stop : (a b c x y : Option (List ℕ)) (s : Script) (bytes : List ℕ) (limit : ℕ) → HasRead a b x y s bytes → Consumes b c [] → length bytes ≤ limit → AnswersWhole a c x y limit
AnswersWhole-stop a b c x y s bytes limit h eaten within = record {
  bytes = bytes;
  consumed = subst (λ bs. Consumes a c bs) (append-nil bytes) (consumes-more a b c bytes [] h.consumed eaten);
  within = within;
  answered = h.answered;
}

-- what is within the limit, of bytes that were read before and of a piece behind them
within-limit : (bytes piece : List ℕ) (limit room : ℕ) → length bytes + room ≡ limit → take limit (bytes ++ piece) ≡ bytes ++ take room piece
within-limit [] piece limit room e = ap (λ n. take n piece) (let q : limit ≡ room = omega arith in q)
within-limit (b ∷ bytes) piece zero room e = absurd (omega arith)
within-limit (b ∷ bytes) piece (suc limit) room e = ap (λ bs. b ∷ bs) (within-limit bytes piece limit room (omega arith))

-- a piece that goes past the limit: what is within it is answered
pub AnswersWithin-stop : (a b c x y z : Option (List ℕ)) (s t : Script) (bytes piece : List ℕ) (limit room : ℕ) → HasRead a b x y s bytes → Consumes b c piece →
    length bytes + room ≡ limit → room < length piece → AnswersLines s t y z (cut bytes).tail (take room piece) → AnswersWithin a c x z limit
AnswersWithin-stop a b c x y z s t bytes piece limit room h eaten joined past k =
    let e : take limit (bytes ++ piece) ≡ bytes ++ take room piece = within-limit bytes piece limit room joined in
    record {
      bytes = bytes ++ piece;
      consumed = consumes-more a b c bytes piece h.consumed eaten;
      longer = (let l : length (bytes ++ piece) ≡ length bytes + length piece = length-append bytes piece in omega arith);
      answered = rw (e, output-more bytes (take room piece)) (appends-more x y z (whole_output bytes) _ h.answered (subst (λ w. Appends y z (replies w (cut_on (cut bytes).tail (take room piece)).whole)) h.left k.answered));
    }

-- a stop while the lines of a piece are answered
pub StopsWithin-piece : (a b c x y z : Option (List ℕ)) (s : Script) (bytes piece : List ℕ) (limit room : ℕ) → HasRead a b x y s bytes → Consumes b c piece →
    length bytes + room ≡ limit → AppendsPrefix y z (replies s.workspace (cut_on (cut bytes).tail (take room piece)).whole) → StopsWithin a c x z limit
StopsWithin-piece a b c x y z s bytes piece limit room h eaten joined k =
    let front : List ℕ = take room piece in
    let e : take limit (bytes ++ piece) ≡ bytes ++ front = within-limit bytes piece limit room joined in
    let rest : List ℕ = replies (workspace_after empty_workspace (cut bytes).whole) (cut_on (cut bytes).tail front).whole in
    record {
      bytes = bytes ++ piece;
      lines = (cut (bytes ++ front)).whole;
      consumed = consumes-more a b c bytes piece h.consumed eaten;
      read = inl (ap (λ bs. (cut bs).whole) (sym e));
      answered = prefix-more x y z (whole_output bytes) rest [] (whole_output (bytes ++ front)) h.answered (subst (λ w. AppendsPrefix y z (replies w (cut_on (cut bytes).tail front).whole)) h.left k)
          (ap (λ r. whole_output bytes ++ r) (append-nil rest) ∙ sym (output-more bytes front));
    }
