-- Lines that are answered one after another, and what is written meanwhile.
use Rattle.std.proofs.Common.{◌≡◌, ℕ, ◌+◌, ◌≤◌, List, [], ◌∷◌, ◌++◌, length, refl, sym, ap, ◌∙◌, append_assoc, append-nil, arith}
use Rattle.std.specs.Prelude.{Option}
use Rattle.std.specs.Io.KnownBytes.{Appends}
use Rattle.eirene.specs.Workspaces.{Workspace}
use Rattle.eirene.specs.Replies.{next}
use Rattle.eirene.specs.Scripts.{line_reply, replies, workspace_after}
use Rattle.eirene.specs.Outcomes.{AppendsPrefix, AppendsBut}
use Rattle.eirene.proofs.KnownLaws.{appends-more, prefix-more}

-- the replies to more lines come after the others
pub replies-append : (w : Workspace) (xs ys : List (List ℕ)) → replies w (xs ++ ys) ≡ replies w xs ++ replies (workspace_after w xs) ys
replies-append w [] ys = refl
replies-append w (x ∷ xs) ys = ap (λ r. line_reply w x ++ r) (replies-append (next x w) xs ys) ∙ sym (append_assoc (line_reply w x) (replies (next x w) xs) (replies (workspace_after (next x w) xs) ys))

-- the workspace after more lines
pub workspace_after-append : (w : Workspace) (xs ys : List (List ℕ)) → workspace_after w (xs ++ ys) ≡ workspace_after (workspace_after w xs) ys
workspace_after-append w [] ys = refl
workspace_after-append w (x ∷ xs) ys = workspace_after-append (next x w) xs ys

-- the replies after one line more
pub replies-last : (w : Workspace) (xs : List (List ℕ)) (line : List ℕ) → replies w (xs ++ line ∷ []) ≡ replies w xs ++ line_reply (workspace_after w xs) line
replies-last w xs line = replies-append w xs (line ∷ []) ∙ ap (λ r. replies w xs ++ r) (append-nil (line_reply (workspace_after w xs) line))

-- all that is pending and then appended, but what is pending now
pub but-more : (a b c : Option (List ℕ)) (p q xs ys : List ℕ) → AppendsBut a b p xs → AppendsBut b c q (p ++ ys) → AppendsBut a c q (xs ++ ys)
but-more a b c p q xs ys h k = record {
  front = h.front ++ k.front;
  grew = appends-more a b c h.front k.front h.grew k.grew;
  split = append_assoc h.front k.front q ∙ ap (λ s. h.front ++ s) k.split ∙ sym (append_assoc h.front p ys) ∙ ap (λ s. s ++ ys) h.split;
}

-- a stop while what is pending and a text after it are written
pub but-stops : (a b c : Option (List ℕ)) (p xs ys rest all : List ℕ) → AppendsBut a b p xs → AppendsPrefix b c (p ++ ys) → (xs ++ ys) ++ rest ≡ all → AppendsPrefix a c all
but-stops a b c p xs ys rest all h k e = prefix-more a b c h.front (p ++ ys) rest all h.grew k
    (sym (append_assoc h.front (p ++ ys) rest) ∙ ap (λ s. s ++ rest) (sym (append_assoc h.front p ys) ∙ ap (λ s. s ++ ys) h.split) ∙ e)

-- what was pending is written too
pub but-flushed : (a b c : Option (List ℕ)) (p all : List ℕ) → AppendsBut a b p all → Appends b c p → Appends a c all
but-flushed a b c p all h k = rw (sym h.split) (appends-more a b c h.front p h.grew k)

-- a stop while what was pending is written
pub but-flush_stops : (a b c : Option (List ℕ)) (p all : List ℕ) → AppendsBut a b p all → AppendsPrefix b c p → AppendsPrefix a c all
but-flush_stops a b c p all h k = prefix-more a b c h.front p [] all h.grew k (ap (λ s. h.front ++ s) (append-nil p) ∙ h.split)

-- one line more is answered
pub step-appends : (w : Workspace) (a b c : Option (List ℕ)) (p q : List ℕ) (whole : List (List ℕ)) (line : List ℕ) → AppendsBut a b p (replies w whole) →
    AppendsBut b c q (p ++ line_reply (workspace_after w whole) line) → AppendsBut a c q (replies w (whole ++ line ∷ []))
step-appends w a b c p q whole line h k = rw (replies-last w whole line) (but-more a b c p q (replies w whole) (line_reply (workspace_after w whole) line) h k)

-- a stop within the reply to one line more, where other lines follow
pub step-stops : (w : Workspace) (a b c : Option (List ℕ)) (p : List ℕ) (whole : List (List ℕ)) (line : List ℕ) (later : List (List ℕ)) → AppendsBut a b p (replies w whole) →
    AppendsPrefix b c (p ++ line_reply (workspace_after w whole) line) → AppendsPrefix a c (replies w (whole ++ line ∷ later))
step-stops w a b c p whole line later h k =
    but-stops a b c p (replies w whole) (line_reply (workspace_after w whole) line) (replies (next line (workspace_after w whole)) later) (replies w (whole ++ line ∷ later)) h k
    (append_assoc (replies w whole) (line_reply (workspace_after w whole) line) (replies (next line (workspace_after w whole)) later) ∙ sym (replies-append w whole (line ∷ later)))
