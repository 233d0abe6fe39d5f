-- The text of a reply is the same before and after its line.
use Rattle.std.proofs.Common.{◌≡◌, ◌⊎◌, ℕ, List, Option, Some, None, Result, Ok, Err, inl, inr, refl, sym, ap, ap₂, subst, ◌∙◌, [], ◌++◌, OnOk, append_assoc, append-nil}
use Rattle.eir_term.specs.declared.val.Kind.{Kind}
use Rattle.eir_print.specs.declared.reply.Reply.{Reply}
use Rattle.eir_print.specs.declared.reply.Reply.TheVariants as reply
use Rattle.eir_print.specs.declared.refusal.Refusal.{Refusal}
use Rattle.eir_print.specs.declared.refusal.Refusal.TheVariants.{Memory}
use Rattle.eir_script.specs.declared.command.Command.{Command}
use Rattle.eir_script.specs.declared.command.Command.TheVariants as command
use Rattle.eir_script.specs.Grammar as said
use Rattle.eir_script.specs.Grammar.{Said}
use Rattle.eir_script.specs.Reading.{Reading, reading, bad, blank, says}
use Rattle.eir_script.specs.Naming.{numbered, command_read}
use Rattle.eir_edit.specs.Causes.{Cause}
use Rattle.eir_edit.specs.State.{refusal}
use Rattle.eirene.specs.Workspaces.{Workspace, kind_of}
use Rattle.eirene.specs.Answers.{IsAnswer, IsRefused, IsReply}
use Rattle.eirene.specs.Replies.{Answer, Request, act, done, refused, fit, answer, after, request_of, with_names, refused_by, reply_by, reply_read, reply_to, next_by, next_read, next}
use Rattle.eir_print.specs.Refusals.{refusal_text}
use Rattle.eirene.specs.Outcomes.{AppendsBut, AppendsPrefix}
use Rattle.eirene.specs.Texts.{reply_text}
use Rattle.eirene.specs.Scripts.{line_reply}

-- done and refused have one text in every workspace
plain : (w v : Workspace) (cause : Option Cause) → reply_text w (Some (refused_by cause)) ≡ reply_text v (Some (refused_by cause))
plain w v None = refl
plain w v (Some c) = refl

-- the text of an answer does not rest on the workspace, or the workspace is the same
abbrev IsSame : Option Request → Workspace → Workspace → Type 0
IsSame (Some fit) m w = m ≡ w
IsSame other m w = Unit {0}

by_request : (m w : Workspace) (asked : Option Request) → IsSame asked m w → reply_text (after asked m) (Some (answer asked m)) ≡ reply_text w (Some (answer asked m))
by_request m w None same = refl
by_request m w (Some (act a)) same = plain (after (Some (act a)) m) w (refusal a m.work.desk)
by_request m w (Some fit) same = ap (λ v. reply_text v (Some (answer (Some fit) m))) same

-- what a line asks that says s
abbrev asked_by : Workspace → Said → Option Request
asked_by w s = request_of (numbered (with_names (says s) w).names s)

by_reading : (w : Workspace) (r : Reading) → reply_text (next_read r w) (reply_read r w) ≡ reply_text w (reply_read r w)
by_reading w bad = refl
by_reading w blank = refl
by_reading w (says (said.declare side r columns)) = by_request (with_names (says (said.declare side r columns)) w) w (asked_by w (said.declare side r columns)) tt
by_reading w (says (said.new e)) = by_request (with_names (says (said.new e)) w) w (asked_by w (said.new e)) tt
by_reading w (says (said.put e f)) = by_request (with_names (says (said.put e f)) w) w (asked_by w (said.put e f)) tt
by_reading w (says (said.cut e f)) = by_request (with_names (says (said.cut e f)) w) w (asked_by w (said.cut e f)) tt
by_reading w (says (said.drop e)) = by_request (with_names (says (said.drop e)) w) w (asked_by w (said.drop e)) tt
by_reading w (says said.undo) = by_request (with_names (says said.undo) w) w (asked_by w said.undo) tt
by_reading w (says (said.take d e)) = refl
by_reading w (says (said.kind k)) = by_request (with_names (says (said.kind k)) w) w (asked_by w (said.kind k)) tt
by_reading w (says (said.budget n)) = refl
by_reading w (says said.fit) = refl
by_reading w (says said.tries) = refl
by_reading w (says said.reduce) = refl
by_reading w (says (said.chase e)) = refl
by_reading w (says (said.cert file)) = refl
by_reading w (says (said.table r file)) = refl
by_reading w (says said.exchange) = refl

-- the text of an answer, in the workspace that the answer leaves, is the reply to the line
pub line_reply-after : (line : List ℕ) (w v : Workspace) (r : Option Answer) → r ≡ reply_to line w → v ≡ next line w → reply_text v r ≡ line_reply w line
line_reply-after line w v r e f = ap₂ reply_text f e ∙ by_reading w (reading line)

-- ---- what is told of a line, and its answer

-- a reply is told where the line has an answer
told-reply : (x : Reply) (a : Option Answer) (kind : Kind) → IsAnswer (Ok (Some x)) a kind → (b : Answer) × (a ≡ Some b) × IsReply x b kind
told-reply x None kind h = absurd h
told-reply x (Some b) kind h = (b, refl, h)

pub told-some : (o : Option Reply) (x : Reply) (a : Option Answer) (kind : Kind) → o ≡ Some x → IsAnswer (Ok o) a kind → (b : Answer) × (a ≡ Some b) × IsReply x b kind
told-some o x a kind is h = told-reply x a kind (subst (λ (o : Option Reply). IsAnswer (Ok o) a kind) is h)

-- ---- a command that is not blank

reply_by-some : (c : Command) (m : Workspace) → (c ≡ command.Blank → ⊥) → reply_by (Some c) m ≡ Some (answer (request_of c) m)
reply_by-some command.Blank m full = absurd (full refl)
reply_by-some (command.Declare side r columns) m full = refl
reply_by-some (command.New e) m full = refl
reply_by-some (command.Put e f) m full = refl
reply_by-some (command.Cut e f) m full = refl
reply_by-some (command.Drop e) m full = refl
reply_by-some command.Undo m full = refl
reply_by-some (command.Take d e) m full = refl
reply_by-some (command.Kind k) m full = refl
reply_by-some (command.Budget n) m full = refl
reply_by-some command.Fit m full = refl
reply_by-some command.Tries m full = refl
reply_by-some command.Reduce m full = refl
reply_by-some (command.Chase e) m full = refl
reply_by-some (command.Cert file) m full = refl
reply_by-some (command.Table r file) m full = refl
reply_by-some command.Exchange m full = refl

-- what is asked by a command that is not blank is answered as the command
module _ (c : Command) (m new : Workspace) (full : c ≡ command.Blank → ⊥) where
  pub told-done : answer (request_of c) m ≡ done → IsAnswer (Ok (Some reply.Done)) (reply_by (Some c) m) (kind_of new)
  told-done e = subst (λ o. IsAnswer (Ok (Some reply.Done)) o (kind_of new)) (sym (reply_by-some c m full)) e

  pub told-refusal : (r : Result (Option Reply) Refusal) (e : Refusal) → r ≡ Err e → IsRefused e (request_of c) m → IsAnswer r (reply_by (Some c) m) (kind_of new)
  told-refusal r e is (inl memory) = subst (λ r. IsAnswer r (reply_by (Some c) m) (kind_of new)) (sym is) (inl memory)
  told-refusal r e is (inr h) = subst (λ r. IsAnswer r (reply_by (Some c) m) (kind_of new)) (sym is) (inr (reply_by-some c m full ∙ ap Some h.0))

  pub left-refusal : (r : Result (Option Reply) Refusal) (e : Refusal) → r ≡ Err e → IsRefused e (request_of c) m → new ≡ m → (r ≡ Err Memory) ⊎ (new ≡ next_by (Some c) m)
  left-refusal r e is (inl memory) same = inl (is ∙ ap Err memory)
  left-refusal r e is (inr h) same = inr (same ∙ sym h.1)

-- a line is answered, and leaves what it leaves, as the command that it is read as
module _ (line : List ℕ) (w m : Workspace) (o : Option Command) (mid : m ≡ with_names (reading line) w) (read : command_read m.names (reading line) ≡ o) where
  pub reply_to-command : reply_to line w ≡ reply_by o m
  reply_to-command = sym (ap (λ (v : Workspace). reply_by (command_read v.names (reading line)) v) mid) ∙ ap (λ o. reply_by o m) read

  pub next-command : next line w ≡ next_by o m
  next-command = sym (ap (λ (v : Workspace). next_by (command_read v.names (reading line)) v) mid) ∙ ap (λ o. next_by o m) read

-- ---- what a line is answered with

abbrev is_fine : {T E : Type 0} → Result T E → Type 0
is_fine (Ok x) = Unit {0}
is_fine (Err e) = ⊥

abbrev error_or : {T E : Type 0} → E → Result T E → E
error_or d (Ok x) = d
error_or d (Err e) = e

-- what holds unless memory was wanting holds of an Ok
pub ok-holds : {T E : Type 0} (P : Type 0) (x : T) (e : E) → (Ok x ≡ Err e) ⊎ P → P
ok-holds P x e (inl h) = absurd (subst is_fine h tt)
ok-holds P x e (inr p) = p

module _ (line : List ℕ) (w v : Workspace) (e : Refusal) (answered : (e ≡ Memory) ⊎ (reply_to line w ≡ Some (refused e))) where
  -- a refusal that is not want of memory is the text of the line's reply
  refused-text : {T : Type 0} (r : Result T Refusal) → r ≡ Err e → (e ≡ Memory → ⊥) → (r ≡ Err Memory) ⊎ (v ≡ next line w) → (refusal_text e ≡ line_reply w line) × (v ≡ next line w)
  refused-text r is apart left = by answered left
    where
      by : (e ≡ Memory) ⊎ (reply_to line w ≡ Some (refused e)) → (r ≡ Err Memory) ⊎ (v ≡ next line w) → (refusal_text e ≡ line_reply w line) × (v ≡ next line w)
      by (inl m) left = absurd (apart m)
      by (inr a) (inl m) = absurd (apart (ap (error_or e) (sym is ∙ m)))
      by (inr a) (inr k) = (line_reply-after line w v (Some (refused e)) (sym a) k, k)

  pub refused-but : {T : Type 0} (r : Result T Refusal) (o n : Option (List ℕ)) (pending p q : List ℕ) → r ≡ Err e → (e ≡ Memory → ⊥) → (r ≡ Err Memory) ⊎ (v ≡ next line w) → q ≡ p → AppendsBut o n pending (q ++ refusal_text e) → AppendsBut o n pending (p ++ line_reply w line)
  refused-but r o n pending p q is apart left same h =
      subst (λ t. AppendsBut o n pending (p ++ t)) (refused-text r is apart left).0 (subst (λ s. AppendsBut o n pending (s ++ refusal_text e)) same h)

  pub refused-left : {T : Type 0} (r : Result T Refusal) → r ≡ Err e → (e ≡ Memory → ⊥) → (r ≡ Err Memory) ⊎ (v ≡ next line w) → v ≡ next line w
  refused-left r is apart left = (refused-text r is apart left).1

  -- and where memory was wanting, a prefix was written
  pub refused-prefix : {T : Type 0} (r : Result T Refusal) (o n : Option (List ℕ)) (p q : List ℕ) → r ≡ Err e → (r ≡ Err Memory) ⊎ (v ≡ next line w) → q ≡ p → AppendsPrefix o n (q ++ refusal_text e) → AppendsPrefix o n (p ++ line_reply w line)
  refused-prefix r o n p q is left same h = by answered left
    where
      wanting : e ≡ Memory → AppendsPrefix o n (p ++ line_reply w line)
      wanting m =
          let k : AppendsPrefix o n (p ++ []) = subst (λ x. AppendsPrefix o n (p ++ refusal_text x)) m (subst (λ s. AppendsPrefix o n (s ++ refusal_text e)) same h) in record {
            front = k.front;
            rest = k.rest ++ line_reply w line;
            grew = k.grew;
            split = sym (append_assoc k.front k.rest (line_reply w line)) ∙ ap (λ s. s ++ line_reply w line) (k.split ∙ append-nil p);
          }

      by : (e ≡ Memory) ⊎ (reply_to line w ≡ Some (refused e)) → (r ≡ Err Memory) ⊎ (v ≡ next line w) → AppendsPrefix o n (p ++ line_reply w line)
      by (inl m) left = wanting m
      by (inr a) (inl m) = wanting (ap (error_or e) (sym is ∙ m))
      by (inr a) (inr k) = subst (λ t. AppendsPrefix o n (p ++ t)) (line_reply-after line w v (Some (refused e)) (sym a) k) (subst (λ s. AppendsPrefix o n (s ++ refusal_text e)) same h)

-- what follows from two facts of an Ok
pub on_both : {T E : Type 0} (P Q R : Type 0) (r : Result T E) → (P → Q → R) → OnOk r P → OnOk r Q → OnOk r R
on_both P Q R (Ok x) f p q = f p q
on_both P Q R (Err e) f p q = p
