use Rattle.std.proofs.Common.{◌≡◌, Err, OnOk, refl, sym}
use Rattle.eir_script.specs.Lines.{trimmed}
use Rattle.eir_print.specs.declared.refusal.Refusal.TheVariants.{Memory}
use Rattle.eirene.specs.Workspaces.{kind_of}
use Rattle.eirene.specs.Replies.{reply_to}
use Rattle.eirene.proofs.KnownLaws.{on_ok, on_err, if_ok}
use Rattle.eirene.proofs.ReplyLaws.{line_reply-after, told-some, ok-holds, on_both, refused-but, refused-left, refused-prefix}
use Rattle.eirene.proofs.script.Script.answer.Goals as goal

pub returns-in-Ok-Some-clause-ok : goal.returns-in-Ok-Some-clause-ok
returns-in-Ok-Some-clause-ok g c line held =
    let (a, e, told) = told-some c.in-Ok-Some.field-0 c.in-Ok-Some.reply (reply_to (trimmed line) c.args.self.now.workspace) (kind_of c.reply-reply.new.self.workspace) c.in-Ok-Some.field-0-is (c.in-Ok-Some.ensures.answer line held) in
    let h = c.add_reply.ensures.ok a told in
    rw (c.in-Ok-Some.ensures.pending, line_reply-after (trimmed line) c.args.self.now.workspace _ _ (sym e) (ok-holds _ _ _ (c.in-Ok-Some.ensures.next line held))) at h

pub returns-in-Ok-Some-clause-err : goal.returns-in-Ok-Some-clause-err
returns-in-Ok-Some-clause-err g c line held =
    let (a, e, told) = told-some c.in-Ok-Some.field-0 c.in-Ok-Some.reply (reply_to (trimmed line) c.args.self.now.workspace) (kind_of c.reply-reply.new.self.workspace) c.in-Ok-Some.field-0-is (c.in-Ok-Some.ensures.answer line held) in
    let h = c.add_reply.ensures.err a told in
    rw (c.in-Ok-Some.ensures.pending, line_reply-after (trimmed line) c.args.self.now.workspace _ _ (sym e) (ok-holds _ _ _ (c.in-Ok-Some.ensures.next line held))) at h

pub returns-in-Err : goal.returns-in-Err
returns-in-Err g c = record {
  ok = λ line held. on_both _ _ _ c.add_refusal.result
      (λ apart h. refused-but (trimmed line) c.args.self.now.workspace c.reply-reply.new.self.workspace c.in-Err.refusal (c.in-Err.ensures.answer line held) (Err c.in-Err.refusal) _ _ _ _ _ refl apart (c.in-Err.ensures.next line held) c.in-Err.ensures.pending h)
      c.add_refusal.ensures.told c.add_refusal.ensures.ok;
  next = λ line held. on_ok _ _ c.add_refusal.result
      (λ apart. refused-left (trimmed line) c.args.self.now.workspace c.reply-reply.new.self.workspace c.in-Err.refusal (c.in-Err.ensures.answer line held) (Err c.in-Err.refusal) refl apart (c.in-Err.ensures.next line held))
      c.add_refusal.ensures.told;
  begun = if_ok _ c.add_refusal.result c.next-2.ensures;
  err = λ line held. on_err _ _ c.add_refusal.result
      (λ h. refused-prefix (trimmed line) c.args.self.now.workspace c.reply-reply.new.self.workspace c.in-Err.refusal (c.in-Err.ensures.answer line held) (Err c.in-Err.refusal) _ _ _ _ refl (c.in-Err.ensures.next line held) c.in-Err.ensures.pending h)
      c.add_refusal.ensures.err;
  cause = c.add_refusal.ensures.cause;
}
