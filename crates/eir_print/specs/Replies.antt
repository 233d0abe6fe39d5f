-- The texts of replies (this project's own).
--   spent_text, spent_at_text, cert_text  == those that are numbers and words
--   reduced_text kind schema r      == a reduced mapping, with why each part was taken away
--   exchange_text files             == the tables that were stored
--   reply_text schema names xs r    == a reply, where the examples xs are present
use Rattle.std.specs.Prelude.{ℕ, List, ◌++◌, flat_map, length, codes, decimal}
use Rattle.eir_term.specs.declared.val.Kind.{Kind}
use Rattle.eir_schema.specs.Schemas.{Relation}
use Rattle.eir_edit.specs.Histories.{Example}
use Rattle.eir_verdict.specs.Findings.{finding_of}
use Rattle.eir_print.specs.declared.reply.At.{At as Where}
use Rattle.eir_print.specs.declared.reply.At.TheVariants as at
use Rattle.eir_print.specs.declared.reply.Reply.{Reply}
use Rattle.eir_print.specs.declared.reply.Reply.TheVariants as reply
use Rattle.eir_print.specs.declared.reduced.Reduction.{Reduction}
use Rattle.eir_print.specs.declared.exchange.Stored.{Stored}
use Rattle.eir_print.specs.Words.{kind_text, text_line, counted_line}
use Rattle.eir_print.specs.Facts.{chased_text}
use Rattle.eir_print.specs.Dependencies.{mapping_text}
use Rattle.eir_print.specs.Verdicts.{finding_text}

-- the budget that was used up, and the number of pairs that were decided
abbrev pub spent_text : ℕ → ℕ → List ℕ
spent_text limit pairs = codes "spent " ++ decimal limit ++ codes " after " ++ decimal pairs ++ codes " pairs\n"

-- where a budget was used up
abbrev pub at_text : Where → List ℕ
at_text (at.Part n) = codes "part " ++ decimal n
at_text at.Chase = codes "chase"
at_text at.Exchange = codes "exchange"
at_text at.Cert = codes "cert"

-- the budget that was used up, and where it was
abbrev pub spent_at_text : ℕ → Where → List ℕ
spent_at_text limit place = codes "spent " ++ decimal limit ++ codes " at " ++ at_text place ++ codes "\n"

-- the file of a certificate, and the number of its bytes
abbrev pub cert_text : List ℕ → ℕ → List ℕ
cert_text file bytes = codes "cert " ++ counted_line file bytes

-- two numbers on a line
abbrev pub counts_line : ℕ → ℕ → List ℕ
counts_line n r = counted_line (decimal n) r

-- the kind, the number of dependencies and that of reasons
abbrev pub reduced_head : Kind → ℕ → ℕ → List ℕ
reduced_head kind n r = codes "reduced " ++ kind_text kind ++ codes " " ++ counts_line n r

-- the same, and each of them on a line
abbrev pub reduced_text : Kind → List Relation → Reduction → List ℕ
reduced_text kind schema r = reduced_head kind (length r.mapping) (length r.lines)
    ++ mapping_text schema r.mapping ++ flat_map text_line r.lines

-- the name of a file and the number of its rows, on a line
abbrev pub stored_line : Stored → List ℕ
stored_line s = counted_line s.file s.rows

-- the number of files, and each of them on a line
abbrev pub exchange_text : List Stored → List ℕ
exchange_text files = counted_line (codes "exchange") (length files) ++ flat_map stored_line files

-- a reply
abbrev pub reply_text : List Relation → List (List ℕ) → List Example → Reply → List ℕ
reply_text schema names xs reply.Done = codes "ok\n"
reply_text schema names xs (reply.Verdict kind v) = finding_text kind schema names xs (finding_of v.value)
reply_text schema names xs (reply.Spent limit pairs) = spent_text limit pairs
reply_text schema names xs (reply.SpentAt limit place) = spent_at_text limit place
reply_text schema names xs (reply.Tries n) = counted_line (codes "tries") n
reply_text schema names xs (reply.Reduced kind r) = reduced_text kind schema r.value
reply_text schema names xs (reply.Chased example i) = chased_text schema names example i.value.facts
reply_text schema names xs (reply.Cert file bytes) = cert_text file bytes
reply_text schema names xs (reply.Exchange files) = exchange_text files
