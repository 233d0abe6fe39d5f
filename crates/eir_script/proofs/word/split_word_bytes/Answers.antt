use Rattle.std.proofs.Common.{sym, ◌∙◌}
use Rattle.std.specs.Prelude.{IsTrue}
use Rattle.eir_script.specs.Grammar.{is_word_byte}
use Rattle.eir_script.proofs.ScanLaws.{all_more, StartsApart-drop}
use Rattle.eir_script.proofs.word.split_word_bytes.Goals as goal

pub bytes-preserved : goal.bytes-preserved
bytes-preserved c = all_more (λ b. IsTrue (is_word_byte b)) c.args.bytes.now c.bytes.place c.bytes-test.true c.bytes.invariant (sym c.is_word_byte.ensures ∙ c.if-not-is_word_byte.false)

pub returns-then-not-is_word_byte-clause-apart : goal.returns-then-not-is_word_byte-clause-apart
returns-then-not-is_word_byte-clause-apart c = StartsApart-drop c.args.bytes.now c.bytes.place c.bytes-test.true (sym c.is_word_byte.ensures ∙ c.if-not-is_word_byte.true)
