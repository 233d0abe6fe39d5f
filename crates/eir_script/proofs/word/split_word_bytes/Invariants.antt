use Rattle.std.proofs.Common.{take}
use Rattle.eir_script.specs.Grammar.{AreWordBytes}
use Rattle.eir_script.proofs.word.split_word_bytes.Given as goal

abbrev pub invariant-bytes : goal.invariant-bytes
invariant-bytes l = AreWordBytes (take l.place l.bytes)
