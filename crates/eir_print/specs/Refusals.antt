-- The texts of refusals (this project's own).
--   refusal_text r  == the number and the word of a refusal, and what it tells; want of memory has none
use Rattle.std.specs.Prelude.{ℕ, List, [], codes}
use Rattle.eir_print.specs.declared.refusal.Refusal.{Refusal}
use Rattle.eir_print.specs.declared.refusal.Refusal.TheVariants.{Line, Taken, Relation, Arity, Null, Example, There, Missing, Full, Nothing, NoFile, Table, Foreign, Memory}
use Rattle.eir_print.specs.Words.{counted_line, pair_line}

-- the number and the word of a refusal, and what it tells
abbrev pub refusal_text : Refusal → List ℕ
refusal_text Line = codes "refused 1 line\n"
refusal_text Taken = codes "refused 2 taken\n"
refusal_text Relation = codes "refused 3 relation\n"
refusal_text Arity = codes "refused 4 arity\n"
refusal_text Null = codes "refused 5 null\n"
refusal_text Example = codes "refused 6 example\n"
refusal_text There = codes "refused 7 there\n"
refusal_text Missing = codes "refused 8 missing\n"
refusal_text (Full n) = counted_line (codes "refused 9 full") n
refusal_text Nothing = codes "refused 10 nothing\n"
refusal_text NoFile = codes "refused 11 nofile\n"
refusal_text (Table k) = counted_line (codes "refused 12 table") k
refusal_text (Foreign a b) = pair_line (codes "refused 13 foreign ") a b
refusal_text Memory = []
