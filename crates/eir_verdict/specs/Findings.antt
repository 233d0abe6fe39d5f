-- Verdicts, seen as what the definitions speak of.
--   finding_of v  == the finding
use Rattle.eir_term.specs.declared.val.Val.TheVariants.{Const}
use Rattle.eir_term.specs.Verdicts.{Finding, foreign_at, no_fold_at, refuted, fits}
use Rattle.eir_verdict.specs.declared.verdict.Verdict.{Verdict}
use Rattle.eir_verdict.specs.declared.verdict.Verdict.TheVariants.{Domain, Fold, Refuted, Fits}

-- the finding
abbrev pub finding_of : Verdict → Finding
finding_of (Domain i c) = foreign_at i (Const c)
finding_of (Fold i) = no_fold_at i
finding_of (Refuted i j h) = refuted i j h
finding_of (Fits m) = fits m
