-- The texts of verdicts (this project's own).
--   moves_text names h I                   == where a map sends the constants of an instance
--   domain_text, fold_text, refuted_text, fits_text  == those of the four verdicts
--   finding_text kind schema names xs f    == what a fit for the kind found
use Rattle.std.specs.Prelude.{ℕ, List, [], ◌++◌, flat_map, length, slice_get, option_map, unwrap_or, codes}
use Rattle.eir_term.specs.declared.val.Val.{Val}
use Rattle.eir_term.specs.declared.val.Kind.{Kind}
use Rattle.eir_term.specs.declared.fact.Fact.{Fact}
use Rattle.eir_term.specs.Instances.{consts}
use Rattle.eir_term.specs.Maps.{image}
use Rattle.eir_term.specs.Dependencies.{Dependency}
use Rattle.eir_term.specs.Verdicts.{Finding, foreign_at, no_fold_at, refuted, fits}
use Rattle.eir_schema.specs.Schemas.{Relation}
use Rattle.eir_edit.specs.Histories.{Example}
use Rattle.eir_print.specs.declared.fact.Nulls.TheVariants.{Named}
use Rattle.eir_print.specs.Words.{kind_text, counted_line}
use Rattle.eir_print.specs.Facts.{value_text}
use Rattle.eir_print.specs.Dependencies.{mapping_text}

-- the name of the example at a place, or nothing
abbrev pub example_text : List Example → ℕ → List ℕ
example_text xs i = unwrap_or (option_map (λ x. x.name) (slice_get xs i)) []

-- the source facts of the example at a place
abbrev pub source_at : List Example → ℕ → List Fact
source_at xs i = unwrap_or (option_map (λ x. x.source) (slice_get xs i)) []

-- a constant by its name
abbrev pub constant_text : List (List ℕ) → Val → List ℕ
constant_text names v = value_text Named names v

-- a space, the constant, an arrow, and its image
abbrev pub moved_text : List (List ℕ) → List (Val × Val) → Val → List ℕ
moved_text names h v = codes " " ++ constant_text names v ++ codes "->" ++ constant_text names (image h v)

-- the same of each constant of an instance, by first occurrence
abbrev pub moves_text : List (List ℕ) → List (Val × Val) → List Fact → List ℕ
moves_text names h I = flat_map (moved_text names h) (consts I)

-- the example and its foreign constant
abbrev pub domain_text : List (List ℕ) → List Example → ℕ → Val → List ℕ
domain_text names xs i v = codes "domain " ++ example_text xs i ++ codes " " ++ constant_text names v ++ codes "\n"

-- the example whose target does not fold
abbrev pub fold_text : List Example → ℕ → List ℕ
fold_text xs i = codes "fold " ++ example_text xs i ++ codes "\n"

-- the two examples, and where the map sends the constants of the first one's source
abbrev pub refuted_text : List (List ℕ) → List Example → ℕ → ℕ → List (Val × Val) → List ℕ
refuted_text names xs i j h =
    codes "refuted " ++ example_text xs i ++ codes " " ++ example_text xs j
    ++ moves_text names h (source_at xs i) ++ codes "\n"

-- the kind, the number of dependencies, and each of them on a line
abbrev pub fits_text : Kind → List Relation → List Dependency → List ℕ
fits_text kind schema M = codes "fits " ++ counted_line (kind_text kind) (length M) ++ mapping_text schema M

-- what a fit for the kind found
abbrev pub finding_text : Kind → List Relation → List (List ℕ) → List Example → Finding → List ℕ
finding_text kind schema names xs (foreign_at i v) = domain_text names xs i v
finding_text kind schema names xs (no_fold_at i) = fold_text xs i
finding_text kind schema names xs (refuted i j h) = refuted_text names xs i j h
finding_text kind schema names xs (fits M) = fits_text kind schema M
