use Rattle.std.proofs.Common.{◌≤◌, List, [], ◌∷◌, length, inl, refl, subst, arith}
use Rattle.eir_term.specs.declared.fact.Fact.{Fact}
use Rattle.eir_term.specs.Lists.{◌∈◌}
use Rattle.eir_term.proofs.CanonicalLaws.{glav-is_dependency}
use Rattle.eir_edit.specs.Pairs.{paired}
use Rattle.eir_canon.proofs.glav.push_glav.Goals as goal

-- a list with an element has a first one
first : (xs : List Fact) → 1 ≤ length xs → (f : Fact) × (f ∈ xs)
first [] l = absurd (omega arith)
first (f ∷ fs) l = (f, inl refl)

pub glav_dependency-requires : goal.glav_dependency-requires
glav_dependency-requires c =
    let f = first c.as_slice.result.now c.in-len1-up.len_at_least in
    glav-is_dependency (paired c.args.source.now.facts c.args.target.now.facts) c.requires.clean c.requires.known f.0
    (subst (λ xs. f.0 ∈ xs) c.as_slice.ensures.facts f.1)
