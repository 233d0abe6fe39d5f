use Rattle.std.proofs.Common.{[]}
use Rattle.eir_dep.specs.declared.dep.DepRefused.TheVariants.{BadExists, Unbound}
use Rattle.eir_dep.specs.Refusals.{dependency}
use Rattle.eir_dep.proofs.FirstLaws.{err-accepted, err-refused, ok-refused, Unbound-refused, IsDependency-bound, none-from, ok-accepted}
use Rattle.eir_dep.proofs.check.check_marked.Goals as goal

pub first_bad-requires-clause-bound : goal.first_bad-requires-clause-bound
first_bad-requires-clause-bound c = c.mark_atoms.ensures [] c.requires.none_bound

pub first_bad-requires-clause-concluded : goal.first_bad-requires-clause-concluded
first_bad-requires-clause-concluded c = c.mark_atoms-2.ensures [] c.requires.none_concluded

pub returns-in-Some-clause-accepted : goal.returns-in-Some-clause-accepted
returns-in-Some-clause-accepted c =
    err-accepted (dependency c.args.premise.now c.args.exists.now c.args.conclusion.now) (BadExists c.in-Some.v) (c.requires.some_atom, c.in-Some.ensures.bad)

pub returns-in-Some-clause-refused : goal.returns-in-Some-clause-refused
returns-in-Some-clause-refused c cause =
    err-refused _ (dependency c.args.premise.now c.args.exists.now c.args.conclusion.now) (BadExists c.in-Some.v) cause (c.requires.some_atom, c.in-Some.ensures.bad)

pub returns-in-Some-first_unbound-clause-accepted :
    goal.returns-in-Some-first_unbound-clause-accepted
returns-in-Some-first_unbound-clause-accepted c =
    let d = dependency c.args.premise.now c.args.exists.now c.args.conclusion.now in
    let listable = c.first_bad.ensures.listable (none-from c.first_bad.result c.in_default.not-Some) in
    err-accepted d (Unbound c.in-Some-first_unbound.v) (Unbound-refused d c.in-Some-first_unbound.v c.requires.some_atom listable c.in-Some-first_unbound.ensures.unbound)

pub returns-in-Some-first_unbound-clause-refused :
    goal.returns-in-Some-first_unbound-clause-refused
returns-in-Some-first_unbound-clause-refused c cause =
    let d = dependency c.args.premise.now c.args.exists.now c.args.conclusion.now in
    let listable = c.first_bad.ensures.listable (none-from c.first_bad.result c.in_default.not-Some) in
    err-refused _ d (Unbound c.in-Some-first_unbound.v) cause (Unbound-refused d c.in-Some-first_unbound.v c.requires.some_atom listable c.in-Some-first_unbound.ensures.unbound)

pub returns-in-None-clause-accepted : goal.returns-in-None-clause-accepted
returns-in-None-clause-accepted c =
    let d = dependency c.args.premise.now c.args.exists.now c.args.conclusion.now in
    let listable = c.first_bad.ensures.listable (none-from c.first_bad.result c.in_default.not-Some) in
    ok-accepted d (IsDependency-bound d c.requires.some_atom listable (c.first_unbound.ensures.bound c.in-None.is))

pub returns-in-None-clause-refused : goal.returns-in-None-clause-refused
returns-in-None-clause-refused c cause =
    let d = dependency c.args.premise.now c.args.exists.now c.args.conclusion.now in
    let listable = c.first_bad.ensures.listable (none-from c.first_bad.result c.in_default.not-Some) in
    ok-refused _ _ d cause (IsDependency-bound d c.requires.some_atom listable (c.first_unbound.ensures.bound c.in-None.is))
