use Rattle.std.proofs.Common.{refl, sym, ap, ◌∙◌, subst}
use Rattle.eir_term.specs.Lists.{◌∈◌}
use Rattle.eir_term.specs.Maps.{domain_of}
use Rattle.eir_ext.proofs.StartLaws.{named-distinct}
use Rattle.eir_ext.proofs.StageLaws.{found-named, start-fixed, start-names, AreSearches-found}
use Rattle.eir_ext.proofs.searches.Searches.seek.Goals as goal

pub follow-requires-clause-distinct : goal.follow-requires-clause-distinct
follow-requires-clause-distinct g c =
    named-distinct c.map.result.now c.args.self.now.sources.source (found-named c.args.self.now c.turn.new.self c.map.result.now c.requires.searches (c.in-Found.ensures.found refl) c.map.ensures)

pub follow-requires-clause-numbers : goal.follow-requires-clause-numbers
follow-requires-clause-numbers g c =
    let named = found-named c.args.self.now c.turn.new.self c.map.result.now c.requires.searches (c.in-Found.ensures.found refl) c.map.ensures in
    rw (named, c.requires.searches.names, c.deref.ensures.value) c.requires.searches.numbers

pub restart-requires-clause-fixed : goal.restart-requires-clause-fixed
restart-requires-clause-fixed g c =
    start-fixed c.args.self.now c.turn.new.self c.map.result.now c.requires.searches (c.in-Found.ensures.found refl) c.map.ensures c.follow.new.start c.follow.ensures

pub restart-requires-clause-same : goal.restart-requires-clause-same
restart-requires-clause-same g c v i =
    let names = start-names c.args.self.now c.turn.new.self c.map.result.now c.requires.searches (c.in-Found.ensures.found refl) c.map.ensures c.follow.new.start c.follow.ensures in
    let same = names ∙ sym (ap domain_of c.requires.searches.begun) in
    (subst (λ vs. v ∈ vs) same, subst (λ vs. v ∈ vs) (sym same))

pub returns-in-Found-clause-searches : goal.returns-in-Found-clause-searches
returns-in-Found-clause-searches g c =
    AreSearches-found c.args.self.now c.turn.new.self c.map.result.now c.requires.searches (c.in-Found.ensures.found refl) c.map.ensures c.follow.new.start c.follow.ensures c.restart.new.self c.requires.stage
    c.in-Found.ensures.source c.in-Found.ensures.target (ap (λ p. p.source) c.restart.ensures) (ap (λ p. p.target) c.restart.ensures) (ap (λ p. p.start) c.restart.ensures) (ap (λ p. p.to_come) c.restart.ensures)
