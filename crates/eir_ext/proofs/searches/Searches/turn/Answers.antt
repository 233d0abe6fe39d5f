use Rattle.std.proofs.Common.{refl, ◌∙◌, subst, arith}
use Rattle.eir_ext.specs.Searching.{EndsAs, trial_of}
use Rattle.eir_ext.proofs.TurnLaws.{GoOn-none, GoOn-more, EndsAs-more}
use Rattle.eir_ext.proofs.searches.Searches.turn.Goals as goal

pub searches-init : goal.searches-init
searches-init g c = record {
  searches = c.requires;
  go_on = GoOn-none (trial_of c.args.self.now) c.args.fuel.now;
  left = refl;
  used = omega arith;
  limit = refl;
  steps = refl;
}

pub searches-preserved : goal.searches-preserved
searches-preserved g c = record {
  searches = c.step.ensures.searches;
  go_on = GoOn-more (trial_of c.args.self.now) (trial_of c.searches.self) (trial_of c.step.new.self) c.args.fuel.now c.searches.fuel c.step.new.fuel c.searches.invariant.used c.step.ensures.used
      c.searches.invariant.go_on c.step.ensures.go_on;
  left = omega arith;
  used = omega arith;
  limit = c.step.ensures.limit ∙ c.searches.invariant.limit;
  steps = omega arith;
}

pub returns-in-Some : goal.returns-in-Some
returns-in-Some g c = record {
  searches = c.step.ensures.searches;
  ends = EndsAs-more c.in-Some.turn (trial_of c.args.self.now) (trial_of c.searches.self) (trial_of c.step.new.self) c.args.at_most c.searches.left c.args.fuel.now c.searches.fuel c.step.new.fuel
      c.searches.invariant.go_on c.searches.invariant.left
      (subst (λ o. EndsAs o (trial_of c.searches.self) (trial_of c.step.new.self) c.searches.left c.searches.fuel c.step.new.fuel) c.in-Some.is c.step.ensures.ends);
  go_on = GoOn-more (trial_of c.args.self.now) (trial_of c.searches.self) (trial_of c.step.new.self) c.args.fuel.now c.searches.fuel c.step.new.fuel c.searches.invariant.used c.step.ensures.used
      c.searches.invariant.go_on c.step.ensures.go_on;
  at_most = omega arith;
  used = omega arith;
  limit = c.step.ensures.limit ∙ c.searches.invariant.limit;
  steps = omega arith;
}
