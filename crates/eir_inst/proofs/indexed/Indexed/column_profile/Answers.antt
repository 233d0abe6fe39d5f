use Rattle.std.proofs.Common.{◌∙◌, []}
use Rattle.eir_term.specs.Instances as instances
use Rattle.eir_inst.proofs.IndexLaws.{profile-at, if-ok, unnumbered}
use Rattle.eir_inst.proofs.indexed.Indexed.column_profile.Goals as goal

pub profile_at-requires : goal.profile_at-requires
profile_at-requires c = (profile-at c.args.self.now.facts (instances.values c.args.self.now.facts) c.profiles.result.now c.args.val c.in-Some.number [] c.profiles.ensures ((c.number_of.ensures.there c.in-Some.number).0 c.in-Some.is)).0

pub returns-in-Some : goal.returns-in-Some
returns-in-Some c = if-ok c.profile_at.result _ _ (profile-at c.args.self.now.facts (instances.values c.args.self.now.facts) c.profiles.result.now c.args.val c.in-Some.number [] c.profiles.ensures ((c.number_of.ensures.there c.in-Some.number).0 c.in-Some.is)).1 c.profile_at.ensures

pub returns-in-None : goal.returns-in-None
returns-in-None c = c.new.ensures ∙ unnumbered c.args.self.now.facts c.args.val c.number_of.result c.in-None.is c.number_of.ensures.absent.1
