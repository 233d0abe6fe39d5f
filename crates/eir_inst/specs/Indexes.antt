-- What the index of an instance holds: for each of its parts the word for it (this project's own).
--   IsIndex K x   == x is the index of the facts K
use Rattle.std.specs.Prelude.{◌≡◌, ◌<◌, ◌^◌, List, length, map}
use Rattle.eir_term.specs.declared.fact.Fact.{Fact}
use Rattle.eir_term.specs.Lists.{◌∈◌, places}
use Rattle.eir_term.specs.Instances as instances
use Rattle.eir_term.specs.Profiles.{profile}
use Rattle.eir_inst.specs.declared.index.Index.{Index}
use Rattle.eir_inst.specs.declared.key.Key.{Key}
use Rattle.eir_inst.specs.Keys.{has_key}
use Rattle.eir_inst.specs.Postings.{listed}
use Rattle.eir_inst.specs.Numbers.{numbers_of}

-- x is the index of the facts
pub record IsIndex (K : List Fact) (x : Index) : Type 0 where
  -- the places under each key are those of its facts, in order
  pub postings : (k : Key) → listed x.postings.lists k ≡ places (has_key k) 0 K
  -- the values stand by first occurrence
  pub values : x.numbering.values.keys ≡ instances.values K
  -- each fact has the numbers of its values
  pub rows : x.numbering.rows.items ≡ map (λ f. numbers_of (instances.values K) f.args) K
  -- each value has its profile
  pub profiles : x.numbering.profiles.items ≡ map (profile K) (instances.values K)
  -- no fact has more values than there are columns to list it by
  pub short : (f : Fact) → f ∈ K → length f.args < 2 ^ 32
