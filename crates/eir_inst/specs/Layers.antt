-- An instance as a base of facts, of which some are gone, with facts that were added (this project's own).
--   stays gone p         == whether the fact of the base at the place p is not marked as gone
--   staying fs gone      == those of the facts that are not marked as gone
--   base_facts base      == the facts of a base
--   layered b gone fs    == the facts of the base that stay, and behind them the added ones
--   IsLayered ..         == what is true of such an instance in memory
use Rattle.std.specs.Prelude.{◌≡◌, ◌≤◌, ℕ, Bool, false, not, cond, List, [], ◌∷◌, ◌++◌, length, slice_index_or}
use Rattle.eir_term.specs.declared.fact.Fact.{Fact}
use Rattle.eir_term.specs.Lists.{IsDistinct}
use Rattle.eir_inst.specs.declared.instance.Base.{Base}
use Rattle.eir_inst.specs.declared.instance.Base.TheVariants.{Own, Shared}

-- whether the fact at the place is not marked as gone
abbrev pub stays : List Bool → ℕ → Bool
stays gone p = not (slice_index_or gone p false)

-- those of the facts that are not marked as gone
abbrev pub staying : List Fact → List Bool → List Fact
staying [] gone = []
staying (f ∷ fs) [] = f ∷ fs
staying (f ∷ fs) (g ∷ gone) = cond g (staying fs gone) (f ∷ staying fs gone)

-- the facts of a base
abbrev pub base_facts : Base → List Fact
base_facts (Own x) = x.facts
base_facts (Shared x) = x.value.facts

-- the facts of the base that stay, and behind them the added ones
abbrev pub layered : Base → List Bool → List Fact → List Fact
layered base gone added = staying (base_facts base) gone ++ added

-- each fact of the base has a mark; the facts are distinct, counted, and within the limit
pub record IsLayered (base : Base) (gone : List Bool) (added : List Fact) (count limit : ℕ) : Type 0 where
  pub marked : length gone ≡ length (base_facts base)
  pub distinct : IsDistinct (layered base gone added)
  pub counted : count ≡ length (layered base gone added)
  pub within : count ≤ limit
