-- The places of the facts under each key of the index (this project's own).
--   listed lists k            == the places under the key k
--   in_columns p r i vs k     == the place p, if k is a key of the columns from i on with these values
--   in_fact p f k             == the place p, if k is a key of the fact f
use Rattle.std.specs.Prelude.{ℕ, ◌+◌, cond, List, [], ◌∷◌, ◌++◌, unwrap_or}
use Rattle.indexmap.specs.IndexMap.{IndexMap, get}
use Rattle.eir_term.specs.declared.val.Val.{Val}
use Rattle.eir_term.specs.declared.fact.Fact.{Fact}
use Rattle.eir_inst.specs.declared.key.Key.{Key}
use Rattle.eir_inst.specs.declared.key.Key.TheVariants.{Relation, Column}
use Rattle.eir_inst.specs.Keys.{key_eq}

-- the places under the key
abbrev pub listed : {S : Type 0} → IndexMap Key (List ℕ) S → Key → List ℕ
listed lists k = unwrap_or (get key_eq lists k) []

-- the place, if k is a key of the columns from i on with these values
abbrev pub in_columns : ℕ → ℕ → ℕ → List Val → Key → List ℕ
in_columns p r i [] k = []
in_columns p r i (v ∷ vs) k = cond (key_eq k (Column r i v)) (p ∷ []) [] ++ in_columns p r (i + 1) vs k

-- the place, if k is a key of the fact
abbrev pub in_fact : ℕ → Fact → Key → List ℕ
in_fact p f k = cond (key_eq k (Relation f.rel)) (p ∷ []) [] ++ in_columns p f.rel 0 f.args k
