-- Columns: the occurrences of values in facts, by the place of the fact and the number of the value (this project's
-- own).
--   IsNextOf cs v i k         == k is the first place from i on of a column with the value v, or the end
--   occurring cs v p          == the number of columns of the fact at p that have the value v
--   is_marked known v         == whether v is marked as known
--   known_columns cs known p  == the number of columns of the fact at p that have a value known
--   columns_of K              == the columns of the facts, fact by fact
use Rattle.std.specs.Prelude.{◌≡◌, ℕ, suc, ◌<◌, ◌≤◌, Bool, false, ◌==◌, ◌&&◌, List, [], ◌∷◌, ◌++◌, map, filter, length}
use Rattle.std.specs.Prelude.{slice_index_or}
use Rattle.eir_term.specs.declared.val.Val.{Val}
use Rattle.eir_term.specs.declared.fact.Fact.{Fact}
use Rattle.eir_term.specs.Lists.{◌∈◌, place_of}
use Rattle.eir_term.specs.Values.{val_eq}
use Rattle.eir_term.specs.Instances.{values}
use Rattle.eir_term.specs.Plans.{is_known}
use Rattle.eir_inst.specs.Numbers.{numbers_of}
use Rattle.eir_hom.specs.declared.occurrences.Column.{Column}

-- what contracts see of occurrences that can be walked: the columns, and the number of values
pub record Occurring : Type 0 where
  pub columns : List Column
  pub values : ℕ

-- the column at a place
abbrev pub column_at : List Column → ℕ → Column
column_at cs k = slice_index_or cs k (record { fact = 0; value = 0 })

-- k is the first place from i on of a column with the value v, or the end where there is none
pub record IsNextOf (cs : List Column) (v i k : ℕ) : Type 0 where
  pub from : i ≤ k
  pub within : k ≤ length cs
  pub here : k < length cs → (column_at cs k).value ≡ v
  pub none : (j : ℕ) → i ≤ j → j < k → (column_at cs j).value ≡ v → ⊥

-- each value is below the number of values
abbrev pub AreNumbered : List Column → ℕ → Type 0
AreNumbered cs n = (k : ℕ) → k < length cs → (column_at cs k).value < n

-- each column can be followed to the next one with its value, from the first one on
pub record AreLinked (cs : List Column) (firsts nexts : List ℕ) : Type 0 where
  pub as_many : length nexts ≡ length cs
  pub first : (v : ℕ) → v < length firsts → IsNextOf cs v 0 (slice_index_or firsts v 0)
  pub next : (k : ℕ) → k < length cs → IsNextOf cs (column_at cs k).value (suc k) (slice_index_or nexts k 0)

-- the same for the columns from i on
pub record AreLinkedFrom (cs : List Column) (i : ℕ) (firsts nexts : List ℕ) : Type 0 where
  pub as_many : length nexts ≡ length cs
  pub first : (v : ℕ) → v < length firsts → IsNextOf cs v i (slice_index_or firsts v 0)
  pub next : (k : ℕ) → i ≤ k → k < length cs → IsNextOf cs (column_at cs k).value (suc k) (slice_index_or nexts k 0)

-- the number of columns of the fact at p that have the value v
abbrev pub occurring : List Column → ℕ → ℕ → ℕ
occurring cs v p = length (filter (λ c. (c.fact == p) && (c.value == v)) cs)

-- whether v is marked as known
abbrev pub is_marked : List Bool → ℕ → Bool
is_marked known v = slice_index_or known v false

-- the number of columns of the fact at p that have a value known
abbrev pub known_columns : List Column → List Bool → ℕ → ℕ
known_columns cs known p = length (filter (λ c. (c.fact == p) && is_marked known c.value) cs)

-- the number of columns of the fact at p
abbrev pub columns_at : List Column → ℕ → ℕ
columns_at cs p = length (filter (λ c. c.fact == p) cs)

-- the columns of a fact at a place, with the numbers of their values
abbrev pub columns_with : ℕ → List ℕ → List Column
columns_with n row = map (λ v. record { fact = n; value = v }) row

-- the columns of the facts, whose places are counted on from n
abbrev pub columns_from : List Val → ℕ → List Fact → List Column
columns_from vs n [] = []
columns_from vs n (f ∷ fs) = columns_with n (numbers_of vs f.args) ++ columns_from vs (suc n) fs

-- the columns of the facts, fact by fact
abbrev pub columns_of : List Fact → List Column
columns_of K = columns_from (values K) 0 K

-- where these facts are listed, a value is marked, by its number, exactly where it is known
pub record AreMarked (vs : List Val) (start : List (Val × Val)) (listed : List Fact) (known : List Bool) : Type 0 where
  pub as_many : length known ≡ length vs
  pub marks : (v : Val) → v ∈ vs → is_marked known (place_of val_eq v vs) ≡ is_known start listed v
