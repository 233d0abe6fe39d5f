-- The keys of the index: what the facts of an instance are listed by (this project's own).
--   key_eq a b     == whether the two keys are the same
--   has_key k f    == whether the fact f is listed under the key k
--   key_writes k   == what k feeds to a hasher
use Rattle.std.specs.Prelude.{◌≡◌, Bool, false, ◌==◌, ◌&&◌, ◌++◌, Decides}
use Rattle.std.proofs.Common.{ap}
use Rattle.std.proofs.lemmas.Bool.{false≢true, and_parts, and_from}
use Rattle.std.proofs.lemmas.Bool.Decides.{Decides-eqb}
use Rattle.std.specs.Hash as fed
use Rattle.std.specs.Hash.{HashWrites}
use Rattle.eir_term.specs.declared.fact.Fact.{Fact}
use Rattle.eir_term.specs.Values.{val_eq, val_eq-decides, val_writes}
use Rattle.eir_term.specs.Profiles.{has_at}
use Rattle.eir_inst.specs.declared.key.Key.{Key}
use Rattle.eir_inst.specs.declared.key.Key.TheVariants.{Relation, Column}

-- whether the two keys are the same
abbrev pub key_eq : Key → Key → Bool
key_eq (Relation r) (Relation s) = r == s
key_eq (Relation r) (Column s j w) = false
key_eq (Column r i v) (Relation s) = false
key_eq (Column r i v) (Column s j w) = (r == s) && ((i == j) && val_eq v w)

-- whether the fact is listed under the key: it has the relation, and the value at the column
abbrev pub has_key : Key → Fact → Bool
has_key (Relation r) f = f.rel == r
has_key (Column r i v) f = has_at r i v f

-- what a key feeds to a hasher
abbrev pub key_writes : Key → HashWrites
key_writes (Relation r) = fed.u8 0 ++ fed.u32 r
key_writes (Column r i v) = fed.u8 1 ++ fed.u32 r ++ fed.u32 i ++ val_writes v

-- the test says yes exactly where the keys are equal
pub key_eq-decides : (a b : Key) → Decides (key_eq a b) (a ≡ b)
key_eq-decides (Relation r) (Relation s) = (λ t. ap Relation ((Decides-eqb r s).0 t), λ e. (Decides-eqb r s).1 cc)
key_eq-decides (Relation r) (Column s j w) = (λ t. absurd (false≢true t), λ e. cc)
key_eq-decides (Column r i v) (Relation s) = (λ t. absurd (false≢true t), λ e. cc)
key_eq-decides (Column r i v) (Column s j w) = (
  λ t. let p = and_parts (r == s) ((i == j) && val_eq v w) t in
      let q = and_parts (i == j) (val_eq v w) p.1 in
      let a : r ≡ s = (Decides-eqb r s).0 p.0 in
      let b : i ≡ j = (Decides-eqb i j).0 q.0 in
      let d : v ≡ w = (val_eq-decides v w).0 q.1 in
      cc,
  λ e. let a : r ≡ s = cc in
      let b : i ≡ j = cc in
      let d : v ≡ w = cc in
      and_from (r == s) ((i == j) && val_eq v w) ((Decides-eqb r s).1 a)
      (and_from (i == j) (val_eq v w) ((Decides-eqb i j).1 b) ((val_eq-decides v w).1 d)),
)
