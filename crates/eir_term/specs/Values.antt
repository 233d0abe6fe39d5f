-- Values: constants, fixed constants and labelled nulls (Fagin, Kolaitis, Miller, Popa 2005; fixed constants are
-- this project's own).
--   val_eq v w    == whether the two values are the same
--   is_const v    == whether v is a constant; a fixed constant is none
--   is_fixed v    == whether v is a fixed constant
--   is_null v     == whether v is a labelled null
--   val_writes v  == what v feeds to a hasher
use Rattle.std.specs.Prelude.{◌≡◌, Bool, true, false, ◌==◌, ◌++◌, Decides}
use Rattle.std.proofs.Common.{ap}
use Rattle.std.proofs.lemmas.Bool.{false≢true}
use Rattle.std.proofs.lemmas.Bool.Decides.{Decides-eqb}
use Rattle.std.specs.Hash as fed
use Rattle.std.specs.Hash.{HashWrites}
use Rattle.eir_term.specs.declared.val.Val.{Val}
use Rattle.eir_term.specs.declared.val.Val.TheVariants.{Const, Fixed, Null}

-- whether the two values are the same
abbrev pub val_eq : Val → Val → Bool
val_eq (Const a) (Const b) = a == b
val_eq (Const a) (Fixed b) = false
val_eq (Const a) (Null b) = false
val_eq (Fixed a) (Const b) = false
val_eq (Fixed a) (Fixed b) = a == b
val_eq (Fixed a) (Null b) = false
val_eq (Null a) (Const b) = false
val_eq (Null a) (Fixed b) = false
val_eq (Null a) (Null b) = a == b

-- whether the value is a constant; a fixed constant is none
abbrev pub is_const : Val → Bool
is_const (Const c) = true
is_const (Fixed c) = false
is_const (Null n) = false

-- whether the value is a fixed constant
abbrev pub is_fixed : Val → Bool
is_fixed (Const c) = false
is_fixed (Fixed c) = true
is_fixed (Null n) = false

-- whether the value is a labelled null
abbrev pub is_null : Val → Bool
is_null (Const c) = false
is_null (Fixed c) = false
is_null (Null n) = true

-- what a value feeds to a hasher
abbrev pub val_writes : Val → HashWrites
val_writes (Const a) = fed.u8 0 ++ fed.u64 a
val_writes (Fixed a) = fed.u8 1 ++ fed.u64 a
val_writes (Null a) = fed.u8 2 ++ fed.u64 a

-- the test says yes exactly where the values are equal
pub val_eq-decides : (v w : Val) → Decides (val_eq v w) (v ≡ w)
val_eq-decides (Const a) (Const b) = (λ t. ap Const ((Decides-eqb a b).0 t), λ e. (Decides-eqb a b).1 cc)
val_eq-decides (Const a) (Fixed b) = (λ t. absurd (false≢true t), λ e. cc)
val_eq-decides (Const a) (Null b) = (λ t. absurd (false≢true t), λ e. cc)
val_eq-decides (Fixed a) (Const b) = (λ t. absurd (false≢true t), λ e. cc)
val_eq-decides (Fixed a) (Fixed b) = (λ t. ap Fixed ((Decides-eqb a b).0 t), λ e. (Decides-eqb a b).1 cc)
val_eq-decides (Fixed a) (Null b) = (λ t. absurd (false≢true t), λ e. cc)
val_eq-decides (Null a) (Const b) = (λ t. absurd (false≢true t), λ e. cc)
val_eq-decides (Null a) (Fixed b) = (λ t. absurd (false≢true t), λ e. cc)
val_eq-decides (Null a) (Null b) = (λ t. ap Null ((Decides-eqb a b).0 t), λ e. (Decides-eqb a b).1 cc)
