-- Maps: finite lists of pairs of values with distinct first members (textbook). A value that a map does not name
-- stays, so a map that names no fixed constant fixes them all.
--   domain_of h          == the first members, in order
--   get h v              == what v is paired with
--   image h v            == the image of v
--   with_image h v w     == h with w as the image of v
--   image_at h n         == the second member at place n
--   with_image_at h n w  == h with w as the second member at place n
--   fact_image g f       == the fact with each value replaced
--   graph g vs           == these values with their images
use Rattle.std.specs.Prelude.{ℕ, zero, suc, cond, List, [], ◌∷◌, map, Option, Some, None, option_map, unwrap_or, slice_get}
use Rattle.eir_term.specs.declared.val.Val.{Val}
use Rattle.eir_term.specs.declared.fact.Fact.{Fact}
use Rattle.eir_term.specs.Values.{val_eq}

-- the first members, in order
abbrev pub domain_of : List (Val × Val) → List Val
domain_of h = map (λ p. p.0) h

-- what v is paired with
abbrev pub get : List (Val × Val) → Val → Option Val
get [] v = None
get (p ∷ h) v = cond (val_eq p.0 v) (Some p.1) (get h v)

-- the image of v; a value that h does not name stays
abbrev pub image : List (Val × Val) → Val → Val
image h v = unwrap_or (get h v) v

-- h with w as the image of v, which h names
abbrev pub with_image : List (Val × Val) → Val → Val → List (Val × Val)
with_image h v w = map (λ p. cond (val_eq p.0 v) (p.0, w) p) h

-- the second member at place n, from 0
abbrev pub image_at : List (Val × Val) → ℕ → Option Val
image_at h n = option_map (λ p. p.1) (slice_get h n)

-- h with w as the second member at place n, from 0
abbrev pub with_image_at : List (Val × Val) → ℕ → Val → List (Val × Val)
with_image_at [] n w = []
with_image_at (p ∷ h) zero w = (p.0, w) ∷ h
with_image_at (p ∷ h) (suc n) w = p ∷ with_image_at h n w

-- the fact with each value replaced
abbrev pub fact_image : (Val → Val) → Fact → Fact
fact_image g f = record { rel = f.rel; args = map g f.args }

-- the pairs of these values with their images
abbrev pub graph : (Val → Val) → List Val → List (Val × Val)
graph g vs = map (λ v. (v, g v)) vs
