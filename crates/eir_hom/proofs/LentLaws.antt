-- The slots that are bound are there, so what is lent of them are their numbers. The point is `numbers-lent`.
use Rattle.std.proofs.Common.{◌≡◌, ℕ, suc, zero, ◌<◌, Bool, true, List, [], ◌∷◌, length, take, get_or, Some, is_some, sym, ap, ◌∙◌, subst, arith}
use Rattle.std.proofs.lemmas.Option.{same_Some}
use Rattle.eir_hom.specs.declared.columns.Column.{Column}
use Rattle.eir_hom.specs.declared.tables.Range.{Range}
use Rattle.eir_hom.specs.declared.matching.CompiledLevel.{CompiledLevel}
use Rattle.eir_hom.specs.Tables.{TablesView}
use Rattle.eir_hom.specs.Matching.{Bindings, bound_to, matched}
use Rattle.eir_hom.specs.Columns.{is_among, seen_after, slots_of, AreBelow, Binds}
use Rattle.eir_hom.specs.MatcherParts.{columns_at, level_in, levels_in, start_in, AreCompiled, IsMatcher}
use Rattle.eir_hom.proofs.BuildLaws.{among-below}
use Rattle.eir_hom.proofs.MatchedLaws.{first-of, row-binds}
use Rattle.eir_hom.proofs.MatcherLaws.{binds-start}

below-cons : (s : ℕ) (seen : List ℕ) (n : ℕ) → s < n → AreBelow seen n → AreBelow (s ∷ seen) n
below-cons s seen n l a = at
  where
    at : (k : ℕ) → k < length (s ∷ seen) → get_or (s ∷ seen) k 0 < n
    at zero b = l
    at (suc k) b = a k (omega arith)

below-after : (seen ss : List ℕ) (n : ℕ) → AreBelow seen n → AreBelow ss n → AreBelow (seen_after seen ss) n
below-after seen [] n a b = a
below-after seen (s ∷ ss) n a b =
    let head : s < n = b 0 (omega arith) in
    below-after (s ∷ seen) ss n (below-cons s seen n head a) (λ k l. b (suc k) (omega arith))

-- what is matched binds slots that there are
matched-below : (ts : TablesView) (cs : List Column) (slots : ℕ) (seen : List ℕ) (ls : List CompiledLevel)
    (start : Bindings) (choices : List ℕ) (m : Bindings) → AreCompiled ts cs slots seen ls → Binds start seen →
    AreBelow seen slots → matched (levels_in ts cs ls) start choices ≡ Some m →
    (s w : ℕ) → bound_to m s ≡ Some w → s < slots
matched-below ts cs slots seen [] start [] m a b l h s w e =
    let same : start ≡ m = cc in
    let among : is_among s seen ≡ true = sym (b.slots_are s) ∙ ap is_some (ap (λ (x : Bindings). bound_to x s) same ∙ e) in
    among-below s slots seen among l
matched-below ts cs slots seen [] start (c ∷ choices) m a b l h s w e = absurd (cc)
matched-below ts cs slots seen (k ∷ ls) start [] m a b l h s w e =
    let same : start ≡ m = cc in
    let among : is_among s seen ≡ true = sym (b.slots_are s) ∙ ap is_some (ap (λ (x : Bindings). bound_to x s) same ∙ e) in
    among-below s slots seen among l
matched-below ts cs slots seen (k ∷ ls) start (c ∷ choices) m a b l h s w e =
    let f = first-of (level_in ts cs k) (levels_in ts cs ls) start c choices m h in
    matched-below ts cs slots (seen_after seen (slots_of (columns_at cs k))) ls f.next choices m a.1
    (row-binds start f.next _ f.row seen f.next_is b)
    (below-after seen (slots_of (columns_at cs k)) slots l a.0.slots_below) f.rest s w e

-- what a matcher keeps for the slots that are bound
pub numbers-lent : (ts : TablesView) (cs : List Column) (ls : List CompiledLevel) (given images : List ℕ)
    (flags : List Bool) (ranges : List Range) (placed : List ℕ) (depth : ℕ) →
    IsMatcher ts cs ls given images flags ranges placed depth → (m : Bindings) →
    matched (levels_in ts cs ls) (start_in given images) (take depth placed) ≡ Some m →
    (s w : ℕ) → bound_to m s ≡ Some w → (s < length images) × (get_or images s 0 ≡ w)
numbers-lent ts cs ls given images flags ranges placed depth p m h s w e =
    let same : p.stands.reached ≡ m = same_Some p.stands.reached m (sym p.stands.matches ∙ h) in (
      matched-below ts cs (length images) given ls (start_in given images) (take depth placed) m p.compiled (binds-start given images) p.given_below h s w e,
      p.stands.holds.images_are s w (subst (λ r. bound_to r s ≡ Some w) (sym same) e),
    )
