-- The entries of a start's pairs.
use Rattle.std.proofs.Common.{◌≡◌, ℕ, zero, suc, ◌<◌, ◌≤◌, List, [], ◌∷◌, ◌++◌, Some, length, take, drop, set, slice_get, arith, refl, sym, ap, subst, ◌∙◌}
use Rattle.std.proofs.lemmas.Option.{none-some, same_Some}
use Rattle.eir_term.specs.declared.val.Val.{Val}
use Rattle.eir_term.specs.declared.fact.Fact.{Fact}
use Rattle.eir_hom.specs.declared.given.Given.{Given}
use Rattle.eir_hom.specs.Listings.{IsEntry, AreEntries}

-- the entry of the next pair is appended
pub entries-push : (A : List Fact) (ps : List (Val × Val)) (gs : List Given) (p : Val × Val) (g : Given) → AreEntries A ps gs → slice_get ps (length gs) ≡ Some p → IsEntry A p g → AreEntries A ps (gs ++ g ∷ [])
entries-push A [] [] p g es at e = absurd (none-some p at)
entries-push A (q ∷ ps) [] p g es at e = (subst (λ x. IsEntry A x g) (sym (same_Some q p at)) e, tt)
entries-push A [] (h ∷ gs) p g es at e = es
entries-push A (q ∷ ps) (h ∷ gs) p g es at e = (es.0, entries-push A ps gs p g es.1 at e)

-- the entry at a place is that of the pair there
pub entries-at : (A : List Fact) (ps : List (Val × Val)) (gs : List Given) (k : ℕ) (g : Given) → AreEntries A ps gs → slice_get gs k ≡ Some g → (p : Val × Val) × (slice_get ps k ≡ Some p) × IsEntry A p g
entries-at A ps [] k g es at = absurd (none-some g at)
entries-at A [] (h ∷ gs) k g es at = absurd es
entries-at A (p ∷ ps) (h ∷ gs) zero g es at = (p, refl, subst (λ x. IsEntry A p x) (same_Some h g at) es.0)
entries-at A (p ∷ ps) (h ∷ gs) (suc k) g es at = entries-at A ps gs k g es.1 at

-- the first entries are entries
pub entries-take : (A : List Fact) (ps : List (Val × Val)) (gs : List Given) (n : ℕ) → AreEntries A ps gs → AreEntries A ps (take n gs)
entries-take A ps gs zero es = tt
entries-take A ps [] (suc n) es = tt
entries-take A [] (h ∷ gs) (suc n) es = es
entries-take A (p ∷ ps) (h ∷ gs) (suc n) es = (es.0, entries-take A ps gs n es.1)

drop-nil : (n : ℕ) (s : List (Val × Val)) → s ≡ [] → drop n s ≡ s
drop-nil zero s e = refl
drop-nil (suc n) [] e = refl
drop-nil (suc n) (p ∷ s) e = cc

-- one list of pairs gives way to another, place by place
pub entries-set : (A : List Fact) (t s : List (Val × Val)) (gs : List Given) (k : ℕ) (p : Val × Val) (g : Given) → AreEntries A (take k t ++ drop k s) gs → k < length gs → slice_get t k ≡ Some p → IsEntry A p g →
    AreEntries A (take (suc k) t ++ drop (suc k) s) (set gs k g)
entries-set A t s [] k p g es l at e = absurd (omega arith)
entries-set A [] s (h ∷ gs) k p g es l at e = absurd (none-some p at)
entries-set A (x ∷ t) [] (h ∷ gs) zero p g es l at e = absurd es
entries-set A (x ∷ t) (y ∷ s) (h ∷ gs) zero p g es l at e = (subst (λ z. IsEntry A z g) (sym (same_Some x p at)) e, es.1)
entries-set A (x ∷ t) [] (h ∷ gs) (suc k) p g es l at e = (es.0, entries-set A t [] gs k p g (rw (drop-nil k [] refl) es.1) (omega arith) at e)
entries-set A (x ∷ t) (y ∷ s) (h ∷ gs) (suc k) p g es l at e = (es.0, entries-set A t s gs k p g es.1 (omega arith) at e)

-- also past the last entry
pub entries-past : (A : List Fact) (t s : List (Val × Val)) (gs : List Given) (k : ℕ) (p : Val × Val) → AreEntries A (take k t ++ drop k s) gs → length gs ≤ k → slice_get t k ≡ Some p →
    AreEntries A (take (suc k) t ++ drop (suc k) s) gs
entries-past A t s [] k p es l at = tt
entries-past A [] s (h ∷ gs) k p es l at = absurd (none-some p at)
entries-past A (x ∷ t) s (h ∷ gs) zero p es l at = absurd (omega arith)
entries-past A (x ∷ t) [] (h ∷ gs) (suc k) p es l at = (es.0, entries-past A t [] gs k p (rw (drop-nil k [] refl) es.1) (omega arith) at)
entries-past A (x ∷ t) (y ∷ s) (h ∷ gs) (suc k) p es l at = (es.0, entries-past A t s gs k p es.1 (omega arith) at)

-- until all have given way
pub entries-end : (A : List Fact) (t s : List (Val × Val)) (gs : List Given) (n : ℕ) → AreEntries A (take n t ++ drop n s) gs → length gs ≤ length t → length t ≤ n → AreEntries A t gs
entries-end A t s [] n es l m = tt
entries-end A [] s (h ∷ gs) n es l m = absurd (omega arith)
entries-end A (x ∷ t) s (h ∷ gs) zero es l m = absurd (omega arith)
entries-end A (x ∷ t) [] (h ∷ gs) (suc n) es l m = (es.0, entries-end A t [] gs n (rw (drop-nil n [] refl) es.1) (omega arith) (omega arith))
entries-end A (x ∷ t) (y ∷ s) (h ∷ gs) (suc n) es l m = (es.0, entries-end A t s gs n es.1 (omega arith) (omega arith))

-- at the next place the old list still stands
pub pair-next : (t s : List (Val × Val)) (k : ℕ) (p : Val × Val) → slice_get t k ≡ Some p → slice_get (take k t ++ drop k s) k ≡ slice_get s k
pair-next [] s k p at = absurd (none-some p at)
pair-next (x ∷ t) s zero p at = refl
pair-next (x ∷ t) [] (suc k) p at = ap (λ zs. slice_get (take k t ++ zs) k) (sym (drop-nil k [] refl)) ∙ pair-next t [] k p at
pair-next (x ∷ t) (y ∷ s) (suc k) p at = pair-next t s k p at
