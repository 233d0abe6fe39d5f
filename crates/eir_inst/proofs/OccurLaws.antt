-- Whether a value occurs in facts, part by part. The points are `occurs-numbered`: where it has a number; `occurs-both`: in
-- one of two parts; `occurs-later` and `occurs-gone`: the turn of a walk along facts, of which some are gone.
use Rattle.std.proofs.Common.{◌≡◌, ◌↔◌, ℕ, ◌+◌, ◌<◌, Bool, true, false, ◌||◌, cond, List, [], ◌∷◌, ◌++◌, length, drop, get_or, Option, IsSome, is_some, refl, sym, ◌∙◌, ap, append_assoc}
use Rattle.std.specs.List.{list_any}
use Rattle.std.proofs.lemmas.Bool.{false≢true}
use Rattle.std.proofs.lemmas.List.Folds.{list_any-append}
use Rattle.eir_term.specs.declared.val.Val.{Val}
use Rattle.eir_term.specs.declared.fact.Fact.{Fact}
use Rattle.eir_term.specs.Lists.{◌∈◌}
use Rattle.eir_term.specs.Values.{val_eq, val_eq-decides}
use Rattle.eir_term.specs.Instances.{occurrences, values}
use Rattle.eir_term.proofs.ListLaws.{∈-list_any, ∈-list_any_from, ∈-distinct, ∈-distinct_from}
use Rattle.eir_inst.specs.Layers.{stays, staying}
use Rattle.eir_inst.proofs.StayingLaws.{staying-drop}

occurrences-append : (K L : List Fact) → occurrences (K ++ L) ≡ occurrences K ++ occurrences L
occurrences-append [] L = refl
occurrences-append (f ∷ K) L = ap (λ vs. f.args ++ vs) (occurrences-append K L) ∙ sym (append_assoc f.args (occurrences K) (occurrences L))

-- a value occurs where it has a number
pub occurs-numbered : (r : Option ℕ) (v : Val) (K : List Fact) → (IsSome r ↔ (v ∈ values K)) → is_some r ≡ list_any (val_eq v) (occurrences K)
occurs-numbered r v K i = by (is_some r) (list_any (val_eq v) (occurrences K)) refl refl
  where
    by : (a b : Bool) → is_some r ≡ a → list_any (val_eq v) (occurrences K) ≡ b → is_some r ≡ list_any (val_eq v) (occurrences K)
    by true true s t = s ∙ sym t
    by false false s t = s ∙ sym t
    by true false s t = absurd (false≢true (sym t ∙ ∈-list_any val_eq val_eq-decides v (occurrences K) (∈-distinct_from val_eq val_eq-decides v (occurrences K) (i.0 s))))
    by false true s t = absurd (false≢true (sym s ∙ i.1 (∈-distinct val_eq val_eq-decides v (occurrences K) (∈-list_any_from val_eq val_eq-decides v (occurrences K) t))))

module _ (p : Val → Bool) where
  -- in one of two parts
  pub occurs-both : (K L : List Fact) → list_any p (occurrences (K ++ L)) ≡ (list_any p (occurrences K) || list_any p (occurrences L))
  occurs-both K L = ap (list_any p) (occurrences-append K L) ∙ list_any-append p (occurrences K) (occurrences L)

  -- the turn of a walk
  module _ (fs : List Fact) (gone : List Bool) (i : ℕ) (x : Fact) (b : Bool) (l : i < length fs) (e : x ≡ get_or fs i x) (t : b ≡ stays gone i) (whole : Bool) (old : list_any p (occurrences (staying (drop i fs) (drop i gone))) ≡ whole) where
    turn : (q : Bool) → b ≡ q → list_any p (occurrences (cond q (x ∷ staying (drop (i + 1) fs) (drop (i + 1) gone)) (staying (drop (i + 1) fs) (drop (i + 1) gone)))) ≡ whole
    turn q s = sym (ap (λ gs. list_any p (occurrences gs)) (staying-drop fs gone i x b l e t ∙ ap (λ c. cond c (x ∷ staying (drop (i + 1) fs) (drop (i + 1) gone)) (staying (drop (i + 1) fs) (drop (i + 1) gone))) s)) ∙ old

    -- the fact stays and has it not, or it is gone
    pub occurs-later : b ≡ true → list_any p x.args ≡ false → list_any p (occurrences (staying (drop (i + 1) fs) (drop (i + 1) gone))) ≡ whole
    occurs-later s h = sym (list_any-append p x.args (occurrences (staying (drop (i + 1) fs) (drop (i + 1) gone))) ∙ ap (λ c. c || list_any p (occurrences (staying (drop (i + 1) fs) (drop (i + 1) gone)))) h) ∙ turn true s

    pub occurs-gone : b ≡ false → list_any p (occurrences (staying (drop (i + 1) fs) (drop (i + 1) gone))) ≡ whole
    occurs-gone s = turn false s
